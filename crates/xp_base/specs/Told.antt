-- Lists that an object may tell or keep to itself. Whether it tells one never changes.
use Rattle.std.specs.Prelude.{ℕ, ◌≡◌, Bool, true, false, Option, Some, None, List, [], ◌++◌, length}

-- what is told, with these at the end
abbrev pub told_append : {A : Type 0} → Option (List A) → List A → Option (List A)
told_append None more = None
told_append (Some items) more = Some (items ++ more)

-- nothing yet, told or not
abbrev pub told_empty : {A : Type 0} → Bool → Option (List A)
told_empty true = Some []
told_empty false = None

-- how many are told
abbrev pub told_length : {A : Type 0} → Option (List A) → ℕ
told_length None = 0
told_length (Some items) = length items

-- these items are the first of those that were left, where they are told
abbrev pub HandsOut : Option (List ℕ) → Option (List ℕ) → List ℕ → Type 0
HandsOut None None items = Unit {0}
HandsOut None (Some rest) items = ⊥
HandsOut (Some left) None items = ⊥
HandsOut (Some left) (Some rest) items = left ≡ items ++ rest

-- none is left, where that is told
abbrev pub HasNoneLeft : Option (List ℕ) → Type 0
HasNoneLeft None = Unit {0}
HasNoneLeft (Some left) = left ≡ []
