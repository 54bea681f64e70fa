-- Parts of lists.
use Rattle.std.specs.Prelude.{◌≡◌, List, [], ◌∷◌, ◌++◌, ◌⊎◌}

-- the list begins with these items
abbrev pub IsPrefix : {A : Type 0} → List A → List A → Type 0
IsPrefix {A} part items = (rest : List A) × (items ≡ part ++ rest)

-- the items stand in the list, in this order, with others between them perhaps
abbrev pub IsSubsequence : {A : Type 0} → List A → List A → Type 0
IsSubsequence [] items = Unit {0}
IsSubsequence (p ∷ part) [] = ⊥
IsSubsequence (p ∷ part) (x ∷ items) = ((p ≡ x) × IsSubsequence part items) ⊎ IsSubsequence (p ∷ part) items
