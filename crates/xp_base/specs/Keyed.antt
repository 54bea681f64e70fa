-- Lists whose items each have a key, a number, by which they are found, changed, taken away and moved.
use Rattle.std.specs.Prelude.{ℕ, ◌≢◌, ◌==◌, Bool, not, is_some, Option, Some, None, List, [], ◌∷◌, ◌++◌, map, find, filter, AllPairs, if◌then◌else◌}

-- no two have one key
abbrev pub HasDistinctKeys : {A : Type 0} → (A → ℕ) → List A → Type 0
HasDistinctKeys key items = AllPairs (λ before after. key before ≢ key after) items

-- the first item with this key
abbrev pub keyed_find : {A : Type 0} → (A → ℕ) → List A → ℕ → Option A
keyed_find key items k = find (λ item. key item == k) items

-- an item has this key
abbrev pub has_key : {A : Type 0} → (A → ℕ) → List A → ℕ → Bool
has_key key items k = is_some (keyed_find key items k)

-- an item at the end
abbrev pub keyed_push : {A : Type 0} → List A → A → List A
keyed_push items item = items ++ item ∷ []

-- an item at the end, if there is one
abbrev pub keyed_push_some : {A : Type 0} → List A → Option A → List A
keyed_push_some items None = items
keyed_push_some items (Some item) = items ++ item ∷ []

-- the item with this key is changed, and the others stay
abbrev pub keyed_change : {A : Type 0} → (A → ℕ) → List A → ℕ → (A → A) → List A
keyed_change key items k change = map (λ item. if key item == k then change item else item) items

-- this item stands in place of the one with its key
abbrev pub keyed_replace : {A : Type 0} → (A → ℕ) → List A → A → List A
keyed_replace key items new = map (λ item. if key item == key new then new else item) items

-- the items without that of this key
abbrev pub keyed_remove : {A : Type 0} → (A → ℕ) → List A → ℕ → List A
keyed_remove key items k = filter (λ item. not (key item == k)) items

-- the item with this key goes to the end
abbrev pub keyed_last : {A : Type 0} → (A → ℕ) → List A → ℕ → List A
keyed_last key items k = keyed_push_some (keyed_remove key items k) (keyed_find key items k)
