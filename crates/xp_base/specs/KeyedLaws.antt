-- What keyed lists come to: what is found in them, what they keep, the order of their keys, and what is done at an item's place.
use Rattle.std.specs.Prelude.{ℕ, ◌+◌, ◌≡◌, ◌==◌, true, false, not, Some, None, List, [], ◌∷◌, ◌++◌, map, filter, position, slice_get, slice_set, slice_index_or, take, drop, if◌then◌else◌}
use Rattle.std.specs.Option.{option_map}
use Rattle.xp_base.specs.Keyed.{HasDistinctKeys, keyed_find, has_key, keyed_push, keyed_change, keyed_replace, keyed_remove, keyed_last}

-- which item is found by a key
pub record KeyedFinds (A : Type 0) : Type 0 where
  pub found : (key : A → ℕ) (items : List A) (k : ℕ) (item : A) → keyed_find key items k ≡ Some item → key item ≡ k
  pub pushed : (key : A → ℕ) (items : List A) (new : A) (k : ℕ) → has_key key items (key new) ≡ false
      → keyed_find key (keyed_push items new) k ≡ (if k == key new then Some new else keyed_find key items k)
  pub changed : (key : A → ℕ) (items : List A) (k : ℕ) (change : A → A) (other : ℕ) → ((item : A) → key (change item) ≡ key item)
      → keyed_find key (keyed_change key items k change) other ≡ (if other == k then option_map change (keyed_find key items other) else keyed_find key items other)
  pub replaced : (key : A → ℕ) (items : List A) (new : A) (other : ℕ) → has_key key items (key new) ≡ true
      → keyed_find key (keyed_replace key items new) other ≡ (if other == key new then Some new else keyed_find key items other)
  pub removed : (key : A → ℕ) (items : List A) (k other : ℕ)
      → keyed_find key (keyed_remove key items k) other ≡ (if other == k then None else keyed_find key items other)
  pub moved : (key : A → ℕ) (items : List A) (k other : ℕ) → keyed_find key (keyed_last key items k) other ≡ keyed_find key items other
  pub alike : (key : A → ℕ) (items : List A) (k : ℕ) (item : A) (one two : A → A) → HasDistinctKeys key items → keyed_find key items k ≡ Some item
      → one item ≡ two item → keyed_change key items k one ≡ keyed_change key items k two

-- that no two have one key stays so
pub record KeyedKeeps (A : Type 0) : Type 0 where
  pub pushed : (key : A → ℕ) (items : List A) (new : A) → HasDistinctKeys key items → has_key key items (key new) ≡ false → HasDistinctKeys key (keyed_push items new)
  pub changed : (key : A → ℕ) (items : List A) (k : ℕ) (change : A → A) → ((item : A) → key (change item) ≡ key item)
      → HasDistinctKeys key items → HasDistinctKeys key (keyed_change key items k change)
  pub replaced : (key : A → ℕ) (items : List A) (new : A) → HasDistinctKeys key items → HasDistinctKeys key (keyed_replace key items new)
  pub removed : (key : A → ℕ) (items : List A) (k : ℕ) → HasDistinctKeys key items → HasDistinctKeys key (keyed_remove key items k)
  pub moved : (key : A → ℕ) (items : List A) (k : ℕ) → HasDistinctKeys key items → HasDistinctKeys key (keyed_last key items k)

-- the keys in their order
pub record KeyedOrders (A : Type 0) : Type 0 where
  pub pushed : (key : A → ℕ) (items : List A) (new : A) → map key (keyed_push items new) ≡ map key items ++ key new ∷ []
  pub changed : (key : A → ℕ) (items : List A) (k : ℕ) (change : A → A) → ((item : A) → key (change item) ≡ key item)
      → map key (keyed_change key items k change) ≡ map key items
  pub replaced : (key : A → ℕ) (items : List A) (new : A) → map key (keyed_replace key items new) ≡ map key items
  pub removed : (key : A → ℕ) (items : List A) (k : ℕ) → map key (keyed_remove key items k) ≡ filter (λ n. not (n == k)) (map key items)
  pub moved : (key : A → ℕ) (items : List A) (k : ℕ) → has_key key items k ≡ true
      → map key (keyed_last key items k) ≡ filter (λ n. not (n == k)) (map key items) ++ k ∷ []

-- what is done at the place of the item with a key, where no two have one
pub record KeyedPlaces (A : Type 0) : Type 0 where
  pub found : (key : A → ℕ) (items : List A) (k i : ℕ) → position (λ item. key item == k) items ≡ Some i → keyed_find key items k ≡ slice_get items i
  pub missing : (key : A → ℕ) (items : List A) (k : ℕ) → position (λ item. key item == k) items ≡ None → keyed_find key items k ≡ None
  pub changed : (key : A → ℕ) (items : List A) (k i : ℕ) (change : A → A) (d : A) → HasDistinctKeys key items
      → position (λ item. key item == k) items ≡ Some i → slice_set items i (change (slice_index_or items i d)) ≡ keyed_change key items k change
  pub removed : (key : A → ℕ) (items : List A) (k i : ℕ) → HasDistinctKeys key items
      → position (λ item. key item == k) items ≡ Some i → take i items ++ drop (i + 1) items ≡ keyed_remove key items k
  pub moved : (key : A → ℕ) (items : List A) (k i : ℕ) (d : A) → HasDistinctKeys key items
      → position (λ item. key item == k) items ≡ Some i → (take i items ++ drop (i + 1) items) ++ slice_index_or items i d ∷ [] ≡ keyed_last key items k
