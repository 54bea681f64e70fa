-- The definitions, computed on small examples.
use Rattle.std.proofs.Common.{◌≡◌, ℕ, true, false, Some, List, [], ◌∷◌, refl}
use Rattle.xp_base.specs.Points.{survives}
use Rattle.xp_base.specs.Clocks.{MemoryTime, next_moment, after_moment, after_count, milliseconds_between}
use Rattle.xp_base.specs.Keyed.{keyed_find, has_key, keyed_change, keyed_replace, keyed_remove, keyed_last}

-- a window of 4 by 2 becomes one of 3 by 5: the point must be in both
survives-inside : survives 4 2 3 5 2 1 ≡ true
survives-inside = refl

survives-past-new : survives 4 2 3 5 3 1 ≡ false
survives-past-new = refl

survives-past-old : survives 4 2 3 5 2 2 ≡ false
survives-past-old = refl

record Item : Type 0 where
  number : ℕ
  name : ℕ

abbrev key : Item → ℕ
key item = item.number

abbrev one : Item
one = record { number = 1; name = 10 }

abbrev two : Item
two = record { number = 2; name = 20 }

abbrev three : Item
three = record { number = 3; name = 30 }

abbrev other : Item
other = record { number = 2; name = 21 }

abbrev items : List Item
items = one ∷ two ∷ three ∷ []

found : keyed_find key items 2 ≡ Some two
found = refl

missing : has_key key items 4 ≡ false
missing = refl

changed : keyed_change key items 2 (λ item. record item { name = 21 }) ≡ one ∷ other ∷ three ∷ []
changed = refl

replaced : keyed_replace key items other ≡ one ∷ other ∷ three ∷ []
replaced = refl

removed : keyed_remove key items 2 ≡ one ∷ three ∷ []
removed = refl

last : keyed_last key items 2 ≡ one ∷ three ∷ two ∷ []
last = refl

last-missing : keyed_last key items 4 ≡ items
last-missing = refl

-- a clock in memory that goes back keeps the greatest
abbrev back : MemoryTime
back = record { left = 3 ∷ []; last = 7; latest = 7 }

gives-back : next_moment back ≡ 3
gives-back = refl

stays-latest : after_moment back ≡ record { left = []; last = 3; latest = 7 }
stays-latest = refl

counts : after_count (record { next = 1; latest = 0 }) ≡ record { next = 2; latest = 1 }
counts = refl

counts-to-last : after_count (record { next = 4611686018427387904; latest = 4611686018427387903 }) ≡ record { next = 4611686018427387904; latest = 4611686018427387904 }
counts-to-last = refl

-- from half a second to two and a bit
passes : milliseconds_between 500000000 2000999999 ≡ 1500
passes = refl
