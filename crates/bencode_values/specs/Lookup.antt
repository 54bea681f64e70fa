-- The pairs of a dictionary under a key of bytes. This project's own.
use Rattle.std.specs.Prelude.{ℕ, Bool, false, List, [], ◌∷◌, Option, None, Some, if◌then◌else◌, ◌==◌}
use Rattle.std.specs.Cmp.Lexicographic.{pointwise}
use Rattle.bencode_values.specs.declared.value.Key.{Key}
use Rattle.bencode_values.specs.declared.value.Key.TheVariants as K
use Rattle.bencode_values.specs.declared.value.Value.{Value}
use Rattle.bencode_values.specs.declared.value.Pair.{Pair}

-- whether a key is this string of bytes
abbrev pub is_text : List ℕ → Key → Bool
is_text text (K.Int n) = false
is_text text (K.Bytes bytes) = pointwise (λ a b. a == b) bytes text

-- a later answer goes before an earlier one
abbrev pub later : Option Value → Option Value → Option Value
later (Some v) first = Some v
later None first = first

-- the value of the last pair with this key
abbrev pub last_value : List ℕ → List Pair → Option Value
last_value text [] = None
last_value text (p ∷ ps) = later (last_value text ps) (if is_text text p.key then Some p.value else None)
