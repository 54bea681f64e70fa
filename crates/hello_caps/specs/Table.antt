-- What the definitions of a client's hello come to, key by key, without the order of reading.
use Rattle.std.specs.Prelude.{◌≡◌, ◌<◌, ℕ, List, length, Some, Contains, codes}
use Rattle.bencode_values.specs.Lookup.{last_value}
use Rattle.bencode_values.specs.declared.value.Value.{Value}
use Rattle.bencode_values.specs.declared.value.Value.TheVariants as V
use Rattle.bencode_values.specs.declared.value.Pair.{Pair}

-- under `encodings` stands a list with neither `rgb32` nor `rgb`
pub record HasNoRgb (pairs : List Pair) : Type 0 where
  pub items : List Value
  pub stands : last_value (codes "encodings") pairs ≡ Some (V.List items)
  pub no_rgb32 : ¬ Contains items (V.Bytes (codes "rgb32"))
  pub no_rgb : ¬ Contains items (V.Bytes (codes "rgb"))

-- under `encodings.rgb_formats` stands a list with `BGR565`
pub record AllowsLossy (pairs : List Pair) : Type 0 where
  pub items : List Value
  pub stands : last_value (codes "encodings.rgb_formats") pairs ≡ Some (V.List items)
  pub format : Contains items (V.Bytes (codes "BGR565"))

-- under `uuid` stands this byte string
abbrev pub HasUuid : List Pair → List ℕ → Type 0
HasUuid pairs text = last_value (codes "uuid") pairs ≡ Some (V.Bytes text)

-- under `uuid` stands a byte string of so many bytes, more than 64
pub record HasLongUuid (pairs : List Pair) (size : ℕ) : Type 0 where
  pub text : List ℕ
  pub stands : HasUuid pairs text
  pub sized : length text ≡ size
  pub long : 64 < size
