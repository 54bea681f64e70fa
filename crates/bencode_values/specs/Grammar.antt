-- The spelling of a value: the four forms of BEP 3. The limits and the rule on keys (an integer or a
-- byte string, in any order, repeats kept) are this project's own.
use Rattle.std.specs.Prelude.{ℕ, ℤ, pos, negsuc, ◌+◌, ◌^◌, ◌≤◌, ◌≡◌, max, Bool, true, ◌&&◌, List, [], ◌∷◌, ◌++◌, length, nat_le, nat_lt}
use Rattle.std.specs.List.{concat, list_all}
use Rattle.std.specs.Fmt.{decimal, signed_decimal}
use Rattle.bencode_values.specs.declared.value.Key.{Key}
use Rattle.bencode_values.specs.declared.value.Key.TheVariants as K
use Rattle.bencode_values.specs.declared.value.Value.{Value}
use Rattle.bencode_values.specs.declared.value.Pair.{Pair}
use Rattle.bencode_values.specs.declared.value.Value.TheOpen.{Value-F, Pair-F}
use Rattle.bencode_values.specs.declared.value.Value.TheFolds.{fold-Value, fold-Pair}

-- `i`, the number in decimal, `e`
abbrev pub spelled_int : ℤ → List ℕ
spelled_int n = 105 ∷ (signed_decimal n ++ 101 ∷ [])

-- the length in decimal, `:`, the bytes
abbrev pub spelled_bytes : List ℕ → List ℕ
spelled_bytes text = decimal (length text) ++ 58 ∷ text

abbrev pub spelled_key : Key → List ℕ
spelled_key (K.Int n) = spelled_int n
spelled_key (K.Bytes text) = spelled_bytes text

-- one level, with the spellings of the parts in their places: `l`, the values, `e`, or `d`, the pairs, `e`
abbrev pub value_step : Value-F (List ℕ) (List ℕ) → List ℕ
value_step (Value-F.Int n) = spelled_int n
value_step (Value-F.Bytes text) = spelled_bytes text
value_step (Value-F.List parts) = 108 ∷ (concat parts ++ 101 ∷ [])
value_step (Value-F.Dict parts) = 100 ∷ (concat parts ++ 101 ∷ [])

abbrev pub pair_step : Pair-F (List ℕ) (List ℕ) → List ℕ
pair_step p = spelled_key p.key ++ p.value

-- the spelling of a value, and of a pair: its key and its value in turn
abbrev pub spelled : Value → List ℕ
spelled = fold-Value (List ℕ) (List ℕ) value_step pair_step

abbrev pub spelled_pair : Pair → List ℕ
spelled_pair = fold-Pair (List ℕ) (List ℕ) value_step pair_step

-- the greatest of some numbers, 0 of none
abbrev pub greatest : List ℕ → ℕ
greatest [] = 0
greatest (n ∷ ns) = max n (greatest ns)

-- how many lists and dictionaries are open at once
abbrev pub depth_step : Value-F ℕ ℕ → ℕ
depth_step (Value-F.Int n) = 0
depth_step (Value-F.Bytes text) = 0
depth_step (Value-F.List parts) = 1 + greatest parts
depth_step (Value-F.Dict parts) = 1 + greatest parts

abbrev pub depth_of : Value → ℕ
depth_of = fold-Value ℕ ℕ depth_step (λ p. p.value)

abbrev pub depth_of_pair : Pair → ℕ
depth_of_pair = fold-Pair ℕ ℕ depth_step (λ p. p.value)

-- the range of `i64`
abbrev pub is_in_range : ℤ → Bool
is_in_range (pos n) = nat_lt n (2 ^ 63)
is_in_range (negsuc n) = nat_lt n (2 ^ 63)

-- a string of bytes that is not too long
abbrev pub is_string : List ℕ → Bool
is_string text = nat_le (length text) 67108864 && list_all (λ b. nat_lt b 256) text

abbrev pub key_fits : Key → Bool
key_fits (K.Int n) = is_in_range n
key_fits (K.Bytes text) = is_string text

abbrev pub fits_step : Value-F Bool Bool → Bool
fits_step (Value-F.Int n) = is_in_range n
fits_step (Value-F.Bytes text) = is_string text
fits_step (Value-F.List parts) = list_all (λ part. part) parts
fits_step (Value-F.Dict parts) = list_all (λ part. part) parts

-- each number and byte string in it keeps its limit
abbrev pub parts_fit : Value → Bool
parts_fit = fold-Value Bool Bool fits_step (λ p. key_fits p.key && p.value)

abbrev pub pair_fits : Pair → Bool
pair_fits = fold-Pair Bool Bool fits_step (λ p. key_fits p.key && p.value)

-- within the limits, where this many levels may still open
pub record Fits (room : ℕ) (v : Value) : Type 0 where
  pub depth : depth_of v ≤ room
  pub parts : parts_fit v ≡ true

pub record PairFits (room : ℕ) (p : Pair) : Type 0 where
  pub depth : depth_of_pair p ≤ room
  pub parts : pair_fits p ≡ true

-- a value within the limits: numbers of `i64`, byte strings of up to 67,108,864 bytes, depth up to 32
abbrev pub IsWithinLimits : Value → Type 0
IsWithinLimits v = Fits 32 v
