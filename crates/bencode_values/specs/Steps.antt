-- Reading byte by byte: how far a reader is, and what one byte changes. The reader's parts are stated by
-- it, and no public call; what it means is stated from the grammar in Reading.
use Rattle.std.specs.Prelude.{◌≢◌, ℕ, zero, suc, ◌+◌, ◌*◌, Bool, true, false, List, [], ◌∷◌, ◌++◌, length, nat_lt, nat_le, ℤ, pos, negsuc, if◌then◌else◌}
use Rattle.bencode_values.specs.declared.value.Key.{Key}
use Rattle.bencode_values.specs.declared.value.Key.TheVariants as K
use Rattle.bencode_values.specs.declared.value.Value.{Value}
use Rattle.bencode_values.specs.declared.value.Value.TheVariants as V
use Rattle.bencode_values.specs.declared.reading.Why.TheVariants as W
use Rattle.bencode_values.specs.declared.reading.Read.{Read}
use Rattle.bencode_values.specs.declared.reading.Read.TheVariants as R
use Rattle.bencode_values.specs.declared.mark.Mark.{Mark}
use Rattle.bencode_values.specs.declared.mark.Mark.TheVariants as M
use Rattle.bencode_values.specs.Marks.{mark_of}
use Rattle.bencode_values.specs.Reading.{Open, in_list, in_dict, in_entry, range_of}

-- The part of a number or a string that was read: nothing, `i`, `i-`, `i0`, a number (whether `-` came,
-- and its digits' value), `0`, a length, or a string (how many bytes are to come, and those that came).
pub data Token : Type 0 where
  start : Token
  sign : Token
  minus : Token
  zero_int : Token
  number : Bool → ℕ → Token
  zero_length : Token
  size : ℕ → Token
  string : ℕ → List ℕ → Token

-- the count of bytes so far, what is open and the token; or the answer
pub data State : Type 0 where
  going : ℕ → List Open → Token → State
  ended : Read → State

abbrev pub int_of : Bool → ℕ → ℤ
int_of false n = pos n
int_of true zero = pos 0
int_of true (suc n) = negsuc n

abbrev pub value_of : Key → Value
value_of (K.Int n) = V.Int n
value_of (K.Bytes text) = V.Bytes text

-- a value goes into what is open
abbrev pub deliver : ℕ → List Open → Value → State
deliver n [] v = ended (R.Whole v n)
deliver n (in_list vs ∷ outer) v = going n (in_list (vs ++ v ∷ []) ∷ outer) start
deliver n (in_dict ps ∷ outer) v = going n (in_dict ps ∷ outer) start
deliver n (in_entry ps k ∷ outer) v = going n (in_dict (ps ++ record { key = k; value = v } ∷ []) ∷ outer) start

-- a number or a string is the next key where one is due, and a value elsewhere
abbrev pub deliver_key : ℕ → List Open → Key → State
deliver_key n [] k = deliver n [] (value_of k)
deliver_key n (in_list vs ∷ outer) k = deliver n (in_list vs ∷ outer) (value_of k)
deliver_key n (in_dict ps ∷ outer) k = going n (in_entry ps k ∷ outer) start
deliver_key n (in_entry ps j ∷ outer) k = deliver n (in_entry ps j ∷ outer) (value_of k)

-- `e`, after n bytes
abbrev pub close : ℕ → List Open → State
close n [] = ended (R.Bad n W.Letter)
close n (in_list vs ∷ outer) = deliver (n + 1) outer (V.List vs)
close n (in_dict ps ∷ outer) = deliver (n + 1) outer (V.Dict ps)
close n (in_entry ps k ∷ outer) = ended (R.Bad n W.Letter)

-- `l` or `d`
abbrev pub open_more : ℕ → List Open → Open → State
open_more n opens o = if nat_lt (length opens) 32 then going (n + 1) (o ∷ opens) start else ended (R.Bad n W.Depth)

abbrev pub open_at : ℕ → List Open → Open → State
open_at n [] o = open_more n [] o
open_at n (in_list vs ∷ outer) o = open_more n (in_list vs ∷ outer) o
open_at n (in_dict ps ∷ outer) o = ended (R.Bad n W.Key)
open_at n (in_entry ps k ∷ outer) o = open_more n (in_entry ps k ∷ outer) o

abbrev pub start_step : ℕ → List Open → Mark → State
start_step n opens M.Int = going (n + 1) opens sign
start_step n opens M.List = open_at n opens (in_list [])
start_step n opens M.Dict = open_at n opens (in_dict [])
start_step n opens M.End = close n opens
start_step n opens M.Colon = ended (R.Bad n W.Letter)
start_step n opens M.Minus = ended (R.Bad n W.Letter)
start_step n opens (M.Digit zero) = going (n + 1) opens zero_length
start_step n opens (M.Digit (suc d)) = going (n + 1) opens (size (suc d))
start_step n opens M.Other = ended (R.Bad n W.Letter)

abbrev pub sign_step : ℕ → List Open → Mark → State
sign_step n opens M.Minus = going (n + 1) opens minus
sign_step n opens (M.Digit zero) = going (n + 1) opens zero_int
sign_step n opens (M.Digit (suc d)) = going (n + 1) opens (number false (suc d))
sign_step n opens mark = ended (R.Bad n W.Letter)

abbrev pub minus_step : ℕ → List Open → Mark → State
minus_step n opens (M.Digit zero) = ended (R.Bad n W.MinusZero)
minus_step n opens (M.Digit (suc d)) = going (n + 1) opens (number true (suc d))
minus_step n opens mark = ended (R.Bad n W.Letter)

abbrev pub zero_int_step : ℕ → List Open → Mark → State
zero_int_step n opens M.End = deliver_key (n + 1) opens (K.Int (pos 0))
zero_int_step n opens (M.Digit d) = ended (R.Bad n W.Leading)
zero_int_step n opens mark = ended (R.Bad n W.Letter)

abbrev pub number_step : ℕ → List Open → Bool → ℕ → Mark → State
number_step n opens negative k M.End = deliver_key (n + 1) opens (K.Int (int_of negative k))
number_step n opens negative k (M.Digit d) = if nat_le (10 * k + d) (range_of negative) then going (n + 1) opens (number negative (10 * k + d)) else ended (R.Bad n W.Range)
number_step n opens negative k mark = ended (R.Bad n W.Letter)

abbrev pub zero_length_step : ℕ → List Open → Mark → State
zero_length_step n opens M.Colon = deliver_key (n + 1) opens (K.Bytes [])
zero_length_step n opens (M.Digit d) = ended (R.Bad n W.Leading)
zero_length_step n opens mark = ended (R.Bad n W.Letter)

abbrev pub size_step : ℕ → List Open → ℕ → Mark → State
size_step n opens k M.Colon = going (n + 1) opens (string k [])
size_step n opens k (M.Digit d) = if nat_le (10 * k + d) 67108864 then going (n + 1) opens (size (10 * k + d)) else ended (R.Bad n W.Length)
size_step n opens k mark = ended (R.Bad n W.Letter)

abbrev pub text_step : ℕ → List Open → ℕ → List ℕ → ℕ → State
text_step n opens zero so_far b = deliver_key n opens (K.Bytes so_far)
text_step n opens (suc zero) so_far b = deliver_key (n + 1) opens (K.Bytes (so_far ++ b ∷ []))
text_step n opens (suc (suc k)) so_far b = going (n + 1) opens (string (suc k) (so_far ++ b ∷ []))

abbrev pub token_step : ℕ → List Open → Token → ℕ → State
token_step n opens start b = start_step n opens (mark_of b)
token_step n opens sign b = sign_step n opens (mark_of b)
token_step n opens minus b = minus_step n opens (mark_of b)
token_step n opens zero_int b = zero_int_step n opens (mark_of b)
token_step n opens (number negative k) b = number_step n opens negative k (mark_of b)
token_step n opens zero_length b = zero_length_step n opens (mark_of b)
token_step n opens (size k) b = size_step n opens k (mark_of b)
token_step n opens (string k so_far) b = text_step n opens k so_far b

-- what one byte changes
unfoldable pub step : State → ℕ → State
step (going n opens token) b = token_step n opens token b
step (ended answer) b = ended answer

unfoldable pub feed : State → List ℕ → State
feed s [] = s
feed s (b ∷ bytes) = feed (step s b) bytes

-- the answer after all bytes
abbrev pub answer_of : State → Read
answer_of (going n opens token) = R.Short
answer_of (ended answer) = answer

-- a length whose first digit was read
abbrev pub length_token : ℕ → Token
length_token zero = zero_length
length_token (suc d) = size (suc d)

-- a value is due, and the byte that comes does not close a list instead
abbrev pub AwaitsValue : List Open → Mark → Type 0
AwaitsValue [] mark = Unit {0}
AwaitsValue (in_list vs ∷ outer) mark = mark ≢ M.End
AwaitsValue (in_dict ps ∷ outer) mark = ⊥
AwaitsValue (in_entry ps k ∷ outer) mark = Unit {0}
