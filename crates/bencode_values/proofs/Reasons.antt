-- Why a byte is refused.
use Rattle.std.proofs.Common.{◌≡◌, ℕ, pos, suc, zero, ◌+◌, ◌*◌, ◌≤◌, inl, inr, Bool, true, false, cond, List, [], ◌∷◌, ◌++◌, refl, subst, length, arith, leb}
use Rattle.std.proofs.lemmas.Bool.{leb-false}
use Rattle.bencode_values.specs.declared.mark.Mark.{Mark}
use Rattle.bencode_values.specs.declared.mark.Mark.TheVariants as M
use Rattle.bencode_values.specs.declared.value.Key.{Key}
use Rattle.bencode_values.specs.declared.value.Key.TheVariants as K
use Rattle.bencode_values.specs.declared.value.Value.{Value}
use Rattle.bencode_values.specs.declared.value.Value.TheVariants as V
use Rattle.bencode_values.specs.declared.reading.Read.TheVariants as R
use Rattle.bencode_values.specs.declared.reading.Why.{Why}
use Rattle.bencode_values.specs.declared.reading.Why.TheVariants as W
use Rattle.bencode_values.specs.Marks.{mark_of}
use Rattle.bencode_values.specs.Reading.{Open, in_list, in_dict, in_entry, IsValuePlace, AreOpen, IsDigit, IsOpening, range_of, IsLeading, IsMinusZero, IsRange, IsLength, IsDepth, IsKey, IsReason}
use Rattle.bencode_values.specs.Steps.{Token, start, sign, minus, zero_int, number, zero_length, size, string, State, going, ended, int_of, value_of, deliver, deliver_key, close, open_at, start_step, sign_step, minus_step, zero_int_step, number_step, zero_length_step, size_step, text_step, token_step, feed}
use Rattle.bencode_values.proofs.Digits.{IsMark, mark_is}
use Rattle.bencode_values.proofs.Parts.{Describes}
use Rattle.bencode_values.proofs.Contexts.{begin, Refused, leading_refused, minus_refused, range_refused, length_refused, depth_refused, key_refused}

-- what a refusal for a reason of its own says
abbrev Gives : State → List ℕ → ℕ → Type 0
Gives (going n opens token) before b = Unit {0}
Gives (ended (R.Whole v n)) before b = Unit {0}
Gives (ended R.Short) before b = Unit {0}
Gives (ended R.NoMemory) before b = Unit {0}
Gives (ended (R.Bad place W.Letter)) before b = Unit {0}
Gives (ended (R.Bad place W.Leading)) before b = IsLeading before b
Gives (ended (R.Bad place W.MinusZero)) before b = IsMinusZero before b
Gives (ended (R.Bad place W.Range)) before b = IsRange before b
Gives (ended (R.Bad place W.Length)) before b = IsLength before b
Gives (ended (R.Bad place W.Depth)) before b = IsDepth before b
Gives (ended (R.Bad place W.Key)) before b = IsKey before b

deliver_gives : (n : ℕ) (opens : List Open) (v : Value) (before : List ℕ) (b : ℕ) → Gives (deliver n opens v) before b
deliver_gives n [] v before b = tt
deliver_gives n (in_list vs ∷ outer) v before b = tt
deliver_gives n (in_dict ps ∷ outer) v before b = tt
deliver_gives n (in_entry ps k ∷ outer) v before b = tt

key_gives : (n : ℕ) (opens : List Open) (k : Key) (before : List ℕ) (b : ℕ) → Gives (deliver_key n opens k) before b
key_gives n [] k before b = deliver_gives n [] (value_of k) before b
key_gives n (in_list vs ∷ outer) k before b = deliver_gives n (in_list vs ∷ outer) (value_of k) before b
key_gives n (in_dict ps ∷ outer) k before b = tt
key_gives n (in_entry ps j ∷ outer) k before b = deliver_gives n (in_entry ps j ∷ outer) (value_of k) before b

close_gives : (n : ℕ) (opens : List Open) (before : List ℕ) (b : ℕ) → Gives (close n opens) before b
close_gives n [] before b = tt
close_gives n (in_list vs ∷ outer) before b = deliver_gives (n + 1) outer (V.List vs) before b
close_gives n (in_dict ps ∷ outer) before b = deliver_gives (n + 1) outer (V.Dict ps) before b
close_gives n (in_entry ps k ∷ outer) before b = tt

-- no more than 32 are open
open_bound : (opens : List Open) → AreOpen opens → length opens ≤ 32
open_bound [] h = omega arith
open_bound (o ∷ outer) h = let less = h.0 in omega arith

more_gives : (n : ℕ) (opens : List Open) (o : Open) (before : List ℕ) (b : ℕ) (t : Bool) → leb (suc (length opens)) 32 ≡ t → IsValuePlace opens → IsOpening b → Describes n opens start before
    → Gives (cond t (going (n + 1) (o ∷ opens) start) (ended (R.Bad n W.Depth))) before b
more_gives n opens o before b true h place opening d = tt
more_gives n opens o before b false h place opening d =
    let deep = leb-false _ _ h in let most = open_bound opens d.fits in
    record { opening = opening; opens = opens; place = place; deepest = omega arith; part = record { fits = d.fits; parts = d.parts } }

open_gives : (n : ℕ) (opens : List Open) (o : Open) (before : List ℕ) (b : ℕ) → IsOpening b → Describes n opens start before → Gives (open_at n opens o) before b
open_gives n [] o before b opening d = more_gives n [] o before b _ refl tt opening d
open_gives n (in_list vs ∷ outer) o before b opening d = more_gives n (in_list vs ∷ outer) o before b _ refl tt opening d
open_gives n (in_dict ps ∷ outer) o before b opening d = record { opening = opening; opens = in_dict ps ∷ outer; place = tt; part = record { fits = d.fits; parts = d.parts } }
open_gives n (in_entry ps k ∷ outer) o before b opening d = more_gives n (in_entry ps k ∷ outer) o before b _ refl tt opening d

start_gives : (n : ℕ) (opens : List Open) (before : List ℕ) (b : ℕ) (m : Mark) → IsMark m b → Describes n opens start before → Gives (start_step n opens m) before b
start_gives n opens before b M.Int e d = tt
start_gives n opens before b M.List e d = open_gives n opens (in_list []) before b (inl e) d
start_gives n opens before b M.Dict e d = open_gives n opens (in_dict []) before b (inr e) d
start_gives n opens before b M.End e d = close_gives n opens before b
start_gives n opens before b M.Colon e d = tt
start_gives n opens before b M.Minus e d = tt
start_gives n opens before b (M.Digit zero) e d = tt
start_gives n opens before b (M.Digit (suc k)) e d = tt
start_gives n opens before b M.Other e d = tt

sign_gives : (n : ℕ) (opens : List Open) (before : List ℕ) (b : ℕ) (m : Mark) → Gives (sign_step n opens m) before b
sign_gives n opens before b M.Int = tt
sign_gives n opens before b M.List = tt
sign_gives n opens before b M.Dict = tt
sign_gives n opens before b M.End = tt
sign_gives n opens before b M.Colon = tt
sign_gives n opens before b M.Minus = tt
sign_gives n opens before b (M.Digit zero) = tt
sign_gives n opens before b (M.Digit (suc k)) = tt
sign_gives n opens before b M.Other = tt

minus_gives : (n : ℕ) (opens : List Open) (before : List ℕ) (b : ℕ) (m : Mark) → IsMark m b → Describes n opens minus before → Gives (minus_step n opens m) before b
minus_gives n opens before b M.Int e d = tt
minus_gives n opens before b M.List e d = tt
minus_gives n opens before b M.Dict e d = tt
minus_gives n opens before b M.End e d = tt
minus_gives n opens before b M.Colon e d = tt
minus_gives n opens before b M.Minus e d = tt
minus_gives n opens before b (M.Digit zero) e d = record { zero_is = e.1; opens = opens; part = record { fits = d.fits; parts = d.parts } }
minus_gives n opens before b (M.Digit (suc k)) e d = tt
minus_gives n opens before b M.Other e d = tt

is_digit : (b k : ℕ) → (k ≤ 9) × (b ≡ 48 + k) → IsDigit b
is_digit b k e = let small = e.0 in let is = e.1 in (omega arith, omega arith)

zero_int_gives : (n : ℕ) (opens : List Open) (before : List ℕ) (b : ℕ) (m : Mark) → IsMark m b → Describes n opens zero_int before → Gives (zero_int_step n opens m) before b
zero_int_gives n opens before b M.Int e d = tt
zero_int_gives n opens before b M.List e d = tt
zero_int_gives n opens before b M.Dict e d = tt
zero_int_gives n opens before b M.End e d = key_gives (n + 1) opens (K.Int (pos 0)) before b
zero_int_gives n opens before b M.Colon e d = tt
zero_int_gives n opens before b M.Minus e d = tt
zero_int_gives n opens before b (M.Digit k) e d = record { digit = is_digit b k e; opens = opens; part = inl (record { fits = d.fits; parts = d.parts }) }
zero_int_gives n opens before b M.Other e d = tt

zero_length_gives : (n : ℕ) (opens : List Open) (before : List ℕ) (b : ℕ) (m : Mark) → IsMark m b → Describes n opens zero_length before → Gives (zero_length_step n opens m) before b
zero_length_gives n opens before b M.Int e d = tt
zero_length_gives n opens before b M.List e d = tt
zero_length_gives n opens before b M.Dict e d = tt
zero_length_gives n opens before b M.End e d = tt
zero_length_gives n opens before b M.Colon e d = key_gives (n + 1) opens (K.Bytes []) before b
zero_length_gives n opens before b M.Minus e d = tt
zero_length_gives n opens before b (M.Digit k) e d = record { digit = is_digit b k e; opens = opens; part = inr (record { fits = d.fits; parts = d.parts }) }
zero_length_gives n opens before b M.Other e d = tt

range_gives : (n : ℕ) (opens : List Open) (before : List ℕ) (b : ℕ) (negative : Bool) (k e : ℕ) (t : Bool) → leb (10 * k + e) (range_of negative) ≡ t → (e ≤ 9) × (b ≡ 48 + e) → Describes n opens (number negative k) before
    → Gives (cond t (going (n + 1) opens (number negative (10 * k + e))) (ended (R.Bad n W.Range))) before b
range_gives n opens before b negative k e true h is d = tt
range_gives n opens before b negative k e false h is d =
    let over = leb-false _ _ h in let byte = is.1 in
    record { digit = is_digit b e is; opens = opens; negative = negative; number = k; in_range = d.token_fits.1; part = record { fits = d.fits; parts = d.parts }; leaves = omega arith }

number_gives : (n : ℕ) (opens : List Open) (before : List ℕ) (b : ℕ) (negative : Bool) (k : ℕ) (m : Mark) → IsMark m b → Describes n opens (number negative k) before → Gives (number_step n opens negative k m) before b
number_gives n opens before b negative k M.Int e d = tt
number_gives n opens before b negative k M.List e d = tt
number_gives n opens before b negative k M.Dict e d = tt
number_gives n opens before b negative k M.End e d = key_gives (n + 1) opens (K.Int (int_of negative k)) before b
number_gives n opens before b negative k M.Colon e d = tt
number_gives n opens before b negative k M.Minus e d = tt
number_gives n opens before b negative k (M.Digit j) e d = range_gives n opens before b negative k j _ refl e d
number_gives n opens before b negative k M.Other e d = tt

limit_gives : (n : ℕ) (opens : List Open) (before : List ℕ) (b k e : ℕ) (t : Bool) → leb (10 * k + e) 67108864 ≡ t → (e ≤ 9) × (b ≡ 48 + e) → Describes n opens (size k) before
    → Gives (cond t (going (n + 1) opens (size (10 * k + e))) (ended (R.Bad n W.Length))) before b
limit_gives n opens before b k e true h is d = tt
limit_gives n opens before b k e false h is d =
    let over = leb-false _ _ h in let byte = is.1 in
    record { digit = is_digit b e is; opens = opens; number = k; in_limit = d.token_fits.1; part = record { fits = d.fits; parts = d.parts }; exceeds = omega arith }

size_gives : (n : ℕ) (opens : List Open) (before : List ℕ) (b k : ℕ) (m : Mark) → IsMark m b → Describes n opens (size k) before → Gives (size_step n opens k m) before b
size_gives n opens before b k M.Int e d = tt
size_gives n opens before b k M.List e d = tt
size_gives n opens before b k M.Dict e d = tt
size_gives n opens before b k M.End e d = tt
size_gives n opens before b k M.Colon e d = tt
size_gives n opens before b k M.Minus e d = tt
size_gives n opens before b k (M.Digit j) e d = limit_gives n opens before b k j _ refl e d
size_gives n opens before b k M.Other e d = tt

string_gives : (n : ℕ) (opens : List Open) (before : List ℕ) (b k : ℕ) (so_far : List ℕ) → Gives (text_step n opens k so_far b) before b
string_gives n opens before b zero so_far = key_gives n opens (K.Bytes so_far) before b
string_gives n opens before b (suc zero) so_far = key_gives (n + 1) opens (K.Bytes (so_far ++ b ∷ [])) before b
string_gives n opens before b (suc (suc k)) so_far = tt

token_gives : (n : ℕ) (opens : List Open) (token : Token) (before : List ℕ) (b : ℕ) → Describes n opens token before → Gives (token_step n opens token b) before b
token_gives n opens start before b d = start_gives n opens before b (mark_of b) (mark_is b) d
token_gives n opens sign before b d = sign_gives n opens before b (mark_of b)
token_gives n opens minus before b d = minus_gives n opens before b (mark_of b) (mark_is b) d
token_gives n opens zero_int before b d = zero_int_gives n opens before b (mark_of b) (mark_is b) d
token_gives n opens (number negative k) before b d = number_gives n opens before b negative k (mark_of b) (mark_is b) d
token_gives n opens zero_length before b d = zero_length_gives n opens before b (mark_of b) (mark_is b) d
token_gives n opens (size k) before b d = size_gives n opens before b k (mark_of b) (mark_is b) d
token_gives n opens (string k so_far) before b d = string_gives n opens before b k so_far

-- a letter is refused for no other reason
differs : (before : List ℕ) (b place : ℕ) (why : Why) → feed begin (before ++ b ∷ []) ≡ ended (R.Bad place W.Letter) → Refused before b why → why ≡ W.Letter
differs before b place why e h = cc

reason_for : (place : ℕ) (why : Why) (before : List ℕ) (b : ℕ) → Gives (ended (R.Bad place why)) before b → feed begin (before ++ b ∷ []) ≡ ended (R.Bad place why) → IsReason before b why
reason_for place W.Leading before b h e = h
reason_for place W.MinusZero before b h e = h
reason_for place W.Range before b h e = h
reason_for place W.Letter before b h e = (
  λ r. (let x = differs before b place W.Leading e (leading_refused before b r) in cc),
  λ r. (let x = differs before b place W.MinusZero e (minus_refused before b r) in cc),
  λ r. (let x = differs before b place W.Range e (range_refused before b r) in cc),
  λ r. (let x = differs before b place W.Length e (length_refused before b r) in cc),
  λ r. (let x = differs before b place W.Depth e (depth_refused before b r) in cc),
  λ r. (let x = differs before b place W.Key e (key_refused before b r) in cc),
)
reason_for place W.Depth before b h e = h
reason_for place W.Length before b h e = h
reason_for place W.Key before b h e = h

-- the reason of a refusal is the table's
pub reason : (n : ℕ) (opens : List Open) (token : Token) (before : List ℕ) (b place : ℕ) (why : Why) → Describes n opens token before → token_step n opens token b ≡ ended (R.Bad place why)
    → feed begin (before ++ b ∷ []) ≡ ended (R.Bad place why) → IsReason before b why
reason n opens token before b place why d e h = reason_for place why before b (subst (λ s. Gives s before b) e (token_gives n opens token before b d)) h
