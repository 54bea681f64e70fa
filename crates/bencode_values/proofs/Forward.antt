-- From the bytes that were read to the grammar: each step keeps what the state says of them.
use Rattle.std.proofs.Common.{◌≡◌, ℕ, pos, suc, zero, ◌+◌, ◌*◌, ◌-◌, ◌^◌, ◌<◌, ◌≤◌, Bool, true, false, cond, List, [], ◌∷◌, ◌++◌, map, refl, sym, ap, subst, ◌∙◌, length, arith, append_assoc, leb}
use Rattle.std.specs.List.{concat}
use Rattle.std.specs.Fmt.{decimal}
use Rattle.std.proofs.lemmas.Bool.{and_from, leb-true, le-leb}
use Rattle.std.proofs.lemmas.List.{append-nil}
use Rattle.std.proofs.lemmas.Fmt.{decimal_digit}
use Rattle.bencode_values.specs.declared.mark.Mark.{Mark}
use Rattle.bencode_values.specs.declared.mark.Mark.TheVariants as M
use Rattle.bencode_values.specs.declared.value.Key.{Key}
use Rattle.bencode_values.specs.declared.value.Key.TheVariants as K
use Rattle.bencode_values.specs.declared.value.Value.{Value}
use Rattle.bencode_values.specs.declared.value.Value.TheVariants as V
use Rattle.bencode_values.specs.declared.value.Pair.{Pair}
use Rattle.bencode_values.specs.declared.reading.Read.TheVariants as R
use Rattle.bencode_values.specs.declared.reading.Why.TheVariants as W
use Rattle.bencode_values.specs.Marks.{mark_of}
use Rattle.bencode_values.specs.Grammar.{spelled, spelled_pair, spelled_key, spelled_int, spelled_bytes, key_fits, is_in_range, Fits, PairFits}
use Rattle.bencode_values.specs.Reading.{Open, in_list, in_dict, in_entry, opened, context, IsValuePlace, OpenFits, AreOpen, sign_of, range_of}
use Rattle.bencode_values.specs.Steps.{Token, start, sign, minus, zero_int, number, zero_length, size, string, going, ended, int_of, value_of, deliver, deliver_key, close, open_at, start_step, sign_step, minus_step, zero_int_step, number_step, zero_length_step, size_step, text_step, token_step}
use Rattle.bencode_values.proofs.Digits.{IsMark, mark_is, decimal_push}
use Rattle.bencode_values.proofs.Values.{spelled-Int, spelled-Bytes, spelled-List, spelled-Dict, spelled_pair-record, fits-Int, fits-Bytes, fits-List, fits-Dict, fits-pair}
use Rattle.bencode_values.proofs.Parts.{part_of, TokenFits, Describes, After, all_push, concat_push, bytes_push, length_push, context_more}

-- a value that was read whole
pub deliver_after : (n : ℕ) (opens : List Open) (v : Value) (bytes : List ℕ) → AreOpen opens → IsValuePlace opens → Fits (32 - length opens) v
    → n ≡ length bytes → bytes ≡ context opens ++ spelled v → After (deliver n opens v) bytes
deliver_after n [] v bytes inside place fits count parts = record { fits = fits; count = count; parts = parts }
deliver_after n (in_list vs ∷ outer) v bytes inside place fits count parts =
    let room : 32 - suc (length outer) ≡ 31 - length outer = omega arith in
    record {
      fits = (inside.0, all_push (Fits (31 - length outer)) vs v inside.1 (subst (λ r. Fits r v) room fits), inside.2, inside.3);
      token_fits = tt;
      count = count;
      parts = parts ∙ append_assoc (context outer) (108 ∷ concat (map spelled vs)) (spelled v)
          ∙ ap (λ l. context outer ++ (108 ∷ l)) (sym (concat_push spelled vs v)) ∙ sym (append-nil _);
    }
deliver_after n (in_dict ps ∷ outer) v bytes inside place fits count parts = absurd place
deliver_after n (in_entry ps k ∷ outer) v bytes inside place fits count parts =
    let room : 32 - suc (length outer) ≡ 31 - length outer = omega arith in
    let pair : Pair = record { key = k; value = v } in
    record {
      fits = (inside.0, all_push (PairFits (31 - length outer)) ps pair inside.1.0 (fits-pair _ k v inside.1.1 (subst (λ r. Fits r v) room fits)), inside.2, inside.3);
      token_fits = tt;
      count = count;
      parts = parts ∙ append_assoc (context outer) (100 ∷ (concat (map spelled_pair ps) ++ spelled_key k)) (spelled v)
          ∙ ap (λ l. context outer ++ (100 ∷ l)) (append_assoc (concat (map spelled_pair ps)) (spelled_key k) (spelled v)
          ∙ ap (λ l. concat (map spelled_pair ps) ++ l) (sym (spelled_pair-record k v)) ∙ sym (concat_push spelled_pair ps pair))
          ∙ sym (append-nil _);
    }

pub spelled-value_of : (k : Key) → spelled (value_of k) ≡ spelled_key k
spelled-value_of (K.Int n) = spelled-Int n
spelled-value_of (K.Bytes text) = spelled-Bytes text

pub fits-value_of : (room : ℕ) (k : Key) → key_fits k ≡ true → Fits room (value_of k)
fits-value_of room (K.Int n) h = fits-Int room n h
fits-value_of room (K.Bytes text) h = fits-Bytes room text h

-- a number or a string that was read whole
key_after : (n : ℕ) (opens : List Open) (k : Key) (bytes : List ℕ) → AreOpen opens → key_fits k ≡ true
    → n ≡ length bytes → bytes ≡ context opens ++ spelled_key k → After (deliver_key n opens k) bytes
key_after n [] k bytes inside fits count parts =
    deliver_after n [] (value_of k) bytes inside tt (fits-value_of 32 k fits) count (parts ∙ sym (spelled-value_of k))
key_after n (in_list vs ∷ outer) k bytes inside fits count parts =
    deliver_after n (in_list vs ∷ outer) (value_of k) bytes inside tt (fits-value_of _ k fits) count (parts ∙ ap (λ l. context (in_list vs ∷ outer) ++ l) (sym (spelled-value_of k)))
key_after n (in_dict ps ∷ outer) k bytes inside fits count parts = record {
  fits = (inside.0, (inside.1, fits), inside.2, inside.3);
  token_fits = tt;
  count = count;
  parts = parts ∙ append_assoc (context outer) (100 ∷ concat (map spelled_pair ps)) (spelled_key k) ∙ sym (append-nil _);
}
key_after n (in_entry ps j ∷ outer) k bytes inside fits count parts =
    deliver_after n (in_entry ps j ∷ outer) (value_of k) bytes inside tt (fits-value_of _ k fits) count (parts ∙ ap (λ l. context (in_entry ps j ∷ outer) ++ l) (sym (spelled-value_of k)))

one_more : (n : ℕ) (bytes : List ℕ) (b : ℕ) → n ≡ length bytes → n + 1 ≡ length (bytes ++ b ∷ [])
one_more n bytes b h = ap (λ k. k + 1) h ∙ sym (length_push bytes b)

-- a token in which one byte more was read
grown : (n : ℕ) (opens : List Open) (old new : Token) (bytes : List ℕ) (b : ℕ) → Describes n opens old bytes → TokenFits new → part_of old ++ b ∷ [] ≡ part_of new
    → Describes (n + 1) opens new (bytes ++ b ∷ [])
grown n opens old new bytes b d fits parts = record {
  fits = d.fits;
  token_fits = fits;
  count = one_more n bytes b d.count;
  parts = context_more opens (part_of old) (part_of new) bytes (b ∷ []) d.parts parts;
}

-- a token that one byte more ends
ends : (n : ℕ) (opens : List Open) (token : Token) (k : Key) (bytes : List ℕ) (b : ℕ) → Describes n opens token bytes → key_fits k ≡ true → part_of token ++ b ∷ [] ≡ spelled_key k
    → After (deliver_key (n + 1) opens k) (bytes ++ b ∷ [])
ends n opens token k bytes b d fits parts =
    key_after (n + 1) opens k (bytes ++ b ∷ []) d.fits fits (one_more n bytes b d.count) (context_more opens (part_of token) (spelled_key k) bytes (b ∷ []) d.parts parts)

close_after : (n : ℕ) (opens : List Open) (bytes : List ℕ) → Describes n opens start bytes → After (close n opens) (bytes ++ 101 ∷ [])
close_after n [] bytes d = one_more n bytes 101 d.count
close_after n (in_list vs ∷ outer) bytes d =
    let room : 31 - length outer + 1 ≡ 32 - length outer = let h = d.fits.0 in omega arith in
    deliver_after (n + 1) outer (V.List vs) (bytes ++ 101 ∷ []) d.fits.3 d.fits.2 (subst (λ r. Fits r (V.List vs)) room (fits-List _ vs d.fits.1)) (one_more n bytes 101 d.count)
    (context_more (in_list vs ∷ outer) [] (101 ∷ []) bytes (101 ∷ []) d.parts refl ∙ append_assoc (context outer) (108 ∷ concat (map spelled vs)) (101 ∷ []) ∙ ap (λ l. context outer ++ l) (sym (spelled-List vs)))
close_after n (in_dict ps ∷ outer) bytes d =
    let room : 31 - length outer + 1 ≡ 32 - length outer = let h = d.fits.0 in omega arith in
    deliver_after (n + 1) outer (V.Dict ps) (bytes ++ 101 ∷ []) d.fits.3 d.fits.2 (subst (λ r. Fits r (V.Dict ps)) room (fits-Dict _ ps d.fits.1)) (one_more n bytes 101 d.count)
    (context_more (in_dict ps ∷ outer) [] (101 ∷ []) bytes (101 ∷ []) d.parts refl ∙ append_assoc (context outer) (100 ∷ concat (map spelled_pair ps)) (101 ∷ []) ∙ ap (λ l. context outer ++ l) (sym (spelled-Dict ps)))
close_after n (in_entry ps k ∷ outer) bytes d = one_more n bytes 101 d.count

-- an `l` or `d` in a value's place
more_after : (n : ℕ) (opens : List Open) (o : Open) (b : ℕ) (bytes : List ℕ) (room : Bool) → leb (suc (length opens)) 32 ≡ room → IsValuePlace opens → OpenFits (31 - length opens) o → opened o ≡ b ∷ []
    → Describes n opens start bytes → After (cond room (going (n + 1) (o ∷ opens) start) (ended (R.Bad n W.Depth))) (bytes ++ b ∷ [])
more_after n opens o b bytes true h place fits begins d = record {
  fits = (leb-true _ _ h, fits, place, d.fits);
  token_fits = tt;
  count = one_more n bytes b d.count;
  parts = context_more opens [] (b ∷ []) bytes (b ∷ []) d.parts refl ∙ ap (λ l. context opens ++ l) (sym begins) ∙ sym (append-nil _);
}
more_after n opens o b bytes false h place fits begins d = one_more n bytes b d.count

open_after : (n : ℕ) (opens : List Open) (o : Open) (b : ℕ) (bytes : List ℕ) → ((room : ℕ) → OpenFits room o) → opened o ≡ b ∷ []
    → Describes n opens start bytes → After (open_at n opens o) (bytes ++ b ∷ [])
open_after n [] o b bytes fits begins d = more_after n [] o b bytes _ refl tt (fits _) begins d
open_after n (in_list vs ∷ outer) o b bytes fits begins d = more_after n (in_list vs ∷ outer) o b bytes _ refl tt (fits _) begins d
open_after n (in_dict ps ∷ outer) o b bytes fits begins d = one_more n bytes b d.count
open_after n (in_entry ps k ∷ outer) o b bytes fits begins d = more_after n (in_entry ps k ∷ outer) o b bytes _ refl tt (fits _) begins d

byte_is : (b c : ℕ) (front : List ℕ) → b ≡ c → front ++ b ∷ [] ≡ front ++ c ∷ []
byte_is b c front e = ap (λ x. front ++ x ∷ []) e

digit_is : (d b : ℕ) → d ≤ 9 → b ≡ 48 + d → b ∷ [] ≡ decimal d
digit_is d b small e = ap (λ x. x ∷ []) e ∙ sym (decimal_digit d (omega arith))

start_after : (n : ℕ) (opens : List Open) (bytes : List ℕ) (b : ℕ) (m : Mark) → IsMark m b → Describes n opens start bytes → After (start_step n opens m) (bytes ++ b ∷ [])
start_after n opens bytes b M.Int e d = grown n opens start sign bytes b d tt (byte_is b 105 [] e)
start_after n opens bytes b M.List e d = open_after n opens (in_list []) b bytes (λ room. tt) (byte_is 108 b [] (sym e)) d
start_after n opens bytes b M.Dict e d = open_after n opens (in_dict []) b bytes (λ room. tt) (byte_is 100 b [] (sym e)) d
start_after n opens bytes b M.End e d = subst (λ x. After (close n opens) (bytes ++ x ∷ [])) (sym e) (close_after n opens bytes d)
start_after n opens bytes b M.Colon e d = one_more n bytes b d.count
start_after n opens bytes b M.Minus e d = one_more n bytes b d.count
start_after n opens bytes b (M.Digit zero) e d = grown n opens start zero_length bytes b d tt (byte_is b 48 [] e.1)
start_after n opens bytes b (M.Digit (suc k)) e d = let small = e.0 in grown n opens start (size (suc k)) bytes b d (omega arith, omega arith) (digit_is (suc k) b e.0 e.1)
start_after n opens bytes b M.Other e d = one_more n bytes b d.count

sign_after : (n : ℕ) (opens : List Open) (bytes : List ℕ) (b : ℕ) (m : Mark) → IsMark m b → Describes n opens sign bytes → After (sign_step n opens m) (bytes ++ b ∷ [])
sign_after n opens bytes b M.Int e d = one_more n bytes b d.count
sign_after n opens bytes b M.List e d = one_more n bytes b d.count
sign_after n opens bytes b M.Dict e d = one_more n bytes b d.count
sign_after n opens bytes b M.End e d = one_more n bytes b d.count
sign_after n opens bytes b M.Colon e d = one_more n bytes b d.count
sign_after n opens bytes b M.Minus e d = grown n opens sign minus bytes b d tt (byte_is b 45 (105 ∷ []) e)
sign_after n opens bytes b (M.Digit zero) e d = grown n opens sign zero_int bytes b d tt (byte_is b 48 (105 ∷ []) e.1)
sign_after n opens bytes b (M.Digit (suc k)) e d = let small = e.0 in grown n opens sign (number false (suc k)) bytes b d (omega arith, omega arith) (ap (λ l. 105 ∷ l) (digit_is (suc k) b e.0 e.1))
sign_after n opens bytes b M.Other e d = one_more n bytes b d.count

minus_after : (n : ℕ) (opens : List Open) (bytes : List ℕ) (b : ℕ) (m : Mark) → IsMark m b → Describes n opens minus bytes → After (minus_step n opens m) (bytes ++ b ∷ [])
minus_after n opens bytes b M.Int e d = one_more n bytes b d.count
minus_after n opens bytes b M.List e d = one_more n bytes b d.count
minus_after n opens bytes b M.Dict e d = one_more n bytes b d.count
minus_after n opens bytes b M.End e d = one_more n bytes b d.count
minus_after n opens bytes b M.Colon e d = one_more n bytes b d.count
minus_after n opens bytes b M.Minus e d = one_more n bytes b d.count
minus_after n opens bytes b (M.Digit zero) e d = one_more n bytes b d.count
minus_after n opens bytes b (M.Digit (suc k)) e d = let small = e.0 in grown n opens minus (number true (suc k)) bytes b d (omega arith, omega arith) (ap (λ l. 105 ∷ 45 ∷ l) (digit_is (suc k) b e.0 e.1))
minus_after n opens bytes b M.Other e d = one_more n bytes b d.count

zero_int_after : (n : ℕ) (opens : List Open) (bytes : List ℕ) (b : ℕ) (m : Mark) → IsMark m b → Describes n opens zero_int bytes → After (zero_int_step n opens m) (bytes ++ b ∷ [])
zero_int_after n opens bytes b M.Int e d = one_more n bytes b d.count
zero_int_after n opens bytes b M.List e d = one_more n bytes b d.count
zero_int_after n opens bytes b M.Dict e d = one_more n bytes b d.count
zero_int_after n opens bytes b M.End e d = ends n opens zero_int (K.Int (pos 0)) bytes b d refl (byte_is b 101 (105 ∷ 48 ∷ []) e ∙ ap (λ l. 105 ∷ (l ++ 101 ∷ [])) (sym (decimal_digit 0 (omega arith))))
zero_int_after n opens bytes b M.Colon e d = one_more n bytes b d.count
zero_int_after n opens bytes b M.Minus e d = one_more n bytes b d.count
zero_int_after n opens bytes b (M.Digit k) e d = one_more n bytes b d.count
zero_int_after n opens bytes b M.Other e d = one_more n bytes b d.count

zero_length_after : (n : ℕ) (opens : List Open) (bytes : List ℕ) (b : ℕ) (m : Mark) → IsMark m b → Describes n opens zero_length bytes → After (zero_length_step n opens m) (bytes ++ b ∷ [])
zero_length_after n opens bytes b M.Int e d = one_more n bytes b d.count
zero_length_after n opens bytes b M.List e d = one_more n bytes b d.count
zero_length_after n opens bytes b M.Dict e d = one_more n bytes b d.count
zero_length_after n opens bytes b M.End e d = one_more n bytes b d.count
zero_length_after n opens bytes b M.Colon e d = ends n opens zero_length (K.Bytes []) bytes b d refl (byte_is b 58 (48 ∷ []) e ∙ ap (λ l. l ++ 58 ∷ []) (sym (decimal_digit 0 (omega arith))))
zero_length_after n opens bytes b M.Minus e d = one_more n bytes b d.count
zero_length_after n opens bytes b (M.Digit k) e d = one_more n bytes b d.count
zero_length_after n opens bytes b M.Other e d = one_more n bytes b d.count

-- the number that the digits give is in range, and is spelled so
number_fits : (negative : Bool) (k : ℕ) → 0 < k → k ≤ range_of negative → is_in_range (int_of negative k) ≡ true
number_fits false k positive bound = le-leb (suc k) (2 ^ 63) (omega arith)
number_fits true zero positive bound = absurd (omega arith)
number_fits true (suc k) positive bound = le-leb (suc k) (2 ^ 63) bound

number_spelled : (negative : Bool) (k : ℕ) → 0 < k → (105 ∷ (sign_of negative ++ decimal k)) ++ 101 ∷ [] ≡ spelled_int (int_of negative k)
number_spelled false k positive = refl
number_spelled true zero positive = absurd (omega arith)
number_spelled true (suc k) positive = refl

small_number : (negative : Bool) (k : ℕ) → k ≤ range_of negative → k < 2 ^ 64
small_number false k h = omega arith
small_number true k h = omega arith

number_more : (n : ℕ) (opens : List Open) (bytes : List ℕ) (b : ℕ) (negative : Bool) (k e : ℕ) (t : Bool) → e ≤ 9 → b ≡ 48 + e → leb (10 * k + e) (range_of negative) ≡ t
    → Describes n opens (number negative k) bytes → After (cond t (going (n + 1) opens (number negative (10 * k + e))) (ended (R.Bad n W.Range))) (bytes ++ b ∷ [])
number_more n opens bytes b negative k e true digit is h d =
    let bound = leb-true _ _ h in let positive = d.token_fits.0 in
    grown n opens (number negative k) (number negative (10 * k + e)) bytes b d (omega arith, bound)
    (byte_is b (48 + e) (105 ∷ (sign_of negative ++ decimal k)) is ∙ ap (λ l. 105 ∷ l) (append_assoc (sign_of negative) (decimal k) ((48 + e) ∷ []) ∙ ap (λ l. sign_of negative ++ l) (sym (decimal_push k e positive digit (small_number negative (10 * k + e) bound)))))
number_more n opens bytes b negative k e false digit is h d = one_more n bytes b d.count

number_after : (n : ℕ) (opens : List Open) (bytes : List ℕ) (b : ℕ) (negative : Bool) (k : ℕ) (m : Mark) → IsMark m b → Describes n opens (number negative k) bytes → After (number_step n opens negative k m) (bytes ++ b ∷ [])
number_after n opens bytes b negative k M.Int e d = one_more n bytes b d.count
number_after n opens bytes b negative k M.List e d = one_more n bytes b d.count
number_after n opens bytes b negative k M.Dict e d = one_more n bytes b d.count
number_after n opens bytes b negative k M.End e d = ends n opens (number negative k) (K.Int (int_of negative k)) bytes b d (number_fits negative k d.token_fits.0 d.token_fits.1)
    (byte_is b 101 (105 ∷ (sign_of negative ++ decimal k)) e ∙ number_spelled negative k d.token_fits.0)
number_after n opens bytes b negative k M.Colon e d = one_more n bytes b d.count
number_after n opens bytes b negative k M.Minus e d = one_more n bytes b d.count
number_after n opens bytes b negative k (M.Digit j) e d = number_more n opens bytes b negative k j _ e.0 e.1 refl d
number_after n opens bytes b negative k M.Other e d = one_more n bytes b d.count

size_more : (n : ℕ) (opens : List Open) (bytes : List ℕ) (b : ℕ) (k e : ℕ) (t : Bool) → e ≤ 9 → b ≡ 48 + e → leb (10 * k + e) 67108864 ≡ t
    → Describes n opens (size k) bytes → After (cond t (going (n + 1) opens (size (10 * k + e))) (ended (R.Bad n W.Length))) (bytes ++ b ∷ [])
size_more n opens bytes b k e true digit is h d =
    let bound = leb-true _ _ h in let positive = d.token_fits.0 in
    grown n opens (size k) (size (10 * k + e)) bytes b d (omega arith, bound)
    (byte_is b (48 + e) (decimal k) is ∙ sym (decimal_push k e positive digit (omega arith)))
size_more n opens bytes b k e false digit is h d = one_more n bytes b d.count

size_after : (n : ℕ) (opens : List Open) (bytes : List ℕ) (b : ℕ) (k : ℕ) (m : Mark) → IsMark m b → Describes n opens (size k) bytes → After (size_step n opens k m) (bytes ++ b ∷ [])
size_after n opens bytes b k M.Int e d = one_more n bytes b d.count
size_after n opens bytes b k M.List e d = one_more n bytes b d.count
size_after n opens bytes b k M.Dict e d = one_more n bytes b d.count
size_after n opens bytes b k M.End e d = one_more n bytes b d.count
size_after n opens bytes b k M.Colon e d = let fits = d.token_fits in grown n opens (size k) (string k []) bytes b d (fits.0, omega arith, refl) (byte_is b 58 (decimal k) e ∙ ap (λ j. decimal j ++ 58 ∷ []) (omega arith))
size_after n opens bytes b k M.Minus e d = one_more n bytes b d.count
size_after n opens bytes b k (M.Digit j) e d = size_more n opens bytes b k j _ e.0 e.1 refl d
size_after n opens bytes b k M.Other e d = one_more n bytes b d.count

string_more : (so_far : List ℕ) (b count : ℕ) → length so_far + 1 ≡ count → (decimal count ++ 58 ∷ so_far) ++ b ∷ [] ≡ spelled_bytes (so_far ++ b ∷ [])
string_more so_far b count e = append_assoc (decimal count) (58 ∷ so_far) (b ∷ []) ∙ ap (λ j. decimal j ++ 58 ∷ (so_far ++ b ∷ [])) (sym e ∙ sym (length_push so_far b))

string_after : (n : ℕ) (opens : List Open) (bytes : List ℕ) (b : ℕ) (k : ℕ) (so_far : List ℕ) → b < 256 → Describes n opens (string k so_far) bytes → After (text_step n opens k so_far b) (bytes ++ b ∷ [])
string_after n opens bytes b zero so_far small d = let fits = d.token_fits.0 in absurd (omega arith)
string_after n opens bytes b (suc zero) so_far small d =
    let fits = d.token_fits.1 in let longer = length_push so_far b in
    ends n opens (string 1 so_far) (K.Bytes (so_far ++ b ∷ [])) bytes b d
    (and_from _ _ (le-leb (length (so_far ++ b ∷ [])) 67108864 (omega arith)) (bytes_push so_far b d.token_fits.2 small))
    (string_more so_far b (length so_far + 1) refl)
string_after n opens bytes b (suc (suc k)) so_far small d =
    let fits = d.token_fits.1 in let longer = length_push so_far b in
    grown n opens (string (suc (suc k)) so_far) (string (suc k) (so_far ++ b ∷ [])) bytes b d
    (omega arith, omega arith, bytes_push so_far b d.token_fits.2 small)
    (append_assoc (decimal (length so_far + suc (suc k))) (58 ∷ so_far) (b ∷ []) ∙ ap (λ j. decimal j ++ 58 ∷ (so_far ++ b ∷ [])) (omega arith))

-- one byte more
pub token_after : (n : ℕ) (opens : List Open) (token : Token) (bytes : List ℕ) (b : ℕ) → b < 256 → Describes n opens token bytes → After (token_step n opens token b) (bytes ++ b ∷ [])
token_after n opens start bytes b small d = start_after n opens bytes b (mark_of b) (mark_is b) d
token_after n opens sign bytes b small d = sign_after n opens bytes b (mark_of b) (mark_is b) d
token_after n opens minus bytes b small d = minus_after n opens bytes b (mark_of b) (mark_is b) d
token_after n opens zero_int bytes b small d = zero_int_after n opens bytes b (mark_of b) (mark_is b) d
token_after n opens (number negative k) bytes b small d = number_after n opens bytes b negative k (mark_of b) (mark_is b) d
token_after n opens zero_length bytes b small d = zero_length_after n opens bytes b (mark_of b) (mark_is b) d
token_after n opens (size k) bytes b small d = size_after n opens bytes b k (mark_of b) (mark_is b) d
token_after n opens (string k so_far) bytes b small d = string_after n opens bytes b k so_far small d
