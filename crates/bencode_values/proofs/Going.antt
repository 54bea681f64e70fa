-- One byte further: what the reader's parts do, step by step.
use Rattle.std.proofs.Common.{◌≡◌, ◌≢◌, ℕ, suc, zero, ◌+◌, ◌*◌, ◌-◌, ◌<◌, ◌≤◌, Bool, true, false, cond, List, [], ◌∷◌, ◌++◌, refl, sym, ap, subst, ◌∙◌, length, take, drop, get_or, arith}
use Rattle.std.proofs.Math.Seq.{drop-cons, drop-nil}
use Rattle.std.proofs.lemmas.List.{drop_all, length-drop, length-take-le, take-append-drop}
use Rattle.std.proofs.lemmas.Bool.{le-leb, lt-leb}
use Rattle.bencode_values.specs.declared.mark.Mark.{Mark}
use Rattle.bencode_values.specs.declared.mark.Mark.TheVariants as M
use Rattle.bencode_values.specs.declared.value.Key.TheVariants as K
use Rattle.bencode_values.specs.declared.value.Pair.{Pair}
use Rattle.bencode_values.specs.declared.reading.Read.{Read}
use Rattle.bencode_values.specs.declared.reading.Read.TheVariants as R
use Rattle.bencode_values.specs.declared.reading.Why.TheVariants as W
use Rattle.std.specs.Prelude.{Result, Ok, Err}
use Rattle.std.specs.Result.{IsErrAnd, IfOk}
use Rattle.std.proofs.lemmas.Result.{err_from_is_err_and}
use Rattle.bencode_values.specs.declared.stop.Stop.{Stop}
use Rattle.bencode_values.specs.declared.stop.Stop.TheVariants as S
use Rattle.bencode_values.specs.Coming.{Comes}
use Rattle.bencode_values.specs.Marks.{mark_of}
use Rattle.bencode_values.specs.Reading.{Open, in_list, in_dict, in_entry, range_of, IsValuePlace}
use Rattle.bencode_values.specs.Steps.{Token, sign, minus, zero_int, number, zero_length, size, string, State, going, ended, int_of, deliver_key, close, start_step, sign_step, minus_step, zero_int_step, number_step, zero_length_step, size_step, token_step, feed, answer_of, length_token, AwaitsValue}
use Rattle.bencode_values.proofs.Feeding.{feed-nil, feed-going, feed-append, feed-ended, feed-string}

drop_here : (bytes : List ℕ) (at : ℕ) → at < length bytes → drop at bytes ≡ get_or bytes at 0 ∷ drop (at + 1) bytes
drop_here bytes at h = let same : suc at ≡ at + 1 = omega arith in drop-cons bytes at 0 h ∙ ap (λ k. get_or bytes at 0 ∷ drop k bytes) same

-- the byte at the place
pub go_on : (bytes : List ℕ) (at : ℕ) (opens : List Open) (token : Token) (s : State) → at < length bytes → token_step at opens token (get_or bytes at 0) ≡ s
    → feed (going at opens token) (drop at bytes) ≡ feed s (drop (at + 1) bytes)
go_on bytes at opens token s h e = ap (feed (going at opens token)) (drop_here bytes at h) ∙ feed-going at opens token (get_or bytes at 0) (drop (at + 1) bytes) ∙ ap (λ t. feed t (drop (at + 1) bytes)) e

-- the byte at which reading stops
pub go_bad : (bytes : List ℕ) (at : ℕ) (opens : List Open) (token : Token) (answer : Read) → at < length bytes → token_step at opens token (get_or bytes at 0) ≡ ended answer
    → answer_of (feed (going at opens token) (drop at bytes)) ≡ answer
go_bad bytes at opens token answer h e = ap answer_of (go_on bytes at opens token (ended answer) h e ∙ feed-ended answer (drop (at + 1) bytes))

-- the end of the bytes
pub go_short : (bytes : List ℕ) (at : ℕ) (opens : List Open) (token : Token) → length bytes ≤ at → answer_of (feed (going at opens token) (drop at bytes)) ≡ R.Short
go_short bytes at opens token h = ap (λ l. answer_of (feed (going at opens token) l)) (drop_all at bytes h) ∙ ap answer_of (feed-nil (going at opens token))

pub number_digit : (at : ℕ) (opens : List Open) (negative : Bool) (k b d : ℕ) → mark_of b ≡ M.Digit d → 10 * k + d ≤ range_of negative → token_step at opens (number negative k) b ≡ going (at + 1) opens (number negative (10 * k + d))
number_digit at opens negative k b d e h = ap (number_step at opens negative k) e ∙ ap (λ t. cond t (going (at + 1) opens (number negative (10 * k + d))) (ended (R.Bad at W.Range))) (le-leb _ _ h)

pub number_over : (at : ℕ) (opens : List Open) (negative : Bool) (k b d : ℕ) → mark_of b ≡ M.Digit d → range_of negative < 10 * k + d → token_step at opens (number negative k) b ≡ ended (R.Bad at W.Range)
number_over at opens negative k b d e h = ap (number_step at opens negative k) e ∙ ap (λ t. cond t (going (at + 1) opens (number negative (10 * k + d))) (ended (R.Bad at W.Range))) (lt-leb _ _ h)

pub number_end : (at : ℕ) (opens : List Open) (negative : Bool) (k b : ℕ) → mark_of b ≡ M.End → token_step at opens (number negative k) b ≡ deliver_key (at + 1) opens (K.Int (int_of negative k))
number_end at opens negative k b e = ap (number_step at opens negative k) e

number_letter : (at : ℕ) (opens : List Open) (negative : Bool) (k : ℕ) (m : Mark) → m ≢ M.End → ((d : ℕ) → m ≢ M.Digit d) → number_step at opens negative k m ≡ ended (R.Bad at W.Letter)
number_letter at opens negative k M.Int e d = refl
number_letter at opens negative k M.List e d = refl
number_letter at opens negative k M.Dict e d = refl
number_letter at opens negative k M.End e d = absurd (e refl)
number_letter at opens negative k M.Colon e d = refl
number_letter at opens negative k M.Minus e d = refl
number_letter at opens negative k (M.Digit j) e d = absurd (d j refl)
number_letter at opens negative k M.Other e d = refl

pub number_other : (at : ℕ) (opens : List Open) (negative : Bool) (k b : ℕ) (m : Mark) → m ≡ mark_of b → m ≢ M.End → ((d : ℕ) → m ≢ M.Digit d) → token_step at opens (number negative k) b ≡ ended (R.Bad at W.Letter)
number_other at opens negative k b m is e d = ap (number_step at opens negative k) (sym is) ∙ number_letter at opens negative k m e d

pub size_digit : (at : ℕ) (opens : List Open) (k b d : ℕ) → mark_of b ≡ M.Digit d → 10 * k + d ≤ 67108864 → token_step at opens (size k) b ≡ going (at + 1) opens (size (10 * k + d))
size_digit at opens k b d e h = ap (size_step at opens k) e ∙ ap (λ t. cond t (going (at + 1) opens (size (10 * k + d))) (ended (R.Bad at W.Length))) (le-leb _ _ h)

pub size_over : (at : ℕ) (opens : List Open) (k b d : ℕ) → mark_of b ≡ M.Digit d → 67108864 < 10 * k + d → token_step at opens (size k) b ≡ ended (R.Bad at W.Length)
size_over at opens k b d e h = ap (size_step at opens k) e ∙ ap (λ t. cond t (going (at + 1) opens (size (10 * k + d))) (ended (R.Bad at W.Length))) (lt-leb _ _ h)

pub size_end : (at : ℕ) (opens : List Open) (k b : ℕ) → mark_of b ≡ M.Colon → token_step at opens (size k) b ≡ going (at + 1) opens (string k [])
size_end at opens k b e = ap (size_step at opens k) e

size_letter : (at : ℕ) (opens : List Open) (k : ℕ) (m : Mark) → m ≢ M.Colon → ((d : ℕ) → m ≢ M.Digit d) → size_step at opens k m ≡ ended (R.Bad at W.Letter)
size_letter at opens k M.Int e d = refl
size_letter at opens k M.List e d = refl
size_letter at opens k M.Dict e d = refl
size_letter at opens k M.End e d = refl
size_letter at opens k M.Colon e d = absurd (e refl)
size_letter at opens k M.Minus e d = refl
size_letter at opens k (M.Digit j) e d = absurd (d j refl)
size_letter at opens k M.Other e d = refl

pub size_other : (at : ℕ) (opens : List Open) (k b : ℕ) (m : Mark) → m ≡ mark_of b → m ≢ M.Colon → ((d : ℕ) → m ≢ M.Digit d) → token_step at opens (size k) b ≡ ended (R.Bad at W.Letter)
size_other at opens k b m is e d = ap (size_step at opens k) (sym is) ∙ size_letter at opens k m e d

-- other marks after `i`, `i-`, a first `0` of a number, and one of a length
sign_letter : (at : ℕ) (opens : List Open) (m : Mark) → m ≢ M.Minus → ((d : ℕ) → m ≢ M.Digit d) → sign_step at opens m ≡ ended (R.Bad at W.Letter)
sign_letter at opens M.Int e d = refl
sign_letter at opens M.List e d = refl
sign_letter at opens M.Dict e d = refl
sign_letter at opens M.End e d = refl
sign_letter at opens M.Colon e d = refl
sign_letter at opens M.Minus e d = absurd (e refl)
sign_letter at opens (M.Digit j) e d = absurd (d j refl)
sign_letter at opens M.Other e d = refl

minus_letter : (at : ℕ) (opens : List Open) (m : Mark) → ((d : ℕ) → m ≢ M.Digit d) → minus_step at opens m ≡ ended (R.Bad at W.Letter)
minus_letter at opens M.Int d = refl
minus_letter at opens M.List d = refl
minus_letter at opens M.Dict d = refl
minus_letter at opens M.End d = refl
minus_letter at opens M.Colon d = refl
minus_letter at opens M.Minus d = refl
minus_letter at opens (M.Digit j) d = absurd (d j refl)
minus_letter at opens M.Other d = refl

zero_int_letter : (at : ℕ) (opens : List Open) (m : Mark) → m ≢ M.End → ((d : ℕ) → m ≢ M.Digit d) → zero_int_step at opens m ≡ ended (R.Bad at W.Letter)
zero_int_letter at opens M.Int e d = refl
zero_int_letter at opens M.List e d = refl
zero_int_letter at opens M.Dict e d = refl
zero_int_letter at opens M.End e d = absurd (e refl)
zero_int_letter at opens M.Colon e d = refl
zero_int_letter at opens M.Minus e d = refl
zero_int_letter at opens (M.Digit j) e d = absurd (d j refl)
zero_int_letter at opens M.Other e d = refl

zero_length_letter : (at : ℕ) (opens : List Open) (m : Mark) → m ≢ M.Colon → ((d : ℕ) → m ≢ M.Digit d) → zero_length_step at opens m ≡ ended (R.Bad at W.Letter)
zero_length_letter at opens M.Int e d = refl
zero_length_letter at opens M.List e d = refl
zero_length_letter at opens M.Dict e d = refl
zero_length_letter at opens M.End e d = refl
zero_length_letter at opens M.Colon e d = absurd (e refl)
zero_length_letter at opens M.Minus e d = refl
zero_length_letter at opens (M.Digit j) e d = absurd (d j refl)
zero_length_letter at opens M.Other e d = refl

pub sign_other : (at : ℕ) (opens : List Open) (b : ℕ) (m : Mark) → m ≡ mark_of b → m ≢ M.Minus → ((d : ℕ) → m ≢ M.Digit d) → token_step at opens sign b ≡ ended (R.Bad at W.Letter)
sign_other at opens b m is e d = ap (sign_step at opens) (sym is) ∙ sign_letter at opens m e d

pub minus_other : (at : ℕ) (opens : List Open) (b : ℕ) (m : Mark) → m ≡ mark_of b → ((d : ℕ) → m ≢ M.Digit d) → token_step at opens minus b ≡ ended (R.Bad at W.Letter)
minus_other at opens b m is d = ap (minus_step at opens) (sym is) ∙ minus_letter at opens m d

pub zero_int_other : (at : ℕ) (opens : List Open) (b : ℕ) (m : Mark) → m ≡ mark_of b → m ≢ M.End → ((d : ℕ) → m ≢ M.Digit d) → token_step at opens zero_int b ≡ ended (R.Bad at W.Letter)
zero_int_other at opens b m is e d = ap (zero_int_step at opens) (sym is) ∙ zero_int_letter at opens m e d

pub zero_length_other : (at : ℕ) (opens : List Open) (b : ℕ) (m : Mark) → m ≡ mark_of b → m ≢ M.Colon → ((d : ℕ) → m ≢ M.Digit d) → token_step at opens zero_length b ≡ ended (R.Bad at W.Letter)
zero_length_other at opens b m is e d = ap (zero_length_step at opens) (sym is) ∙ zero_length_letter at opens m e d

pub sign_digit : (at : ℕ) (opens : List Open) (d : ℕ) → 0 < d → sign_step at opens (M.Digit d) ≡ going (at + 1) opens (number false d)
sign_digit at opens zero h = absurd (omega arith)
sign_digit at opens (suc d) h = refl

pub minus_digit : (at : ℕ) (opens : List Open) (d : ℕ) → 0 < d → minus_step at opens (M.Digit d) ≡ going (at + 1) opens (number true d)
minus_digit at opens zero h = absurd (omega arith)
minus_digit at opens (suc d) h = refl

-- what a later part of the reader comes to, the whole comes to
pub comes_on : {A : Type 0} (bytes : List ℕ) (place mid : ℕ) (s t : State) (then : ℕ → A → State) (r : Result (A × ℕ) Stop) → place ≤ mid → feed s (drop place bytes) ≡ feed t (drop mid bytes)
    → Comes bytes mid t then r → Comes bytes place s then r
comes_on bytes place mid s t then (Ok found) le e h = let more = h.0 in (omega arith, h.1, e ∙ h.2)
comes_on bytes place mid s t then (Err S.Short) le e h = ap answer_of e ∙ h
comes_on bytes place mid s t then (Err (S.Bad at why)) le e h = ap answer_of e ∙ h
comes_on bytes place mid s t then (Err S.NoMemory) le e h = tt

fails_on : {A B : Type 0} (bytes : List ℕ) (place mid : ℕ) (s t : State) (then : ℕ → A → State) (next : ℕ → B → State) (stop : Stop) → feed s (drop place bytes) ≡ feed t (drop mid bytes)
    → Comes bytes mid t then (Err stop) → Comes bytes place s next (Err stop)
fails_on bytes place mid s t then next S.Short e h = ap answer_of e ∙ h
fails_on bytes place mid s t then next (S.Bad at why) e h = ap answer_of e ∙ h
fails_on bytes place mid s t then next S.NoMemory e h = tt

-- an error that `?` passes on
pub passes : {A B : Type 0} (bytes : List ℕ) (place mid : ℕ) (s t : State) (then : ℕ → A → State) (next : ℕ → B → State) (call : Result (A × ℕ) Stop) (stop : Stop) (r : Result (B × ℕ) Stop)
    → IsErrAnd r (λ e. e ≡ stop) → call ≡ Err stop → feed s (drop place bytes) ≡ feed t (drop mid bytes) → Comes bytes mid t then call → Comes bytes place s next r
passes bytes place mid s t then next call stop r is failed e h =
    let p = err_from_is_err_and r is in
    subst (Comes bytes place s next) (sym (p.1 ∙ ap Err p.2)) (fails_on bytes place mid s t then next stop e (subst (Comes bytes mid t then) failed h))

drop-drop_at : (xs : List ℕ) (m n : ℕ) → drop n (drop m xs) ≡ drop (m + n) xs
drop-drop_at xs zero n = let e : n ≡ 0 + n = omega arith in ap (λ k. drop k xs) e
drop-drop_at [] (suc m) n = drop-nil {A = ℕ} n ∙ sym (drop-nil {A = ℕ} (suc m + n))
drop-drop_at (x ∷ xs) (suc m) n = let e : suc (m + n) ≡ suc m + n = omega arith in drop-drop_at xs m n ∙ ap (λ k. drop k (x ∷ xs)) e

pub length_token-size : (d : ℕ) → 0 < d → length_token d ≡ size d
length_token-size zero h = absurd (omega arith)
length_token-size (suc d) h = refl

-- a string of which some bytes are to come
string_part : (n : ℕ) (opens : List Open) (k : ℕ) (so_far text : List ℕ) → length text < k → answer_of (feed (going n opens (string k so_far)) text) ≡ R.Short
string_part n opens k so_far [] h = ap answer_of (feed-nil (going n opens (string k so_far)))
string_part n opens zero so_far (b ∷ text) h = absurd (omega arith)
string_part n opens (suc zero) so_far (b ∷ text) h = absurd (omega arith)
string_part n opens (suc (suc k)) so_far (b ∷ text) h = ap answer_of (feed-going n opens (string (suc (suc k)) so_far) b text) ∙ string_part (n + 1) opens (suc k) (so_far ++ b ∷ []) text (omega arith)

pub string_short : (bytes : List ℕ) (next : ℕ) (opens : List Open) (k : ℕ) → length bytes - next < k → answer_of (feed (going next opens (string k [])) (drop next bytes)) ≡ R.Short
string_short bytes next opens k h = let left = length-drop next bytes in string_part next opens k [] (drop next bytes) (omega arith)

-- a string whose bytes are all there
pub string_whole : (bytes : List ℕ) (next : ℕ) (opens : List Open) (k : ℕ) (text : List ℕ) → 0 < k → next + k ≤ length bytes → text ≡ take k (drop next bytes)
    → feed (going next opens (string k [])) (drop next bytes) ≡ feed (deliver_key (next + k) opens (K.Bytes text)) (drop (next + k) bytes)
string_whole bytes next opens k text positive inside is =
    let left = length-drop next bytes in
    let count : length text ≡ k = ap length is ∙ length-take-le k (drop next bytes) (omega arith) in
    let split : drop next bytes ≡ text ++ drop (next + k) bytes = sym (take-append-drop k (drop next bytes)) ∙ ap (λ l. take k (drop next bytes) ++ l) (drop-drop_at bytes next k) ∙ ap (λ l. l ++ drop (next + k) bytes) (sym is) in
    ap (feed (going next opens (string k []))) split ∙ feed-append _ text (drop (next + k) bytes) ∙ ap (λ s. feed s (drop (next + k) bytes)) (feed-string next opens k [] text positive count)

pub start_digit : (at : ℕ) (opens : List Open) (d : ℕ) → start_step at opens (M.Digit d) ≡ going (at + 1) opens (length_token d)
start_digit at opens zero = refl
start_digit at opens (suc d) = refl

-- marks that begin no key, and no value
pub key_letter : (at : ℕ) (ps : List Pair) (outer : List Open) (m : Mark) → m ≢ M.Int → m ≢ M.List → m ≢ M.Dict → m ≢ M.End → ((d : ℕ) → m ≢ M.Digit d)
    → start_step at (in_dict ps ∷ outer) m ≡ ended (R.Bad at W.Letter)
key_letter at ps outer M.Int i l d e n = absurd (i refl)
key_letter at ps outer M.List i l d e n = absurd (l refl)
key_letter at ps outer M.Dict i l d e n = absurd (d refl)
key_letter at ps outer M.End i l d e n = absurd (e refl)
key_letter at ps outer M.Colon i l d e n = refl
key_letter at ps outer M.Minus i l d e n = refl
key_letter at ps outer (M.Digit j) i l d e n = absurd (n j refl)
key_letter at ps outer M.Other i l d e n = refl

end_letter : (at : ℕ) (opens : List Open) → AwaitsValue opens M.End → close at opens ≡ ended (R.Bad at W.Letter)
end_letter at [] awaits = refl
end_letter at (in_list vs ∷ outer) awaits = absurd (awaits refl)
end_letter at (in_dict ps ∷ outer) awaits = absurd awaits
end_letter at (in_entry ps k ∷ outer) awaits = refl

pub value_letter : (at : ℕ) (opens : List Open) (m : Mark) → AwaitsValue opens m → m ≢ M.Int → m ≢ M.List → m ≢ M.Dict → ((d : ℕ) → m ≢ M.Digit d)
    → start_step at opens m ≡ ended (R.Bad at W.Letter)
value_letter at opens M.Int awaits i l d n = absurd (i refl)
value_letter at opens M.List awaits i l d n = absurd (l refl)
value_letter at opens M.Dict awaits i l d n = absurd (d refl)
value_letter at opens M.End awaits i l d n = end_letter at opens awaits
value_letter at opens M.Colon awaits i l d n = refl
value_letter at opens M.Minus awaits i l d n = refl
value_letter at opens (M.Digit j) awaits i l d n = absurd (n j refl)
value_letter at opens M.Other awaits i l d n = refl

pub awaits_place : (opens : List Open) (m : Mark) → AwaitsValue opens m → IsValuePlace opens
awaits_place [] m awaits = tt
awaits_place (in_list vs ∷ outer) m awaits = tt
awaits_place (in_dict ps ∷ outer) m awaits = awaits
awaits_place (in_entry ps k ∷ outer) m awaits = tt

pub no_ok : {A : Type 0} (P : A → Type 0) (stop : Stop) (r : Result A Stop) → IsErrAnd r (λ e. e ≡ stop) → IfOk r P
no_ok P stop r is = let p = err_from_is_err_and r is in subst (λ x. IfOk x P) (sym p.1) tt
