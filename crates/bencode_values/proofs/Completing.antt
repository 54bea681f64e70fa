-- Each state that goes on can be led to a value: what was read so far begins a spelling.
use Rattle.std.proofs.Common.{◌≡◌, ℕ, pos, suc, zero, ◌+◌, ◌<◌, true, List, [], ◌∷◌, ◌++◌, sym, ap, subst, ◌∙◌, length, arith}
use Rattle.std.specs.List.{AllByRecursion}
use Rattle.std.proofs.lemmas.List.{length-append, length-replicate}
use Rattle.std.specs.Prelude.{replicate}
use Rattle.bencode_values.specs.declared.value.Key.{Key}
use Rattle.bencode_values.specs.declared.value.Key.TheVariants as K
use Rattle.bencode_values.specs.declared.value.Value.{Value}
use Rattle.bencode_values.specs.declared.value.Value.TheVariants as V
use Rattle.bencode_values.specs.declared.value.Pair.{Pair}
use Rattle.bencode_values.specs.declared.reading.Read.TheVariants as R
use Rattle.bencode_values.specs.Reading.{Open, in_list, in_dict, in_entry, IsValuePlace, AreOpen}
use Rattle.bencode_values.specs.Steps.{Token, start, sign, minus, zero_int, number, zero_length, size, string, State, going, ended, int_of, value_of, deliver, deliver_key, feed}
use Rattle.bencode_values.proofs.Parts.{TokenFits}
use Rattle.bencode_values.proofs.Feeding.{feed-going, feed-one, feed-append, feed-ended, feed-string}

abbrev pub AreBytes : List ℕ → Type 0
AreBytes bytes = AllByRecursion (λ b. b < 256) bytes

-- bytes that lead a state, after n bytes, to a value
pub record Leads (s : State) (n : ℕ) (rest : List ℕ) : Type 0 where
  pub value : Value
  pub bytes : AreBytes rest
  pub ends : feed s rest ≡ ended (R.Whole value (n + length rest))

abbrev Done : State → ℕ → Type 0
Done s n = (rest : List ℕ) × Leads s n rest

abbrev pub Completes : State → ℕ → Type 0
Completes s n = (b : ℕ) × (more : List ℕ) × Leads s n (b ∷ more)

pub bytes-append : (xs ys : List ℕ) → AreBytes xs → AreBytes ys → AreBytes (xs ++ ys)
bytes-append [] ys x y = y
bytes-append (b ∷ xs) ys x y = (x.0, bytes-append xs ys x.1 y)

leads_after : (s t : State) (n : ℕ) (xs ys : List ℕ) → feed s xs ≡ t → AreBytes xs → Leads t (n + length xs) ys → Leads s n (xs ++ ys)
leads_after s t n xs ys e small h = record {
  value = h.value;
  bytes = bytes-append xs ys small h.bytes;
  ends = let longer = length-append xs ys in
      feed-append s xs ys ∙ ap (λ u. feed u ys) e ∙ h.ends ∙ ap (λ m. ended (R.Whole h.value m)) (omega arith);
}

after : (s t : State) (n b : ℕ) (xs : List ℕ) → feed s (b ∷ xs) ≡ t → AreBytes (b ∷ xs) → Done t (n + length (b ∷ xs)) → Completes s n
after s t n b xs e small h = (b, xs ++ h.0, leads_after s t n (b ∷ xs) h.0 e small h.1)

as_done : (s : State) (n : ℕ) → Completes s n → Done s n
as_done s n h = (h.0 ∷ h.1, h.2)

-- only the innermost may wait for a key
abbrev Nested : List Open → Type 0
Nested [] = Unit {0}
Nested (o ∷ outer) = IsValuePlace outer × Nested outer

nested : (opens : List Open) → AreOpen opens → Nested opens
nested [] h = tt
nested (o ∷ outer) h = (h.2, nested outer h.3)

one_byte : (b : ℕ) → b < 256 → AreBytes (b ∷ [])
one_byte b h = (h, tt)

two_bytes : (b c : ℕ) → b < 256 → c < 256 → AreBytes (b ∷ c ∷ [])
two_bytes b c h g = (h, (g, tt))

deliver_done : (opens : List Open) (n : ℕ) (v : Value) → IsValuePlace opens → Nested opens → Done (deliver n opens v) n
deliver_done [] n v place nest = ([], record { value = v; bytes = tt; ends = feed-ended _ [] ∙ ap (λ m. ended (R.Whole v m)) (omega arith) })
deliver_done (in_list vs ∷ outer) n v place nest = as_done _ n (after _ (deliver (n + 1) outer (V.List (vs ++ v ∷ []))) n 101 [] (feed-one n _ start 101) (one_byte 101 (omega arith))
    (deliver_done outer (n + 1) (V.List (vs ++ v ∷ [])) nest.0 nest.1))
deliver_done (in_dict ps ∷ outer) n v place nest = absurd place
deliver_done (in_entry ps k ∷ outer) n v place nest =
    let more : List Pair = ps ++ record { key = k; value = v } ∷ [] in
    as_done _ n (after _ (deliver (n + 1) outer (V.Dict more)) n 101 [] (feed-one n _ start 101) (one_byte 101 (omega arith))
    (deliver_done outer (n + 1) (V.Dict more) nest.0 nest.1))

-- an empty string, as a key or a value
empty_string : (opens : List Open) (n : ℕ) → feed (going n opens start) (48 ∷ 58 ∷ []) ≡ deliver_key (n + 1 + 1) opens (K.Bytes [])
empty_string opens n = feed-going n opens start 48 (58 ∷ []) ∙ feed-one (n + 1) opens zero_length 58

at : (s : State) (m n : ℕ) → m ≡ n → Done s m → Done s n
at s m n e h = subst (Done s) e h

start_completes : (opens : List Open) (n : ℕ) → Nested opens → Completes (going n opens start) n
start_completes [] n nest = after _ _ n 48 (58 ∷ []) (empty_string [] n) (two_bytes 48 58 (omega arith) (omega arith)) (at _ (n + 1 + 1) _ (omega arith) (deliver_done [] (n + 1 + 1) (V.Bytes []) tt tt))
start_completes (in_list vs ∷ outer) n nest = after _ (deliver (n + 1) outer (V.List vs)) n 101 [] (feed-one n _ start 101) (one_byte 101 (omega arith)) (deliver_done outer (n + 1) (V.List vs) nest.0 nest.1)
start_completes (in_dict ps ∷ outer) n nest = after _ (deliver (n + 1) outer (V.Dict ps)) n 101 [] (feed-one n _ start 101) (one_byte 101 (omega arith)) (deliver_done outer (n + 1) (V.Dict ps) nest.0 nest.1)
start_completes (in_entry ps k ∷ outer) n nest = after _ _ n 48 (58 ∷ []) (empty_string (in_entry ps k ∷ outer) n) (two_bytes 48 58 (omega arith) (omega arith))
    (at _ (n + 1 + 1) _ (omega arith) (deliver_done (in_entry ps k ∷ outer) (n + 1 + 1) (V.Bytes []) tt nest))

key_done : (opens : List Open) (n : ℕ) (k : Key) → Nested opens → Done (deliver_key n opens k) n
key_done [] n k nest = deliver_done [] n (value_of k) tt nest
key_done (in_list vs ∷ outer) n k nest = deliver_done (in_list vs ∷ outer) n (value_of k) tt nest
key_done (in_dict ps ∷ outer) n k nest = as_done _ n (start_completes (in_entry ps k ∷ outer) n nest)
key_done (in_entry ps j ∷ outer) n k nest = deliver_done (in_entry ps j ∷ outer) n (value_of k) tt nest

abbrev zeros : ℕ → List ℕ
zeros k = replicate k 48

zeros_bytes : (k : ℕ) → AreBytes (zeros k)
zeros_bytes zero = tt
zeros_bytes (suc k) = (omega arith, zeros_bytes k)

zeros_length : (k : ℕ) → length (zeros k) ≡ k
zeros_length k = length-replicate k 48

string_completes : (n : ℕ) (opens : List Open) (k : ℕ) (so_far : List ℕ) → Nested opens → 0 < k → Completes (going n opens (string k so_far)) n
string_completes n opens zero so_far nest positive = absurd (omega arith)
string_completes n opens (suc k) so_far nest positive =
    let many = zeros_length (suc k) in
    after _ _ n 48 (zeros k) (feed-string n opens (suc k) so_far (zeros (suc k)) positive many) (zeros_bytes (suc k))
    (at _ (n + suc k) _ (ap (λ l. n + l) (sym many)) (key_done opens (n + suc k) (K.Bytes (so_far ++ zeros (suc k))) nest))

token_completes : (n : ℕ) (opens : List Open) (token : Token) → Nested opens → TokenFits token → Completes (going n opens token) n
token_completes n opens start nest fits = start_completes opens n nest
token_completes n opens sign nest fits = after _ _ n 48 (101 ∷ []) (feed-going n opens sign 48 (101 ∷ []) ∙ feed-one (n + 1) opens zero_int 101) (two_bytes 48 101 (omega arith) (omega arith))
    (at _ (n + 1 + 1) _ (omega arith) (key_done opens (n + 1 + 1) (K.Int (pos 0)) nest))
token_completes n opens minus nest fits = after _ _ n 49 (101 ∷ []) (feed-going n opens minus 49 (101 ∷ []) ∙ feed-one (n + 1) opens (number true 1) 101) (two_bytes 49 101 (omega arith) (omega arith))
    (at _ (n + 1 + 1) _ (omega arith) (key_done opens (n + 1 + 1) (K.Int (int_of true 1)) nest))
token_completes n opens zero_int nest fits = after _ _ n 101 [] (feed-one n opens zero_int 101) (one_byte 101 (omega arith)) (key_done opens (n + 1) (K.Int (pos 0)) nest)
token_completes n opens (number negative k) nest fits = after _ _ n 101 [] (feed-one n opens (number negative k) 101) (one_byte 101 (omega arith)) (key_done opens (n + 1) (K.Int (int_of negative k)) nest)
token_completes n opens zero_length nest fits = after _ _ n 58 [] (feed-one n opens zero_length 58) (one_byte 58 (omega arith)) (key_done opens (n + 1) (K.Bytes []) nest)
token_completes n opens (size k) nest fits = after _ _ n 58 [] (feed-one n opens (size k) 58) (one_byte 58 (omega arith)) (as_done _ (n + 1) (string_completes (n + 1) opens k [] nest fits.0))
token_completes n opens (string k so_far) nest fits = string_completes n opens k so_far nest fits.0

pub completes : (n : ℕ) (opens : List Open) (token : Token) → AreOpen opens → TokenFits token → Completes (going n opens token) n
completes n opens token h fits = token_completes n opens token (nested opens h) fits
