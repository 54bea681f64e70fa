-- What stands between the bytes and how far a reader is.
use Rattle.std.proofs.Common.{◌≡◌, ℕ, suc, ◌+◌, ◌<◌, ◌≤◌, Bool, true, List, [], ◌∷◌, ◌++◌, map, refl, sym, ap, ◌∙◌, length, append_assoc, ltb}
use Rattle.std.specs.List.{concat, list_all, AllByRecursion}
use Rattle.std.specs.Fmt.{decimal}
use Rattle.std.proofs.lemmas.Bool.{and_parts, and_from, le-leb}
use Rattle.std.proofs.lemmas.List.{append-nil, length-append}
use Rattle.bencode_values.specs.declared.value.Value.{Value}
use Rattle.bencode_values.specs.declared.reading.Read.TheVariants as R
use Rattle.bencode_values.specs.Grammar.{spelled, Fits}
use Rattle.bencode_values.specs.Reading.{Open, context, AreOpen, sign_of, range_of}
use Rattle.bencode_values.specs.Steps.{Token, start, sign, minus, zero_int, number, zero_length, size, string, State, going, ended}

-- the bytes of a token
abbrev pub part_of : Token → List ℕ
part_of start = []
part_of sign = 105 ∷ []
part_of minus = 105 ∷ 45 ∷ []
part_of zero_int = 105 ∷ 48 ∷ []
part_of (number negative k) = 105 ∷ (sign_of negative ++ decimal k)
part_of zero_length = 48 ∷ []
part_of (size k) = decimal k
part_of (string k so_far) = decimal (length so_far + k) ++ 58 ∷ so_far

abbrev pub are_bytes : List ℕ → Bool
are_bytes text = list_all (λ b. ltb b 256) text

-- its limits
abbrev pub TokenFits : Token → Type 0
TokenFits start = Unit {0}
TokenFits sign = Unit {0}
TokenFits minus = Unit {0}
TokenFits zero_int = Unit {0}
TokenFits (number negative k) = (0 < k) × (k ≤ range_of negative)
TokenFits zero_length = Unit {0}
TokenFits (size k) = (0 < k) × (k ≤ 67108864)
TokenFits (string k so_far) = (0 < k) × (length so_far + k ≤ 67108864) × (are_bytes so_far ≡ true)

-- the n bytes that were read are those of what is open and of the token
pub record Describes (n : ℕ) (opens : List Open) (token : Token) (bytes : List ℕ) : Type 0 where
  pub fits : AreOpen opens
  pub token_fits : TokenFits token
  pub count : n ≡ length bytes
  pub parts : bytes ≡ context opens ++ part_of token

pub record Spells (v : Value) (n : ℕ) (bytes : List ℕ) : Type 0 where
  pub fits : Fits 32 v
  pub count : n ≡ length bytes
  pub parts : bytes ≡ spelled v

-- what a state says of the bytes that led to it
abbrev pub After : State → List ℕ → Type 0
After (going n opens token) bytes = Describes n opens token bytes
After (ended (R.Whole v n)) bytes = Spells v n bytes
After (ended (R.Bad place why)) bytes = place + 1 ≡ length bytes
After (ended R.Short) bytes = ⊥
After (ended R.NoMemory) bytes = ⊥

pub all_push : {A : Type 0} (P : A → Type 0) (xs : List A) (x : A) → AllByRecursion P xs → P x → AllByRecursion P (xs ++ x ∷ [])
all_push P [] x h here = (here, tt)
all_push P (y ∷ xs) x h here = (h.0, all_push P xs x h.1 here)

pub concat_push : {A : Type 0} (f : A → List ℕ) (xs : List A) (x : A) → concat (map f (xs ++ x ∷ [])) ≡ concat (map f xs) ++ f x
concat_push f [] x = append-nil (f x)
concat_push f (y ∷ xs) x = ap (λ l. f y ++ l) (concat_push f xs x) ∙ sym (append_assoc (f y) (concat (map f xs)) (f x))

pub bytes_push : (text : List ℕ) (b : ℕ) → are_bytes text ≡ true → b < 256 → are_bytes (text ++ b ∷ []) ≡ true
bytes_push [] b h small = and_from _ _ (le-leb (suc b) 256 small) refl
bytes_push (x ∷ text) b h small = let parts = and_parts _ _ h in and_from _ _ parts.0 (bytes_push text b parts.1 small)

pub length_push : (xs : List ℕ) (b : ℕ) → length (xs ++ b ∷ []) ≡ length xs + 1
length_push xs b = length-append xs (b ∷ [])

-- more bytes after those of what is open
pub context_more : (opens : List Open) (part more : List ℕ) (bytes tail : List ℕ) → bytes ≡ context opens ++ part → part ++ tail ≡ more → bytes ++ tail ≡ context opens ++ more
context_more opens part more bytes tail e h = ap (λ l. l ++ tail) e ∙ append_assoc (context opens) part tail ∙ ap (λ l. context opens ++ l) h
