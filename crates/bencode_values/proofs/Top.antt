-- The whole reader.
use Rattle.std.proofs.Common.{◌≡◌, ◌≢◌, ℕ, suc, ◌+◌, ◌<◌, ◌⊎◌, inl, inr, List, [], ◌∷◌, ◌++◌, refl, sym, ap, subst, ◌∙◌, length, drop, get_or, arith}
use Rattle.std.specs.Prelude.{Result, Ok, Err}
use Rattle.std.proofs.lemmas.List.{length-append}
use Rattle.bencode_values.specs.declared.value.Value.{Value}
use Rattle.bencode_values.specs.declared.reading.Read.{Read}
use Rattle.bencode_values.specs.declared.reading.Read.TheVariants as R
use Rattle.bencode_values.specs.declared.stop.Stop.{Stop}
use Rattle.bencode_values.specs.declared.stop.Stop.TheVariants as S
use Rattle.bencode_values.specs.Grammar.{spelled, IsWithinLimits}
use Rattle.bencode_values.specs.Reading.{Reads}
use Rattle.bencode_values.specs.Steps.{ended, deliver, feed, answer_of}
use Rattle.bencode_values.specs.Coming.{Comes}
use Rattle.bencode_values.proofs.Feeding.{feed-append, feed-ended}
use Rattle.bencode_values.proofs.Completing.{AreBytes}
use Rattle.bencode_values.proofs.Contexts.{begin}
use Rattle.bencode_values.proofs.Runs.{value_read}
use Rattle.bencode_values.proofs.Judged.{reads, only}

pub are_bytes_at : (bytes : List ℕ) → ((i : ℕ) → get_or bytes i 0 < 256) → AreBytes bytes
are_bytes_at [] h = tt
are_bytes_at (b ∷ bytes) h = (h 0, are_bytes_at bytes (λ i. h (suc i)))

abbrev pub Came : List ℕ → Result (Value × ℕ) Stop → Type 0
Came bytes r = Comes bytes 0 begin (λ next v. deliver next [] v) r

abbrev pub read_of : Result (Value × ℕ) Stop → Read
read_of (Ok found) = R.Whole found.0 found.1
read_of (Err S.Short) = R.Short
read_of (Err (S.Bad place why)) = R.Bad place why
read_of (Err S.NoMemory) = R.NoMemory

came_answer : (bytes : List ℕ) (r : Result (Value × ℕ) Stop) → Came bytes r → (answer_of (feed begin bytes) ≡ read_of r) ⊎ (read_of r ≡ R.NoMemory)
came_answer bytes (Ok found) h = inl (ap answer_of (h.2 ∙ feed-ended (R.Whole found.0 found.1) (drop found.1 bytes)))
came_answer bytes (Err S.Short) h = inl h
came_answer bytes (Err (S.Bad place why)) h = inl h
came_answer bytes (Err S.NoMemory) h = inr refl

told_by : (bytes : List ℕ) (answer : Read) → AreBytes bytes → (answer_of (feed begin bytes) ≡ answer) ⊎ (answer ≡ R.NoMemory) → Reads bytes answer
told_by bytes answer small (inl is) = subst (Reads bytes) is (reads bytes small)
told_by bytes answer small (inr none) = subst (Reads bytes) (sym none) tt

-- what the reader answers is so
pub told : (bytes : List ℕ) (r : Result (Value × ℕ) Stop) → AreBytes bytes → Came bytes r → Reads bytes (read_of r)
told bytes r small h = told_by bytes (read_of r) small (came_answer bytes r h)

one_of : (bytes : List ℕ) (mine answer : Read) → answer ≢ R.NoMemory → mine ≢ R.NoMemory → (answer_of (feed begin bytes) ≡ mine) ⊎ (mine ≡ R.NoMemory)
    → (answer_of (feed begin bytes) ≡ answer) ⊎ (answer ≡ R.NoMemory) → mine ≡ answer
one_of bytes mine answer some ample (inl a) (inl b) = sym a ∙ b
one_of bytes mine answer some ample (inl a) (inr b) = absurd (some b)
one_of bytes mine answer some ample (inr a) b = absurd (ample a)

-- what is so is what the reader answers
pub nothing_else : (bytes : List ℕ) (r : Result (Value × ℕ) Stop) → AreBytes bytes → Came bytes r → (answer : Read) → Reads bytes answer → answer ≢ R.NoMemory → read_of r ≢ R.NoMemory → read_of r ≡ answer
nothing_else bytes r small h answer so some ample = one_of bytes (read_of r) answer some ample (came_answer bytes r h) (only bytes answer small so)

empty_rest : (n : ℕ) (rest : List ℕ) → n ≡ n + length rest → rest ≡ []
empty_rest n [] e = refl
empty_rest n (b ∷ rest) e = absurd (omega arith)

-- no spelling begins another
pub no_prefix : (v w : Value) (rest : List ℕ) → IsWithinLimits v → IsWithinLimits w → spelled w ≡ spelled v ++ rest → (v ≡ w) × (rest ≡ [])
no_prefix v w rest first second e =
    let one : feed begin (spelled w) ≡ ended (R.Whole v (length (spelled v))) =
    ap (feed begin) e ∙ feed-append begin (spelled v) rest ∙ ap (λ s. feed s rest) (value_read v first) ∙ feed-ended (R.Whole v (length (spelled v))) rest in
    let other = value_read w second in
    let same : ended (R.Whole v (length (spelled v))) ≡ ended (R.Whole w (length (spelled w))) = sym one ∙ other in
    let value : v ≡ w = cc in
    let count : length (spelled v) ≡ length (spelled w) = cc in
    let longer = ap length e ∙ length-append (spelled v) rest in
    (value, empty_rest (length (spelled v)) rest (omega arith))

-- bytes have one answer
pub one_true : (bytes : List ℕ) (a b : Read) → AreBytes bytes → Reads bytes a → Reads bytes b → a ≢ R.NoMemory → b ≢ R.NoMemory → a ≡ b
one_true bytes a b small x y some ample = one_of bytes a b ample some (only bytes a small x) (only bytes b small y)
