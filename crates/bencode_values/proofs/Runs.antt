-- What the bytes are, by the answer that reading them comes to.
use Rattle.std.proofs.Common.{◌≡◌, ℕ, suc, zero, ◌+◌, ◌<◌, ◌≤◌, List, [], ◌∷◌, ◌++◌, refl, sym, ap, subst, ◌∙◌, length, take, drop, get_or, arith, append_assoc}
use Rattle.std.proofs.lemmas.List.{append-nil, length-append, length-take-le, take-append-drop}
use Rattle.std.proofs.Math.Seq.{take-append_seam}
use Rattle.bencode_values.specs.declared.value.Value.{Value}
use Rattle.bencode_values.specs.declared.reading.Read.{Read}
use Rattle.bencode_values.specs.declared.reading.Read.TheVariants as R
use Rattle.bencode_values.specs.declared.reading.Why.{Why}
use Rattle.bencode_values.specs.Grammar.{spelled, Fits}
use Rattle.bencode_values.specs.Reading.{Open, IsProperPrefix, BeginsWith, IsDead, IsFirstDead, IsReason}
use Rattle.bencode_values.specs.Steps.{Token, State, going, ended, token_step, step, feed}
use Rattle.bencode_values.proofs.Parts.{Describes, After}
use Rattle.bencode_values.proofs.Forward.{token_after}
use Rattle.bencode_values.proofs.Feeding.{feed-nil, feed-cons, feed-append, feed-ended, feed-one, step-going, step-ended, feed-spelled}
use Rattle.bencode_values.proofs.Completing.{AreBytes, completes, bytes-append}
use Rattle.bencode_values.proofs.Contexts.{begin}
use Rattle.bencode_values.proofs.Reasons.{reason}

-- the byte at which reading came to an answer
pub record Stops (bytes : List ℕ) (answer : Read) : Type 0 where
  pub front : List ℕ
  pub byte : ℕ
  pub rest : List ℕ
  pub count : ℕ
  pub opens : List Open
  pub token : Token
  pub describes : Describes count opens token front
  pub reached : feed begin front ≡ going count opens token
  pub stops : token_step count opens token byte ≡ ended answer
  pub after : After (ended answer) (front ++ byte ∷ [])
  pub whole : bytes ≡ (front ++ byte ∷ []) ++ rest

abbrev pub Ran : State → List ℕ → Type 0
Ran (going n opens token) bytes = Describes n opens token bytes
Ran (ended answer) bytes = Stops bytes answer

stopped_more : (bytes : List ℕ) (answer : Read) (b : ℕ) → Stops bytes answer → Stops (bytes ++ b ∷ []) answer
stopped_more bytes answer b h = record {
  front = h.front;
  byte = h.byte;
  rest = h.rest ++ b ∷ [];
  count = h.count;
  opens = h.opens;
  token = h.token;
  describes = h.describes;
  reached = h.reached;
  stops = h.stops;
  after = h.after;
  whole = ap (λ l. l ++ b ∷ []) h.whole ∙ append_assoc (h.front ++ h.byte ∷ []) h.rest (b ∷ []);
}

ran_to : (n : ℕ) (opens : List Open) (token : Token) (front : List ℕ) (b : ℕ) (t : State) → feed begin front ≡ going n opens token → Describes n opens token front
    → token_step n opens token b ≡ t → After t (front ++ b ∷ []) → Ran t (front ++ b ∷ [])
ran_to n opens token front b (going m more next) reached d e h = h
ran_to n opens token front b (ended answer) reached d e h = record {
  front = front;
  byte = b;
  rest = [];
  count = n;
  opens = opens;
  token = token;
  describes = d;
  reached = reached;
  stops = e;
  after = h;
  whole = sym (append-nil _);
}

ran_step : (s : State) (front : List ℕ) (b : ℕ) → b < 256 → feed begin front ≡ s → Ran s front → Ran (step s b) (front ++ b ∷ [])
ran_step (going n opens token) front b small reached d = subst (λ t. Ran t (front ++ b ∷ [])) (sym (step-going n opens token b))
    (ran_to n opens token front b (token_step n opens token b) reached d refl (token_after n opens token front b small d))
ran_step (ended answer) front b small reached d = subst (λ t. Ran t (front ++ b ∷ [])) (sym (step-ended answer b)) (stopped_more front answer b d)

ran_on : (rest front : List ℕ) (s : State) → AreBytes rest → feed begin front ≡ s → Ran s front → Ran (feed s rest) (front ++ rest)
ran_on [] front s small reached h = subst (λ t. Ran t (front ++ [])) (sym (feed-nil s)) (subst (Ran s) (sym (append-nil front)) h)
ran_on (b ∷ rest) front s small reached h =
    let next : feed begin (front ++ b ∷ []) ≡ step s b = feed-append begin front (b ∷ []) ∙ ap (λ t. feed t (b ∷ [])) reached ∙ feed-cons s b [] ∙ feed-nil (step s b) in
    let more = ran_on rest (front ++ b ∷ []) (step s b) small.1 next (ran_step s front b small.0 reached h) in
    subst (λ t. Ran t (front ++ b ∷ rest)) (sym (feed-cons s b rest)) (subst (Ran (feed (step s b) rest)) (append_assoc front (b ∷ []) rest) more)

pub ran : (bytes : List ℕ) → AreBytes bytes → Ran (feed begin bytes) bytes
ran bytes small = ran_on bytes [] begin small (feed-nil begin) (record { fits = tt; token_fits = tt; count = refl; parts = refl })

no_length : (xs : List ℕ) → length xs ≡ 0 → xs ≡ []
no_length [] h = refl
no_length (x ∷ xs) h = absurd (omega arith)

append_empty : (xs ys : List ℕ) → xs ++ ys ≡ [] → ys ≡ []
append_empty [] ys h = h
append_empty (x ∷ xs) ys h = cc

-- bytes within the limits of a value lead to it
pub value_read : (v : Value) → Fits 32 v → feed begin (spelled v) ≡ ended (R.Whole v (length (spelled v)))
value_read v fits = feed-spelled v 0 [] tt fits ∙ ap (λ n. ended (R.Whole v n)) (omega arith)

take_front : (xs ys : List ℕ) (n : ℕ) → n ≡ length xs → take n (xs ++ ys) ≡ xs
take_front xs ys n e = ap (λ k. take k (xs ++ ys)) e ∙ take-append_seam xs ys

take_whole : (xs : List ℕ) (n : ℕ) → n ≡ length xs → take n xs ≡ xs
take_whole xs n e = ap (take n) (sym (append-nil xs)) ∙ take_front xs [] n e

get_here : (xs ys : List ℕ) (y : ℕ) → get_or ((xs ++ y ∷ []) ++ ys) (length xs) 0 ≡ y
get_here [] ys y = refl
get_here (x ∷ xs) ys y = get_here xs ys y

get_front : (xs ys : List ℕ) (y n : ℕ) → n ≡ length xs → get_or ((xs ++ y ∷ []) ++ ys) n 0 ≡ y
get_front xs ys y n e = ap (λ k. get_or ((xs ++ y ∷ []) ++ ys) k 0) e ∙ get_here xs ys y

bytes_front : (xs ys : List ℕ) → AreBytes (xs ++ ys) → AreBytes xs
bytes_front [] ys h = tt
bytes_front (x ∷ xs) ys h = (h.0, bytes_front xs ys h.1)

bytes_take : (n : ℕ) (bytes : List ℕ) → AreBytes bytes → AreBytes (take n bytes)
bytes_take n bytes h = bytes_front (take n bytes) (drop n bytes) (subst AreBytes (sym (take-append-drop n bytes)) h)

stops_at : (bytes : List ℕ) (answer : Read) → AreBytes bytes → feed begin bytes ≡ ended answer → Stops bytes answer
stops_at bytes answer small e = subst (λ t. Ran t bytes) e (ran bytes small)

describes_at : (bytes : List ℕ) (n : ℕ) (opens : List Open) (token : Token) → AreBytes bytes → feed begin bytes ≡ going n opens token → Describes n opens token bytes
describes_at bytes n opens token small e = subst (λ t. Ran t bytes) e (ran bytes small)

-- a value that was read is spelled by the bytes that were counted
pub whole_reads : (bytes : List ℕ) (v : Value) (n : ℕ) → AreBytes bytes → feed begin bytes ≡ ended (R.Whole v n) → BeginsWith bytes v n
whole_reads bytes v n small e =
    let s = stops_at bytes (R.Whole v n) small e in
    let count = s.after.count in
    let longer = ap length s.whole ∙ length-append (s.front ++ s.byte ∷ []) s.rest in
    record {
      limits = s.after.fits;
      within = omega arith;
      spells = ap (take n) s.whole ∙ take_front (s.front ++ s.byte ∷ []) s.rest n count ∙ s.after.parts;
    }

-- bytes that end with a value are its spelling
leads_spells : (bytes : List ℕ) (v : Value) → AreBytes bytes → feed begin bytes ≡ ended (R.Whole v (length bytes)) → Fits 32 v × (spelled v ≡ bytes)
leads_spells bytes v small e =
    let h = whole_reads bytes v (length bytes) small e in
    (h.limits, sym h.spells ∙ take_whole bytes (length bytes) refl)

-- bytes after which reading goes on are a part of a spelling
pub part_reads : (bytes : List ℕ) (n : ℕ) (opens : List Open) (token : Token) → AreBytes bytes → feed begin bytes ≡ going n opens token → IsProperPrefix bytes
part_reads bytes n opens token small e =
    let d = describes_at bytes n opens token small e in
    let c = completes n opens token d.fits d.token_fits in
    let rest : List ℕ = c.0 ∷ c.1 in
    let led : feed begin (bytes ++ rest) ≡ ended (R.Whole c.2.value (length (bytes ++ rest))) =
    feed-append begin bytes rest ∙ ap (λ s. feed s rest) e ∙ c.2.ends ∙ ap (λ m. ended (R.Whole c.2.value m)) (ap (λ m. m + length rest) d.count ∙ sym (length-append bytes rest)) in
    let spells = leads_spells (bytes ++ rest) c.2.value (bytes-append bytes rest small c.2.bytes) led in
    (c.2.value, rest, spells.0, (λ empty. cc), spells.1)

-- reading a part of a spelling comes to no answer
pub part_goes : (bytes : List ℕ) (answer : Read) → AreBytes bytes → IsProperPrefix bytes → feed begin bytes ≡ ended answer → ⊥
part_goes bytes answer small (v, rest, fits, more, spells) e =
    let all : feed begin (bytes ++ rest) ≡ ended (R.Whole v (length (spelled v))) = ap (feed begin) (sym spells) ∙ value_read v fits in
    let stays : feed begin (bytes ++ rest) ≡ ended answer = feed-append begin bytes rest ∙ ap (λ s. feed s rest) e ∙ feed-ended answer rest in
    let same : ended answer ≡ ended (R.Whole v (length (spelled v))) = sym stays ∙ all in
    let h = whole_reads bytes v (length (spelled v)) small (e ∙ same) in
    let within = h.within in
    let longer = ap length spells ∙ length-append bytes rest in
    more (no_length rest (omega arith))

-- a spelling at the front is read
pub whole_found : (bytes : List ℕ) (v : Value) (n : ℕ) → BeginsWith bytes v n → feed begin bytes ≡ ended (R.Whole v n)
whole_found bytes v n h =
    let count : length (spelled v) ≡ n = sym (ap length h.spells) ∙ length-take-le n bytes h.within in
    ap (feed begin) (sym (take-append-drop n bytes) ∙ ap (λ l. l ++ drop n bytes) h.spells) ∙ feed-append begin (spelled v) (drop n bytes)
    ∙ ap (λ s. feed s (drop n bytes)) (value_read v h.limits) ∙ feed-ended _ (drop n bytes) ∙ ap (λ m. ended (R.Whole v m)) count

-- the bytes up to a refused one are dead
refused_dead : (bytes : List ℕ) (place : ℕ) (why : Why) → AreBytes bytes → feed begin bytes ≡ ended (R.Bad place why) → IsDead bytes
refused_dead bytes place why small e = record {
  begins = λ h. part_goes bytes (R.Bad place why) small h e;
  holds = λ v n h. (let x = whole_found bytes v n h in cc);
}

-- a front of a part of a spelling is one
pub front_part : (bytes : List ℕ) (n : ℕ) → IsProperPrefix bytes → IsProperPrefix (take n bytes)
front_part bytes n (v, rest, fits, more, spells) =
    (v, drop n bytes ++ rest, fits, (λ empty. more (append_empty (drop n bytes) rest empty)), spells ∙ ap (λ l. l ++ rest) (sym (take-append-drop n bytes)) ∙ append_assoc (take n bytes) (drop n bytes) rest)

pub take_less : (bytes : List ℕ) (m n : ℕ) → m ≤ n → take m (take n bytes) ≡ take m bytes
take_less [] zero n h = refl
take_less [] (suc m) zero h = absurd (omega arith)
take_less [] (suc m) (suc n) h = refl
take_less (b ∷ bytes) zero n h = refl
take_less (b ∷ bytes) (suc m) zero h = absurd (omega arith)
take_less (b ∷ bytes) (suc m) (suc n) h = ap (λ l. b ∷ l) (take_less bytes m n (omega arith))

pub bad_reads : (bytes : List ℕ) (place : ℕ) (why : Why) → AreBytes bytes → feed begin bytes ≡ ended (R.Bad place why)
    → IsFirstDead bytes place × IsReason (take place bytes) (get_or bytes place 0) why
bad_reads bytes place why small e =
    let s = stops_at bytes (R.Bad place why) small e in
    let ends : place + 1 ≡ length (s.front ++ s.byte ∷ []) = s.after in
    let at : place ≡ length s.front = let longer = length-append s.front (s.byte ∷ []) in omega arith in
    let longer = ap length s.whole ∙ length-append (s.front ++ s.byte ∷ []) s.rest in
    let before : take place bytes ≡ s.front = ap (take place) (s.whole ∙ append_assoc s.front (s.byte ∷ []) s.rest) ∙ take_front s.front (s.byte ∷ [] ++ s.rest) place at in
    let with_it : take (place + 1) bytes ≡ s.front ++ s.byte ∷ [] = ap (take (place + 1)) s.whole ∙ take_front (s.front ++ s.byte ∷ []) s.rest (place + 1) ends in
    let byte : get_or bytes place 0 ≡ s.byte = ap (λ l. get_or l place 0) s.whole ∙ get_front s.front s.rest s.byte place at in
    let refused : feed begin (s.front ++ s.byte ∷ []) ≡ ended (R.Bad place why) =
    feed-append begin s.front (s.byte ∷ []) ∙ ap (λ t. feed t (s.byte ∷ [])) s.reached ∙ feed-one s.count s.opens s.token s.byte ∙ s.stops in
    let small_whole : AreBytes ((s.front ++ s.byte ∷ []) ++ s.rest) = subst AreBytes s.whole small in
    let small_front : AreBytes (s.front ++ s.byte ∷ []) = bytes_front (s.front ++ s.byte ∷ []) s.rest small_whole in
    let alive : IsProperPrefix (take place bytes) = subst IsProperPrefix (sym before) (part_reads s.front s.count s.opens s.token (bytes_front s.front (s.byte ∷ []) small_front) s.reached) in (
      record {
        within = omega arith;
        dead = subst IsDead (sym with_it) (refused_dead (s.front ++ s.byte ∷ []) place why small_front refused);
        least = λ k less dead. dead.begins (subst IsProperPrefix (take_less bytes (k + 1) place (omega arith)) (front_part (take place bytes) (k + 1) alive));
        alive = alive;
      },
      subst (λ l. IsReason l (get_or bytes place 0) why) (sym before) (subst (λ b. IsReason s.front b why) (sym byte) (reason s.count s.opens s.token s.front s.byte place why s.describes s.stops refused)),
    )
