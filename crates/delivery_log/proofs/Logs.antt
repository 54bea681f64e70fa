-- Logs that grow.
use Rattle.std.proofs.Common.{◌≡◌, ℕ, Bool, true, false, ◌&&◌, ◌||◌, List, [], ◌∷◌, ◌++◌, cond, refl, sym, ap, ◌∙◌, arith, append_assoc, append-nil}
use Rattle.std.specs.Prelude.{All, nat_eq}
use Rattle.std.specs.List.{list_any}
use Rattle.std.proofs.lemmas.Bool.{or_parts, and_parts, eq-eqb, false_from_ne_true, false≢true}
use Rattle.std.proofs.lemmas.Bool.Decides.{nat_tests}
use Rattle.std.proofs.lemmas.List.Elements.{All-head, All-tail, All-weaker}
use Rattle.xp_base.specs.declared.coding.Coding.{Coding}
use Rattle.xp_base.specs.declared.coding.Coding.TheVariants as C
use Rattle.xp_base.specs.Points.{is_in}
use Rattle.delivery_model.specs.Events.{same_coding}
use Rattle.delivery_log.specs.Log.{Entry, Fresh, Kept, Damaged, JobCaptured, DrawQueued, DrawWritten}
use Rattle.delivery_log.specs.Stale.{is_origin, since, since_origin, is_capture, is_covering, is_queueing, is_repair, is_lossy_over}
use Rattle.delivery_log.specs.Agreement.{queued_jobs}

-- some entry passes a test
pub any_entry-append : (test : Entry → Bool) (log more : List Entry) → list_any test (log ++ more) ≡ (list_any test log || list_any test more)
any_entry-append test [] more = refl
any_entry-append test (e ∷ log) more = grind (arith, nat_tests, any_entry-append test log more)

any_same : (f g : Entry → Bool) (log : List Entry) → ((e : Entry) → f e ≡ g e) → list_any f log ≡ list_any g log
any_same f g [] same = refl
any_same f g (e ∷ log) same = rw (same e, any_same f g log same) refl

none_less : (f g : Entry → Bool) (log : List Entry) → ((e : Entry) → f e ≡ true → g e ≡ true) → list_any g log ≡ false → list_any f log ≡ false
none_less f g [] less none = refl
none_less f g (e ∷ log) less none =
    let parts = or_parts (g e) (list_any g log) none in
    let first : f e ≡ false = false_from_ne_true (f e) (λ is. false≢true (sym parts.0 ∙ less e is)) in
    rw (first, none_less f g log less parts.1) refl

-- what happened after the origin
since-append : (x y : ℕ) (after log more : List Entry) → since x y after (log ++ more) ≡ since x y (since x y after log) more
since-append x y after [] more = refl
since-append x y after (e ∷ log) more = since-append x y (cond (is_origin x y e) [] (after ++ e ∷ [])) log more

since_quiet : (x y : ℕ) (after more : List Entry) → list_any (is_origin x y) more ≡ false → since x y after more ≡ after ++ more
since_quiet x y after [] quiet = sym (append-nil after)
since_quiet x y after (e ∷ more) quiet =
    let parts = or_parts (is_origin x y e) (list_any (is_origin x y) more) quiet in
    rw parts.0 (since_quiet x y (after ++ e ∷ []) more parts.1 ∙ append_assoc after (e ∷ []) more)

pub since_origin-append : (x y : ℕ) (log more : List Entry) → list_any (is_origin x y) more ≡ false → since_origin x y (log ++ more) ≡ since_origin x y log ++ more
since_origin-append x y log more quiet = since-append x y [] log more ∙ since_quiet x y (since_origin x y log) more quiet

pub since_origin-now : (x y : ℕ) (log : List Entry) (e : Entry) → is_origin x y e ≡ true → since_origin x y (log ++ e ∷ []) ≡ []
since_origin-now x y log e is = since-append x y [] log (e ∷ []) ∙ rw is refl

-- a covering entry captures
covers_captures : (x y : ℕ) (coding : Coding) (k : ℕ) (e : Entry) → is_covering x y coding k e ≡ true → is_capture k e ≡ true
covers_captures x y coding k Fresh is = absurd (false≢true is)
covers_captures x y coding k (Kept w h) is = absurd (false≢true is)
covers_captures x y coding k (Damaged r) is = absurd (false≢true is)
covers_captures x y coding k (JobCaptured i r c) is = (and_parts (nat_eq i k) (same_coding c coding && is_in r x y) is).0
covers_captures x y coding k (DrawQueued i s) is = absurd (false≢true is)
covers_captures x y coding k (DrawWritten s) is = absurd (false≢true is)

pub covering_none : (x y : ℕ) (coding : Coding) (k : ℕ) (log : List Entry) → list_any (is_capture k) log ≡ false → list_any (is_covering x y coding k) log ≡ false
covering_none x y coding k log none = none_less (is_covering x y coding k) (is_capture k) log (covers_captures x y coding k) none

pub covering_stays : (x y : ℕ) (coding : Coding) (k : ℕ) (log more : List Entry) → list_any (is_capture k) more ≡ false
    → list_any (is_covering x y coding k) (log ++ more) ≡ list_any (is_covering x y coding k) log
covering_stays x y coding k log more none = any_entry-append (is_covering x y coding k) log more ∙ grind (arith, nat_tests, covering_none x y coding k more none)

-- which entry queues a draw
is_queued : ℕ → Entry → Bool
is_queued s e = is_queueing (λ k. true) s e

queueing_less : (test : ℕ → Bool) (s : ℕ) (e : Entry) → is_queueing test s e ≡ true → is_queueing (λ k. true) s e ≡ true
queueing_less test s Fresh is = is
queueing_less test s (Kept w h) is = is
queueing_less test s (Damaged r) is = is
queueing_less test s (JobCaptured k r coding) is = is
queueing_less test s (DrawQueued k i) is = grind (arith, nat_tests)
queueing_less test s (DrawWritten i) is = is

queueing_none : (test : ℕ → Bool) (s : ℕ) (log : List Entry) → list_any (is_queueing (λ k. true) s) log ≡ false → list_any (is_queueing test s) log ≡ false
queueing_none test s log none = none_less (is_queueing test s) (is_queueing (λ k. true) s) log (queueing_less test s) none

-- two tests that agree on the numbers that were queued
queueing_alike : (f g : ℕ → Bool) (s : ℕ) (log : List Entry) → All (λ (k : ℕ). f k ≡ g k) (queued_jobs log) → list_any (is_queueing f s) log ≡ list_any (is_queueing g s) log
queueing_alike f g s [] same = refl
queueing_alike f g s (Fresh ∷ log) same = queueing_alike f g s log same
queueing_alike f g s (Kept w h ∷ log) same = queueing_alike f g s log same
queueing_alike f g s (Damaged r ∷ log) same = queueing_alike f g s log same
queueing_alike f g s (JobCaptured k r coding ∷ log) same = queueing_alike f g s log same
queueing_alike f g s (DrawQueued k i ∷ log) same =
    let first : f k ≡ g k = All-head (λ (k : ℕ). f k ≡ g k) k (queued_jobs log) same in
    rw (first, queueing_alike f g s log (All-tail (λ (k : ℕ). f k ≡ g k) k (queued_jobs log) same)) refl
queueing_alike f g s (DrawWritten i ∷ log) same = queueing_alike f g s log same

all_jobs : (P Q : ℕ → Type 0) (ks : List ℕ) → ((k : ℕ) → P k → Q k) → All P ks → All Q ks
all_jobs P Q ks weaker all = All-weaker P Q weaker ks all

-- what the log says of a draw stays, where no more entry is an origin of the point, captures a number that was queued before, or
-- queues this draw
pub repair_stays : (x y : ℕ) (log more : List Entry) (s : ℕ) → list_any (is_origin x y) more ≡ false → All (λ (k : ℕ). list_any (is_capture k) more ≡ false) (queued_jobs log)
    → list_any (is_queueing (λ k. true) s) more ≡ false → is_repair x y (log ++ more) s ≡ is_repair x y log s
repair_stays x y log more s quiet old unqueued =
    any_entry-append (is_queueing now s) log more ∙ grind (arith, nat_tests, queueing_none now s more unqueued, alike)
  where
    now : ℕ → Bool
    now k = list_any (is_covering x y C.Exact k) (since_origin x y (log ++ more))

    was : ℕ → Bool
    was k = list_any (is_covering x y C.Exact k) (since_origin x y log)

    alike : list_any (is_queueing now s) log ≡ list_any (is_queueing was s) log
    alike = queueing_alike now was s log (All-weaker (λ (k : ℕ). list_any (is_capture k) more ≡ false) (λ (k : ℕ). now k ≡ was k)
        (λ k none. ap (λ es. list_any (is_covering x y C.Exact k) es) (since_origin-append x y log more quiet) ∙ covering_stays x y C.Exact k (since_origin x y log) more none) (queued_jobs log) old)

pub lossy_stays : (x y : ℕ) (log more : List Entry) (s : ℕ) → All (λ (k : ℕ). list_any (is_capture k) more ≡ false) (queued_jobs log)
    → list_any (is_queueing (λ k. true) s) more ≡ false → is_lossy_over x y (log ++ more) s ≡ is_lossy_over x y log s
lossy_stays x y log more s old unqueued =
    any_entry-append (is_queueing now s) log more ∙ grind (arith, nat_tests, queueing_none now s more unqueued, alike)
  where
    now : ℕ → Bool
    now k = list_any (is_covering x y C.Lossy k) (log ++ more)

    was : ℕ → Bool
    was k = list_any (is_covering x y C.Lossy k) log

    alike : list_any (is_queueing now s) log ≡ list_any (is_queueing was s) log
    alike = queueing_alike now was s log (All-weaker (λ (k : ℕ). list_any (is_capture k) more ≡ false) (λ (k : ℕ). now k ≡ was k)
        (λ k none. covering_stays x y C.Lossy k log more none) (queued_jobs log) old)

-- at the point's origin no draw is a repair
pub repair_ends : (x y : ℕ) (log : List Entry) (e : Entry) (s : ℕ) → is_origin x y e ≡ true → is_repair x y (log ++ e ∷ []) s ≡ false
repair_ends x y log e s is = rw (since_origin-now x y log e is) (nothing (log ++ e ∷ []))
  where
    nothing : (es : List Entry) → list_any (is_queueing (λ k. false) s) es ≡ false
    nothing [] = refl
    nothing (Fresh ∷ es) = nothing es
    nothing (Kept w h ∷ es) = nothing es
    nothing (Damaged r ∷ es) = nothing es
    nothing (JobCaptured k r coding ∷ es) = nothing es
    nothing (DrawQueued k i ∷ es) = grind (arith, nat_tests, nothing es)
    nothing (DrawWritten i ∷ es) = nothing es

-- the draw that an entry queues at the end of the log is what its job is
pub repair_queued : (x y : ℕ) (log : List Entry) (k s : ℕ) → list_any (is_queueing (λ k. true) s) log ≡ false
    → is_repair x y (log ++ DrawQueued k s ∷ []) s ≡ list_any (is_covering x y C.Exact k) (since_origin x y log)
repair_queued x y log k s unqueued = any_entry-append (is_queueing now s) log (DrawQueued k s ∷ []) ∙ rw (queueing_none now s log unqueued, eq-eqb s s refl) last
  where
    now : ℕ → Bool
    now i = list_any (is_covering x y C.Exact i) (since_origin x y (log ++ DrawQueued k s ∷ []))

    last : (now k || false) ≡ list_any (is_covering x y C.Exact k) (since_origin x y log)
    last = grind (arith, nat_tests, ap (λ es. list_any (is_covering x y C.Exact k) es) (since_origin-append x y log (DrawQueued k s ∷ []) refl), covering_stays x y C.Exact k (since_origin x y log) (DrawQueued k s ∷ []) refl)

pub lossy_queued : (x y : ℕ) (log : List Entry) (k s : ℕ) → list_any (is_queueing (λ k. true) s) log ≡ false
    → is_lossy_over x y (log ++ DrawQueued k s ∷ []) s ≡ list_any (is_covering x y C.Lossy k) log
lossy_queued x y log k s unqueued = any_entry-append (is_queueing now s) log (DrawQueued k s ∷ []) ∙ rw (queueing_none now s log unqueued, eq-eqb s s refl) last
  where
    now : ℕ → Bool
    now i = list_any (is_covering x y C.Lossy i) (log ++ DrawQueued k s ∷ [])

    last : (now k || false) ≡ list_any (is_covering x y C.Lossy k) log
    last = grind (arith, nat_tests, covering_stays x y C.Lossy k log (DrawQueued k s ∷ []) refl)
