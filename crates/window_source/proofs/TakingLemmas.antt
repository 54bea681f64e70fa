-- The jobs of one capture, as the model's.
use Rattle.std.proofs.Common.{◌≡◌, ◌≢◌, ℕ, zero, suc, ◌+◌, ◌-◌, ◌<◌, ◌≤◌, ◌^◌, Bool, true, false, ◌&&◌, Option, Some, None, List, [], ◌∷◌, ◌++◌, All, map, take, length, get_or, length-append, cond, refl, sym, ◌∙◌, ap, subst, arith}
use Rattle.std.specs.Prelude.{nat_eq, is_some, slice_get}
use Rattle.std.specs.Option.{option_map}
use Rattle.std.specs.List.{AllByRecursion}
use Rattle.std.proofs.lemmas.Bool.{cases_Bool, false≢true}
use Rattle.std.proofs.lemmas.Bool.Decides.{nat_tests}
use Rattle.std.proofs.lemmas.List.Elements.{All-head, All-tail}
use Rattle.std.proofs.lemmas.List.{map-append, take_more}
use Rattle.std.proofs.lemmas.Option.{slice_get_within, get_or_from_slice_get, slice_get-map}
use Rattle.xp_base.specs.Points.{LiesIn, is_in}
use Rattle.rect_regions.specs.PointSets.{SamePoints, HasNone}
use Rattle.rect_regions.specs.BitRows.{AllWithin}
use Rattle.window_model.specs.Desktop.{Window as DeskWindow}
use Rattle.delivery_model.specs.Grids.{Points, points, has as has_mark, cut}
use Rattle.delivery_model.specs.Window.{Job, Sent, Window}
use Rattle.delivery_model.specs.Events.{Planned, is_empty, region_taken, jobs_of, captured}
use Rattle.delivery_model.specs.Plans.{IsPlan}
use Rattle.delivery_model.specs.Laws.{PointsAreAlike}
use Rattle.draw_sequencer.specs.InHand.{HeldJob, job_of, IsFree}
use Rattle.capture_jobs.specs.Captured.{grid_of}
use Rattle.damage_batch.specs.Pending.{BatchSeen}
use Rattle.damage_batch.specs.Delivery.{IsBatchOf}
use Rattle.lossy_refresh.specs.LossyPoints.{LossySeen}
use Rattle.capture_jobs.specs.Planning.{IsPlanOf}
use Rattle.capture_jobs.specs.Jobs.{EncodingJob}
use Rattle.resize_cancel.specs.Delivery.{job_seen, jobs_seen}
use Rattle.window_source.specs.Kept.{JobLies, AreRising, AreSentBefore, IsSource}
use Rattle.window_source.specs.Source.{SourceSeen, seen, window_of, alone}
use Rattle.window_source.specs.Capturing.{carrying, Takes, AllAbove}
use Rattle.window_source.specs.Taking.{AllLieIn, IsMade, AreMade, new_jobs, AreNew}

pub take_next : {A : Type 0} (xs : List A) (k : ℕ) (x : A) → slice_get xs k ≡ Some x → take (k + 1) xs ≡ take k xs ++ x ∷ []
take_next xs k x at =
    let within : k < length xs = slice_get_within xs k x at in
    let here : get_or xs k x ≡ x = get_or_from_slice_get xs k x x at in
    take_more xs k x within ∙ ap (λ y. take k xs ++ y ∷ []) here

all_more : {A : Type 0} (P : A → Type 0) (xs : List A) (x : A) → AllByRecursion P xs → P x → AllByRecursion P (xs ++ x ∷ [])
all_more P [] x all one = (one, tt)
all_more P (y ∷ xs) x all one = (all.0, all_more P xs x all.1 one)

all_at : {A : Type 0} (P : A → Type 0) (xs : List A) (k : ℕ) (x : A) → slice_get xs k ≡ Some x → AllByRecursion P xs → P x
all_at P [] k x at all = absurd (cc at)
all_at {A} P (y ∷ xs) zero x at all =
    let same : y ≡ x = cc at in
    subst (λ (z : A). P z) same all.0
all_at P (y ∷ xs) (suc k) x at all = all_at P xs k x at all.1

pub all_lie : (w h : ℕ) (plan : List Planned) → All (λ (p : Planned). LiesIn w h p.rect) plan → AllLieIn w h plan
all_lie w h [] all = tt
all_lie w h (p ∷ plan) all = (All-head (λ (q : Planned). LiesIn w h q.rect) p plan all, all_lie w h plan (All-tail (λ (q : Planned). LiesIn w h q.rect) p plan all))

and_swap : (a b : Bool) → (a && b) ≡ (b && a)
and_swap true true = refl
and_swap true false = refl
and_swap false true = refl
and_swap false false = refl

and_second : (a b : Bool) → (a && b) ≡ true → b ≡ true
and_second true b both = both
and_second false b both = absurd (false≢true both)

module _ {R : Type 0} (has : R → ℕ → ℕ → Bool) where
  -- all numbers in hand are below this one
  abbrev pub AllBelow : ℕ → List (HeldJob R) → Type 0
  AllBelow n jobs = AllByRecursion (λ (j : HeldJob R). j.number < n) jobs

  pub below_seen : (wide high n : ℕ) (jobs : List (HeldJob R)) → AllAbove n (jobs_seen has wide high jobs) → AllBelow n jobs
  below_seen wide high n [] all = tt
  below_seen wide high n (j ∷ jobs) all = (all.0, below_seen wide high n jobs all.1)

  -- by their places
  pub above_more : (wide high first k : ℕ) (jobs : List (HeldJob R)) (j : HeldJob R) → AllAbove first (take k (jobs_seen has wide high jobs)) → slice_get jobs k ≡ Some j → j.number < first
      → AllAbove first (take (k + 1) (jobs_seen has wide high jobs))
  above_more wide high first k jobs j all at less =
      let seen_at : slice_get (jobs_seen has wide high jobs) k ≡ Some (job_seen has wide high j) = slice_get-map (λ (i : HeldJob R). job_seen has wide high i) jobs k ∙ ap (option_map (λ (i : HeldJob R). job_seen has wide high i)) at in
      subst (λ (l : List Job). AllAbove first l) (sym (take_next (jobs_seen has wide high jobs) k (job_seen has wide high j) seen_at))
      (all_more (λ (i : Job). i.number < first) (take k (jobs_seen has wide high jobs)) (job_seen has wide high j) all less)

  pub not_above : (wide high first k : ℕ) (jobs : List (HeldJob R)) (j : HeldJob R) → slice_get jobs k ≡ Some j → first ≤ j.number → AllAbove first (jobs_seen has wide high jobs) → ⊥
  not_above wide high first k jobs j at most all =
      let less : j.number < first = all_at (λ (i : HeldJob R). i.number < first) jobs k j at (below_seen wide high first jobs all) in
      omega (arith, most, less)

  below_free : (n k : ℕ) (jobs : List (HeldJob R)) → k ≡ n → AllBelow n jobs → IsFree jobs k
  below_free n k [] is all = refl
  below_free n k (j ∷ jobs) is all =
      let other : nat_eq j.number k ≡ false = grind (arith, nat_tests, is, all.0) in
      ap (λ b. cond b (Some j) (job_of jobs k)) other ∙ below_free n k jobs is all.1

  below_more : (n : ℕ) (jobs : List (HeldJob R)) (j : HeldJob R) → j.number ≡ n → AllBelow n jobs → AllBelow (n + 1) (jobs ++ j ∷ [])
  below_more n [] j is all = (omega (arith, is), tt)
  below_more n (i ∷ jobs) j is all = (omega (arith, all.0), below_more n jobs j is all.1)

  module _ (window : DeskWindow) (region : R) where
    pub made_more : (first : ℕ) (plan : List Planned) (jobs : List (HeldJob R)) (p : Planned) (j : HeldJob R) → AreMade has window region first plan jobs
        → IsMade has window region (first + length plan) p j → AreMade has window region first (plan ++ p ∷ []) (jobs ++ j ∷ [])
    made_more first [] [] p j made one =
        let same : first + 0 ≡ first = omega arith in
        (subst (λ n. IsMade has window region n p j) same one, tt)
    made_more first [] (i ∷ jobs) p j made one = absurd made
    made_more first (q ∷ plan) [] p j made one = absurd made
    made_more first (q ∷ plan) (i ∷ jobs) p j made one =
        let same : first + length (q ∷ plan) ≡ first + 1 + length plan = omega arith in
        (made.0, made_more (first + 1) plan jobs p j made.1 (subst (λ n. IsMade has window region n p j) same one))

    pub made_count : (first : ℕ) (plan : List Planned) (jobs : List (HeldJob R)) → AreMade has window region first plan jobs → length jobs ≡ length plan
    made_count first [] [] made = refl
    made_count first [] (j ∷ jobs) made = absurd made
    made_count first (p ∷ plan) [] made = absurd made
    made_count first (p ∷ plan) (j ∷ jobs) made = omega (arith, made_count (first + 1) plan jobs made.1)

    pub made_new : (old : List (HeldJob R)) (first : ℕ) (plan : List Planned) (jobs : List (HeldJob R)) → AllBelow first old → AreMade has window region first plan jobs → AreNew old jobs
    made_new old first [] [] below made = tt
    made_new old first [] (j ∷ jobs) below made = absurd made
    made_new old first (p ∷ plan) [] below made = tt
    made_new old first (p ∷ plan) (j ∷ jobs) below made =
        (below_free first j.number old made.0.numbered below, made.0.waits, made_new (old ++ j ∷ []) (first + 1) plan jobs (below_more first old j made.0.numbered below) made.1)

    pub made_lie : (first : ℕ) (plan : List Planned) (jobs : List (HeldJob R)) → AllLieIn window.w window.h plan → AreMade has window region first plan jobs → AllByRecursion (JobLies has window.w window.h) jobs
    made_lie first [] [] lie made = tt
    made_lie first [] (j ∷ jobs) lie made = absurd made
    made_lie first (p ∷ plan) [] lie made = absurd made
    made_lie first (p ∷ plan) (j ∷ jobs) lie made = (
      record {
        lies = rw made.0.captured lie.0;
        relief = λ x y there. rw made.0.captured (and_second (has region x y) (is_in p.rect x y) (sym (made.0.relieves x y) ∙ there));
      },
      made_lie (first + 1) plan jobs lie.1 made.1,
    )

    above_made : (n first : ℕ) (plan : List Planned) (jobs : List (HeldJob R)) → n < first → AreMade has window region first plan jobs → AllByRecursion (λ (j : HeldJob R). n < j.number) jobs
    above_made n first [] [] less made = tt
    above_made n first [] (j ∷ jobs) less made = absurd made
    above_made n first (p ∷ plan) [] less made = absurd made
    above_made n first (p ∷ plan) (j ∷ jobs) less made = (omega (arith, less, made.0.numbered), above_made n (first + 1) plan jobs (omega (arith, less)) made.1)

    made_rising : (first : ℕ) (plan : List Planned) (jobs : List (HeldJob R)) → AreMade has window region first plan jobs → AreRising jobs
    made_rising first [] [] made = tt
    made_rising first [] (j ∷ jobs) made = absurd made
    made_rising first (p ∷ plan) [] made = absurd made
    made_rising first (p ∷ plan) (j ∷ jobs) made = (above_made j.number (first + 1) plan jobs (omega (arith, made.0.numbered)) made.1, made_rising (first + 1) plan jobs made.1)

    all_above : (n : ℕ) (one other : List (HeldJob R)) → AllByRecursion (λ (j : HeldJob R). n < j.number) one → AllByRecursion (λ (j : HeldJob R). n < j.number) other → AllByRecursion (λ (j : HeldJob R). n < j.number) (one ++ other)
    all_above n [] other first second = second
    all_above n (j ∷ one) other first second = (first.0, all_above n one other first.1 second)

    pub both_rising : (old : List (HeldJob R)) (first : ℕ) (plan : List Planned) (jobs : List (HeldJob R)) → AllBelow first old → AreRising old → AreMade has window region first plan jobs → AreRising (old ++ jobs)
    both_rising [] first plan jobs below rising made = made_rising first plan jobs made
    both_rising (j ∷ old) first plan jobs below rising made =
        (all_above j.number old jobs rising.0 (above_made j.number first plan jobs below.0 made), both_rising old first plan jobs below.1 rising.1 made)

    pub both_lie : (old jobs : List (HeldJob R)) → AllByRecursion (JobLies has window.w window.h) old → AllByRecursion (JobLies has window.w window.h) jobs → AllByRecursion (JobLies has window.w window.h) (old ++ jobs)
    both_lie [] jobs first second = second
    both_lie (j ∷ old) jobs first second = (first.0, both_lie old jobs first.1 second)

    -- the model's jobs
    pub made_seen : PointsAreAlike → (taken : Points) → SamePoints (has region) (has_mark taken) → (first : ℕ) (plan : List Planned) (jobs : List (HeldJob R)) → AreMade has window region first plan jobs
        → jobs_seen has window.w window.h jobs ≡ jobs_of (grid_of window) taken first plan
    made_seen alike taken same first [] [] made = refl
    made_seen alike taken same first [] (j ∷ jobs) made = absurd made
    made_seen alike taken same first (p ∷ plan) [] made = absurd made
    made_seen alike taken same first (p ∷ plan) (j ∷ jobs) made =
        let relief : points window.w window.h (has j.relief) ≡ points window.w window.h (λ x y. is_in p.rect x y && has_mark taken x y) =
        alike window.w window.h (has j.relief) (λ x y. is_in p.rect x y && has_mark taken x y)
        (λ x y inside. made.0.relieves x y ∙ and_swap (has region x y) (is_in p.rect x y) ∙ ap (λ b. is_in p.rect x y && b) (same x y)) in
        let one : job_seen has window.w window.h j ≡ record (job_seen has window.w window.h j) {
          number = first;
          capture = record { rect = p.rect; coding = p.coding; pixels = cut_of p };
          relief = points window.w window.h (λ x y. is_in p.rect x y && has_mark taken x y);
          encoded = false;
        } = λ i. record { number = made.0.numbered i; capture = made.0.captured i; relief = relief i; encoded = waits j made.0.waits i } in
        λ i. one i ∷ made_seen alike taken same (first + 1) plan jobs made.1 i
      where
        cut_of : Planned → List ℕ
        cut_of q = cut (grid_of window) q.rect

        waits : (i : HeldJob R) → i.encoded ≡ None → is_some i.encoded ≡ false
        waits i none = ap is_some none

  pub jobs_carried : (conn wid wide high : ℕ) (jobs : List (HeldJob R)) → new_jobs conn wid jobs ≡ map (carrying conn wid) (jobs_seen has wide high jobs)
  jobs_carried conn wid wide high [] = refl
  jobs_carried conn wid wide high (j ∷ jobs) = ap (λ (l : List EncodingJob). record { number = j.number; conn = conn; wid = wid; capture = j.capture } ∷ l) (jobs_carried conn wid wide high jobs)

  pub append_seen : (wide high : ℕ) (old jobs : List (HeldJob R)) → jobs_seen has wide high (old ++ jobs) ≡ jobs_seen has wide high old ++ jobs_seen has wide high jobs
  append_seen wide high old jobs = map-append (λ (j : HeldJob R). job_seen has wide high j) old jobs

  -- what is kept of a source
  pub kept_taken : (window : DeskWindow) (region waiting left blurred : R) (jobs made : List (HeldJob R)) (sent : List Sent) (next first : ℕ) (plan : List Planned) → IsSource has window.w window.h jobs waiting blurred sent next
      → AllBelow first jobs → AllLieIn window.w window.h plan → AreMade has window region first plan made → HasNone (has left) → length jobs + length sent < 2 ^ 31 - 32 → length plan ≤ 32
      → IsSource has window.w window.h (jobs ++ made) left blurred sent next
  kept_taken window region waiting left blurred jobs made sent next first plan kept below lie is none few short = record {
    wide = kept.wide;
    high = kept.high;
    lie = both_lie window region jobs made kept.lie (made_lie window region first plan made lie is);
    pending = λ x y there. absurd (false≢true (sym (none x y) ∙ there));
    lossy = kept.lossy;
    rising = both_rising window region jobs first plan made below kept.rising is;
    before = kept.before;
    numbered = kept.numbered;
    few = omega (arith, few, short, made_count window region first plan made is, length-append jobs made);
  }

  -- the source after a capture
  module _ (alike : PointsAreAlike) (conn wid : ℕ) (window : DeskWindow) (mapped : Bool) (jobs made : List (HeldJob R)) (batch left : BatchSeen R) (lossy : LossySeen R) (sent : List Sent) (next first : ℕ)
      (allowed : Bool) (region : R) (plan : List Planned) where
    abbrev pub was : SourceSeen
    was = seen has conn wid window.w window.h mapped jobs batch lossy sent next

    abbrev pub with_pixels : Window
    with_pixels = window_of was window.pixels None []

    pub takes_so : SamePoints (has region) (has_mark (region_taken (alone was))) → IsPlanOf (has region) (is_empty was.pending) allowed plan → IsPlan with_pixels plan → AreMade has window region first plan made
        → IsBatchOf has window.w window.h left (captured plan first with_pixels) → Takes allowed first window.pixels was (new_jobs conn wid made) (seen has conn wid window.w window.h mapped (jobs ++ made) left lossy sent next)
    takes_so taken rule planned is of =
        let new : jobs_seen has window.w window.h made ≡ jobs_of (grid_of window) (region_taken (alone was)) first plan = made_seen window region alike (region_taken (alone was)) taken first plan made is in
        let all : jobs_seen has window.w window.h (jobs ++ made) ≡ jobs_seen has window.w window.h jobs ++ jobs_of (grid_of window) (region_taken (alone was)) first plan =
        append_seen window.w window.h jobs made ∙ ap (λ (l : List Job). jobs_seen has window.w window.h jobs ++ l) new in
        record {
          plan = plan;
          set = has region;
          taken = taken;
          rule = rule;
          planned = planned;
          made = jobs_carried conn wid window.w window.h made ∙ ap (λ (l : List Job). map (carrying conn wid) l) new;
          after = λ i. record was { jobs = all i; pending = sym of.pending i; pending_since = sym of.since i; delay = sym of.delay i };
        }
