-- A result is filed: what becomes of the jobs in hand, and of all that is kept.
use Rattle.std.proofs.Common.{◌≡◌, ◌≢◌, ℕ, ◌+◌, ◌<◌, ◌≤◌, ◌^◌, Bool, true, false, ◌&&◌, Option, Some, None, List, [], ◌∷◌, ◌++◌, inl, inr, map, take, length, cond, refl, sym, ◌∙◌, ap, subst, append_assoc, arith}
use Rattle.std.specs.Prelude.{nat_eq, nat_lt, is_some, slice_get}
use Rattle.std.specs.Option.{option_map}
use Rattle.std.specs.List.{AllByRecursion}
use Rattle.std.proofs.lemmas.Bool.{cases_Bool, false≢true}
use Rattle.std.proofs.lemmas.Option.{slice_get_within}
use Rattle.std.proofs.lemmas.List.{length-take-le}
use Rattle.std.proofs.lemmas.Bool.Decides.{nat_tests}
use Rattle.xp_base.specs.Captures.{Captured}
use Rattle.rgb_encoders.specs.Encoding.{Encoding}
use Rattle.rect_regions.specs.BitRows.{AllWithin}
use Rattle.delivery_model.specs.Grids.{Grid, points}
use Rattle.delivery_model.specs.Window.{Job, Packet, Sent, Window}
use Rattle.ack_tracker.specs.Unacknowledged.{sent_as, placed}
use Rattle.delivery_model.specs.Events.{rect_sent, queue_ready, with_result, filing_of, filed_as, filed, capture_of, Filing, Late, Foreign, Filed, same_capture}
use Rattle.delivery_model.specs.Laws.{PointsAreAlike}
use Rattle.client_outbox.specs.Outgoing.{WaitingPacket, Outgoing}
use Rattle.draw_sequencer.specs.InHand.{HeldJob, job_of}
use Rattle.draw_sequencer.specs.Filing.{with_encoding, IsInHand}
use Rattle.capture_jobs.specs.Jobs.{FinishedJob}
use Rattle.damage_batch.specs.Pending.{BatchSeen}
use Rattle.lossy_refresh.specs.LossyPoints.{LossySeen, IsSame}
use Rattle.lossy_refresh.specs.Delivery.{IsLossyOf}
use Rattle.lossy_refresh.specs.Laws.{QueuedIsLossy, ReliefIsJoined}
use Rattle.resize_cancel.specs.Delivery.{job_seen, jobs_seen}
use Rattle.window_source.specs.Source.{SourceSeen, seen, window_of}
use Rattle.window_source.specs.Kept.{JobLies, AreRising, AreSentBefore, IsSource}
use Rattle.window_source.specs.Drawn.{Drawn, DrawsIn, all_seen, Files}
use Rattle.window_source.specs.Drafts.{ready_jobs, staying_jobs, sent_from, AreDrafts, Drafted}
use Rattle.window_source.proofs.DraftsLemmas.{drawn_from, drawn_packets, drafts_count, left_window, LeavesAll, leaves_all}
use Rattle.window_source.proofs.TakingLemmas.{take_next}
use Rattle.window_source.proofs.SourceLemmas.{capture_seen}
use Rattle.window_source.proofs.StandingsLemmas.{filed_has}

-- unacknowledged draws by their numbers
later_before : (next last : ℕ) (sent : List Sent) → next ≤ last → AreSentBefore next sent → AreSentBefore last sent
later_before next last [] most all = tt
later_before next last (s ∷ sent) most all = (omega (arith, most, all.0), later_before next last sent most all.1)

both_before : (n : ℕ) (one other : List Sent) → AreSentBefore n one → AreSentBefore n other → AreSentBefore n (one ++ other)
both_before n [] other first second = second
both_before n (s ∷ one) other first second = (first.0, both_before n one other first.1 second)

length_both : (one other : List Sent) → length (one ++ other) ≡ length one + length other
length_both [] other = omega arith
length_both (s ∷ one) other = omega (arith, length_both one other)

pub placed_last : (sent : List Sent) (s : Sent) → AreSentBefore s.sequence sent → placed sent s ≡ sent ++ s ∷ []
placed_last [] s all = refl
placed_last (d ∷ sent) s all =
    let after : nat_lt s.sequence d.sequence ≡ false = grind (arith, nat_tests, all.0) in
    ap (λ b. cond b (s ∷ d ∷ sent) (d ∷ placed sent s)) after ∙ ap (λ (l : List Sent). d ∷ l) (placed_last sent s all.1)

pub none_sent : (n : ℕ) (sent : List Sent) → AreSentBefore n sent → rect_sent sent n ≡ None
none_sent n [] all = refl
none_sent n (s ∷ sent) all =
    let other : nat_eq s.sequence n ≡ false = grind (arith, nat_tests, all.0) in
    ap (λ b. cond b (Some s.rect) (rect_sent sent n)) other ∙ none_sent n sent all.1

module _ {R : Type 0} (has : R → ℕ → ℕ → Bool) where
  -- a result is kept with its job, in the model too
  pub result_seen : (wide high : ℕ) (jobs : List (HeldJob R)) (k : ℕ) (e : Encoding) → with_result (jobs_seen has wide high jobs) k ≡ jobs_seen has wide high (with_encoding jobs k e)
  result_seen wide high [] k e = refl
  result_seen wide high (j ∷ jobs) k e = go (nat_eq j.number k) (result_seen wide high jobs k e)
    where
      go : (b : Bool) → with_result (jobs_seen has wide high jobs) k ≡ jobs_seen has wide high (with_encoding jobs k e)
          → cond b (record (job_seen has wide high j) { encoded = true } ∷ jobs_seen has wide high jobs) (job_seen has wide high j ∷ with_result (jobs_seen has wide high jobs) k)
          ≡ jobs_seen has wide high (cond b (record j { encoded = Some e } ∷ jobs) (j ∷ with_encoding jobs k e))
      go true rest = refl
      go false rest = ap (λ (l : List Job). job_seen has wide high j ∷ l) rest

  lies_filed : (w h : ℕ) (jobs : List (HeldJob R)) (k : ℕ) (e : Encoding) → AllByRecursion (JobLies has w h) jobs → AllByRecursion (JobLies has w h) (with_encoding jobs k e)
  lies_filed w h [] k e all = tt
  lies_filed w h (j ∷ jobs) k e all = go (nat_eq j.number k) (lies_filed w h jobs k e all.1)
    where
      go : (b : Bool) → AllByRecursion (JobLies has w h) (with_encoding jobs k e) → AllByRecursion (JobLies has w h) (cond b (record j { encoded = Some e } ∷ jobs) (j ∷ with_encoding jobs k e))
      go true rest = (record { lies = all.0.lies; relief = all.0.relief }, all.1)
      go false rest = (all.0, rest)

  lies_staying : (w h : ℕ) (jobs : List (HeldJob R)) → AllByRecursion (JobLies has w h) jobs → AllByRecursion (JobLies has w h) (staying_jobs jobs)
  lies_staying w h [] all = tt
  lies_staying w h (j ∷ jobs) all = go (is_some j.encoded) (lies_staying w h jobs all.1)
    where
      go : (b : Bool) → AllByRecursion (JobLies has w h) (staying_jobs jobs) → AllByRecursion (JobLies has w h) (cond b (staying_jobs jobs) (j ∷ jobs))
      go true rest = rest
      go false rest = all

  above_filed : (n : ℕ) (jobs : List (HeldJob R)) (k : ℕ) (e : Encoding) → AllByRecursion (λ (j : HeldJob R). n < j.number) jobs → AllByRecursion (λ (j : HeldJob R). n < j.number) (with_encoding jobs k e)
  above_filed n [] k e all = tt
  above_filed n (j ∷ jobs) k e all = go (nat_eq j.number k) (above_filed n jobs k e all.1)
    where
      go : (b : Bool) → AllByRecursion (λ (i : HeldJob R). n < i.number) (with_encoding jobs k e) → AllByRecursion (λ (i : HeldJob R). n < i.number) (cond b (record j { encoded = Some e } ∷ jobs) (j ∷ with_encoding jobs k e))
      go true rest = all
      go false rest = (all.0, rest)

  rising_filed : (jobs : List (HeldJob R)) (k : ℕ) (e : Encoding) → AreRising jobs → AreRising (with_encoding jobs k e)
  rising_filed [] k e all = tt
  rising_filed (j ∷ jobs) k e all = go (nat_eq j.number k) (rising_filed jobs k e all.1)
    where
      go : (b : Bool) → AreRising (with_encoding jobs k e) → AreRising (cond b (record j { encoded = Some e } ∷ jobs) (j ∷ with_encoding jobs k e))
      go true rest = all
      go false rest = (above_filed j.number jobs k e all.0, rest)

  rising_staying : (jobs : List (HeldJob R)) → AreRising jobs → AreRising (staying_jobs jobs)
  rising_staying [] all = tt
  rising_staying (j ∷ jobs) all = go (is_some j.encoded) (rising_staying jobs all.1)
    where
      go : (b : Bool) → AreRising (staying_jobs jobs) → AreRising (cond b (staying_jobs jobs) (j ∷ jobs))
      go true rest = rest
      go false rest = all

  length_filed : (jobs : List (HeldJob R)) (k : ℕ) (e : Encoding) → length (with_encoding jobs k e) ≡ length jobs
  length_filed [] k e = refl
  length_filed (j ∷ jobs) k e = go (nat_eq j.number k) (length_filed jobs k e)
    where
      go : (b : Bool) → length (with_encoding jobs k e) ≡ length jobs → length (cond b (record j { encoded = Some e } ∷ jobs) (j ∷ with_encoding jobs k e)) ≡ length (j ∷ jobs)
      go true rest = refl
      go false rest = omega (arith, rest)

  -- those that leave and those that stay are all
  length_parted : (jobs : List (HeldJob R)) → length (staying_jobs jobs) + length (ready_jobs jobs) ≡ length jobs
  length_parted [] = refl
  length_parted (j ∷ jobs) = go (is_some j.encoded) (length_parted jobs)
    where
      go : (b : Bool) → length (staying_jobs jobs) + length (ready_jobs jobs) ≡ length jobs
          → length (cond b (staying_jobs jobs) (j ∷ jobs)) + length (cond b (j ∷ ready_jobs jobs) []) ≡ length (j ∷ jobs)
      go true rest = omega (arith, rest)
      go false rest = omega arith

  length_sent : (next : ℕ) (jobs : List (HeldJob R)) → length (sent_from next jobs) ≡ length jobs
  length_sent next [] = refl
  length_sent next (j ∷ jobs) = omega (arith, length_sent (next + 1) jobs)

  sent_before : (next last : ℕ) (jobs : List (HeldJob R)) → next + length jobs ≤ last → AreSentBefore last (sent_from next jobs)
  sent_before next last [] most = tt
  sent_before next last (j ∷ jobs) most = (omega (arith, most), sent_before (next + 1) last jobs (omega (arith, most)))

  -- what is kept of a source
  pub kept_filed : (w h : ℕ) (jobs : List (HeldJob R)) (waiting blurred left : R) (sent : List Sent) (next k : ℕ) (e : Encoding) → IsSource has w h jobs waiting blurred sent next → AllWithin w h (has left)
      → IsSource has w h (staying_jobs (with_encoding jobs k e)) waiting left (sent ++ sent_from next (ready_jobs (with_encoding jobs k e))) (next + length (ready_jobs (with_encoding jobs k e)))
  kept_filed w h jobs waiting blurred left sent next k e kept within =
      let filed : List (HeldJob R) = with_encoding jobs k e in
      let count : ℕ = length (ready_jobs filed) in
      record {
        wide = kept.wide;
        high = kept.high;
        lie = lies_staying w h filed (lies_filed w h jobs k e kept.lie);
        pending = kept.pending;
        lossy = within;
        rising = rising_staying filed (rising_filed jobs k e kept.rising);
        before = both_before (next + count) sent (sent_from next (ready_jobs filed)) (later_before next (next + count) sent (omega arith) kept.before) (sent_before next (next + count) (ready_jobs filed) (omega arith));
        numbered = omega (arith, kept.numbered);
        few = omega (arith, kept.few, length_parted filed, length_filed jobs k e, length_both sent (sent_from next (ready_jobs filed)), length_sent next (ready_jobs filed));
      }

  start_lossy : PointsAreAlike → (w : Window) (old start : LossySeen R) → IsLossyOf has w.desk.wide w.desk.high old w → IsSame has old start → IsLossyOf has w.desk.wide w.desk.high start w
  start_lossy alike w old start of same = record {
    within = λ x y there. of.within x y (sym (same.points x y) ∙ there);
    lossy = of.lossy ∙ alike w.desk.wide w.desk.high (has old.points) (has start.points) (λ x y inside. sym (same.points x y));
    since = of.since ∙ sym same.since;
  }

  module _ (alike : PointsAreAlike) (lossy_law : QueuedIsLossy has) (relief_law : ReliefIsJoined has)
      (conn wid wide high : ℕ) (mapped : Bool) (jobs : List (HeldJob R)) (batch : BatchSeen R) (lossy new : LossySeen R) (sent : List Sent) (next now k : ℕ) (e : Encoding) (capture : Captured) (packets : List (WaitingPacket R))
      (kept : IsSource has wide high jobs batch.pending lossy.points sent next) (drafted : Drafted has wid now next (with_encoding jobs k e) lossy packets new) where
    abbrev pub filed_jobs : List (HeldJob R)
    filed_jobs = with_encoding jobs k e

    abbrev pub was : SourceSeen
    was = seen has conn wid wide high mapped jobs batch lossy sent next

    abbrev pub source_filed : SourceSeen
    source_filed = seen has conn wid wide high mapped (staying_jobs filed_jobs) batch new (sent ++ sent_from next (ready_jobs filed_jobs)) (next + length (ready_jobs filed_jobs))

    abbrev pub drawn : List (Drawn R)
    drawn = drawn_from has wid now next (ready_jobs filed_jobs) drafted.start packets new drafted.drafts

    leaves : (numbers : List ℕ) (client : Option Grid) (waiting : List Packet) → LeavesAll has wid now (window_of was numbers client waiting) filed_jobs new drawn
    leaves numbers client waiting =
        let w : Window = window_of was numbers client waiting in
        let of : IsLossyOf has wide high lossy w = record { within = kept.lossy; lossy = refl; since = refl } in
        leaves_all has wid now lossy_law relief_law filed_jobs w drafted.start new packets (lies_filed wide high jobs k e kept.lie) (start_lossy alike w lossy drafted.start of drafted.same) drafted.drafts

    pub lossy_filed : AllWithin wide high (has new.points)
    lossy_filed = (leaves [] None []).within

    pub files_so : filing_of (capture_of (jobs_seen has wide high jobs) k) capture ≡ Filed → (o : Outgoing R) → Files has k capture now was source_filed o (record o { packets = o.packets ++ packets })
    files_so is o = record {
      conn_stays = refl;
      wid_stays = refl;
      wide_stays = refl;
      high_stays = refl;
      drawn = drawn;
      draws = (leaves [] None []).draws;
      put = ap (λ (ps : List (WaitingPacket R)). record o { packets = o.packets ++ ps }) (sym (drawn_packets has wid now next (ready_jobs filed_jobs) drafted.start packets new drafted.drafts));
      event = λ numbers client waiting.
          let w : Window = window_of was numbers client waiting in
          sym (ap (λ (f : Filing). filed_as f k now w) is ∙ ap (λ (js : List Job). queue_ready now js w) (result_seen wide high jobs k e) ∙ (leaves numbers client waiting).event);
    }

-- the draws that are unacknowledged from now on
module _ {R : Type 0} where
  sent_more : (next : ℕ) (jobs : List (HeldJob R)) (j : HeldJob R) → sent_from next (jobs ++ j ∷ []) ≡ sent_from next jobs ++ record { sequence = next + length jobs; rect = j.capture.rect } ∷ []
  sent_more next [] j =
      let same : next ≡ next + 0 = omega arith in
      ap (λ n. record { sequence = n; rect = j.capture.rect } ∷ []) same
  sent_more next (i ∷ jobs) j =
      let same : next + 1 + length jobs ≡ next + length (i ∷ jobs) = omega arith in
      ap (λ (l : List Sent). record { sequence = next; rect = i.capture.rect } ∷ l) (sent_more (next + 1) jobs j ∙ ap (λ n. sent_from (next + 1) jobs ++ record { sequence = n; rect = j.capture.rect } ∷ []) same)

  -- one draw more
  pub record Notes (next k : ℕ) (start new : List Sent) (jobs : List (HeldJob R)) : Type 0 where
    pub sent : new ≡ start ++ sent_from next (take (k + 1) jobs)
    pub before : AreSentBefore (next + (k + 1)) new
    pub longer : length new ≡ length start + (k + 1)

  pub note_step : (next k : ℕ) (start draws new : List Sent) (jobs : List (HeldJob R)) (j : HeldJob R) → slice_get jobs k ≡ Some j → draws ≡ start ++ sent_from next (take k jobs)
      → AreSentBefore (next + k) draws → length draws ≡ length start + k → new ≡ placed draws (sent_as (next + k) j.capture.rect) → Notes next k start new jobs
  note_step next k start draws new jobs j at was before longer is =
      let s : Sent = sent_as (next + k) j.capture.rect in
      let within : k < length jobs = slice_get_within jobs k j at in
      let sized : length (take k jobs) ≡ k = length-take-le k jobs (omega (arith, within)) in
      let last : new ≡ draws ++ s ∷ [] = is ∙ placed_last draws s before in
      let more : sent_from next (take (k + 1) jobs) ≡ sent_from next (take k jobs) ++ s ∷ [] =
      ap (λ (l : List (HeldJob R)). sent_from next l) (take_next jobs k j at) ∙ sent_more next (take k jobs) j
      ∙ ap (λ n. sent_from next (take k jobs) ++ record { sequence = next + n; rect = j.capture.rect } ∷ []) sized in
      let less : next + k < next + (k + 1) = omega arith in
      record {
        sent = last ∙ ap (λ (l : List Sent). l ++ s ∷ []) was ∙ append_assoc start (sent_from next (take k jobs)) (s ∷ []) ∙ ap (λ (l : List Sent). start ++ l) (sym more);
        before = subst (λ (l : List Sent). AreSentBefore (next + (k + 1)) l) (sym last) (both_before (next + (k + 1)) draws (s ∷ []) (later_before (next + k) (next + (k + 1)) draws (omega arith) before) (less, tt));
        longer = ap (λ (l : List Sent). length l) last ∙ omega (arith, length_both draws (s ∷ []), longer);
      }

-- the job in hand whose result came back
module _ {R : Type 0} (has : R → ℕ → ℕ → Bool) where
  pub own_in_hand : (wide high : ℕ) (jobs : List (HeldJob R)) (d : FinishedJob) → filing_of (capture_of (jobs_seen has wide high jobs) d.job.number) d.job.capture ≡ Filed → d.encoding.capture ≡ d.job.capture
      → IsInHand jobs d.job.number d.encoding
  own_in_hand wide high jobs d filing own =
      let has_capture : option_map (λ (j : HeldJob R). j.capture) (job_of jobs d.job.number) ≡ Some d.job.capture =
      sym (capture_seen has wide high jobs d.job.number) ∙ filed_has (capture_of (jobs_seen has wide high jobs) d.job.number) d.job.capture filing in
      go (job_of jobs d.job.number) refl has_capture
    where
      go : (o : Option (HeldJob R)) → job_of jobs d.job.number ≡ o → option_map (λ (j : HeldJob R). j.capture) o ≡ Some d.job.capture → IsInHand jobs d.job.number d.encoding
      go None is captured = absurd (cc captured)
      go (Some j) is captured =
          let same : j.capture ≡ d.job.capture = cc captured in
          record { job = j; found = is; same = own ∙ sym same }

  -- no more jobs leave than are in hand
  pub most_ready : (jobs : List (HeldJob R)) (k : ℕ) (e : Encoding) → length (ready_jobs (with_encoding jobs k e)) ≤ length jobs
  most_ready jobs k e = omega (arith, length_parted has (with_encoding jobs k e), length_filed has jobs k e)

  pub all_filed : (jobs : List (HeldJob R)) (k : ℕ) (e : Encoding) → length (with_encoding jobs k e) ≡ length jobs
  all_filed jobs k e = length_filed has jobs k e

  pub take_readies : (jobs : List (HeldJob R)) → take (length (ready_jobs jobs)) jobs ≡ ready_jobs jobs
  take_readies [] = refl
  take_readies (j ∷ jobs) = go (is_some j.encoded) (take_readies jobs)
    where
      go : (b : Bool) → take (length (ready_jobs jobs)) jobs ≡ ready_jobs jobs → take (length (cond b (j ∷ ready_jobs jobs) [])) (j ∷ jobs) ≡ cond b (j ∷ ready_jobs jobs) []
      go true rest = ap (λ (l : List (HeldJob R)). j ∷ l) rest
      go false rest = refl
