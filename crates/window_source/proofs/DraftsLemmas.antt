-- The draws of the jobs that leave, as the model's event.
use Rattle.std.proofs.Common.{◌≡◌, ℕ, zero, suc, ◌+◌, ◌<◌, ◌≤◌, Bool, true, false, ◌&&◌, ◌||◌, Option, Some, None, List, [], ◌∷◌, ◌++◌, inl, inr, map, take, length, append-nil, append_assoc, cond, refl, sym, ◌∙◌, ap, subst, arith}
use Rattle.std.specs.Prelude.{pos, nat_eq, is_some, slice_get}
use Rattle.std.specs.List.{AllByRecursion}
use Rattle.std.proofs.lemmas.Bool.{cases_Bool, false≢true}
use Rattle.std.proofs.lemmas.Bool.Decides.{nat_tests}
use Rattle.std.proofs.lemmas.List.{length-take-le}
use Rattle.std.proofs.lemmas.Option.{slice_get_within}
use Rattle.xp_base.specs.Captures.{Captured}
use Rattle.xp_base.specs.Points.{area, is_within}
use Rattle.xp_base.specs.declared.coding.Coding.{Coding}
use Rattle.xp_base.specs.declared.coding.Coding.TheVariants as C
use Rattle.rgb_encoders.specs.Encoding.{Encoding}
use Rattle.rgb_encoders.specs.Colour.{shown as coloured}
use Rattle.rgb_encoders.specs.Laws.{row_stride, Shows}
use Rattle.packet_kinds.specs.declared.to_client.ToClient.TheVariants as T
use Rattle.packet_kinds.specs.Effects.{holds_pixels}
use Rattle.packet_kinds.specs.Laws.{DrawHoldsPixels}
use Rattle.delivery_model.specs.Client.{shown}
use Rattle.window_source.specs.Waiting.{lossy_shows}
use Rattle.rect_regions.specs.PointSets.{SamePoints, united}
use Rattle.rect_regions.specs.BitRows.{AllWithin}
use Rattle.delivery_model.specs.Grids.{Points, points}
use Rattle.delivery_model.specs.Window.{Job, Packet, Draws, Sent, Window}
use Rattle.delivery_model.specs.Events.{queued, queue_ready, relief_queued}
use Rattle.client_outbox.specs.declared.draw.Draw.{Draw}
use Rattle.client_outbox.specs.Outgoing.{WaitingPacket}
use Rattle.draw_sequencer.specs.InHand.{HeldJob, job_of, is_ready, count_leaving}
use Rattle.draw_sequencer.specs.Filing.{with_encoding, IsInHand}
use Rattle.capture_jobs.specs.Jobs.{FinishedJob}
use Rattle.draw_sequencer.specs.Kept.{AreDistinct}
use Rattle.draw_sequencer.specs.Laws.{count_ready}
use Rattle.lossy_refresh.specs.LossyPoints.{LossySeen, Queues}
use Rattle.lossy_refresh.specs.Delivery.{IsLossyOf}
use Rattle.lossy_refresh.specs.Laws.{QueuedIsLossy, ReliefIsJoined}
use Rattle.resize_cancel.specs.Delivery.{job_seen, jobs_seen}
use Rattle.window_source.specs.Kept.{JobLies}
use Rattle.window_source.specs.Drawn.{Drawn, DrawsIn, seen_as, all_seen}
use Rattle.window_source.specs.Drafts.{ready_jobs, staying_jobs, encoding_with, IsOwnIfNamed, Draws as WindowDraws, IsDraft, AreDrafts, sent_from}
use Rattle.window_source.proofs.Regions.{in_within}
use Rattle.window_source.proofs.TakingLemmas.{take_next}

nothing_less : 0 < 0 → ⊥
nothing_less some = omega (arith, some)

some_same : {A : Type 0} (x y : A) → Some x ≡ Some y → x ≡ y
some_same x y is = cc is

first_true : (a b : Bool) → (a && b) ≡ true → a ≡ true
first_true true b both = refl
first_true false b both = both

module _ {R : Type 0} (has : R → ℕ → ℕ → Bool) (wid now : ℕ) where
  -- what stopped being lossy was lossy
  gone_was : (c : Captured) (old new : LossySeen R) (gone : R) (coding : Coding) → Queues has c.rect coding now old new gone → (x y : ℕ) → has gone x y ≡ true → has old.points x y ≡ true
  gone_was c old new gone C.Exact queues x y there = first_true (has old.points x y) _ (sym (queues.gone x y) ∙ there)
  gone_was c old new gone C.Lossy queues x y there = absurd (false≢true (sym (queues.gone x y) ∙ there))

  relief_within : (wide high : ℕ) (j : HeldJob R) (old new : LossySeen R) (gone : R) (joined : R) → JobLies has wide high j → AllWithin wide high (has old.points)
      → Queues has j.capture.rect j.capture.coding now old new gone → SamePoints (has joined) (united (has j.relief) (has gone)) → AllWithin wide high (has joined)
  relief_within wide high j old new gone joined lies within queues same x y there = elim (cases_Bool (has j.relief x y)) [
    | inl here ↦ in_within wide high j.capture.rect x y lies.lies (lies.relief x y here)
    | inr none ↦ within x y (gone_was j.capture old new gone j.capture.coding queues x y (rw none at (sym (same x y) ∙ there)))
  ]

  abbrev pub drawn_from : (sequence : ℕ) (jobs : List (HeldJob R)) (old : LossySeen R) (packets : List (WaitingPacket R)) (new : LossySeen R) → AreDrafts has wid now sequence jobs old packets new → List (Drawn R)
  drawn_from sequence [] old [] new d = []
  drawn_from sequence [] old (p ∷ packets) new d = absurd d
  drawn_from sequence (j ∷ jobs) old [] new d = absurd d
  drawn_from sequence (j ∷ jobs) old (p ∷ packets) new d = record { packet = p; message = d.4.packet.message; pixels = d.0.capture.pixels } ∷ drawn_from (sequence + 1) jobs d.1 packets new d.5

  pub drawn_packets : (sequence : ℕ) (jobs : List (HeldJob R)) (old : LossySeen R) (packets : List (WaitingPacket R)) (new : LossySeen R) (d : AreDrafts has wid now sequence jobs old packets new)
      → map (λ (u : Drawn R). u.packet) (drawn_from sequence jobs old packets new d) ≡ packets
  drawn_packets sequence [] old [] new d = refl
  drawn_packets sequence [] old (p ∷ packets) new d = absurd d
  drawn_packets sequence (j ∷ jobs) old [] new d = absurd d
  drawn_packets sequence (j ∷ jobs) old (p ∷ packets) new d = ap (λ (ps : List (WaitingPacket R)). p ∷ ps) (drawn_packets (sequence + 1) jobs d.1 packets new d.5)

  pub drafts_count : (sequence : ℕ) (jobs : List (HeldJob R)) (old : LossySeen R) (packets : List (WaitingPacket R)) (new : LossySeen R) → AreDrafts has wid now sequence jobs old packets new → length packets ≡ length jobs
  drafts_count sequence [] old [] new d = refl
  drafts_count sequence [] old (p ∷ packets) new d = absurd d
  drafts_count sequence (j ∷ jobs) old [] new d = absurd d
  drafts_count sequence (j ∷ jobs) old (p ∷ packets) new d = omega (arith, drafts_count (sequence + 1) jobs d.1 packets new d.5)

  -- the model's window once these jobs left, with their draws
  abbrev pub left_window : Window → List (HeldJob R) → LossySeen R → List (Drawn R) → Window
  left_window w jobs new drawn = record w {
    packets = w.packets ++ all_seen has w.desk.wide w.desk.high drawn;
    jobs = jobs_seen has w.desk.wide w.desk.high (staying_jobs jobs);
    lossy = points w.desk.wide w.desk.high (has new.points);
    lossy_since = new.since;
    unacknowledged = w.unacknowledged ++ sent_from w.next_sequence (ready_jobs jobs);
    next_sequence = w.next_sequence + length (ready_jobs jobs);
  }

  pub record LeavesAll (w : Window) (jobs : List (HeldJob R)) (new : LossySeen R) (drawn : List (Drawn R)) : Type 0 where
    pub event : queue_ready now (jobs_seen has w.desk.wide w.desk.high jobs) w ≡ left_window w jobs new drawn
    pub draws : AllByRecursion (DrawsIn has w.desk.wide w.desk.high wid) drawn
    pub within : AllWithin w.desk.wide w.desk.high (has new.points)

  abbrev pub Leaves : List (HeldJob R) → Type 0
  Leaves jobs = (w : Window) (old new : LossySeen R) (packets : List (WaitingPacket R)) → AllByRecursion (JobLies has w.desk.wide w.desk.high) jobs → IsLossyOf has w.desk.wide w.desk.high old w
      → (d : AreDrafts has wid now w.next_sequence (ready_jobs jobs) old packets new) → LeavesAll w jobs new (drawn_from w.next_sequence (ready_jobs jobs) old packets new d)

  -- none leaves
  none_leaves : (w : Window) (stay : List Job) (old new : LossySeen R) → IsLossyOf has w.desk.wide w.desk.high old w → new ≡ old
      → record w { jobs = stay } ≡ record w {
        packets = w.packets ++ [];
        jobs = stay;
        lossy = points w.desk.wide w.desk.high (has new.points);
        lossy_since = new.since;
        unacknowledged = w.unacknowledged ++ [];
        next_sequence = w.next_sequence + 0;
      }
  none_leaves w stay old new of same =
      let lossy : w.lossy ≡ points w.desk.wide w.desk.high (has new.points) = of.lossy ∙ ap (λ (l : LossySeen R). points w.desk.wide w.desk.high (has l.points)) (sym same) in
      let since : w.lossy_since ≡ new.since = of.since ∙ ap (λ (l : LossySeen R). l.since) (sym same) in
      let packets : w.packets ≡ w.packets ++ [] = sym (append-nil w.packets) in
      let sent : w.unacknowledged ≡ w.unacknowledged ++ [] = sym (append-nil w.unacknowledged) in
      let next : w.next_sequence ≡ w.next_sequence + 0 = omega arith in
      λ i. record w { packets = packets i; jobs = stay; lossy = lossy i; lossy_since = since i; unacknowledged = sent i; next_sequence = next i }

  still_within : (wide high : ℕ) (old new : LossySeen R) → AllWithin wide high (has old.points) → new ≡ old → AllWithin wide high (has new.points)
  still_within wide high old new within same = subst (λ (l : LossySeen R). AllWithin wide high (has l.points)) (sym same) within

  module _ (lossy_law : QueuedIsLossy has) (relief_law : ReliefIsJoined has) where
    -- the draw of one job
    one_seen : (w : Window) (j : HeldJob R) (old next : LossySeen R) (e : Encoding) (p : WaitingPacket R) → IsLossyOf has w.desk.wide w.desk.high old w → e.capture ≡ j.capture
        → (d : IsDraft has wid now w.next_sequence e j.relief old next p)
        → seen_as has w.desk.wide w.desk.high (record { packet = p; message = d.packet.message; pixels = e.capture.pixels }) p.draw
        ≡ Draws (record { sequence = w.next_sequence; capture = j.capture; relief = relief_queued w j.capture.rect (points w.desk.wide w.desk.high (has j.relief)) j.capture.coding }) ∷ []
    one_seen w j old next e p of own d =
        let draw : p.draw ≡ Some (record { sequence = w.next_sequence; rect = e.capture.rect; coding = e.capture.coding }) = ap (λ (q : WaitingPacket R). q.draw) d.packet.packet in
        let relief : relief_queued w e.capture.rect (points w.desk.wide w.desk.high (has j.relief)) e.capture.coding ≡ points w.desk.wide w.desk.high (has p.relief) = relief_law e.capture.rect e.capture.coding now w old next d.gone j.relief p.relief of d.queues d.joined in
        ap (λ (o : Option Draw). seen_as has w.desk.wide w.desk.high (record { packet = p; message = d.packet.message; pixels = e.capture.pixels }) o) draw
        ∙ ap (λ (s : Points). Draws (record { sequence = w.next_sequence; capture = e.capture; relief = s }) ∷ []) (sym relief)
        ∙ ap (λ (c : Captured). Draws (record { sequence = w.next_sequence; capture = c; relief = relief_queued w c.rect (points w.desk.wide w.desk.high (has j.relief)) c.coding }) ∷ []) own

    -- the first leaves, and then the others
    first_leaves : (w : Window) (j : HeldJob R) (jobs : List (HeldJob R)) (new : LossySeen R) (first : List Packet) (drawn : List (Drawn R)) (count : ℕ) (sent : List Sent)
        → first ≡ Draws (record { sequence = w.next_sequence; capture = j.capture; relief = relief_queued w j.capture.rect (points w.desk.wide w.desk.high (has j.relief)) j.capture.coding }) ∷ []
        → record (queued now (job_seen has w.desk.wide w.desk.high j) w) {
          packets = (queued now (job_seen has w.desk.wide w.desk.high j) w).packets ++ all_seen has w.desk.wide w.desk.high drawn;
          jobs = jobs_seen has w.desk.wide w.desk.high (staying_jobs jobs);
          lossy = points w.desk.wide w.desk.high (has new.points);
          lossy_since = new.since;
          unacknowledged = (queued now (job_seen has w.desk.wide w.desk.high j) w).unacknowledged ++ sent;
          next_sequence = w.next_sequence + 1 + count;
        }
        ≡ record w {
          packets = w.packets ++ (first ++ all_seen has w.desk.wide w.desk.high drawn);
          jobs = jobs_seen has w.desk.wide w.desk.high (staying_jobs jobs);
          lossy = points w.desk.wide w.desk.high (has new.points);
          lossy_since = new.since;
          unacknowledged = w.unacknowledged ++ (record { sequence = w.next_sequence; rect = j.capture.rect } ∷ sent);
          next_sequence = w.next_sequence + suc count;
        }
    first_leaves w j jobs new first drawn count sent is =
        let draw : List Packet = Draws (record { sequence = w.next_sequence; capture = j.capture; relief = relief_queued w j.capture.rect (points w.desk.wide w.desk.high (has j.relief)) j.capture.coding }) ∷ [] in
        let rest : List Packet = all_seen has w.desk.wide w.desk.high drawn in
        let packets : (w.packets ++ draw) ++ rest ≡ w.packets ++ (first ++ rest) = append_assoc w.packets draw rest ∙ ap (λ (f : List Packet). w.packets ++ (f ++ rest)) (sym is) in
        let one : List Sent = record { sequence = w.next_sequence; rect = j.capture.rect } ∷ [] in
        let acks : (w.unacknowledged ++ one) ++ sent ≡ w.unacknowledged ++ (one ++ sent) = append_assoc w.unacknowledged one sent in
        let next : w.next_sequence + 1 + count ≡ w.next_sequence + suc count = omega arith in
        λ i. record w {
          packets = packets i;
          jobs = jobs_seen has w.desk.wide w.desk.high (staying_jobs jobs);
          lossy = points w.desk.wide w.desk.high (has new.points);
          lossy_since = new.since;
          unacknowledged = acks i;
          next_sequence = next i;
        }

    step : (j : HeldJob R) (o : Option Encoding) (jobs : List (HeldJob R)) → Leaves jobs → Leaves (record j { encoded = o } ∷ jobs)
    step j None jobs rest w old new [] lies of d = record {
      event = none_leaves w (jobs_seen has w.desk.wide w.desk.high (record j { encoded = None } ∷ jobs)) old new of d;
      draws = tt;
      within = still_within w.desk.wide w.desk.high old new of.within d;
    }
    step j None jobs rest w old new (p ∷ packets) lies of d = absurd d
    step j (Some e) jobs rest w old new [] lies of d = absurd d
    step j (Some e) jobs rest w old new (p ∷ packets) lies of d =
        let k : HeldJob R = record j { encoded = Some e } in
        let queues = subst (λ (c : Captured). Queues has c.rect c.coding now old d.1 d.4.gone) d.3 d.4.queues in
        let then : Window = queued now (job_seen has w.desk.wide w.desk.high k) w in
        let next : IsLossyOf has w.desk.wide w.desk.high d.1 then = lossy_law now (job_seen has w.desk.wide w.desk.high k) w old d.1 d.4.gone of lies.0.lies queues in
        let others = rest then d.1 new packets lies.1 next d.5 in
        let drawn : List (Drawn R) = drawn_from (w.next_sequence + 1) (ready_jobs jobs) d.1 packets new d.5 in
        record {
          event = others.event ∙ first_leaves w k jobs new _ drawn _ _ (one_seen w k old d.1 d.0 p of d.3 d.4);
          draws = (
            record {
              message = d.4.packet.says;
              draw = d.4.packet.draw;
              own = ap (λ (q : WaitingPacket R). q.wid) d.4.packet.packet;
              within = relief_within w.desk.wide w.desk.high k old d.1 d.4.gone p.relief lies.0 of.within queues d.4.joined;
            },
            others.draws,
          );
          within = others.within;
        }

    pub leaves_all : (jobs : List (HeldJob R)) → Leaves jobs
    leaves_all [] w old new [] lies of d = record {
      event = none_leaves w [] old new of d;
      draws = tt;
      within = still_within w.desk.wide w.desk.high old new of.within d;
    }
    leaves_all [] w old new (p ∷ packets) lies of d = absurd d
    leaves_all (j ∷ jobs) w old new packets lies of d = step j j.encoded jobs (leaves_all jobs) w old new packets lies of d

-- jobs by their places, once a result is kept
module _ {R : Type 0} where
  absent_other : (jobs : List (HeldJob R)) (m i : ℕ) (j : HeldJob R) → job_of jobs m ≡ None → slice_get jobs i ≡ Some j → nat_eq j.number m ≡ false
  absent_other [] m i j none at = absurd (cc at)
  absent_other (x ∷ jobs) m zero j none at =
      let same : x ≡ j = some_same x j at in
      subst (λ (u : HeldJob R). nat_eq u.number m ≡ false) same (first_other (nat_eq x.number m) refl none)
    where
      first_other : (b : Bool) → nat_eq x.number m ≡ b → cond b (Some x) (job_of jobs m) ≡ None → nat_eq x.number m ≡ false
      first_other true is found = absurd (cc found)
      first_other false is found = is
  absent_other (x ∷ jobs) m (suc i) j none at = absent_other jobs m i j (others (nat_eq x.number m) none) at
    where
      others : (b : Bool) → cond b (Some x) (job_of jobs m) ≡ None → job_of jobs m ≡ None
      others true found = absurd (cc found)
      others false found = found

  pub found_place : (jobs : List (HeldJob R)) (i : ℕ) (j : HeldJob R) → AreDistinct jobs → slice_get jobs i ≡ Some j → job_of jobs j.number ≡ Some j
  found_place [] i j distinct at = absurd (cc at)
  found_place (x ∷ jobs) zero j distinct at =
      let same : x ≡ j = some_same x j at in
      let itself : nat_eq x.number x.number ≡ true = grind (arith, nat_tests) in
      subst (λ (u : HeldJob R). job_of (x ∷ jobs) u.number ≡ Some u) same (ap (λ b. cond b (Some x) (job_of jobs x.number)) itself)
  found_place (x ∷ jobs) (suc i) j distinct at =
      let other : nat_eq j.number x.number ≡ false = absent_other jobs x.number i j distinct.0 at in
      let differs : nat_eq x.number j.number ≡ false = grind (arith, nat_tests, other) in
      ap (λ b. cond b (Some x) (job_of jobs j.number)) differs ∙ found_place jobs i j distinct.1 at

  pub at_encoded : (jobs : List (HeldJob R)) (k : ℕ) (e : Encoding) (i : ℕ) (j : HeldJob R) → AreDistinct jobs → slice_get jobs i ≡ Some j
      → slice_get (with_encoding jobs k e) i ≡ Some (record j { encoded = encoding_with k e j })
  at_encoded [] k e i j distinct at = absurd (cc at)
  at_encoded (x ∷ jobs) k e zero j distinct at =
      let same : x ≡ j = some_same x j at in
      subst (λ (u : HeldJob R). slice_get (with_encoding (x ∷ jobs) k e) 0 ≡ Some (record u { encoded = encoding_with k e u })) same (first_at (nat_eq x.number k))
    where
      first_at : (b : Bool) → slice_get (cond b (record x { encoded = Some e } ∷ jobs) (x ∷ with_encoding jobs k e)) 0 ≡ Some (record x { encoded = cond b (Some e) x.encoded })
      first_at true = refl
      first_at false = refl
  at_encoded (x ∷ jobs) k e (suc i) j distinct at = go (nat_eq x.number k) refl (at_encoded jobs k e i j distinct.1 at)
    where
      go : (b : Bool) → nat_eq x.number k ≡ b → slice_get (with_encoding jobs k e) i ≡ Some (record j { encoded = encoding_with k e j })
          → slice_get (cond b (record x { encoded = Some e } ∷ jobs) (x ∷ with_encoding jobs k e)) (suc i) ≡ Some (record j { encoded = encoding_with k e j })
      go false is rest = rest
      go true is rest =
          let other : nat_eq j.number x.number ≡ false = absent_other jobs x.number i j distinct.0 at in
          let differs : nat_eq j.number k ≡ false = grind (arith, nat_tests, other, is) in
          at ∙ ap (λ b. Some (record j { encoded = cond b (Some e) j.encoded })) (sym differs)

  pub leaving_most : (jobs : List (HeldJob R)) (k : ℕ) → count_leaving jobs k ≤ length jobs
  leaving_most [] k = omega arith
  leaving_most (j ∷ jobs) k = go (is_ready k j) (leaving_most jobs k)
    where
      go : (b : Bool) → count_leaving jobs k ≤ length jobs → cond b (1 + count_leaving jobs k) 0 ≤ length (j ∷ jobs)
      go true rest = omega (arith, rest)
      go false rest = omega arith

  pub leaving_readies : (jobs : List (HeldJob R)) (k i : ℕ) (j : HeldJob R) → i < count_leaving jobs k → slice_get jobs i ≡ Some j → is_ready k j ≡ true
  leaving_readies [] k i j less at = absurd (cc at)
  leaving_readies (x ∷ jobs) k zero j less at =
      let same : x ≡ j = some_same x j at in
      subst (λ (u : HeldJob R). is_ready k u ≡ true) same (go (is_ready k x) refl less)
    where
      go : (b : Bool) → is_ready k x ≡ b → 0 < cond b (1 + count_leaving jobs k) 0 → is_ready k x ≡ true
      go true is some = is
      go false is some = elim (nothing_less some) [ ]
  leaving_readies (x ∷ jobs) k (suc i) j less at = leaving_readies jobs k i j (go (is_ready k x) less) at
    where
      go : (b : Bool) → suc i < cond b (1 + count_leaving jobs k) 0 → i < count_leaving jobs k
      go true more = omega (arith, more)
      go false more = omega (arith, more)

  pub take_ready : (jobs : List (HeldJob R)) → take (count_ready jobs) jobs ≡ ready_jobs jobs
  take_ready [] = refl
  take_ready (j ∷ jobs) = go (is_some j.encoded) (take_ready jobs)
    where
      go : (b : Bool) → take (count_ready jobs) jobs ≡ ready_jobs jobs → take (cond b (1 + count_ready jobs) 0) (j ∷ jobs) ≡ cond b (j ∷ ready_jobs jobs) []
      go true rest =
          let more : 1 + count_ready jobs ≡ suc (count_ready jobs) = omega arith in
          ap (λ n. take n (j ∷ jobs)) more ∙ ap (λ (l : List (HeldJob R)). j ∷ l) rest
      go false rest = refl

module _ {R : Type 0} (has : R → ℕ → ℕ → Bool) (wid now : ℕ) where
  pub drafts_more : (sequence : ℕ) (jobs : List (HeldJob R)) (old mid new : LossySeen R) (packets : List (WaitingPacket R)) (j : HeldJob R) (p : WaitingPacket R) (e : Encoding)
      → AreDrafts has wid now sequence jobs old packets mid → j.encoded ≡ Some e → e.capture ≡ j.capture → IsDraft has wid now (sequence + length jobs) e j.relief mid new p
      → AreDrafts has wid now sequence (jobs ++ j ∷ []) old (packets ++ p ∷ []) new
  drafts_more sequence [] old mid new [] j p e d encoded own draft =
      let same : sequence + 0 ≡ sequence = omega arith in
      (e, new, encoded, own, subst (λ (l : LossySeen R). IsDraft has wid now sequence e j.relief l new p) d (subst (λ n. IsDraft has wid now n e j.relief mid new p) same draft), refl)
  drafts_more sequence [] old mid new (q ∷ packets) j p e d encoded own draft = absurd d
  drafts_more sequence (i ∷ jobs) old mid new [] j p e d encoded own draft = absurd d
  drafts_more sequence (i ∷ jobs) old mid new (q ∷ packets) j p e d encoded own draft =
      let same : sequence + length (i ∷ jobs) ≡ sequence + 1 + length jobs = omega arith in
      (d.0, d.1, d.2, d.3, d.4, drafts_more (sequence + 1) jobs d.1 mid new packets j p e d.5 encoded own (subst (λ n. IsDraft has wid now n e j.relief mid new p) same draft))

  -- the draw of one job more
  pub drafts_step : (next k number : ℕ) (kept e : Encoding) (jobs : List (HeldJob R)) (j : HeldJob R) (start mid new : LossySeen R) (packets : List (WaitingPacket R)) (p : WaitingPacket R) → AreDistinct jobs → slice_get jobs k ≡ Some j
      → AreDrafts has wid now next (take k (with_encoding jobs number kept)) start packets mid → encoding_with number kept j ≡ Some e → e.capture ≡ j.capture → IsDraft has wid now (next + k) e j.relief mid new p
      → AreDrafts has wid now next (take (k + 1) (with_encoding jobs number kept)) start (packets ++ p ∷ []) new
  drafts_step next k number kept e jobs j start mid new packets p distinct at d encoded own draft =
      let filed : List (HeldJob R) = with_encoding jobs number kept in
      let then : HeldJob R = record j { encoded = encoding_with number kept j } in
      let there : slice_get filed k ≡ Some then = at_encoded jobs number kept k j distinct at in
      let within : k < length filed = slice_get_within filed k then there in
      let sized : length (take k filed) ≡ k = length-take-le k filed (omega (arith, within)) in
      subst (λ (l : List (HeldJob R)). AreDrafts has wid now next l start (packets ++ p ∷ []) new) (sym (take_next filed k then there))
      (drafts_more next (take k filed) start mid new packets then p e d encoded own (subst (λ n. IsDraft has wid now (next + n) e j.relief mid new p) (sym sized) draft))

-- the job with a result's number has its capture
module _ {R : Type 0} where
  pub own_named : (jobs : List (HeldJob R)) (d : FinishedJob) (i : ℕ) (j : HeldJob R) → AreDistinct jobs → slice_get jobs i ≡ Some j → IsInHand jobs d.job.number d.encoding → IsOwnIfNamed d j
  own_named jobs d i j distinct at own named =
      let is : j.number ≡ d.job.number = grind (arith, nat_tests, named) in
      let found : job_of jobs d.job.number ≡ Some j = subst (λ n. job_of jobs n ≡ Some j) is (found_place jobs i j distinct at) in
      let same : own.job ≡ j = some_same own.job j (sym own.found ∙ found) in
      own.same ∙ ap (λ (u : HeldJob R). u.capture) same

  pub ready_encodes : (k : ℕ) (e : Encoding) (j : HeldJob R) → is_ready k j ≡ true → encoding_with k e j ≡ None → ⊥
  ready_encodes k e j ready none = go (nat_eq j.number k) j.encoded ready none
    where
      go : (b : Bool) (o : Option Encoding) → (is_some o || b) ≡ true → cond b (Some e) o ≡ None → ⊥
      go true o some none = absurd (cc none)
      go false None some none = false≢true some
      go false (Some x) some none = absurd (cc none)

-- the message of a draw
shown_alike : (coding : Coding) (pixels : List ℕ) → map (coloured coding) pixels ≡ map (shown lossy_shows coding) pixels
shown_alike C.Exact pixels = refl
shown_alike C.Lossy pixels = refl

pub draws_so : (wid number stride : ℕ) (e : Encoding) (bytes : List ℕ) → DrawHoldsPixels → Shows e → length e.capture.pixels ≡ area e.capture.rect → bytes ≡ e.bytes → stride ≡ row_stride e.capture
    → WindowDraws wid number e (T.Draw wid e.capture.rect.x e.capture.rect.y e.capture.rect.w e.capture.rect.h e.capture.coding bytes (pos number) stride)
draws_so wid number stride e bytes law shows sized copied is =
    let c : Captured = e.capture in
    let holds : holds_pixels c.coding c.rect.w c.rect.h (row_stride c) e.bytes ≡ true = (law c.coding c.rect.w c.rect.h (row_stride c) e.bytes).1 shows.fits in
    subst (λ (b : List ℕ). WindowDraws wid number e (T.Draw wid c.rect.x c.rect.y c.rect.w c.rect.h c.coding b (pos number) stride)) (sym copied)
    (subst (λ n. WindowDraws wid number e (T.Draw wid c.rect.x c.rect.y c.rect.w c.rect.h c.coding e.bytes (pos number) n)) (sym is)
    (refl, refl, refl, refl, sized, holds, shows.shows ∙ shown_alike c.coding c.pixels))
