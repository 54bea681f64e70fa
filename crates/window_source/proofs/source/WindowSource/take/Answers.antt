use Rattle.std.proofs.Common.{◌≡◌, ℕ, ◌+◌, ◌-◌, ◌<◌, ◌≤◌, ◌^◌, ◌++◌, Bool, [], None, List, length, refl, sym, ◌∙◌, ap, subst, arith}
use Rattle.rect_regions.specs.PointSets.{SamePoints, HasNone}
use Rattle.delivery_model.specs.Grids.{has as has_mark}
use Rattle.delivery_model.specs.Window.{Window}
use Rattle.delivery_model.specs.Events.{Planned, is_empty, region_taken, captured, load}
use Rattle.delivery_model.specs.Plans.{IsPlan}
use Rattle.draw_sequencer.specs.InHand.{HeldJob}
use Rattle.damage_batch.specs.Pending.{BatchSeen, slowed}
use Rattle.damage_batch.specs.Delivery.{IsBatchOf}
use Rattle.capture_jobs.specs.Planning.{IsPlanOf}
use Rattle.capture_jobs.specs.Jobs.{EncodingJob}
use Rattle.window_source.specs.Source.{SourceSeen, seen, alone, window_of}
use Rattle.window_source.specs.Kept.{IsSource}
use Rattle.window_source.specs.Capturing.{AllAbove, Takes}
use Rattle.window_source.specs.Taking.{AllLieIn, AreMade, AreNew, new_jobs}
use Rattle.window_source.proofs.SourceLemmas.{length_seen}
use Rattle.window_source.proofs.TakingLemmas.{all_lie, below_seen, made_count, made_new, kept_taken, takes_so}
use Rattle.window_source.proofs.source.WindowSource.take.Goals as goal

pub made_jobs-requires-clause-lie : goal.made_jobs-requires-clause-lie
made_jobs-requires-clause-lie g c =
    let has = g.R.Points.has in
    let s : SourceSeen = c.args.self.now in
    let plan : List Planned = c.in_ok-plan.plan in
    let rule : IsPlanOf (has c.region-region.result.now) (is_empty s.pending) c.args.lossy plan = subst (λ (b : Bool). IsPlanOf (has c.region-region.result.now) b c.args.lossy plan) c.refreshes.ensures c.in_ok-plan.ensures in
    let planned : IsPlan (alone s) plan = c.plans_are_the_models.ensures (alone s) (has c.region-region.result.now) c.args.lossy plan rule c.region-region.ensures.taken c.region-region.ensures.within in
    let lie : AllLieIn s.wide s.high plan = all_lie s.wide s.high plan planned.within in
    subst (λ (ps : List Planned). AllLieIn c.args.win.now.w c.args.win.now.h ps) (sym c.as_slice.ensures) (rw (c.requires.window.wide, c.requires.window.high) lie)

pub overflow_cast-len : goal.overflow_cast-len
overflow_cast-len g c =
    let has = g.R.Points.has in
    let short = c.plans_are_short.ensures (has c.region-region.result.now) c.refreshes.result c.args.lossy c.in_ok-plan.plan c.in_ok-plan.ensures in
    let count = made_count has c.args.win.now c.region-region.result.now c.args.first.0 c.as_slice.result.now c.in_ok-made.made.items c.in_ok-made.ensures in
    let same : length c.as_slice.result.now ≡ length c.in_ok-plan.plan = ap (λ (ps : List Planned). length ps) c.as_slice.ensures in
    omega (arith, short, count, same, c.len.ensures, c.in_ok-made.made.ok.0)

pub add_all-requires-clause-new : goal.add_all-requires-clause-new
add_all-requires-clause-new g c =
    let has = g.R.Points.has in
    let above = subst (λ (s : SourceSeen). AllAbove c.args.first.0 s.jobs) (sym c.self.view_is) c.requires.above in
    let below = below_seen has c.self.inside.w c.self.inside.h c.args.first.0 c.self.inside.jobs.jobs above in
    subst (λ (js : List (HeldJob g.row.R.Denot)). AreNew js c.in_ok-made.made.items) (sym c.reserve.ensures.same)
    (made_new has c.args.win.now c.region-region.result.now c.self.inside.jobs.jobs c.args.first.0 c.as_slice.result.now c.in_ok-made.made.items below c.in_ok-made.ensures)

pub add_all-requires-clause-few : goal.add_all-requires-clause-few
add_all-requires-clause-few g c =
    let has = g.R.Points.has in
    let short = c.plans_are_short.ensures (has c.region-region.result.now) c.refreshes.result c.args.lossy c.in_ok-plan.plan c.in_ok-plan.ensures in
    let count = made_count has c.args.win.now c.region-region.result.now c.args.first.0 c.as_slice.result.now c.in_ok-made.made.items c.in_ok-made.ensures in
    let same : length c.as_slice.result.now ≡ length c.in_ok-plan.plan = ap (λ (ps : List Planned). length ps) c.as_slice.ensures in
    let jobs : length c.args.self.now.jobs ≡ length c.self.inside.jobs.jobs = sym (ap (λ (s : SourceSeen). length s.jobs) c.self.view_is) ∙ length_seen has c.self.inside.w c.self.inside.h c.self.inside.jobs.jobs in
    let stay : length c.reserve.new.self.jobs ≡ length c.self.inside.jobs.jobs = ap (λ (js : List (HeldJob g.row.R.Denot)). length js) c.reserve.ensures.same in
    omega (arith, short, count, same, jobs, stay, c.requires.few)

pub invariant_of-self-2 : goal.invariant_of-self-2
invariant_of-self-2 g c =
    let has = g.R.Points.has in
    let w = c.self.inside.w in
    let h = c.self.inside.h in
    let s : SourceSeen = c.args.self.now in
    let made = c.in_ok-made.made.items in
    let plan : List Planned = c.in_ok-plan.plan in
    let wide : c.args.win.now.w ≡ w = c.requires.window.wide ∙ sym (ap (λ (t : SourceSeen). t.wide) c.self.view_is) in
    let high : c.args.win.now.h ≡ h = c.requires.window.high ∙ sym (ap (λ (t : SourceSeen). t.high) c.self.view_is) in
    let above = subst (λ (t : SourceSeen). AllAbove c.args.first.0 t.jobs) (sym c.self.view_is) c.requires.above in
    let below = below_seen has w h c.args.first.0 c.self.inside.jobs.jobs above in
    let is : AreMade has c.args.win.now c.region-region.result.now c.args.first.0 plan made = subst (λ (ps : List Planned). AreMade has c.args.win.now c.region-region.result.now c.args.first.0 ps made) c.as_slice.ensures c.in_ok-made.ensures in
    let rule : IsPlanOf (has c.region-region.result.now) (is_empty s.pending) c.args.lossy plan = subst (λ (b : Bool). IsPlanOf (has c.region-region.result.now) b c.args.lossy plan) c.refreshes.ensures c.in_ok-plan.ensures in
    let planned : IsPlan (alone s) plan = c.plans_are_the_models.ensures (alone s) (has c.region-region.result.now) c.args.lossy plan rule c.region-region.ensures.taken c.region-region.ensures.within in
    let lie : AllLieIn c.args.win.now.w c.args.win.now.h plan = rw (c.requires.window.wide, c.requires.window.high) (all_lie s.wide s.high plan planned.within) in
    let short = c.plans_are_short.ensures (has c.region-region.result.now) c.refreshes.result c.args.lossy plan c.in_ok-plan.ensures in
    let count : length s.jobs ≡ length c.self.inside.jobs.jobs = sym (ap (λ (t : SourceSeen). length t.jobs) c.self.view_is) ∙ length_seen has w h c.self.inside.jobs.jobs in
    let sent : length c.self.inside.acks.draws ≡ length s.unacknowledged = ap (λ (t : SourceSeen). length t.unacknowledged) c.self.view_is in
    let few : length c.self.inside.jobs.jobs + length c.self.inside.acks.draws < 2 ^ 31 - 32 = omega (arith, count, sent, c.requires.few) in
    let kept : IsSource has c.args.win.now.w c.args.win.now.h c.self.inside.jobs.jobs c.self.inside.batch.pending c.self.inside.lossy.points c.self.inside.acks.draws c.self.inside.next_sequence = rw (wide, high) c.self.invariant in
    let none = subst (λ (b : BatchSeen g.row.R.Denot). HasNone (has b.pending)) (sym c.on_capture.ensures) c.take-taken.ensures.left.none in
    let jobs : c.add_all.new.jobs.jobs ≡ c.self.inside.jobs.jobs ++ made = c.add_all.ensures ∙ ap (λ (js : List (HeldJob g.row.R.Denot)). js ++ made) c.reserve.ensures.same in
    rw (jobs, ← wide, ← high) (kept_taken has c.args.win.now c.region-region.result.now c.self.inside.batch.pending c.on_capture.new.self.pending c.self.inside.lossy.points c.self.inside.jobs.jobs made c.self.inside.acks.draws c.self.inside.next_sequence c.args.first.0 plan kept below lie is none few short)

pub returns-clause-ok : goal.returns-clause-ok
returns-clause-ok g c =
    let has = g.R.Points.has in
    let w = c.args.win.now.w in
    let h = c.args.win.now.h in
    let made = c.in_ok-made.made.items in
    let plan : List Planned = c.in_ok-plan.plan in
    let wide : w ≡ c.self.inside.w = c.requires.window.wide ∙ sym (ap (λ (t : SourceSeen). t.wide) c.self.view_is) in
    let high : h ≡ c.self.inside.h = c.requires.window.high ∙ sym (ap (λ (t : SourceSeen). t.high) c.self.view_is) in
    let was : SourceSeen = seen has c.self.inside.conn.0 c.self.inside.wid w h c.self.inside.mapped c.self.inside.jobs.jobs c.self.inside.batch c.self.inside.lossy c.self.inside.acks.draws c.self.inside.next_sequence in
    let view : was ≡ c.args.self.now = rw (wide, high) c.self.view_is in
    let kept : IsSource has w h c.self.inside.jobs.jobs c.self.inside.batch.pending c.self.inside.lossy.points c.self.inside.acks.draws c.self.inside.next_sequence = rw (wide, high) c.self.invariant in
    let window : Window = window_of was c.args.win.now.pixels None [] in
    let is : AreMade has c.args.win.now c.region-region.result.now c.args.first.0 plan made = subst (λ (ps : List Planned). AreMade has c.args.win.now c.region-region.result.now c.args.first.0 ps made) c.as_slice.ensures c.in_ok-made.ensures in
    let fresh : c.refreshes.result ≡ is_empty was.pending = c.refreshes.ensures ∙ ap (λ (t : SourceSeen). is_empty t.pending) (sym view) in
    let rule : IsPlanOf (has c.region-region.result.now) (is_empty was.pending) c.args.lossy plan = subst (λ (b : Bool). IsPlanOf (has c.region-region.result.now) b c.args.lossy plan) fresh c.in_ok-plan.ensures in
    let taken : SamePoints (has c.region-region.result.now) (has_mark (region_taken (alone was))) = subst (λ (t : SourceSeen). SamePoints (has c.region-region.result.now) (has_mark (region_taken (alone t)))) (sym view) c.region-region.ensures.taken in
    let planned : IsPlan window plan = c.plans_are_the_models.ensures window (has c.region-region.result.now) c.args.lossy plan rule taken (λ x y there. rw (c.requires.window.wide, c.requires.window.high) (c.region-region.ensures.within x y there)) in
    let old : IsBatchOf has w h c.self.inside.batch window = record { within = kept.pending; pending = refl; since = refl; delay = refl } in
    let count : c.load-load.result ≡ load window = c.load-load.ensures.count ∙ ap (λ (t : SourceSeen). length t.jobs + length t.unacknowledged) (sym view) in
    let slow : c.on_capture.new.self ≡ slowed (load window) c.take-taken.new.self = c.on_capture.ensures ∙ ap (λ n. slowed n c.take-taken.new.self) count in
    let of : IsBatchOf has w h c.on_capture.new.self (captured plan c.args.first.0 window) = c.a_capture_takes_all.ensures.captured plan c.args.first.0 window c.self.inside.batch c.take-taken.new.self c.on_capture.new.self old c.take-taken.ensures.left slow in
    let all : c.add_all.new.jobs.jobs ≡ c.self.inside.jobs.jobs ++ made = c.add_all.ensures ∙ ap (λ (js : List (HeldJob g.row.R.Denot)). js ++ made) c.reserve.ensures.same in
    let out : c.in_ok-jobs.jobs ≡ new_jobs c.self.inside.conn.0 c.self.inside.wid made = c.in_ok-jobs.ensures ∙ ap (λ (js : List (HeldJob g.row.R.Denot)). new_jobs c.self.inside.conn.0 c.self.inside.wid js) c.as_slice-2.ensures.value in
    let then : SourceSeen = seen has c.self.inside.conn.0 c.self.inside.wid w h c.self.inside.mapped (c.self.inside.jobs.jobs ++ made) c.on_capture.new.self c.self.inside.lossy c.self.inside.acks.draws c.self.inside.next_sequence in
    let last : SourceSeen = seen has c.self.inside.conn.0 c.self.inside.wid c.self.inside.w c.self.inside.h c.self.inside.mapped c.add_all.new.jobs.jobs c.on_capture.new.self c.self.inside.lossy c.self.inside.acks.draws c.self.inside.next_sequence in
    let end : then ≡ last = λ i. seen has c.self.inside.conn.0 c.self.inside.wid (wide i) (high i) c.self.inside.mapped (sym all i) c.on_capture.new.self c.self.inside.lossy c.self.inside.acks.draws c.self.inside.next_sequence in
    let takes : Takes c.args.lossy c.args.first.0 c.args.win.now.pixels was (new_jobs c.self.inside.conn.0 c.self.inside.wid made) then =
    takes_so has c.points_are_their_tests.ensures.alike c.self.inside.conn.0 c.self.inside.wid c.args.win.now c.self.inside.mapped c.self.inside.jobs.jobs made c.self.inside.batch c.on_capture.new.self c.self.inside.lossy c.self.inside.acks.draws c.self.inside.next_sequence
    c.args.first.0 c.args.lossy c.region-region.result.now plan taken rule planned is of in
    subst (λ (t : SourceSeen). Takes c.args.lossy c.args.first.0 c.args.win.now.pixels t c.in_ok-jobs.jobs last) view
    (subst (λ (js : List EncodingJob). Takes c.args.lossy c.args.first.0 c.args.win.now.pixels was js last) (sym out)
    (subst (λ (t : SourceSeen). Takes c.args.lossy c.args.first.0 c.args.win.now.pixels was (new_jobs c.self.inside.conn.0 c.self.inside.wid made) t) end takes))
