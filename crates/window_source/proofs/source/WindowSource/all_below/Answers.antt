use Rattle.std.proofs.Common.{◌≡◌, ◌+◌, ◌≤◌, ◌<◌, ℕ, List, true, take, ap, arith, subst, sym}
use Rattle.resize_cancel.specs.Delivery.{jobs_seen}
use Rattle.window_source.specs.Capturing.{AllAbove}
use Rattle.std.proofs.lemmas.Bool.Decides.{nat_tests}
use Rattle.draw_sequencer.specs.InHand.{HeldJob}
use Rattle.window_source.specs.Source.{SourceSeen}
use Rattle.window_source.proofs.TakingLemmas.{above_more, not_above}
use Rattle.window_source.proofs.source.WindowSource.all_below.Goals as goal

pub returns-then-job-first : goal.returns-then-job-first
returns-then-job-first g c =
    let number : c.job.inside.id.0 ≡ c.in-Some.job.now.number = ap (λ (j : HeldJob g.row.R.Denot). j.number) c.job.view_is in
    let most : c.args.first.0 ≤ c.in-Some.job.now.number = grind (arith, nat_tests, number, c.if-job-first.true) in
    rw (← c.self.view_is) ((λ is. absurd (cc is)), (λ all. absurd (not_above g.R.Points.has c.self.inside.w c.self.inside.h c.args.first.0 c.loop-k.k c.self.inside.jobs.jobs c.in-Some.job.now c.in-Some.ensures most all)))

pub loop-k-preserved : goal.loop-k-preserved
loop-k-preserved g c =
    let number : c.job.inside.id.0 ≡ c.in-Some.job.now.number = ap (λ (j : HeldJob g.row.R.Denot). j.number) c.job.view_is in
    let less : c.in-Some.job.now.number < c.args.first.0 = omega (arith, number, c.if-job-first.false) in
    let all : AllAbove c.args.first.0 (take c.loop-k.k (jobs_seen g.R.Points.has c.self.inside.w c.self.inside.h c.self.inside.jobs.jobs)) =
    subst (λ (s : SourceSeen). AllAbove c.args.first.0 (take c.loop-k.k s.jobs)) (sym c.self.view_is) c.loop-k.invariant in
    subst (λ (s : SourceSeen). AllAbove c.args.first.0 (take (c.loop-k.k + 1) s.jobs)) c.self.view_is
    (above_more g.R.Points.has c.self.inside.w c.self.inside.h c.args.first.0 c.loop-k.k c.self.inside.jobs.jobs c.in-Some.job.now all c.in-Some.ensures less)
