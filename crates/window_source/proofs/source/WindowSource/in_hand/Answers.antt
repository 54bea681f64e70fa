use Rattle.std.proofs.Common.{◌≡◌, ℕ, Some, None, sym, ◌∙◌, ap}
use Rattle.std.specs.Option.{option_map}
use Rattle.delivery_model.specs.Events.{capture_of}
use Rattle.draw_sequencer.specs.InHand.{HeldJob, job_of}
use Rattle.xp_base.specs.Captures.{Captured}
use Rattle.window_source.specs.Source.{SourceSeen}
use Rattle.window_source.proofs.SourceLemmas.{capture_seen}
use Rattle.window_source.proofs.source.WindowSource.in_hand.Goals as goal

pub returns-in-None : goal.returns-in-None
returns-in-None g c = rw (← c.self.view_is) (capture_seen g.R.Points.has c.self.inside.w c.self.inside.h c.self.inside.jobs.jobs c.args.id.0 ∙ ap (option_map (λ (j : HeldJob g.row.R.Denot). j.capture)) c.in-None.ensures)

pub returns-in-Some : goal.returns-in-Some
returns-in-Some g c =
    let capture : c.in-Some.job.now.capture ≡ c.deref.result.now = sym (c.deref.ensures ∙ ap (λ (j : HeldJob g.row.R.Denot). j.capture) c.job.view_is) in
    sym (ap (λ (s : SourceSeen). capture_of s.jobs c.args.id.0) c.self.view_is) ∙ capture_seen g.R.Points.has c.self.inside.w c.self.inside.h c.self.inside.jobs.jobs c.args.id.0
    ∙ ap (option_map (λ (j : HeldJob g.row.R.Denot). j.capture)) c.in-Some.ensures ∙ ap (λ (k : Captured). Some k) capture
