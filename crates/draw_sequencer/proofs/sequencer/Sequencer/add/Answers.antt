use Rattle.std.proofs.Common.{◌≡◌, ◌+◌, ◌<◌, ◌^◌, None, sym, ◌∙◌, ap, arith}
use Rattle.std.specs.Arc.{arc_value}
use Rattle.xp_base.specs.Captures.{Captured}
use Rattle.xp_base.specs.Points.{area}
use Rattle.draw_sequencer.specs.InHand.{Jobs, new_job, job_of}
use Rattle.draw_sequencer.proofs.Steps.{pixels_fit, kept_with}
use Rattle.draw_sequencer.proofs.sequencer.Sequencer.add.Goals as goal

pub overflow_add-self : goal.overflow_add-self
overflow_add-self g c =
    let bound : c.self.inside.pixels + c.area-pixels.result < 2 ^ 64 = pixels_fit _ _ _ c.self.invariant c.area-pixels.ensures.small in
    omega arith

pub invariant_of-self-2 : goal.invariant_of-self-2
invariant_of-self-2 g c =
    let same = ap (λ (s : Jobs g.row.R.Denot). s.jobs) c.self.view_is in
    let capture : area c.behind-capture.inside.rect ≡ area (arc_value c.args.capture).rect = ap (λ (d : Captured). area d.rect) (c.behind-capture.view_is ∙ c.deref.ensures) in
    let size : area (arc_value c.args.capture).rect ≡ c.area-pixels.result = sym capture ∙ sym c.area-pixels.ensures.value in
    let unused : job_of c.self.inside.jobs.items c.args.id.0 ≡ None = rw same c.requires.unused in
    let kept = kept_with _ (new_job c.args.id.0 (arc_value c.args.capture) c.args.relief) _ c.self.invariant unused (rw same c.requires.few) (rw size c.area-pixels.ensures.small) in
    rw c.in_ok-push_back.ensures.items (rw size at kept)
