use Rattle.std.specs.Arc.{arc_value}
use mathlib.Core.Bool.{false≢true}
use Rattle.std.proofs.Common.{◌≡◌, ◌≢◌, List, refl, sym, ◌∙◌, ap, subst, get_or}
use Rattle.rgb_encoders.specs.Encoding.{Encoding}
use Rattle.draw_sequencer.specs.InHand.{HeldJob, Jobs}
use Rattle.draw_sequencer.specs.Kept.{IsPlaceOf}
use Rattle.draw_sequencer.proofs.Walks.{job_at, encoded_at, set_same}
use Rattle.draw_sequencer.proofs.Steps.{kept_encoded}
use Rattle.draw_sequencer.proofs.sequencer.Sequencer.file.Goals as goal

pub returns-then-not-same_capture-clause-answer : goal.returns-then-not-same_capture-clause-answer
returns-then-not-same_capture-clause-answer g c =
    let same = ap (λ (s : Jobs g.row.R.Denot). s.jobs) c.self.view_is in
    let found = job_at _ _ _ _ c.in-Some.ensures (rw same at c.index_mut-job.ensures.value) in
    let ours : arc_value c.e.inside.capture ≡ c.args.e.capture = ap (λ (e : Encoding). e.capture) c.e.view_is in
    let theirs : arc_value c.job.inside.capture ≡ c.index_mut-job.result.now.capture = ap (λ (j : HeldJob g.row.R.Denot). j.capture) c.job.view_is in
    let differs : c.args.e.capture ≢ c.index_mut-job.result.now.capture = λ h.
    let equal : c.deref.result.now ≡ c.deref-2.result.now = c.deref.ensures ∙ (ours ∙ (h ∙ (sym theirs ∙ sym c.deref-2.ensures))) in
    false≢true (sym c.if-not-same_capture.true ∙ c.same_capture.ensures.1 equal)
    in
    (record { job = c.index_mut-job.result.now; found = found; differs = differs }, refl, set_same _ _ _ c.index_mut-job.ensures.value ∙ same)

pub invariant_of-self-2 : goal.invariant_of-self-2
invariant_of-self-2 g c =
    let same = ap (λ (s : Jobs g.row.R.Denot). s.jobs) c.self.view_is in
    let place = subst (λ (l : List (HeldJob g.row.R.Denot)). IsPlaceOf l c.args.id.0 c.in-Some.place) (sym same) c.in-Some.ensures in
    let read = subst (λ (j : HeldJob g.row.R.Denot). j ≡ get_or c.self.inside.jobs.items c.in-Some.place j) (sym c.job.view_is) c.index_mut-job.ensures.value in
    rw (encoded_at _ _ _ _ c.args.e place read) (kept_encoded _ _ _ _ c.self.invariant)

pub returns-clause-answer : goal.returns-clause-answer
returns-clause-answer g c =
    let same = ap (λ (s : Jobs g.row.R.Denot). s.jobs) c.self.view_is in
    let found = job_at _ _ _ _ c.in-Some.ensures (rw same at c.index_mut-job.ensures.value) in
    let read = subst (λ (j : HeldJob g.row.R.Denot). j ≡ get_or c.self.inside.jobs.items c.in-Some.place j) (sym c.job.view_is) c.index_mut-job.ensures.value in
    let ours : arc_value c.e.inside.capture ≡ c.args.e.capture = ap (λ (e : Encoding). e.capture) c.e.view_is in
    let theirs : arc_value c.job.inside.capture ≡ c.index_mut-job.result.now.capture = ap (λ (j : HeldJob g.row.R.Denot). j.capture) c.job.view_is in
    let equal : c.deref.result.now ≡ c.deref-2.result.now = c.same_capture.ensures.0 c.if-not-same_capture.false in
    let captures : c.args.e.capture ≡ c.index_mut-job.result.now.capture = sym ours ∙ (sym c.deref.ensures ∙ (equal ∙ (c.deref-2.ensures ∙ theirs))) in
    (record { job = c.index_mut-job.result.now; found = found; same = captures }, rw same (encoded_at _ _ _ _ c.args.e c.in-Some.ensures (rw same at read)))
