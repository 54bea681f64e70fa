use Rattle.std.proofs.Common.{◌≡◌, Err, refl, sym, ap, ◌∙◌}
use Rattle.first_script.specs.Reading.{script_of}
use Rattle.xpra_server.proofs.Endings.{ran_well, right_of_whole, runs_well, no_fault, no_long, nobody_right}
use Rattle.xpra_server.proofs.Tops.{faults_long, nothing_printed, part_of_whole, part_of_long}
use Rattle.xpra_server.proofs.calls.top.Goals as goal

pub returns-in-Long-clause-refused : goal.returns-in-Long-clause-refused
returns-in-Long-clause-refused g c = λ two. faults_long _ _ _ _ c.in-Long.ensures.answer (c.refuse-in-Long.ensures.text two)

pub returns-in-Valid-clause-part : goal.returns-in-Valid-clause-part
returns-in-Valid-clause-part g c = λ play four.
    part_of_whole _ _ c.in-Whole.text.items _ _ _ _ _ c.in-Whole.ensures.answer.0 c.in-Whole.ensures.answer.1
    (ap script_of (sym c.deref.ensures.value) ∙ c.in-Valid.ensures) refl (c.play_script.ensures.part four)

pub returns-in-Fault-clause-part : goal.returns-in-Fault-clause-part
returns-in-Fault-clause-part g c = λ play four.
    let is : script_of c.deref.result.now ≡ Err c.in-Fault.fault.line = c.in-Fault.ensures.0 in
    part_of_whole _ _ c.in-Whole.text.items _ _ _ _ _ c.in-Whole.ensures.answer.0 c.in-Whole.ensures.answer.1
    (ap script_of (sym c.deref.ensures.value) ∙ is) refl (c.refuse.ensures.part four)

pub returns-in-Whole-clause-part : goal.returns-in-Whole-clause-part
returns-in-Whole-clause-part g c = λ play four. nothing_printed _ _ _

pub returns-in-Long-clause-part : goal.returns-in-Long-clause-part
returns-in-Long-clause-part g c = λ play four. part_of_long _ _ _ _ _ c.in-Long.ensures.answer (c.refuse-in-Long.ensures.part four)

pub returns-clause-part : goal.returns-clause-part
returns-clause-part g c = λ play four. nothing_printed _ _ _

pub returns-in-Valid-clause-ran : goal.returns-in-Valid-clause-ran
returns-in-Valid-clause-ran g c = λ well.
    ran_well g.B.Bay.tells _ _ _ _ _ _ c.in-Whole.text.items _ (g.B.Bay.connection c.play_script.result.bay) c.play_script.result.ends.items c.in-Whole.ensures.answer.0 c.in-Whole.ensures.answer.1
    (ap script_of (sym c.deref.ensures.value) ∙ c.in-Valid.ensures) (c.play_script.ensures.report well) (c.play_script.ensures.asked well) (c.play_script.ensures.ended well) c.play_script.ensures.causes

pub returns-in-Valid-clause-causes : goal.returns-in-Valid-clause-causes
returns-in-Valid-clause-causes g c =
    right_of_whole g.B.Bay.tells _ _ c.in-Whole.text.items _ (g.B.Bay.connection c.play_script.result.bay) c.play_script.result.ends.items c.in-Whole.ensures.answer.0 c.in-Whole.ensures.answer.1
    (ap script_of (sym c.deref.ensures.value) ∙ c.in-Valid.ensures) c.play_script.ensures.causes

pub returns-in-Valid-clause-complete : goal.returns-in-Valid-clause-complete
returns-in-Valid-clause-complete g c = λ play tells input output accept. runs_well _ _ _ c.play_script.ensures.statuses c.play_script.ensures.output c.play_script.ensures.accept output accept

pub returns-in-Fault-clause-complete : goal.returns-in-Fault-clause-complete
returns-in-Fault-clause-complete g c = λ play tells input output accept.
    let is : script_of c.deref.result.now ≡ Err c.in-Fault.fault.line = c.in-Fault.ensures.0 in
    absurd (no_fault _ _ c.in-Whole.text.items c.in-Fault.fault.line c.in-Whole.ensures.answer.0 c.in-Whole.ensures.answer.1 (ap script_of (sym c.deref.ensures.value) ∙ is) tells)

pub returns-in-Long-clause-complete : goal.returns-in-Long-clause-complete
returns-in-Long-clause-complete g c = λ play tells input output accept. absurd (no_long _ _ c.in-Long.ensures.answer tells)

pub returns-in-Long-clause-causes : goal.returns-in-Long-clause-causes
returns-in-Long-clause-causes g c = nobody_right g.B.Bay.tells _ _ _ c.refuse-in-Long.ensures.ends

pub returns-in-Fault-clause-causes : goal.returns-in-Fault-clause-causes
returns-in-Fault-clause-causes g c = nobody_right g.B.Bay.tells _ _ _ c.refuse.ensures.ends
