use Rattle.std.proofs.Common.{◌+◌, length, sym, ap, ◌∙◌, arith}
use Rattle.session_steps.specs.Slots.{Slots, taken_over}
use Rattle.session_state.specs.Views.{slots_in}
use Rattle.session_state.proofs.Viewed.{view_long}
use Rattle.session_state.proofs.Stepping.{one_more, first_long}
use Rattle.session_state.proofs.take_over.take_over.Goals as goal

pub loop-number-preserved : goal.loop-number-preserved
loop-number-preserved g c =
    let kept = c.loop-number.invariant in
    let more = one_more (taken_over c.args.c c.args.uuid.now) c.loop-number.number (slots_in c.args.table.now.slots) (slots_in c.loop-number.table.slots) (slots_in c.take_over_one.new.table.slots) kept.0
    (let long = view_long c.args.table.now.slots in let low = c.loop-number-test.true in let within = c.requires.within in omega (arith, long, low, within)) c.take_over_one.ensures.slots in (
      more,
      sym (view_long c.take_over_one.new.table.slots) ∙ ap (λ (ss : Slots). length ss) more ∙ (let all = first_long (taken_over c.args.c c.args.uuid.now) (c.loop-number.number + 1) (slots_in c.args.table.now.slots) in all) ∙ view_long c.args.table.now.slots,
      (let low = c.loop-number-test.true in omega (arith, low)),
      (λ d. c.take_over_one.ensures.connections d ∙ kept.3 d),
      c.take_over_one.ensures.provider ∙ kept.4,
    )
