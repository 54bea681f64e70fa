use Rattle.std.proofs.Common.{arith}
use Rattle.session_state.proofs.Carrying.{one_less, carried_more, carried_all}
use Rattle.session_state.proofs.prepare.carry_out_all.Goals as goal

pub loop-preserved : goal.loop-preserved
loop-preserved c =
    let kept = c.loop.invariant in
    let one = one_less c.args.change.now c.args.now c.args.table.now.slots c.loop.table.slots c.carry_out_last.new.table.slots c.loop.made.items c.carry_out_last.new.made.items kept.0 c.carry_out_last.ensures.taken in (
      carried_more c.args.change.now c.args.now c.args.table.now.slots c.loop.table.slots c.carry_out_last.new.table.slots c.loop.made.items c.carry_out_last.new.made.items kept.0 c.carry_out_last.ensures.taken,
      (let count = kept.1 in omega (arith, one, count)),
      (let low = c.loop-test.true in omega (arith, low)),
      kept.3,
    )

pub returns : goal.returns
returns c =
    let kept = c.loop.invariant in
    carried_all c.args.change.now c.args.now c.args.table.now.slots c.loop.table.slots c.loop.made.items kept.0
    (let count = kept.1 in let end = c.loop-test.false in let all = c.len-end.ensures in omega (arith, count, end, all))
