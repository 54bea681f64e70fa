use Rattle.std.proofs.Common.{◌≡◌, length, sym, ◌∙◌, arith}
use Rattle.std.proofs.lemmas.List.{take_all}
use Rattle.rgb_encoders.proofs.lanes.pixels_of.Goals as goal

pub returns : goal.returns
returns c =
    let long : length c.loop-i.pixels ≡ 16 = c.loop-i.invariant.0 in
    sym (take_all c.loop-i.i c.loop-i.pixels (omega arith)) ∙ c.loop-i.invariant.1 ∙ take_all c.loop-i.i c.args.numbers (omega arith)
