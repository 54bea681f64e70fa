use Rattle.std.proofs.Common.{◌≡◌, ◌<◌, ◌^◌, length, length-set, sym, ◌∙◌, subst, arith}
use Rattle.std.proofs.lemmas.List.{get_or_read, take_all}
use Rattle.std.specs.List.{AllByRecursion}
use Rattle.rgb_encoders.proofs.Rows.{numbers_more, small_more}
use Rattle.rgb_encoders.proofs.lanes.numbers_of.Goals as goal

pub loop-i-preserved : goal.loop-i-preserved
loop-i-preserved c =
    let long : length c.loop-i.numbers ≡ 16 = c.loop-i.invariant.0 in
    let is = c.get.ensures.value ∙ get_or_read c.args.pixels.now c.loop-i.i c.index-pixels-i.result (omega arith) c.index-pixels-i.is 0 in (
      length-set c.loop-i.numbers c.loop-i.i c.get.result ∙ long,
      numbers_more c.loop-i.numbers c.args.pixels.now c.loop-i.i c.get.result (omega arith) (omega arith) is c.loop-i.invariant.1,
      small_more c.loop-i.numbers c.loop-i.i c.get.result (omega arith) c.get.ensures.small c.loop-i.invariant.2,
    )

pub returns-clause-same : goal.returns-clause-same
returns-clause-same c =
    let long : length c.loop-i.numbers ≡ 16 = c.loop-i.invariant.0 in
    sym (take_all c.loop-i.i c.loop-i.numbers (omega arith)) ∙ c.loop-i.invariant.1 ∙ take_all c.loop-i.i c.args.pixels.now (omega arith)

pub returns-clause-sized : goal.returns-clause-sized
returns-clause-sized c = c.loop-i.invariant.0

pub returns-clause-small : goal.returns-clause-small
returns-clause-small c =
    let long : length c.loop-i.numbers ≡ 16 = c.loop-i.invariant.0 in
    subst (AllByRecursion (λ n. n < 2 ^ 24)) (take_all c.loop-i.i c.loop-i.numbers (omega arith)) c.loop-i.invariant.2
