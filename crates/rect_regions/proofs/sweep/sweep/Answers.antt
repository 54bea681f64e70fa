use Rattle.std.proofs.Common.{◌≡◌, ◌≤◌, ◌<◌, ℕ, Bool, arith}
use Rattle.rect_regions.specs.PointSets.{has}
use Rattle.rect_regions.specs.Making.{columns, EndsBy}
use Rattle.rect_regions.specs.Combinations.{keeps, combined}
use Rattle.rect_regions.proofs.Rects.{Each-weaker}
use Rattle.rect_regions.proofs.StretchSteps.{below_on, stretch_rows}
use Rattle.rect_regions.proofs.Sweeps.{swept_on}
use Rattle.rect_regions.proofs.sweep.sweep.Goals as goal

pub loop-y-preserved : goal.loop-y-preserved
loop-y-preserved c =
    let y = c.loop-y.y in
    let bottom = c.min-bottom.result in
    let one = c.args.one.now in
    let other = c.args.other.now in
    let left = c.loop-y.one_left.now in
    let right = c.loop-y.other_left.now in
    let above = c.stretch_at-one_rows in
    let below = c.stretch_at-other_rows in
    let set : ℕ → ℕ → Bool = combined c.args.combination (has one) (has other) in
    let row : ℕ → Bool = λ x. keeps c.args.combination (columns above.result.band.now x) (columns below.result.band.now x) in
    let near : bottom ≤ above.result.bottom = omega (arith, c.min-bottom.ensures) in
    let close : bottom ≤ below.result.bottom = omega (arith, c.min-bottom.ensures) in
    let later : y < bottom = omega (arith, c.min-bottom.ensures, above.ensures.down, below.ensures.down) in
    let same : (p q : ℕ) → y ≤ q → q < bottom → set p q ≡ row p =
    stretch_rows c.args.combination one other left right above.result.band.now below.result.band.now above.result.below.now below.result.below.now y above.result.bottom below.result.bottom bottom
    near close c.loop-y.invariant.one c.loop-y.invariant.other above.ensures below.ensures in
    record {
      made = c.in_ok-last.ensures.made;
      points = swept_on set c.args.rects.now.items c.loop-y.rects.items c.add_rows.new.rects.items c.args.from y bottom row c.loop-y.invariant.order (omega arith) same
          c.loop-y.invariant.points c.in_ok-last.ensures.points;
      one = below_on one left c.left_below-one_left.result.now y bottom (omega arith) c.loop-y.invariant.one c.left_below-one_left.ensures;
      other = below_on other right c.left_below-other_left.result.now y bottom (omega arith) c.loop-y.invariant.other c.left_below-other_left.ensures;
      order = omega (arith, c.loop-y.invariant.order);
      limit = c.loop-y.invariant.limit;
      across = omega (arith, above.ensures.limit);
    }

pub returns : goal.returns
returns c =
    let past : c.bottom_row-limit.result ≤ c.loop-y.y = c.loop-y-test.false in
    record {
      made = c.loop-y.invariant.made;
      left = c.loop-y.invariant.one;
      points = c.loop-y.invariant.points;
      order = c.loop-y.invariant.order;
      past = Each-weaker (EndsBy c.bottom_row-limit.result) (EndsBy c.loop-y.y) (λ s h. omega arith) c.args.other.now c.bottom_row-limit.ensures.ends;
      limit = c.loop-y.invariant.across;
    }
