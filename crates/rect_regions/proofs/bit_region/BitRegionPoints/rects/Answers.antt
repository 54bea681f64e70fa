use Rattle.std.proofs.Common.{◌≡◌, ◌+◌, ◌<◌, ◌≤◌, ap, arith}
use Rattle.rect_regions.specs.BitRows.{has_mark}
use Rattle.rect_regions.proofs.RowSteps.{rows_joined_on, made_all}
use Rattle.rect_regions.proofs.BitSteps.{mark_down}
use Rattle.rect_regions.proofs.bit_region.BitRegionPoints.rects.Goals as goal

pub loop-y-preserved : goal.loop-y-preserved
loop-y-preserved c =
    let b = c.args.self.now in
    let y = c.loop-y.y in
    record {
      made = c.join_band-last.ensures.made;
      points = rows_joined_on (has_mark b) c.loop-y.rects.items c.append_row.new.rects.items c.join_band-last.new.rects.items y (y + 1) (λ x. has_mark b x y) (omega arith)
          c.in_ok-append_row.ensures (λ x q low high. let at : q ≡ y = omega arith in ap (has_mark b x) at) c.join_band-last.ensures.points c.loop-y.invariant.points;
    }

pub returns : goal.returns
returns c =
    let b = c.args.self.now in
    let past : b.high ≤ c.loop-y.y = omega (arith, c.high-high.ensures.value) in
    rw c.new-list.ensures (made_all (has_mark b) c.loop-y.rects.items c.loop-y.last c.loop-y.y (λ x q there. let low : q < b.high = mark_down b x q there in omega arith) c.loop-y.invariant.made c.loop-y.invariant.points)
