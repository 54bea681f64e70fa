use Rattle.std.proofs.Common.{◌≡◌, ℕ, sym, ap, ◌∙◌, arith}
use Rattle.rect_regions.specs.PointSets.{count_row, sum_below}
use Rattle.rect_regions.specs.BitRows.{has_mark}
use Rattle.rect_regions.proofs.Counts.{count_of-within}
use Rattle.rect_regions.proofs.Marks.{no_mark_right, no_mark_below}
use Rattle.rect_regions.proofs.bit_region.BitRegionPoints.count.Goals as goal

pub returns : goal.returns
returns c =
    let b = c.args.self.now in
    let kept = c.high-high.ensures.kept in
    let at : c.loop-y.y ≡ b.high = omega (arith, c.high-high.ensures.value) in
    c.loop-y.invariant.counted
    ∙ ap (λ (n : ℕ). sum_below n (count_row b.wide (has_mark b))) at
    ∙ sym (count_of-within (has_mark b) b.wide b.high kept.across kept.down (no_mark_right b) (no_mark_below b))
