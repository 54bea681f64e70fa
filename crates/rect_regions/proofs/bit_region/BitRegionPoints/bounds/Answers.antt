use Rattle.std.proofs.Common.{sym, ◌∙◌}
use Rattle.rect_regions.proofs.BitBounds.{bounds_on, bounds_off, bounds_end}
use Rattle.rect_regions.proofs.bit_region.BitRegionPoints.bounds.Goals as goal
use Rattle.rect_regions.proofs.bit_region.BitRegionPoints.bounds.Goals.{then-test, else-test}

pub loop-k-preserved : goal.loop-k-preserved
loop-k-preserved c =
    let b = c.args.self.now in
    let k = c.loop-k.k in
    let wide = c.wide-wide.result in
    elim c.if-test.branch [
      | then-test w ↦
          rw (w.bounds-is, w.with_point.ensures)
          (bounds_on b wide k c.loop-k.bounds c.wide-wide.ensures.value c.wide-wide.ensures.kept (sym c.test.ensures ∙ w.if-test.true) c.loop-k.invariant)
      | else-test w ↦ rw w.bounds-is (bounds_off b wide k c.loop-k.bounds c.wide-wide.ensures.value (sym c.test.ensures ∙ w.if-test.false) c.loop-k.invariant)
    ]

pub returns : goal.returns
returns c =
    bounds_end c.args.self.now c.wide-wide.result c.high-high.result c.loop-k.k c.loop-k.bounds c.wide-wide.ensures.value c.high-high.ensures.value c.loop-k-test.false c.loop-k.invariant
