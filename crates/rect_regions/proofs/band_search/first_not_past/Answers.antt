use Rattle.std.proofs.Common.{◌<◌, ◌+◌, ◌-◌, ◌/◌, sym, ◌∙◌, arith}
use Rattle.rect_regions.proofs.Searches.{past_to, ahead_at}
use Rattle.rect_regions.proofs.band_search.first_not_past.Goals as goal

pub loop-low-preserved-then-is_past : goal.loop-low-preserved-then-is_past
loop-low-preserved-then-is_past c =
    let low = c.loop-low.low in
    let high = c.loop-low.high in
    let order : low < high = c.loop-low-test.true in
    let near : low + (high - low) / 2 < high = omega arith in
    record {
      order = omega arith;
      within = c.loop-low.invariant.within;
      before = past_to c.args.rects.now (low + (high - low) / 2) c.index-rects-middle.result c.args.x c.args.y c.requires (omega (arith, c.loop-low.invariant.within)) c.index-rects-middle.is
          (sym c.is_past.ensures ∙ c.if-is_past.true);
      behind = c.loop-low.invariant.behind;
    }

pub loop-low-preserved : goal.loop-low-preserved
loop-low-preserved c =
    let low = c.loop-low.low in
    let high = c.loop-low.high in
    let order : low < high = c.loop-low-test.true in
    let near : low + (high - low) / 2 < high = omega arith in
    record {
      order = omega arith;
      within = omega (arith, c.loop-low.invariant.within);
      before = c.loop-low.invariant.before;
      behind = ahead_at c.args.rects.now (low + (high - low) / 2) c.index-rects-middle.result c.args.x c.args.y c.requires (omega (arith, c.loop-low.invariant.within)) c.index-rects-middle.is
          (sym c.is_past.ensures ∙ c.if-is_past.false);
    }
