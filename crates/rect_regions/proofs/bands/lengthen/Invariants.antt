use Rattle.std.proofs.Common.{◌≡◌, ◌++◌, map, take, drop, length}
use Rattle.rect_regions.specs.Making.{lengthened}
use Rattle.rect_regions.proofs.bands.lengthen.Given as goal

abbrev pub invariant-loop-i : goal.invariant-loop-i
invariant-loop-i l = record {
  done : take l.i l.rects.items ≡ take l.from l.fn.rects.items ++ map (lengthened l.bottom) (drop l.from (take l.i l.fn.rects.items));
  rest : drop l.i l.rects.items ≡ drop l.i l.fn.rects.items;
  sized : length l.rects.items ≡ length l.fn.rects.items;
}
