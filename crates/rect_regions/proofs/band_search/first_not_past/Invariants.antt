use Rattle.std.proofs.Common.{◌-◌, ◌≤◌, length, take, drop}
use Rattle.rect_regions.specs.Bands.{Each}
use Rattle.rect_regions.proofs.Searches.{IsPast, IsAhead}
use Rattle.rect_regions.proofs.band_search.first_not_past.Given as goal

abbrev pub invariant-loop-low : goal.invariant-loop-low
invariant-loop-low l = record {
  order : l.low ≤ l.high;
  within : l.high ≤ length l.rects;
  before : Each (IsPast l.x l.y) (take l.low l.rects);
  behind : Each (IsAhead l.x l.y) (drop l.high l.rects);
}

abbrev pub decreases-loop-low : goal.decreases-loop-low
decreases-loop-low l = l.high - l.low
