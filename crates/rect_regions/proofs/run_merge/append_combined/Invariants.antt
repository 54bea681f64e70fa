use Rattle.std.proofs.Common.{◌-◌, ◌≤◌}
use Rattle.rect_regions.specs.Combinations.{keeps}
use Rattle.rect_regions.specs.Making.{columns, RunsSoFar}
use Rattle.rect_regions.specs.Sweeping.{IsRightOf}
use Rattle.rect_regions.proofs.run_merge.append_combined.Given as goal

abbrev pub invariant-loop-x : goal.invariant-loop-x
invariant-loop-x l = record {
  runs : RunsSoFar l.fn.rects.items l.rects.items l.top l.bottom (λ x. keeps l.combination (columns l.one x) (columns l.other x)) l.from l.x;
  one : IsRightOf l.x l.one l.one_left;
  other : IsRightOf l.x l.other l.other_left;
  limit : l.limit ≤ 4096;
  across : l.x ≤ 4096;
}

abbrev pub decreases-loop-x : goal.decreases-loop-x
decreases-loop-x l = l.limit - l.x
