use Rattle.std.proofs.Common.{◌+◌}
use Rattle.rect_regions.specs.BitRows.{has_mark}
use Rattle.rect_regions.specs.Making.{RunsSoFar}
use Rattle.rect_regions.proofs.bit_rects.append_row.Given as goal

abbrev pub invariant-loop-x : goal.invariant-loop-x
invariant-loop-x l = RunsSoFar l.fn.rects.items l.rects.items l.fn.y (l.fn.y + 1) (λ x. has_mark l.fn.bits x l.fn.y) l.from l.x
