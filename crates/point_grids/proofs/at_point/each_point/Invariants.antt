use Rattle.std.proofs.Common.{◌≡◌, ◌/◌, ◌%◌, map}
use Rattle.std.specs.List.{range_with_len}
use Rattle.point_grids.proofs.at_point.each_point.Given as goal

abbrev pub invariant-loop-k : goal.invariant-loop-k
invariant-loop-k g l = l.items.items ≡ map (λ k. g.T.AtPoint.value l.values (k % l.wide) (k / l.wide)) (range_with_len 0 l.k)
