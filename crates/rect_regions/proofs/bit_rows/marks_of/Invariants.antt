use Rattle.std.proofs.Common.{◌≡◌, ◌/◌, ◌%◌, map}
use Rattle.std.specs.List.{range_with_len}
use Rattle.rect_regions.proofs.bit_rows.marks_of.Given as goal

abbrev pub invariant-loop-k : goal.invariant-loop-k
invariant-loop-k g l = l.marks.items ≡ map (λ k. g.T.PointTest.test l.points (k % l.wide) (k / l.wide)) (range_with_len 0 l.k)
