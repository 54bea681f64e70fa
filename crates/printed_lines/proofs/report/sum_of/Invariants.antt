use Rattle.std.proofs.Common.{◌≡◌, ◌≤◌, ◌*◌, take}
use Rattle.std.specs.Prelude.{sum}
use Rattle.printed_lines.proofs.report.sum_of.Given as goal

abbrev pub invariant-loop-pixel : goal.invariant-loop-pixel
invariant-loop-pixel l = record {
  so_far : l.total ≡ sum (take l.pixel-index l.pixels);
  small : l.total ≤ 16777216 * l.pixel-index;
}
