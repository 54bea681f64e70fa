use Rattle.std.proofs.Common.{◌≡◌, ◌++◌, drop}
use Rattle.printed_lines.specs.Report.{window_lines}
use Rattle.printed_lines.proofs.report.write_each.Given as goal

abbrev pub invariant-loop-window : goal.invariant-loop-window
invariant-loop-window l = l.text ++ window_lines (drop l.window-index l.windows) ≡ l.initial.text ++ window_lines l.windows
