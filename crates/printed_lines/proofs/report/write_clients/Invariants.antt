use Rattle.std.proofs.Common.{◌≡◌, ◌++◌, drop}
use Rattle.printed_lines.specs.Report.{client_lines}
use Rattle.printed_lines.proofs.report.write_clients.Given as goal

abbrev pub invariant-loop-number : goal.invariant-loop-number
invariant-loop-number l = l.text ++ client_lines l.number (drop l.number l.ends) ≡ l.initial.text ++ client_lines 0 l.ends
