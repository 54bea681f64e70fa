use Rattle.std.proofs.Common.{◌≡◌, drop}
use Rattle.client_connection.specs.Hearing.{script_window}
use Rattle.client_connection.proofs.hearing.script_window.Given as goal

abbrev pub invariant-loop-paint : goal.invariant-loop-paint
invariant-loop-paint l = script_window (drop l.paint-index l.paints) ≡ script_window l.paints
