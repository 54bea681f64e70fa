use Rattle.std.proofs.Common.{◌≡◌, take}
use Rattle.session_core.specs.State.{open_count}
use Rattle.session_core.proofs.settle_turn.first_open.Given as goal

abbrev pub invariant-loop-place : goal.invariant-loop-place
invariant-loop-place l = open_count (take l.place l.clients) ≡ 0
