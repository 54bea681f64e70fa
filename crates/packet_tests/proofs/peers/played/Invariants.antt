use Rattle.std.proofs.Common.{◌≤◌}
use Rattle.packet_tests.proofs.peers.played.Given as goal

-- the peer was accepted
abbrev pub invariant-loop-place : goal.invariant-loop-place
invariant-loop-place l = 1 ≤ l.bay.accepted
