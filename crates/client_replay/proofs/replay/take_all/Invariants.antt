use Rattle.std.proofs.Common.{length}
use Rattle.client_replay.proofs.Going.{GoesOn}
use Rattle.client_replay.specs.Replaying.{painting}
use Rattle.client_replay.proofs.replay.take_all.Given as goal

abbrev pub invariant-loop-place : goal.invariant-loop-place
invariant-loop-place l = GoesOn (painting l.initial.framer l.initial.desk l.initial.replies.items) (painting l.framer l.desk l.replies.items)

abbrev pub decreases-loop-place : goal.decreases-loop-place
decreases-loop-place l = length l.framer.rest
