use Rattle.std.proofs.Common.{length}
use Rattle.attached_client.specs.Client.{ClientSeen}
use Rattle.last_draws.specs.Filing.{FilesSome, FilesThrough}
use Rattle.last_draws.proofs.drawing.file_all.Given as goal

abbrev pub invariant-jobs : goal.invariant-jobs
invariant-jobs l = record {
  some : (c' : ClientSeen) → FilesSome l.wid l.now l.client.client c' → FilesSome l.wid l.now l.fn.client.client c';
  all : (c' : ClientSeen) → FilesThrough l.wid l.now l.left.items l.client.client c' → FilesThrough l.wid l.now l.fn.jobs l.fn.client.client c';
}

abbrev pub decreases-jobs : goal.decreases-jobs
decreases-jobs l = length l.left.items
