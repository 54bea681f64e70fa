use Rattle.std.proofs.Common.{◌≡◌, take}
use Rattle.capture_jobs.specs.Planning.{one_each}
use Rattle.capture_jobs.proofs.planning.one_each.Given as goal

abbrev pub invariant-loop-i : goal.invariant-loop-i
invariant-loop-i l = l.items.items ≡ one_each l.refresh l.lossy (take l.i l.rects)
