use Rattle.std.proofs.Common.{◌≡◌, ◌+◌, ◌<◌, ◌≤◌, ◌^◌, ◌++◌, length}
use Rattle.window_source.specs.Taking.{AreNew}
use Rattle.window_source.proofs.taking.add_all.Given as goal

abbrev pub invariant-loop-job : goal.invariant-loop-job
invariant-loop-job g l = record {
  together : l.jobs.jobs ++ l.made.items ≡ l.initial.jobs.jobs ++ l.fn.made.items;
  new : AreNew l.jobs.jobs l.made.items;
  few : length l.jobs.jobs + length l.made.items < 2 ^ 31;
  room : length l.made.items ≤ l.jobs.room;
}

abbrev pub decreases-loop-job : goal.decreases-loop-job
decreases-loop-job g l = length l.made.items
