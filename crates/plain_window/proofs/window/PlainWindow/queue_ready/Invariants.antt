use Rattle.std.proofs.Common.{◌≡◌, ◌≤◌, ◌+◌, false, length}
use Rattle.xp_base.specs.Counts.{greatest}
use Rattle.delivery_model.specs.Events.{queue_ready}
use Rattle.plain_window.specs.Plain.{ready_count}
use Rattle.plain_window.proofs.window.PlainWindow.queue_ready.Given as goal

abbrev pub invariant-loop-self : goal.invariant-loop-self
invariant-loop-self l = record {
  left : queue_ready l.now l.self.jobs l.self ≡ queue_ready l.now l.fn.self.jobs l.fn.self;
  numbers : l.self.next_sequence + ready_count l.self.jobs ≤ greatest;
}

abbrev pub decreases-loop-self : goal.decreases-loop-self
decreases-loop-self l = length l.self.jobs
