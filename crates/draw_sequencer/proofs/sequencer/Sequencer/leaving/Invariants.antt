use Rattle.std.proofs.Common.{◌≡◌, ◌+◌, drop}
use Rattle.draw_sequencer.specs.InHand.{count_leaving}
use Rattle.draw_sequencer.proofs.sequencer.Sequencer.leaving.Given as goal

abbrev pub invariant-loop-i : goal.invariant-loop-i
invariant-loop-i g l = count_leaving l.self-inside.jobs.items l.id.0 ≡ l.i + count_leaving (drop l.i l.self-inside.jobs.items) l.id.0
