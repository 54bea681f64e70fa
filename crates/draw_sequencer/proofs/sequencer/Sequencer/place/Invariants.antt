use Rattle.std.proofs.Common.{◌≡◌, None, take}
use Rattle.draw_sequencer.specs.InHand.{job_of}
use Rattle.draw_sequencer.proofs.sequencer.Sequencer.place.Given as goal

abbrev pub invariant-loop-i : goal.invariant-loop-i
invariant-loop-i g l = job_of (take l.i l.self-inside.jobs.items) l.id.0 ≡ None
