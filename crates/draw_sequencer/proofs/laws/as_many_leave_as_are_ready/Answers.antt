use Rattle.draw_sequencer.proofs.Leaving.{leaving_ready, ready_leaves, none_ready}
use Rattle.draw_sequencer.proofs.laws.as_many_leave_as_are_ready.Goals as goal

pub returns : goal.returns
returns g c = record { leaving = leaving_ready; some = ready_leaves; none = none_ready }
