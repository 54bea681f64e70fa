use Rattle.ack_tracker.proofs.Walked.{rect_without, length_without}
use Rattle.ack_tracker.proofs.laws.one_draw_is_removed.Goals as goal

pub returns : goal.returns
returns c = record { found = rect_without; count = length_without }
