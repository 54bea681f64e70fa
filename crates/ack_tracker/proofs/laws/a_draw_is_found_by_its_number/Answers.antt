use Rattle.ack_tracker.proofs.Walked.{rect_placed, length_placed}
use Rattle.ack_tracker.proofs.laws.a_draw_is_found_by_its_number.Goals as goal

pub returns : goal.returns
returns c = record { found = rect_placed; count = length_placed }
