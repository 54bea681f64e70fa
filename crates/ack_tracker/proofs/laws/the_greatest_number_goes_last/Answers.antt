use Rattle.ack_tracker.proofs.Walked.{placed_last}
use Rattle.ack_tracker.proofs.laws.the_greatest_number_goes_last.Goals as goal

pub returns : goal.returns
returns c = placed_last
