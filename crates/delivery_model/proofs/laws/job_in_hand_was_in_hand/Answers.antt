use Rattle.delivery_model.proofs.Runs.{in_hand_step}
use Rattle.delivery_model.proofs.laws.job_in_hand_was_in_hand.Goals as goal

pub returns : goal.returns
returns c lossy_shows next k capture old o e from job = in_hand_step lossy_shows next k capture old o e from job
