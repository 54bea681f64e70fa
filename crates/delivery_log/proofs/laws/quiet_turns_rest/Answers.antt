use Rattle.delivery_log.proofs.Turns.{quiet_turn_rests}
use Rattle.delivery_log.proofs.laws.quiet_turns_rest.Goals as goal

pub returns : goal.returns
returns c = quiet_turn_rests
