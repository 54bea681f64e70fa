use Rattle.session_steps.proofs.Coming.{begins_steady, tick_keeps, order_keeps}
use Rattle.session_steps.proofs.laws.a_session_begins_steady.Goals as goal

pub returns-clause-begins : goal.returns-clause-begins
returns-clause-begins g c = begins_steady

pub returns-clause-tick : goal.returns-clause-tick
returns-clause-tick g c = tick_keeps

pub returns-clause-order : goal.returns-clause-order
returns-clause-order g c = order_keeps c.causes_stay.ensures
