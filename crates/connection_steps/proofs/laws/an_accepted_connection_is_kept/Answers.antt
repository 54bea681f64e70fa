use Rattle.connection_steps.proofs.Bytes.{accepted_kept, waiting_keeps}
use Rattle.connection_steps.proofs.laws.an_accepted_connection_is_kept.Goals as goal

pub returns-clause-accepted : goal.returns-clause-accepted
returns-clause-accepted c = accepted_kept

pub returns-clause-waiting : goal.returns-clause-waiting
returns-clause-waiting c = waiting_keeps
