use Rattle.connection_steps.proofs.Greeting.{goodbye}
use Rattle.connection_steps.proofs.laws.a_refused_client_gets_its_goodbye.Goals as goal

pub returns : goal.returns
returns c = goodbye c.what_is_heard_is_what_was_given.ensures.ends c.a_greeted_client_stays_so.ensures.refused
