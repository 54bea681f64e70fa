use Rattle.connection_steps.proofs.Greeting.{standing, reading, stays}
use Rattle.connection_steps.proofs.laws.an_attached_client_has_greeted.Goals as goal

pub returns-clause-stands : goal.returns-clause-stands
returns-clause-stands c = standing c.a_client_is_greeted_by_its_bytes.ensures.going

pub returns-clause-read : goal.returns-clause-read
returns-clause-read c = reading c.a_client_is_greeted_by_its_bytes.ensures.attached

pub returns-clause-keeps : goal.returns-clause-keeps
returns-clause-keeps c = stays c.a_greeted_client_stays_so.ensures.caps
