use Rattle.client_talk.proofs.Greeting.{stays, refused}
use Rattle.client_talk.proofs.laws.a_greeted_client_stays_so.Goals as goal

pub returns-clause-caps : goal.returns-clause-caps
returns-clause-caps g c = stays

pub returns-clause-refused : goal.returns-clause-refused
returns-clause-refused g c = refused
