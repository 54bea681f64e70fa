use Rattle.open_connection.proofs.Keeping.{hearing_tells}
use Rattle.open_connection.proofs.laws.hearing_keeps_what_is_told.Goals as goal

pub returns : goal.returns
returns c = hearing_tells c.a_client_that_attaches_is_told.ensures c.a_new_client_attaches.ensures c.acting_keeps_what_is_told.ensures
