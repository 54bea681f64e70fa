use Rattle.open_connection.proofs.Changing.{changing_tells, changing_listens, changing_fits}
use Rattle.open_connection.proofs.laws.a_change_keeps_a_connection.Goals as goal

pub returns-clause-told : goal.returns-clause-told
returns-clause-told c = let keeps = c.a_change_keeps_a_client.ensures in changing_tells keeps.told keeps.stays

pub returns-clause-listens : goal.returns-clause-listens
returns-clause-listens c = changing_listens c.a_change_keeps_a_client.ensures.stays

pub returns-clause-fits : goal.returns-clause-fits
returns-clause-fits c = changing_fits c.a_change_keeps_a_client.ensures.fits
