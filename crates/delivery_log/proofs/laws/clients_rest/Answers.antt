use Rattle.delivery_log.proofs.Turns.{clients_come_nearer}
use Rattle.delivery_log.proofs.Distances.{client_rests, three_turns}
use Rattle.delivery_log.proofs.laws.clients_rest.Goals as goal

pub returns-clause-windows : goal.returns-clause-windows
returns-clause-windows c = clients_come_nearer

pub returns-clause-turn : goal.returns-clause-turn
returns-clause-turn c = client_rests

pub returns-clause-three : goal.returns-clause-three
returns-clause-three c = three_turns
