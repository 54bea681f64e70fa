use Rattle.client_connection.proofs.Sendings.{rest_taken}
use Rattle.client_connection.proofs.laws.taken_gone.Goals as goal

pub returns : goal.returns
returns c = rest_taken
