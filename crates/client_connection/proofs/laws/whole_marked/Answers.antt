use Rattle.client_connection.proofs.Marked.{has_all}
use Rattle.client_connection.proofs.laws.whole_marked.Goals as goal

pub returns : goal.returns
returns c = has_all
