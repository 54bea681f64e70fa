use Rattle.client_connection.proofs.Marked.{has_marked}
use Rattle.client_connection.proofs.laws.rectangle_marked.Goals as goal

pub returns : goal.returns
returns c = has_marked
