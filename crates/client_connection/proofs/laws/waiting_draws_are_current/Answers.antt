use Rattle.client_connection.proofs.Shown.{windows_steady}
use Rattle.client_connection.proofs.laws.waiting_draws_are_current.Goals as goal

pub returns : goal.returns
returns c = windows_steady
