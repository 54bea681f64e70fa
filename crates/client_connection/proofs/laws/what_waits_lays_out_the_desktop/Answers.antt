use Rattle.client_connection.proofs.Shown.{will_show}
use Rattle.client_connection.proofs.laws.what_waits_lays_out_the_desktop.Goals as goal

pub returns : goal.returns
returns c = will_show
