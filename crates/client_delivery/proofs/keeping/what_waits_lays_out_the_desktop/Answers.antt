use Rattle.client_delivery.proofs.Writing.{told_lays_out}
use Rattle.client_delivery.proofs.keeping.what_waits_lays_out_the_desktop.Goals as goal

pub returns : goal.returns
returns c = told_lays_out c.a_message_follows.ensures
