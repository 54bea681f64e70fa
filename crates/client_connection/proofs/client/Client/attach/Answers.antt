use Rattle.client_connection.proofs.Sendings.{client_attached}
use Rattle.client_connection.proofs.client.Client.attach.Goals as goal

pub invariant_of-self : goal.invariant_of-self
invariant_of-self c = client_attached c.args.desk.now _ _ c.self.invariant c.in_ok-sources.ensures.packets
