use Rattle.client_connection.proofs.Sendings.{client_next}
use Rattle.client_connection.proofs.client.Client.take.Goals as goal

pub invariant_of-self-else-self-n : goal.invariant_of-self-else-self-n
invariant_of-self-else-self-n c = client_next _ c.self.invariant c.remove.ensures.items
