use Rattle.delivery_log.proofs.Agreements.{agreement_later}
use Rattle.delivery_log.proofs.laws.agreement_waits.Goals as goal

pub returns : goal.returns
returns c = agreement_later
