use Rattle.delivery_model.proofs.Steadies.{is_steady}
use Rattle.delivery_model.proofs.laws.form_gives_invariant.Goals as goal

pub returns : goal.returns
returns c = is_steady
