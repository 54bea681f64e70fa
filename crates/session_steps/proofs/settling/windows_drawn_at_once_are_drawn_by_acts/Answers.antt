use Rattle.session_steps.proofs.AtOnce.{drawn_at_once}
use Rattle.session_steps.proofs.settling.windows_drawn_at_once_are_drawn_by_acts.Goals as goal

pub returns : goal.returns
returns g c = drawn_at_once
