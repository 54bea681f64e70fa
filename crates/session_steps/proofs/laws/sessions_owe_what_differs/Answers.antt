use Rattle.session_steps.proofs.LinesPainted.{session_owes}
use Rattle.session_steps.proofs.laws.sessions_owe_what_differs.Goals as goal

pub returns : goal.returns
returns g c = session_owes c.differing_pixels_are_owed.ensures
