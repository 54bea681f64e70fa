use Rattle.session_steps.proofs.Coming.{accept_keeps}
use Rattle.session_steps.proofs.laws.an_accept_keeps_a_session.Goals as goal

pub returns : goal.returns
returns g c = accept_keeps c.causes_stay.ensures c.an_accepted_connection_is_kept.ensures.accepted
