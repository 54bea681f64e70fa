use Rattle.session_steps.proofs.Settled.{settling_begins, settling_keeps}
use Rattle.session_steps.proofs.settling.settling_keeps_a_session.Goals as goal

pub returns-clause-begins : goal.returns-clause-begins
returns-clause-begins g c = settling_begins

pub returns-clause-keeps : goal.returns-clause-keeps
returns-clause-keeps g c = settling_keeps
    (record {
      stay = c.causes_stay.ensures;
      count_earlier = c.causes_count_from_earlier.ensures;
      any_desk = c.only_settled_speaks_of_the_desktop.ensures;
    })
    (record {
      accepts = c.an_accept_keeps_a_session.ensures;
      reads = c.a_read_keeps_a_session.ensures;
      writes = c.a_write_keeps_a_session.ensures;
      draws = c.drawing_keeps_a_session.ensures;
    })
