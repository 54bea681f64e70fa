use Rattle.session_steps.proofs.Heard.{receive_keeps}
use Rattle.session_steps.proofs.laws.a_read_keeps_a_session.Goals as goal

pub returns : goal.returns
returns g c = receive_keeps (record {
  causes = record {
    stay = c.causes_stay.ensures;
    count_earlier = c.causes_count_from_earlier.ensures;
    any_desk = c.only_settled_speaks_of_the_desktop.ensures;
  };
  waiting = c.an_accepted_connection_is_kept.ensures.waiting;
  hearing = c.hearing_keeps_a_connection.ensures;
  ends = c.what_ends_a_talk_was_given.ensures;
  stands = c.an_attached_client_has_greeted.ensures.stands;
  reads = c.an_attached_client_has_greeted.ensures.read;
  goodbye = c.a_refused_client_gets_its_goodbye.ensures;
})
