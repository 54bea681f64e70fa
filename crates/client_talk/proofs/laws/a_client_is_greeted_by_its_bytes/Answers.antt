use Rattle.client_talk.proofs.Bytes.{Laws}
use Rattle.client_talk.proofs.Greeting.{going, attached}
use Rattle.client_talk.proofs.laws.a_client_is_greeted_by_its_bytes.Goals as goal

pub returns-clause-going : goal.returns-clause-going
returns-clause-going g c = going (record {
  append = c.appending_reads_on.ensures;
  before = c.packets_before_stay.ensures;
  whole = c.a_talk_goes_packet_by_packet.ensures.whole;
  later = c.a_talk_goes_packet_by_packet.ensures.later;
})

pub returns-clause-attached : goal.returns-clause-attached
returns-clause-attached g c = attached (record {
  append = c.appending_reads_on.ensures;
  before = c.packets_before_stay.ensures;
  whole = c.a_talk_goes_packet_by_packet.ensures.whole;
  later = c.a_talk_goes_packet_by_packet.ensures.later;
})
