use Rattle.client_talk.proofs.Bytes.{Laws, ends}
use Rattle.client_talk.proofs.laws.an_ending_has_its_cause.Goals as goal

pub returns : goal.returns
returns g c = ends (record {
  append = c.appending_reads_on.ensures;
  before = c.packets_before_stay.ensures;
  whole = c.a_talk_goes_packet_by_packet.ensures.whole;
  later = c.a_talk_goes_packet_by_packet.ensures.later;
})
