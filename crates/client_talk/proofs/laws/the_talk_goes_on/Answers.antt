use Rattle.client_talk.proofs.Bytes.{Laws, listening}
use Rattle.client_talk.proofs.laws.the_talk_goes_on.Goals as goal

pub returns : goal.returns
returns g c = listening (record {
  append = c.appending_reads_on.ensures;
  before = c.packets_before_stay.ensures;
  whole = c.a_talk_goes_packet_by_packet.ensures.whole;
  later = c.a_talk_goes_packet_by_packet.ensures.later;
})
