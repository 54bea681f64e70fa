use Rattle.client_talk.proofs.Bytes.{Laws, marks_follow}
use Rattle.client_talk.proofs.laws.marks_follow_the_talk.Goals as goal

pub returns : goal.returns
returns g c = marks_follow (record {
  append = c.appending_reads_on.ensures;
  before = c.packets_before_stay.ensures;
  whole = c.a_talk_goes_packet_by_packet.ensures.whole;
  later = c.a_talk_goes_packet_by_packet.ensures.later;
})
