use Rattle.packet_kinds.proofs.Given.{given_are_said, given_fault_stays}
use Rattle.packet_kinds.proofs.heard.a_talk_follows_a_framer.Goals as goal

pub returns : goal.returns
returns c = record {
  begins = given_are_said;
  stops = given_fault_stays;
}
