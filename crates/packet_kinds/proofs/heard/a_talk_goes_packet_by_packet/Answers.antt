use Rattle.packet_kinds.proofs.Talks.{talk-is, packet_is_heard, later_are_heard, fault_is_heard, shape_stays}
use Rattle.packet_kinds.proofs.heard.a_talk_goes_packet_by_packet.Goals as goal

pub returns-clause-whole : goal.returns-clause-whole
returns-clause-whole c = talk-is

pub returns-clause-packet : goal.returns-clause-packet
returns-clause-packet c = packet_is_heard

pub returns-clause-fault : goal.returns-clause-fault
returns-clause-fault c = fault_is_heard

pub returns-clause-shape : goal.returns-clause-shape
returns-clause-shape c = shape_stays

pub returns-clause-later : goal.returns-clause-later
returns-clause-later c = later_are_heard
