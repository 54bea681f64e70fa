use Rattle.std.proofs.Common.{refl}
use Rattle.packet_frames.proofs.Taking.{gives_less}
use Rattle.client_replay.specs.Replaying.{Painting, painting}
use Rattle.client_replay.proofs.Going.{goes_on, ends_in, ends_short, ends_whole, ends_bad, ends_unread}
use Rattle.client_replay.proofs.replay.take_all.Goals as goal

pub loop-place-smaller : goal.loop-place-smaller
loop-place-smaller c = gives_less c.loop-place.framer c.in-Packet.place c.in-Packet.value c.next.new.self c.in-Packet.ensures.gives

pub loop-place-preserved : goal.loop-place-preserved
loop-place-preserved c =
    goes_on (painting c.args.framer.now c.args.desk.now c.args.replies.now.items) (painting c.loop-place.framer c.loop-place.desk c.loop-place.replies.items) c.loop-place.invariant
    c.next.new.self c.in-Packet.place c.in-Packet.value c.in-Packet.ensures.gives c.in-Packet.ensures.history
    (painting c.next.new.self c.take.new.desk c.take.new.replies.items) refl c.in-Shown.ensures

pub returns-in-Faulty-clause-history : goal.returns-in-Faulty-clause-history
returns-in-Faulty-clause-history c =
    ends_in (painting c.args.framer.now c.args.desk.now c.args.replies.now.items) (painting c.loop-place.framer c.loop-place.desk c.loop-place.replies.items) c.loop-place.invariant
    c.next.new.self c.in-Packet.place c.in-Packet.value c.in-Packet.ensures.gives c.in-Packet.ensures.history
    c.take.new.desk c.take.new.replies.items c.in-Faulty.fault c.in-Faulty.ensures

pub returns-in-NoMemory-take-clause-history : goal.returns-in-NoMemory-take-clause-history
returns-in-NoMemory-take-clause-history c =
    ends_short (painting c.args.framer.now c.args.desk.now c.args.replies.now.items) (painting c.loop-place.framer c.loop-place.desk c.loop-place.replies.items) c.loop-place.invariant
    c.next.new.self c.in-Packet.place c.in-Packet.value c.in-Packet.ensures.gives c.in-Packet.ensures.history
    c.take.new.desk c.take.new.replies.items c.in-NoMemory-take.ensures

pub returns-in-Need-clause-history : goal.returns-in-Need-clause-history
returns-in-Need-clause-history c =
    ends_whole (painting c.args.framer.now c.args.desk.now c.args.replies.now.items) (painting c.loop-place.framer c.loop-place.desk c.loop-place.replies.items) c.loop-place.invariant
    c.next.new.self c.in-Need.ensures.history

pub returns-in-Bad-clause-history : goal.returns-in-Bad-clause-history
returns-in-Bad-clause-history c =
    ends_bad (painting c.args.framer.now c.args.desk.now c.args.replies.now.items) (painting c.loop-place.framer c.loop-place.desk c.loop-place.replies.items) c.loop-place.invariant
    c.next.new.self c.in-Bad.place c.in-Bad.fault c.in-Bad.ensures.history

pub returns-in-NoMemory-clause-history : goal.returns-in-NoMemory-clause-history
returns-in-NoMemory-clause-history c =
    ends_unread (painting c.args.framer.now c.args.desk.now c.args.replies.now.items) (painting c.loop-place.framer c.loop-place.desk c.loop-place.replies.items) c.loop-place.invariant
    c.next.new.self c.in-NoMemory.ensures.history
