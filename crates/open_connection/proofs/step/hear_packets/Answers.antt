use Rattle.packet_frames.proofs.Taking.{gives_less}
use Rattle.std.proofs.Common.{sym, subst}
use Rattle.std.specs.Option.{option_map}
use Rattle.attached_client.specs.Client.{client_in}
use Rattle.attached_client.specs.Acting.{acts}
use Rattle.open_connection.specs.Reading.{StopsAt}
use Rattle.open_connection.proofs.Hearings.{at_first, goes_on, ends_so, short_at, hears_all, faulty_at, counts_on}
use Rattle.open_connection.proofs.step.hear_packets.Goals as goal

pub loop-place-init : goal.loop-place-init
loop-place-init c = at_first _ _ _

pub returns-in-Ends : goal.returns-in-Ends
returns-in-Ends c = (
  c.loop-place.invariant.ignored,
  c.loop-place.invariant.counted,
  ends_so c.a_packet_given_was_the_next.ensures _ _ _ _ _ _ _ c.loop-place.ignored c.in-Packet.place c.in-Packet.value c.in-Ends.ending c.loop-place.invariant c.in-Packet.ensures.gives c.in-Ends.ensures,
)

pub returns-in-NoMemory-take_packet : goal.returns-in-NoMemory-take_packet
returns-in-NoMemory-take_packet c =
    let a = acts c.args.beside.now.desk.now c.args.beside.now.conn.0 c.args.beside.now.moment in (
      c.loop-place.invariant.ignored,
      c.loop-place.invariant.counted,
      subst (λ k. StopsAt a c.args.framer.now (option_map client_in c.args.client.now) k c.loop-place.invariant.ignored) (sym c.in-NoMemory-take_packet.ensures)
          (short_at c.a_packet_given_was_the_next.ensures a c.args.framer.now _ c.loop-place.framer c.loop-place.framer (option_map client_in c.loop-place.client) c.loop-place.ignored c.loop-place.invariant),
    )

pub loop-place-smaller : goal.loop-place-smaller
loop-place-smaller c = gives_less c.loop-place.framer c.in-Packet.place c.in-Packet.value c.next.new.self c.in-Packet.ensures.gives

pub loop-place-preserved : goal.loop-place-preserved
loop-place-preserved c =
    goes_on c.a_packet_given_was_the_next.ensures _ _ _ c.loop-place.framer c.next.new.self (option_map client_in c.loop-place.client) (option_map client_in c.take_packet.new.client) c.loop-place.ignored c.counted-ignored.result c.in-Packet.place c.in-Packet.value c.in-Handled.was_ignored
    c.loop-place.invariant c.in-Packet.ensures.gives c.in-Handled.ensures (counts_on c.loop-place.ignored c.counted-ignored.result c.in-Handled.was_ignored c.counted-ignored.ensures)

pub returns-in-Need : goal.returns-in-Need
returns-in-Need c = (
  c.loop-place.invariant.ignored,
  c.loop-place.invariant.counted,
  hears_all _ _ _ c.loop-place.framer c.next.new.self (option_map client_in c.loop-place.client) c.loop-place.ignored c.loop-place.invariant c.in-Need.ensures.gives c.in-Need.ensures.again,
)

pub returns-in-Bad : goal.returns-in-Bad
returns-in-Bad c = (
  c.loop-place.invariant.ignored,
  c.loop-place.invariant.counted,
  faulty_at _ _ _ c.loop-place.framer c.next.new.self (option_map client_in c.loop-place.client) c.loop-place.ignored c.in-Bad.place c.in-Bad.fault c.loop-place.invariant c.in-Bad.ensures.gives,
)

pub returns-in-NoMemory : goal.returns-in-NoMemory
returns-in-NoMemory c =
    let a = acts c.args.beside.now.desk.now c.args.beside.now.conn.0 c.args.beside.now.moment in (
      c.loop-place.invariant.ignored,
      c.loop-place.invariant.counted,
      short_at c.a_packet_given_was_the_next.ensures a c.args.framer.now _ c.loop-place.framer c.loop-place.framer (option_map client_in c.loop-place.client) c.loop-place.ignored c.loop-place.invariant,
    )
