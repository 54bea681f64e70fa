use Rattle.session_state.specs.Views.{known}
use Rattle.session_settling.specs.Through.{IsAny}
use Rattle.session_settling.proofs.Acts.{both, settling_then}
use Rattle.session_settling.proofs.Turning.{so_far_on, accepts_on, one_came, nobody_came, nobody_room, still_full, not_full, failed, failed_asked, no_memory}
use Rattle.session_settling.proofs.turns.settle.Goals as goal

pub turns-smaller-in-Conn : goal.turns-smaller-in-Conn
turns-smaller-in-Conn g c = (one_came (known g.B.Bay.tells g.B.Bay.provider g.B.Bay.connection) c.settling_keeps_a_session.ensures.keeps c.args.state.now c.turns.state c.accept.new.self c.turns.invariant.through c.turns.invariant.so_far c.in-Conn.field-0 c.in-Conn.ensures).1

pub turns-preserved-in-Conn : goal.turns-preserved-in-Conn
turns-preserved-in-Conn g c = record { through = (accepts_on (known g.B.Bay.tells g.B.Bay.provider g.B.Bay.connection) c.settling_keeps_a_session.ensures.keeps c.args.state.now c.turns.state c.accept.new.self c.turns.invariant.through c.accept.result c.accept.ensures); so_far = (one_came (known g.B.Bay.tells g.B.Bay.provider g.B.Bay.connection) c.settling_keeps_a_session.ensures.keeps c.args.state.now c.turns.state c.accept.new.self c.turns.invariant.through c.turns.invariant.so_far c.in-Conn.field-0 c.in-Conn.ensures).0 }

pub returns-in-Failed-clause-through : goal.returns-in-Failed-clause-through
returns-in-Failed-clause-through g c = (accepts_on (known g.B.Bay.tells g.B.Bay.provider g.B.Bay.connection) c.settling_keeps_a_session.ensures.keeps c.args.state.now c.turns.state c.accept.new.self c.turns.invariant.through c.accept.result c.accept.ensures)

pub returns-in-Failed-clause-settled : goal.returns-in-Failed-clause-settled
returns-in-Failed-clause-settled g c = record { asked = failed_asked (known g.B.Bay.tells g.B.Bay.provider g.B.Bay.connection) c.settling_keeps_a_session.ensures.keeps c.args.state.now c.turns.state c.accept.new.self c.turns.invariant.through c.turns.invariant.so_far c.in-Failed.ensures; ends = failed (known g.B.Bay.tells g.B.Bay.provider g.B.Bay.connection) c.settling_keeps_a_session.ensures.keeps c.args.state.now c.turns.state c.accept.new.self c.turns.invariant.through c.turns.invariant.so_far c.in-Failed.ensures }

pub returns-in-NoMemory-clause-through : goal.returns-in-NoMemory-clause-through
returns-in-NoMemory-clause-through g c = (accepts_on (known g.B.Bay.tells g.B.Bay.provider g.B.Bay.connection) c.settling_keeps_a_session.ensures.keeps c.args.state.now c.turns.state c.accept.new.self c.turns.invariant.through c.accept.result c.accept.ensures)

pub returns-in-NoMemory-clause-settled : goal.returns-in-NoMemory-clause-settled
returns-in-NoMemory-clause-settled g c = let so_far = no_memory (known g.B.Bay.tells g.B.Bay.provider g.B.Bay.connection) c.settling_keeps_a_session.ensures.keeps c.args.state.now c.turns.state c.accept.new.self c.turns.invariant.through c.turns.invariant.so_far c.in-NoMemory.ensures in record { asked = so_far.asked; ends = so_far.faults }

pub settle_next-requires : goal.settle_next-requires
settle_next-requires g c = record { settling = (settling_then (known g.B.Bay.tells g.B.Bay.provider g.B.Bay.connection) c.settling_keeps_a_session.ensures.keeps IsAny c.args.state.now c.accept.new.self c.requires.settling (accepts_on (known g.B.Bay.tells g.B.Bay.provider g.B.Bay.connection) c.settling_keeps_a_session.ensures.keeps c.args.state.now c.turns.state c.accept.new.self c.turns.invariant.through c.accept.result c.accept.ensures)) }

pub turns-smaller-in-Ended : goal.turns-smaller-in-Ended
turns-smaller-in-Ended g c = nobody_room (known g.B.Bay.tells g.B.Bay.provider g.B.Bay.connection) c.settling_keeps_a_session.ensures.keeps c.args.state.now c.turns.state c.accept.new.self c.turns.invariant.through c.turns.invariant.so_far c.in-Nobody.ensures c.settle_next.new.state c.in-Ended.ensures.next.0

pub turns-preserved-in-Ended : goal.turns-preserved-in-Ended
turns-preserved-in-Ended g c = record {
  through = (both (known g.B.Bay.tells g.B.Bay.provider g.B.Bay.connection) c.settling_keeps_a_session.ensures.keeps IsAny c.args.state.now c.accept.new.self c.settle_next.new.state (accepts_on (known g.B.Bay.tells g.B.Bay.provider g.B.Bay.connection) c.settling_keeps_a_session.ensures.keeps c.args.state.now c.turns.state c.accept.new.self c.turns.invariant.through c.accept.result c.accept.ensures) c.settle_next.ensures.through);
  so_far = so_far_on (known g.B.Bay.tells g.B.Bay.provider g.B.Bay.connection) c.args.state.now c.accept.new.self c.settle_next.new.state (nobody_came (known g.B.Bay.tells g.B.Bay.provider g.B.Bay.connection) c.settling_keeps_a_session.ensures.keeps c.args.state.now c.turns.state c.accept.new.self c.turns.invariant.through c.turns.invariant.so_far c.in-Nobody.ensures) c.in-Ended.ensures.next.0.provider c.in-Ended.ensures.next.1;
}

pub returns-in-Lost-clause-through : goal.returns-in-Lost-clause-through
returns-in-Lost-clause-through g c = (both (known g.B.Bay.tells g.B.Bay.provider g.B.Bay.connection) c.settling_keeps_a_session.ensures.keeps IsAny c.args.state.now c.accept.new.self c.settle_next.new.state (accepts_on (known g.B.Bay.tells g.B.Bay.provider g.B.Bay.connection) c.settling_keeps_a_session.ensures.keeps c.args.state.now c.turns.state c.accept.new.self c.turns.invariant.through c.accept.result c.accept.ensures) c.settle_next.ensures.through)

pub returns-in-NoneOpen-clause-through : goal.returns-in-NoneOpen-clause-through
returns-in-NoneOpen-clause-through g c = (both (known g.B.Bay.tells g.B.Bay.provider g.B.Bay.connection) c.settling_keeps_a_session.ensures.keeps IsAny c.args.state.now c.accept.new.self c.settle_next.new.state (accepts_on (known g.B.Bay.tells g.B.Bay.provider g.B.Bay.connection) c.settling_keeps_a_session.ensures.keeps c.args.state.now c.turns.state c.accept.new.self c.turns.invariant.through c.accept.result c.accept.ensures) c.settle_next.ensures.through)

pub settle_next-requires-in-Full : goal.settle_next-requires-in-Full
settle_next-requires-in-Full g c = record { settling = (settling_then (known g.B.Bay.tells g.B.Bay.provider g.B.Bay.connection) c.settling_keeps_a_session.ensures.keeps IsAny c.args.state.now c.accept.new.self c.requires.settling (accepts_on (known g.B.Bay.tells g.B.Bay.provider g.B.Bay.connection) c.settling_keeps_a_session.ensures.keeps c.args.state.now c.turns.state c.accept.new.self c.turns.invariant.through c.accept.result c.accept.ensures)) }

pub turns-preserved : goal.turns-preserved
turns-preserved g c = record {
  through = (both (known g.B.Bay.tells g.B.Bay.provider g.B.Bay.connection) c.settling_keeps_a_session.ensures.keeps IsAny c.args.state.now c.accept.new.self c.settle_next-in-Full.new.state (accepts_on (known g.B.Bay.tells g.B.Bay.provider g.B.Bay.connection) c.settling_keeps_a_session.ensures.keeps c.args.state.now c.turns.state c.accept.new.self c.turns.invariant.through c.accept.result c.accept.ensures) c.settle_next-in-Full.ensures.through);
  so_far = so_far_on (known g.B.Bay.tells g.B.Bay.provider g.B.Bay.connection) c.args.state.now c.accept.new.self c.settle_next-in-Full.new.state (still_full (known g.B.Bay.tells g.B.Bay.provider g.B.Bay.connection) c.settling_keeps_a_session.ensures.keeps c.args.state.now c.turns.state c.accept.new.self c.turns.invariant.through c.turns.invariant.so_far c.in-Full.ensures) c.in-Ended-settle_next.ensures.next.0.provider c.in-Ended-settle_next.ensures.next.1;
}

pub returns-in-Lost-settle_next-clause-through : goal.returns-in-Lost-settle_next-clause-through
returns-in-Lost-settle_next-clause-through g c = (both (known g.B.Bay.tells g.B.Bay.provider g.B.Bay.connection) c.settling_keeps_a_session.ensures.keeps IsAny c.args.state.now c.accept.new.self c.settle_next-in-Full.new.state (accepts_on (known g.B.Bay.tells g.B.Bay.provider g.B.Bay.connection) c.settling_keeps_a_session.ensures.keeps c.args.state.now c.turns.state c.accept.new.self c.turns.invariant.through c.accept.result c.accept.ensures) c.settle_next-in-Full.ensures.through)

pub unreachable-requires : goal.unreachable-requires
unreachable-requires g c = not_full (known g.B.Bay.tells g.B.Bay.provider g.B.Bay.connection) c.settling_keeps_a_session.ensures.keeps c.args.state.now c.turns.state c.accept.new.self c.turns.invariant.through c.turns.invariant.so_far c.in-Full.ensures c.in-NoneOpen-settle_next.ensures.next.0
