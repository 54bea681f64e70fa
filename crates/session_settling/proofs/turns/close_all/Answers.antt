use Rattle.session_state.specs.Views.{known}
use Rattle.session_settling.specs.Through.{IsAny}
use Rattle.session_settling.proofs.Acts.{settling_then}
use Rattle.session_settling.proofs.Readings.{ready}
use Rattle.session_settling.proofs.Closed.{closes_one, closes_on, one_fewer}
use Rattle.session_settling.proofs.turns.close_all.Goals as goal

pub end-requires : goal.end-requires
end-requires g c = record { ready = ready (known g.B.Bay.tells g.B.Bay.provider g.B.Bay.connection) c.open.state (settling_then (known g.B.Bay.tells g.B.Bay.provider g.B.Bay.connection) c.settling_keeps_a_session.ensures.keeps IsAny c.args.state.now c.open.state c.requires.settling c.open.invariant.through) }

pub open-smaller : goal.open-smaller
open-smaller g c = one_fewer (known g.B.Bay.tells g.B.Bay.provider g.B.Bay.connection) c.in-Some.c c.args.state.now c.open.state c.end.new.self (c.in-Some.ensures.some.there).0 (c.in-Some.ensures.some.there).1 c.end.ensures

pub open-preserved : goal.open-preserved
open-preserved g c = record {
  through = closes_on (known g.B.Bay.tells g.B.Bay.provider g.B.Bay.connection) c.in-Some.c c.args.state.now c.open.state c.end.new.self (c.in-Some.ensures.some.there).0 (c.in-Some.ensures.some.there).1 c.end.ensures c.settling_keeps_a_session.ensures.keeps c.ends_of_settling_have_causes.ensures.came c.open.invariant.through;
  closed = closes_one (known g.B.Bay.tells g.B.Bay.provider g.B.Bay.connection) c.in-Some.c c.args.state.now c.open.state c.end.new.self (c.in-Some.ensures.some.there).0 (c.in-Some.ensures.some.there).1 c.end.ensures c.open.invariant.closed;
}
