use Rattle.std.proofs.Common.{refl, arith}
use Rattle.session_state.specs.Views.{known}
use Rattle.session_settling.specs.Through.{IsOn}
use Rattle.session_settling.proofs.Acts.{settling_then}
use Rattle.session_settling.proofs.Heard.{over}
use Rattle.session_settling.proofs.Readings.{ready, reads_on, reads_out, uses_more, waits_more, not_quiet, flooded}
use Rattle.session_settling.proofs.reading.receive_all.Goals as goal

pub receive-requires : goal.receive-requires
receive-requires g c = record {
  ready = ready (known g.B.Bay.tells g.B.Bay.provider g.B.Bay.connection) c.reads.state
      (settling_then (known g.B.Bay.tells g.B.Bay.provider g.B.Bay.connection) c.settling_keeps_a_session.ensures.keeps (IsOn c.args.c.0) c.args.state.now c.reads.state c.requires.settling c.reads.invariant.through);
}

pub returns-then-left-eq0-clause-through : goal.returns-then-left-eq0-clause-through
returns-then-left-eq0-clause-through g c = reads_on (known g.B.Bay.tells g.B.Bay.provider g.B.Bay.connection) c.settling_keeps_a_session.ensures.keeps c.args.c c.args.state.now c.reads.state c.receive.new.self c.reads.invariant.through c.receive.result c.receive.ensures

pub returns-then-left-eq0-clause-read : goal.returns-then-left-eq0-clause-read
returns-then-left-eq0-clause-read g c = flooded (known g.B.Bay.tells g.B.Bay.provider g.B.Bay.connection) c.settling_keeps_a_session.ensures.keeps c.args.c c.args.state.now c.reads.state c.receive.new.self c.reads.invariant.through
    c.args.rest c.reads.left c.reads.invariant.some c.reads.invariant.used c.reads.invariant.waits c.in-Took.count c.saturating_sub-left.result c.saturating_sub-left.ensures c.in-Took.ensures (let none = c.if-left-eq0.true in omega (arith, none))

pub reads-preserved : goal.reads-preserved
reads-preserved g c = record {
  through = reads_on (known g.B.Bay.tells g.B.Bay.provider g.B.Bay.connection) c.settling_keeps_a_session.ensures.keeps c.args.c c.args.state.now c.reads.state c.receive.new.self c.reads.invariant.through c.receive.result c.receive.ensures;
  some = let some = c.if-left-eq0.false in omega (arith, some);
  used = uses_more (known g.B.Bay.tells g.B.Bay.provider g.B.Bay.connection) c.settling_keeps_a_session.ensures.keeps c.args.c c.args.state.now c.reads.state c.receive.new.self c.reads.invariant.through
      c.args.rest c.reads.left c.reads.invariant.some c.reads.invariant.used c.reads.invariant.waits c.in-Took.count c.saturating_sub-left.result c.saturating_sub-left.ensures c.in-Took.ensures;
  waits = waits_more (known g.B.Bay.tells g.B.Bay.provider g.B.Bay.connection) c.settling_keeps_a_session.ensures.keeps c.args.c c.args.state.now c.reads.state c.receive.new.self c.reads.invariant.through
      c.args.rest c.reads.left c.reads.invariant.some c.reads.invariant.used c.reads.invariant.waits c.in-Took.count c.in-Took.ensures;
  quiet = not_quiet (known g.B.Bay.tells g.B.Bay.provider g.B.Bay.connection) c.settling_keeps_a_session.ensures.keeps c.args.c c.args.state.now c.reads.state c.receive.new.self c.reads.invariant.through
      c.args.rest c.reads.left c.reads.invariant.some c.reads.invariant.used c.reads.invariant.waits c.in-Took.count c.saturating_sub-left.result c.saturating_sub-left.ensures c.in-Took.ensures;
}

pub returns-in-Again-clause-through : goal.returns-in-Again-clause-through
returns-in-Again-clause-through g c = reads_on (known g.B.Bay.tells g.B.Bay.provider g.B.Bay.connection) c.settling_keeps_a_session.ensures.keeps c.args.c c.args.state.now c.reads.state c.receive.new.self c.reads.invariant.through c.receive.result c.receive.ensures

pub returns-in-Again-clause-read : goal.returns-in-Again-clause-read
returns-in-Again-clause-read g c = reads_out (known g.B.Bay.tells g.B.Bay.provider g.B.Bay.connection) c.settling_keeps_a_session.ensures.keeps c.args.c c.args.state.now c.reads.state c.receive.new.self c.reads.invariant.through
    c.args.rest c.reads.left c.reads.invariant.some c.reads.invariant.used c.reads.invariant.waits c.reads.invariant.quiet c.in-Again.ensures

pub returns-in-Closed-clause-through : goal.returns-in-Closed-clause-through
returns-in-Closed-clause-through g c = reads_on (known g.B.Bay.tells g.B.Bay.provider g.B.Bay.connection) c.settling_keeps_a_session.ensures.keeps c.args.c c.args.state.now c.reads.state c.receive.new.self c.reads.invariant.through c.receive.result c.receive.ensures

pub returns-in-Closed-clause-read : goal.returns-in-Closed-clause-read
returns-in-Closed-clause-read g c = over (known g.B.Bay.tells g.B.Bay.provider g.B.Bay.connection) c.args.c c.reads.state c.receive.new.self _ refl c.in-Closed.ensures

pub returns-in-Ended-clause-through : goal.returns-in-Ended-clause-through
returns-in-Ended-clause-through g c = reads_on (known g.B.Bay.tells g.B.Bay.provider g.B.Bay.connection) c.settling_keeps_a_session.ensures.keeps c.args.c c.args.state.now c.reads.state c.receive.new.self c.reads.invariant.through c.receive.result c.receive.ensures

pub returns-in-Ended-clause-read : goal.returns-in-Ended-clause-read
returns-in-Ended-clause-read g c = over (known g.B.Bay.tells g.B.Bay.provider g.B.Bay.connection) c.args.c c.reads.state c.receive.new.self _ refl c.in-Ended.ensures

pub returns-in-NoMemory-clause-through : goal.returns-in-NoMemory-clause-through
returns-in-NoMemory-clause-through g c = reads_on (known g.B.Bay.tells g.B.Bay.provider g.B.Bay.connection) c.settling_keeps_a_session.ensures.keeps c.args.c c.args.state.now c.reads.state c.receive.new.self c.reads.invariant.through c.receive.result c.receive.ensures

pub returns-in-NoMemory-clause-read : goal.returns-in-NoMemory-clause-read
returns-in-NoMemory-clause-read g c = over (known g.B.Bay.tells g.B.Bay.provider g.B.Bay.connection) c.args.c c.reads.state c.receive.new.self _ refl c.in-NoMemory.ensures
