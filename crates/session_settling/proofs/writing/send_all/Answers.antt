use Rattle.std.proofs.Common.{refl, ap, arith, ◌+◌}
use Rattle.session_state.specs.Views.{known}
use Rattle.session_settling.specs.Through.{IsOn}
use Rattle.session_settling.proofs.Acts.{settling_then}
use Rattle.session_settling.proofs.Readings.{ready}
use Rattle.session_settling.proofs.Written.{waits_left, took, again, over}
use Rattle.session_settling.proofs.Writings.{ended_none, writes_on, took_more, took_none, is_written, stalls, runs_short}
use Rattle.session_settling.proofs.writing.send_all.Goals as goal

pub send-requires-clause-ready : goal.send-requires-clause-ready
send-requires-clause-ready g c = ready (known g.B.Bay.tells g.B.Bay.provider g.B.Bay.connection) c.writes.state (settling_then (known g.B.Bay.tells g.B.Bay.provider g.B.Bay.connection) c.settling_keeps_a_session.ensures.keeps (IsOn c.args.c.0) c.args.state.now c.writes.state c.requires.settling c.writes.invariant.through)

pub writes-smaller-in-Took : goal.writes-smaller-in-Took
writes-smaller-in-Took g c = let is = took (known g.B.Bay.tells g.B.Bay.provider g.B.Bay.connection) c.args.c c.writes.state c.send.new.self c.bytes_go_out_in_order.ensures.taken 65536 (omega arith) (settling_then (known g.B.Bay.tells g.B.Bay.provider g.B.Bay.connection) c.settling_keeps_a_session.ensures.keeps (IsOn c.args.c.0) c.args.state.now c.writes.state c.requires.settling c.writes.invariant.through) c.in-Took.field-0 c.in-Took.ensures in let less = is.less in omega (arith, less)

pub writes-preserved-in-Took : goal.writes-preserved-in-Took
writes-preserved-in-Took g c = record {
  through = writes_on (known g.B.Bay.tells g.B.Bay.provider g.B.Bay.connection) c.settling_keeps_a_session.ensures.keeps c.bytes_go_out_in_order.ensures.taken c.args.c 65536 (omega arith) c.args.state.now c.writes.state c.send.new.self c.requires.settling c.writes.invariant.through c.send.result c.send.ensures;
  written = took_more (known g.B.Bay.tells g.B.Bay.provider g.B.Bay.connection) c.settling_keeps_a_session.ensures.keeps c.bytes_go_out_in_order.ensures.taken c.args.c 65536 (omega arith) c.args.state.now c.writes.state c.send.new.self c.requires.settling c.writes.invariant.through c.writes.dry c.writes.waited c.writes.invariant.written c.in-Took.field-0 c.in-Took.ensures;
}

pub end-requires : goal.end-requires
end-requires g c = record { ready = ready (known g.B.Bay.tells g.B.Bay.provider g.B.Bay.connection) c.send.new.self (settling_then (known g.B.Bay.tells g.B.Bay.provider g.B.Bay.connection) c.settling_keeps_a_session.ensures.keeps (IsOn c.args.c.0) c.args.state.now c.send.new.self c.requires.settling (writes_on (known g.B.Bay.tells g.B.Bay.provider g.B.Bay.connection) c.settling_keeps_a_session.ensures.keeps c.bytes_go_out_in_order.ensures.taken c.args.c 65536 (omega arith) c.args.state.now c.writes.state c.send.new.self c.requires.settling c.writes.invariant.through c.send.result c.send.ensures)) }

pub returns-then-dry-eq-DRY_LIMIT-clause-through : goal.returns-then-dry-eq-DRY_LIMIT-clause-through
returns-then-dry-eq-DRY_LIMIT-clause-through g c = stalls (known g.B.Bay.tells g.B.Bay.provider g.B.Bay.connection) c.settling_keeps_a_session.ensures.keeps c.bytes_go_out_in_order.ensures.taken c.args.c 65536 (omega arith) c.args.state.now c.writes.state c.send.new.self c.requires.settling c.writes.invariant.through c.writes.dry c.writes.waited c.writes.invariant.written c.ends_of_settling_have_causes.ensures.came (c.writes.dry + 1) refl c.if-dry-eq-DRY_LIMIT.true c.in-Again.ensures c.end.new.self c.end.ensures

pub returns-then-dry-eq-DRY_LIMIT-clause-written : goal.returns-then-dry-eq-DRY_LIMIT-clause-written
returns-then-dry-eq-DRY_LIMIT-clause-written g c = ended_none (known g.B.Bay.tells g.B.Bay.provider g.B.Bay.connection) c.args.c _ c.send.new.self c.end.new.self c.end.ensures

pub writes-smaller : goal.writes-smaller
writes-smaller g c = let is = again (known g.B.Bay.tells g.B.Bay.provider g.B.Bay.connection) c.args.c c.writes.state c.send.new.self c.bytes_go_out_in_order.ensures.taken 65536 (omega arith) (settling_then (known g.B.Bay.tells g.B.Bay.provider g.B.Bay.connection) c.settling_keeps_a_session.ensures.keeps (IsOn c.args.c.0) c.args.state.now c.writes.state c.requires.settling c.writes.invariant.through) c.in-Again.ensures in let low = c.writes.invariant.written.low in let same = ap waits_left is.same in omega (arith, same, low)

pub writes-preserved : goal.writes-preserved
writes-preserved g c = record {
  through = writes_on (known g.B.Bay.tells g.B.Bay.provider g.B.Bay.connection) c.settling_keeps_a_session.ensures.keeps c.bytes_go_out_in_order.ensures.taken c.args.c 65536 (omega arith) c.args.state.now c.writes.state c.send.new.self c.requires.settling c.writes.invariant.through c.send.result c.send.ensures;
  written = took_none (known g.B.Bay.tells g.B.Bay.provider g.B.Bay.connection) c.settling_keeps_a_session.ensures.keeps c.bytes_go_out_in_order.ensures.taken c.args.c 65536 (omega arith) c.args.state.now c.writes.state c.send.new.self c.requires.settling c.writes.invariant.through c.writes.dry c.writes.waited c.writes.invariant.written (c.writes.dry + 1) refl (let low = c.writes.invariant.written.low in let other = c.if-dry-eq-DRY_LIMIT.false in omega (arith, low, other)) c.in-Again.ensures;
}

pub returns-in-Idle-clause-through : goal.returns-in-Idle-clause-through
returns-in-Idle-clause-through g c = writes_on (known g.B.Bay.tells g.B.Bay.provider g.B.Bay.connection) c.settling_keeps_a_session.ensures.keeps c.bytes_go_out_in_order.ensures.taken c.args.c 65536 (omega arith) c.args.state.now c.writes.state c.send.new.self c.requires.settling c.writes.invariant.through c.send.result c.send.ensures

pub returns-in-Idle-clause-written : goal.returns-in-Idle-clause-written
returns-in-Idle-clause-written g c = is_written (known g.B.Bay.tells g.B.Bay.provider g.B.Bay.connection) c.settling_keeps_a_session.ensures.keeps c.bytes_go_out_in_order.ensures.taken c.args.c 65536 (omega arith) c.args.state.now c.writes.state c.send.new.self c.requires.settling c.writes.invariant.through c.writes.dry c.writes.waited c.writes.invariant.written c.in-Idle.ensures

pub end-requires-in-NoMemory : goal.end-requires-in-NoMemory
end-requires-in-NoMemory g c = record { ready = ready (known g.B.Bay.tells g.B.Bay.provider g.B.Bay.connection) c.send.new.self (settling_then (known g.B.Bay.tells g.B.Bay.provider g.B.Bay.connection) c.settling_keeps_a_session.ensures.keeps (IsOn c.args.c.0) c.args.state.now c.send.new.self c.requires.settling (writes_on (known g.B.Bay.tells g.B.Bay.provider g.B.Bay.connection) c.settling_keeps_a_session.ensures.keeps c.bytes_go_out_in_order.ensures.taken c.args.c 65536 (omega arith) c.args.state.now c.writes.state c.send.new.self c.requires.settling c.writes.invariant.through c.send.result c.send.ensures)) }

pub returns-in-NoMemory-clause-through : goal.returns-in-NoMemory-clause-through
returns-in-NoMemory-clause-through g c = runs_short (known g.B.Bay.tells g.B.Bay.provider g.B.Bay.connection) c.settling_keeps_a_session.ensures.keeps c.bytes_go_out_in_order.ensures.taken c.args.c 65536 (omega arith) c.args.state.now c.writes.state c.send.new.self c.requires.settling c.writes.invariant.through c.writes.dry c.writes.waited c.writes.invariant.written c.ends_of_settling_have_causes.ensures.came c.in-NoMemory.ensures c.end-in-NoMemory.new.self c.end-in-NoMemory.ensures

pub returns-in-NoMemory-clause-written : goal.returns-in-NoMemory-clause-written
returns-in-NoMemory-clause-written g c = ended_none (known g.B.Bay.tells g.B.Bay.provider g.B.Bay.connection) c.args.c _ c.send.new.self c.end-in-NoMemory.new.self c.end-in-NoMemory.ensures

pub returns-in-Closed-clause-through : goal.returns-in-Closed-clause-through
returns-in-Closed-clause-through g c = writes_on (known g.B.Bay.tells g.B.Bay.provider g.B.Bay.connection) c.settling_keeps_a_session.ensures.keeps c.bytes_go_out_in_order.ensures.taken c.args.c 65536 (omega arith) c.args.state.now c.writes.state c.send.new.self c.requires.settling c.writes.invariant.through c.send.result c.send.ensures

pub returns-in-Closed-clause-written : goal.returns-in-Closed-clause-written
returns-in-Closed-clause-written g c = over (known g.B.Bay.tells g.B.Bay.provider g.B.Bay.connection) c.args.c c.writes.state c.send.new.self c.bytes_go_out_in_order.ensures.taken 65536 (omega arith) (settling_then (known g.B.Bay.tells g.B.Bay.provider g.B.Bay.connection) c.settling_keeps_a_session.ensures.keeps (IsOn c.args.c.0) c.args.state.now c.writes.state c.requires.settling c.writes.invariant.through) _ refl c.in-Closed.ensures

pub returns-in-Ended-clause-through : goal.returns-in-Ended-clause-through
returns-in-Ended-clause-through g c = writes_on (known g.B.Bay.tells g.B.Bay.provider g.B.Bay.connection) c.settling_keeps_a_session.ensures.keeps c.bytes_go_out_in_order.ensures.taken c.args.c 65536 (omega arith) c.args.state.now c.writes.state c.send.new.self c.requires.settling c.writes.invariant.through c.send.result c.send.ensures

pub returns-in-Ended-clause-written : goal.returns-in-Ended-clause-written
returns-in-Ended-clause-written g c = over (known g.B.Bay.tells g.B.Bay.provider g.B.Bay.connection) c.args.c c.writes.state c.send.new.self c.bytes_go_out_in_order.ensures.taken 65536 (omega arith) (settling_then (known g.B.Bay.tells g.B.Bay.provider g.B.Bay.connection) c.settling_keeps_a_session.ensures.keeps (IsOn c.args.c.0) c.args.state.now c.writes.state c.requires.settling c.writes.invariant.through) _ refl c.in-Ended.ensures
