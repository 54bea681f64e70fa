use Rattle.std.proofs.Common.{refl, sym, ◌∙◌, subst, arith, ◌≤◌}
use Rattle.std.specs.Prelude.{◌==◌}
use Rattle.session_steps.specs.Drawing.{is_clear_at}
use Rattle.session_state.specs.Views.{known}
use Rattle.session_settling.specs.Through.{IsOn}
use Rattle.session_settling.proofs.Acts.{both, settling_then}
use Rattle.session_settling.proofs.Heard.{used_both, used_same}
use Rattle.session_settling.proofs.Readings.{ready}
use Rattle.session_settling.proofs.Writings.{ended_none}
use Rattle.session_settling.proofs.Rested.{Nears, rests_so, goes_on, floods, falls_silent, settles}
use Rattle.session_settling.proofs.rounds.settle_connection.Goals as goal

pub receive_all-requires-clause-settling : goal.receive_all-requires-clause-settling
receive_all-requires-clause-settling g c = (settling_then (known g.B.Bay.tells g.B.Bay.provider g.B.Bay.connection) c.settling_keeps_a_session.ensures.keeps (IsOn c.args.c.0) c.args.state.now c.rounds.state c.requires.settling c.rounds.invariant.through)

pub returns-in-Over-clause-through : goal.returns-in-Over-clause-through
returns-in-Over-clause-through g c = (both (known g.B.Bay.tells g.B.Bay.provider g.B.Bay.connection) c.settling_keeps_a_session.ensures.keeps (IsOn c.args.c.0) c.args.state.now c.rounds.state c.receive_all.new.state c.rounds.invariant.through c.receive_all.ensures.through)

pub end-requires : goal.end-requires
end-requires g c = record { ready = ready (known g.B.Bay.tells g.B.Bay.provider g.B.Bay.connection) c.receive_all.new.state (settling_then (known g.B.Bay.tells g.B.Bay.provider g.B.Bay.connection) c.settling_keeps_a_session.ensures.keeps (IsOn c.args.c.0) c.args.state.now c.receive_all.new.state c.requires.settling (both (known g.B.Bay.tells g.B.Bay.provider g.B.Bay.connection) c.settling_keeps_a_session.ensures.keeps (IsOn c.args.c.0) c.args.state.now c.rounds.state c.receive_all.new.state c.rounds.invariant.through c.receive_all.ensures.through)) }

pub returns-in-Flooded-clause-through : goal.returns-in-Flooded-clause-through
returns-in-Flooded-clause-through g c = floods (known g.B.Bay.tells g.B.Bay.provider g.B.Bay.connection) c.settling_keeps_a_session.ensures.keeps c.ends_of_settling_have_causes.ensures.came c.args.c c.args.state.now c.receive_all.new.state c.end.new.self c.requires.settling (both (known g.B.Bay.tells g.B.Bay.provider g.B.Bay.connection) c.settling_keeps_a_session.ensures.keeps (IsOn c.args.c.0) c.args.state.now c.rounds.state c.receive_all.new.state c.rounds.invariant.through c.receive_all.ensures.through)
    c.in-Flooded.ensures.read.0 (used_both (known g.B.Bay.tells g.B.Bay.provider g.B.Bay.connection) c.args.c.0 4194304 c.rounds.left 0 c.args.state.now c.rounds.state c.receive_all.new.state c.rounds.invariant.used c.in-Flooded.ensures.read.1) c.end.ensures

pub returns-in-Flooded-clause-ended : goal.returns-in-Flooded-clause-ended
returns-in-Flooded-clause-ended g c = ended_none (known g.B.Bay.tells g.B.Bay.provider g.B.Bay.connection) c.args.c _ c.receive_all.new.state c.end.new.self c.end.ensures

pub end-requires-then-not-is_attached : goal.end-requires-then-not-is_attached
end-requires-then-not-is_attached g c = record { ready = ready (known g.B.Bay.tells g.B.Bay.provider g.B.Bay.connection) c.receive_all.new.state (settling_then (known g.B.Bay.tells g.B.Bay.provider g.B.Bay.connection) c.settling_keeps_a_session.ensures.keeps (IsOn c.args.c.0) c.args.state.now c.receive_all.new.state c.requires.settling (both (known g.B.Bay.tells g.B.Bay.provider g.B.Bay.connection) c.settling_keeps_a_session.ensures.keeps (IsOn c.args.c.0) c.args.state.now c.rounds.state c.receive_all.new.state c.rounds.invariant.through c.receive_all.ensures.through)) }

pub returns-then-not-is_attached-clause-through : goal.returns-then-not-is_attached-clause-through
returns-then-not-is_attached-clause-through g c = falls_silent (known g.B.Bay.tells g.B.Bay.provider g.B.Bay.connection) c.settling_keeps_a_session.ensures.keeps c.ends_of_settling_have_causes.ensures.came c.args.c c.args.state.now c.rounds.state c.receive_all.new.state c.requires.settling c.rounds.invariant.through c.receive_all.ensures.through c.rounds.left c.in-Out.now c.in-Out.ensures.read c.a_client_at_rest_shows_the_desktop.ensures.greeting (sym c.is_attached.ensures ∙ c.if-not-is_attached.true) c.end-then-not-is_attached.new.self c.end-then-not-is_attached.ensures

pub returns-then-not-is_attached-clause-ended : goal.returns-then-not-is_attached-clause-ended
returns-then-not-is_attached-clause-ended g c = ended_none (known g.B.Bay.tells g.B.Bay.provider g.B.Bay.connection) c.args.c _ c.receive_all.new.state c.end-then-not-is_attached.new.self c.end-then-not-is_attached.ensures

pub draw_all-requires : goal.draw_all-requires
draw_all-requires g c = record { settling = (settling_then (known g.B.Bay.tells g.B.Bay.provider g.B.Bay.connection) c.settling_keeps_a_session.ensures.keeps (IsOn c.args.c.0) c.args.state.now c.receive_all.new.state c.requires.settling (both (known g.B.Bay.tells g.B.Bay.provider g.B.Bay.connection) c.settling_keeps_a_session.ensures.keeps (IsOn c.args.c.0) c.args.state.now c.rounds.state c.receive_all.new.state c.rounds.invariant.through c.receive_all.ensures.through)) }

pub returns-in_default-clause-through : goal.returns-in_default-clause-through
returns-in_default-clause-through g c = (both (known g.B.Bay.tells g.B.Bay.provider g.B.Bay.connection) c.settling_keeps_a_session.ensures.keeps (IsOn c.args.c.0) c.args.state.now c.receive_all.new.state c.draw_all.new.state (both (known g.B.Bay.tells g.B.Bay.provider g.B.Bay.connection) c.settling_keeps_a_session.ensures.keeps (IsOn c.args.c.0) c.args.state.now c.rounds.state c.receive_all.new.state c.rounds.invariant.through c.receive_all.ensures.through) c.draw_all.ensures.through)

pub end-requires-then-is_at_rest : goal.end-requires-then-is_at_rest
end-requires-then-is_at_rest g c = record { ready = ready (known g.B.Bay.tells g.B.Bay.provider g.B.Bay.connection) c.draw_all.new.state (settling_then (known g.B.Bay.tells g.B.Bay.provider g.B.Bay.connection) c.settling_keeps_a_session.ensures.keeps (IsOn c.args.c.0) c.args.state.now c.draw_all.new.state c.requires.settling (both (known g.B.Bay.tells g.B.Bay.provider g.B.Bay.connection) c.settling_keeps_a_session.ensures.keeps (IsOn c.args.c.0) c.args.state.now c.receive_all.new.state c.draw_all.new.state (both (known g.B.Bay.tells g.B.Bay.provider g.B.Bay.connection) c.settling_keeps_a_session.ensures.keeps (IsOn c.args.c.0) c.args.state.now c.rounds.state c.receive_all.new.state c.rounds.invariant.through c.receive_all.ensures.through) c.draw_all.ensures.through)) }

pub returns-then-is_at_rest-clause-through : goal.returns-then-is_at_rest-clause-through
returns-then-is_at_rest-clause-through g c =
    let rest = (rests_so (c.in-Out.now == c.rounds.left) c.in-Some.wrote (is_clear_at c.args.c.0 c.draw_all.new.state) (sym c.is_at_rest.ensures ∙ c.if-is_at_rest.true)) in
    settles (known g.B.Bay.tells g.B.Bay.provider g.B.Bay.connection) c.settling_keeps_a_session.ensures.keeps c.ends_of_settling_have_causes.ensures.came c.args.c c.args.state.now c.rounds.state c.receive_all.new.state c.requires.settling c.rounds.invariant.through c.receive_all.ensures.through c.rounds.left c.in-Out.now c.in-Out.ensures.read c.a_client_at_rest_shows_the_desktop.ensures.shows c.a_client_at_rest_shows_the_desktop.ensures.settles c.a_client_at_rest_shows_the_desktop.ensures.clear
    c.draw_all.new.state c.in-Some.wrote c.draw_all.ensures.through c.in-Some.ensures.drawn rest.0 rest.1 c.end-then-is_at_rest.new.self c.end-then-is_at_rest.ensures

pub returns-then-is_at_rest-clause-ended : goal.returns-then-is_at_rest-clause-ended
returns-then-is_at_rest-clause-ended g c = ended_none (known g.B.Bay.tells g.B.Bay.provider g.B.Bay.connection) c.args.c _ c.draw_all.new.state c.end-then-is_at_rest.new.self c.end-then-is_at_rest.ensures

pub rounds-smaller : goal.rounds-smaller
rounds-smaller g c =
    let on = goes_on (known g.B.Bay.tells g.B.Bay.provider g.B.Bay.connection) c.args.c.0 c.rounds.state c.receive_all.new.state c.draw_all.new.state c.rounds.captures c.rounds.left c.in-Out.now c.in-Some.wrote c.rounds.invariant.near c.rounds.invariant.few c.in-Out.ensures.read
    (settling_then (known g.B.Bay.tells g.B.Bay.provider g.B.Bay.connection) c.settling_keeps_a_session.ensures.keeps (IsOn c.args.c.0) c.args.state.now c.receive_all.new.state c.requires.settling (both (known g.B.Bay.tells g.B.Bay.provider g.B.Bay.connection) c.settling_keeps_a_session.ensures.keeps (IsOn c.args.c.0) c.args.state.now c.rounds.state c.receive_all.new.state c.rounds.invariant.through c.receive_all.ensures.through))
    (sym c.is_attached.ensures ∙ c.if-not-is_attached.false) c.in-Some.ensures.drawn (c.in-Out.now == c.rounds.left) refl (sym c.is_at_rest.ensures ∙ c.if-is_at_rest.false) in
    let less = on.2 in
    let same = c.captures_left-captures.ensures in
    omega (arith, less, same)

pub rounds-preserved : goal.rounds-preserved
rounds-preserved g c =
    let on = goes_on (known g.B.Bay.tells g.B.Bay.provider g.B.Bay.connection) c.args.c.0 c.rounds.state c.receive_all.new.state c.draw_all.new.state c.rounds.captures c.rounds.left c.in-Out.now c.in-Some.wrote c.rounds.invariant.near c.rounds.invariant.few c.in-Out.ensures.read
    (settling_then (known g.B.Bay.tells g.B.Bay.provider g.B.Bay.connection) c.settling_keeps_a_session.ensures.keeps (IsOn c.args.c.0) c.args.state.now c.receive_all.new.state c.requires.settling (both (known g.B.Bay.tells g.B.Bay.provider g.B.Bay.connection) c.settling_keeps_a_session.ensures.keeps (IsOn c.args.c.0) c.args.state.now c.rounds.state c.receive_all.new.state c.rounds.invariant.through c.receive_all.ensures.through))
    (sym c.is_attached.ensures ∙ c.if-not-is_attached.false) c.in-Some.ensures.drawn (c.in-Out.now == c.rounds.left) refl (sym c.is_at_rest.ensures ∙ c.if-is_at_rest.false) in
    record {
      through = (both (known g.B.Bay.tells g.B.Bay.provider g.B.Bay.connection) c.settling_keeps_a_session.ensures.keeps (IsOn c.args.c.0) c.args.state.now c.receive_all.new.state c.draw_all.new.state (both (known g.B.Bay.tells g.B.Bay.provider g.B.Bay.connection) c.settling_keeps_a_session.ensures.keeps (IsOn c.args.c.0) c.args.state.now c.rounds.state c.receive_all.new.state c.rounds.invariant.through c.receive_all.ensures.through) c.draw_all.ensures.through);
      some = c.in-Out.ensures.read.some;
      used = used_same (known g.B.Bay.tells g.B.Bay.provider g.B.Bay.connection) c.args.c.0 4194304 c.in-Out.now c.args.state.now c.receive_all.new.state c.draw_all.new.state
          (used_both (known g.B.Bay.tells g.B.Bay.provider g.B.Bay.connection) c.args.c.0 4194304 c.rounds.left c.in-Out.now c.args.state.now c.rounds.state c.receive_all.new.state c.rounds.invariant.used c.in-Out.ensures.read.used) c.in-Some.ensures.drawn.only.given;
      few = subst (λ n. n ≤ 3) (sym c.captures_left-captures.ensures) on.1;
      near = subst (λ n. Nears (known g.B.Bay.tells g.B.Bay.provider g.B.Bay.connection) c.args.c.0 n c.draw_all.new.state) (sym c.captures_left-captures.ensures) on.0;
    }
