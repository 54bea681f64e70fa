use Rattle.std.proofs.Common.{sym, ap, ◌∙◌, arith, length, List, ◌≡◌, false, true}
use Rattle.window_model.specs.Desktop.{Window}
use Rattle.session_state.specs.Views.{known}
use Rattle.session_settling.specs.Through.{IsOn}
use Rattle.session_settling.proofs.Acts.{both, settling_then}
use Rattle.session_settling.proofs.Drawings.{only_both}
use Rattle.session_settling.proofs.Nearing.{desk_same, clear_drawn, draws_more, draws_all}
use Rattle.session_settling.proofs.drawing.draw_all.Goals as goal

pub returns-then-is_clear-clause-drawn : goal.returns-then-is_clear-clause-drawn
returns-then-is_clear-clause-drawn g c = clear_drawn (known g.B.Bay.tells g.B.Bay.provider g.B.Bay.connection) c.args.c.0 c.in_ok-waited.waited c.args.state.now c.send_all.new.state (sym c.is_clear-is_clear.ensures ∙ c.if-is_clear.true) c.in_ok-waited.ensures.written

pub draw_one-requires : goal.draw_one-requires
draw_one-requires g c = record { settling = settling_then (known g.B.Bay.tells g.B.Bay.provider g.B.Bay.connection) c.settling_keeps_a_session.ensures.keeps (IsOn c.args.c.0) c.args.state.now c.windows.state c.requires.settling c.windows.invariant.through }

pub returns-in_err-more-clause-through : goal.returns-in_err-more-clause-through
returns-in_err-more-clause-through g c = both (known g.B.Bay.tells g.B.Bay.provider g.B.Bay.connection) c.settling_keeps_a_session.ensures.keeps (IsOn c.args.c.0) c.args.state.now c.windows.state c.draw_one.new.state c.windows.invariant.through c.draw_one.ensures.through

pub windows-smaller : goal.windows-smaller
windows-smaller g c =
    let same = ap (λ (d : List Window). length d) (desk_same (known g.B.Bay.tells g.B.Bay.provider g.B.Bay.connection) c.settling_keeps_a_session.ensures.keeps (IsOn c.args.c.0) c.args.state.now c.windows.state c.requires.settling c.windows.invariant.through) in
    let here = ap (λ (d : List Window). length d) c.desk.ensures in
    let many = c.len.ensures.value in
    let low = c.windows-test.true in
    omega (arith, same, here, many, low)

pub windows-preserved : goal.windows-preserved
windows-preserved g c = record {
  through = both (known g.B.Bay.tells g.B.Bay.provider g.B.Bay.connection) c.settling_keeps_a_session.ensures.keeps (IsOn c.args.c.0) c.args.state.now c.windows.state c.draw_one.new.state c.windows.invariant.through c.draw_one.ensures.through;
  opened = c.in_ok-more.ensures.drawn.opened;
  empty = c.in_ok-more.ensures.drawn.empty;
  left = λ n left. draws_more (known g.B.Bay.tells g.B.Bay.provider g.B.Bay.connection) c.settling_keeps_a_session.ensures.keeps c.args.c.0 c.args.state.now c.windows.state c.requires.settling c.windows.invariant.through c.windows.place c.in_ok-more.more c.draw_one.new.state c.windows.invariant.empty
      (let here = ap (λ (d : List Window). length d) c.desk.ensures in let many = c.len.ensures.value in let low = c.windows-test.true in omega (arith, here, many, low)) c.in_ok-more.ensures.drawn n (c.windows.invariant.left n left);
  only = only_both (known g.B.Bay.tells g.B.Bay.provider g.B.Bay.connection) c.args.c.0 c.windows.waited c.in_ok-more.more c.args.state.now c.windows.state c.draw_one.new.state c.windows.invariant.only c.in_ok-more.ensures.drawn.only;
}

pub returns-clause-drawn : goal.returns-clause-drawn
returns-clause-drawn g c = record {
  opened = c.windows.invariant.opened;
  empty = c.windows.invariant.empty;
  nearer = λ n left. draws_all (known g.B.Bay.tells g.B.Bay.provider g.B.Bay.connection) c.settling_keeps_a_session.ensures.keeps c.args.c.0 c.args.state.now c.windows.state c.requires.settling c.windows.invariant.through c.windows.place (let here = ap (λ (d : List Window). length d) c.desk.ensures in let many = c.len.ensures.value in let high = c.windows-test.false in omega (arith, here, many, high)) n (c.windows.invariant.left n left);
  only = c.windows.invariant.only;
  none = λ clear none. let bad : false ≡ true = sym c.if-is_clear.false ∙ c.is_clear-is_clear.ensures ∙ clear in absurd (cc bad);
}
