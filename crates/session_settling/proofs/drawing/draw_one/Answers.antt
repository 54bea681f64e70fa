use Rattle.std.proofs.Common.{sym, ◌∙◌}
use Rattle.std.specs.Prelude.{is_ok}
use Rattle.session_state.specs.Views.{known}
use Rattle.session_settling.specs.Through.{IsOn}
use Rattle.session_settling.proofs.Acts.{both, settling_then}
use Rattle.session_settling.proofs.Writings.{ended_none}
use Rattle.session_settling.proofs.Drawings.{ends_short, draws_through, is_drawn_at, well}
use Rattle.session_settling.proofs.drawing.draw_one.Goals as goal

pub returns-then-is_err-clause-through : goal.returns-then-is_err-clause-through
returns-then-is_err-clause-through g c = both (known g.B.Bay.tells g.B.Bay.provider g.B.Bay.connection) c.settling_keeps_a_session.ensures.keeps (IsOn c.args.c.0) c.args.state.now c.draw.new.self c.end.new.self (draws_through (known g.B.Bay.tells g.B.Bay.provider g.B.Bay.connection) c.args.c c.args.place (is_ok c.draw.result) c.args.state.now c.draw.new.self c.draw.ensures c.windows_drawn_at_once_are_drawn_by_acts.ensures)
    (ends_short (known g.B.Bay.tells g.B.Bay.provider g.B.Bay.connection) c.args.c c.settling_keeps_a_session.ensures.keeps c.ends_of_settling_have_causes.ensures.came c.draw.new.self c.end.new.self c.end.ensures)

pub returns-then-is_err-clause-drawn : goal.returns-then-is_err-clause-drawn
returns-then-is_err-clause-drawn g c = ended_none (known g.B.Bay.tells g.B.Bay.provider g.B.Bay.connection) c.args.c _ c.draw.new.self c.end.new.self c.end.ensures

pub send_all-requires : goal.send_all-requires
send_all-requires g c = record { settling = settling_then (known g.B.Bay.tells g.B.Bay.provider g.B.Bay.connection) c.settling_keeps_a_session.ensures.keeps (IsOn c.args.c.0) c.args.state.now c.draw.new.self c.requires.settling (draws_through (known g.B.Bay.tells g.B.Bay.provider g.B.Bay.connection) c.args.c c.args.place (is_ok c.draw.result) c.args.state.now c.draw.new.self c.draw.ensures c.windows_drawn_at_once_are_drawn_by_acts.ensures) }

pub returns-clause-through : goal.returns-clause-through
returns-clause-through g c = both (known g.B.Bay.tells g.B.Bay.provider g.B.Bay.connection) c.settling_keeps_a_session.ensures.keeps (IsOn c.args.c.0) c.args.state.now c.draw.new.self c.send_all.new.state (draws_through (known g.B.Bay.tells g.B.Bay.provider g.B.Bay.connection) c.args.c c.args.place (is_ok c.draw.result) c.args.state.now c.draw.new.self c.draw.ensures c.windows_drawn_at_once_are_drawn_by_acts.ensures) c.send_all.ensures.through

pub returns-clause-drawn : goal.returns-clause-drawn
returns-clause-drawn g c = is_drawn_at (known g.B.Bay.tells g.B.Bay.provider g.B.Bay.connection) c.args.c c.args.place (is_ok c.draw.result) c.args.state.now c.draw.new.self c.draw.ensures (well c.draw.result (sym c.is_err.ensures.value ∙ c.if-is_err.false)) c.send_all.result c.send_all.new.state c.send_all.ensures.written
