use Rattle.std.proofs.Common.{sym, ap, ◌∙◌}
use Rattle.session_state.specs.Views.{known}
use Rattle.session_settling.specs.Through.{IsOn}
use Rattle.session_settling.specs.Settled.{has_lost}
use Rattle.session_settling.proofs.Acts.{any_acts}
use Rattle.session_settling.proofs.Turning.{ends_next, none_lost}
use Rattle.session_settling.proofs.turns.settle_next.Goals as goal

pub returns-then-is_lost-clause-through : goal.returns-then-is_lost-clause-through
returns-then-is_lost-clause-through g c = any_acts (known g.B.Bay.tells g.B.Bay.provider g.B.Bay.connection) (IsOn c.in-Some.c.0) c.args.state.now c.settle_connection.new.state c.settle_connection.ensures.through

pub returns-then-is_lost-clause-next : goal.returns-then-is_lost-clause-next
returns-then-is_lost-clause-next g c = ends_next (known g.B.Bay.tells g.B.Bay.provider g.B.Bay.connection) c.in-Some.c c.args.state.now c.settle_connection.new.state c.requires.settling c.in-Some.ensures.some c.settle_connection.ensures.through c.settle_connection.ensures.ended

pub returns-clause-through : goal.returns-clause-through
returns-clause-through g c = any_acts (known g.B.Bay.tells g.B.Bay.provider g.B.Bay.connection) (IsOn c.in-Some.c.0) c.args.state.now c.settle_connection.new.state c.settle_connection.ensures.through

pub returns-clause-next : goal.returns-clause-next
returns-clause-next g c = (ends_next (known g.B.Bay.tells g.B.Bay.provider g.B.Bay.connection) c.in-Some.c c.args.state.now c.settle_connection.new.state c.requires.settling c.in-Some.ensures.some c.settle_connection.ensures.through c.settle_connection.ensures.ended, none_lost (known g.B.Bay.tells g.B.Bay.provider g.B.Bay.connection) c.in-Some.c c.args.state.now c.settle_connection.new.state c.requires.settling c.in-Some.ensures.some c.settle_connection.ensures.through c.settle_connection.ensures.ended (sym (ap has_lost c.ended.ensures) ∙ sym c.is_lost.ensures ∙ c.if-is_lost.false))
