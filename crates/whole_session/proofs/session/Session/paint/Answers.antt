use Rattle.std.proofs.Common.{sym, ◌∙◌, subst}
use Rattle.session_state.specs.Views.{known}
use Rattle.whole_session.specs.Session.{IsSession}
use Rattle.whole_session.proofs.Lines.{where_ok, fits_here, painted_on, paints_next, short_here, where_err}
use Rattle.whole_session.proofs.session.Session.paint.Goals as goal

pub paint-requires-clause-fits : goal.paint-requires-clause-fits
paint-requires-clause-fits g c = fits_here (known g.B.Bay.tells g.B.Bay.provider g.B.Bay.connection) c.a_line_changes_the_desktop_so.ensures c.self.inside.paints c.self.inside.place c.self.inside.state c.self.invariant c.in-Some.line.now (sym c.in-Some.ensures.line) c.a_paint_line_keeps_a_session.ensures.fits

pub invariant_of-self-2 : goal.invariant_of-self-2
invariant_of-self-2 g c = subst (λ n. IsSession (known g.B.Bay.tells g.B.Bay.provider g.B.Bay.connection) c.self.inside.paints n c.paint.new.self) (sym c.next_place-self-inside.ensures) (painted_on (known g.B.Bay.tells g.B.Bay.provider g.B.Bay.connection) c.a_line_changes_the_desktop_so.ensures c.self.inside.paints c.self.inside.place c.self.inside.state c.self.invariant c.in-Some.line.now (sym c.in-Some.ensures.line)
    c.a_line_opens_its_number.ensures c.a_paint_line_keeps_a_session.ensures.keeps c.opened_numbers.ensures c.desk_at_next.ensures c.valid_desks.ensures c.paint.new.self (where_ok c.paint.result c.paint.ensures.ok (sym c.is_err.ensures.value ∙ c.if-is_err.false)))

pub returns : goal.returns
returns g c = paints_next (known g.B.Bay.tells g.B.Bay.provider g.B.Bay.connection) c.a_line_changes_the_desktop_so.ensures c.self.inside.paints c.self.inside.place c.self.inside.state c.self.invariant c.in-Some.line.now (sym c.in-Some.ensures.line) c.args.self.now c.self.view_is c.paint.new.self c.next_place-self-inside.result c.next_place-self-inside.ensures (where_ok c.paint.result c.paint.ensures.ok (sym c.is_err.ensures.value ∙ c.if-is_err.false))

pub returns-then-is_err : goal.returns-then-is_err
returns-then-is_err g c = short_here (known g.B.Bay.tells g.B.Bay.provider g.B.Bay.connection) c.a_line_changes_the_desktop_so.ensures c.self.inside.paints c.self.inside.place c.self.inside.state c.self.invariant c.in-Some.line.now (sym c.in-Some.ensures.line) c.args.self.now c.self.view_is c.paint.new.self (where_err c.paint.result c.paint.ensures.same (sym c.is_err.ensures.value ∙ c.if-is_err.true))
