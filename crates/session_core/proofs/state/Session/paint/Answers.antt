use Rattle.std.proofs.Common.{◌+◌, ap, sym, ◌∙◌, subst}
use Rattle.first_script.specs.Validity.{IsPaintOn}
use Rattle.first_script.specs.Painting.{painted}
use Rattle.session_core.proofs.Steadies.{steady_painted, steady_plain}
use Rattle.session_core.proofs.state.Session.paint.Goals as goal

pub invariant_of-self : goal.invariant_of-self
invariant_of-self g c =
    steady_painted c.in-Some.line.now _ _ c.self.invariant c.len-windows.ensures.kept (subst (λ d. IsPaintOn d c.in-Some.line.now) (sym c.self.invariant.session.painted) c.in-Some.ensures.valid) c.in-Some.ensures.line c.in-Ok.ensures.desk_ok
    (c.in-Ok.ensures.desk_ok ∙ ap (λ d. painted d c.in-Some.line.now) c.self.invariant.session.painted ∙ sym c.in-Some.ensures.next) c.in-Ok.ensures.clients_ok

pub invariant_of-self-in-Err : goal.invariant_of-self-in-Err
invariant_of-self-in-Err g c = steady_plain _ _ c.self.invariant c.in-Err.ensures.clients_err c.in-Err.ensures.desk_err

pub returns-in-Ok-clause-answer : goal.returns-in-Ok-clause-answer
returns-in-Ok-clause-answer g c = rw (← c.self.view_is) (
  c.in-Some.line.now,
  sym c.in-Some.ensures.line,
  λ i. record {
    lines = c.self.inside.paints;
    place = c.self.inside.place + 1;
    desk = c.in-Ok.ensures.desk_ok i;
    clients = c.in-Ok.ensures.clients_ok i;
    ends = c.self.inside.ends.items;
    bay = c.self.inside.bay;
  },
)
