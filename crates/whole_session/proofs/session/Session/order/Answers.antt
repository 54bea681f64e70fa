use Rattle.std.proofs.Common.{take, sym, ap, subst}
use Rattle.paint_script.specs.Validity.{has_opened}
use Rattle.session_steps.specs.Steady.{Stepping, IsSteady}
use Rattle.session_steps.specs.Seen.{Seen}
use Rattle.session_state.specs.Views.{known}
use Rattle.whole_session.proofs.Desktops.{order_same, steps_on}
use Rattle.whole_session.proofs.session.Session.order.Goals as goal

pub invariant_of-self : goal.invariant_of-self
invariant_of-self g c =
    let same = order_same (g.B.Bay.provider c.self.inside.state.bay) (g.B.Bay.provider c.order.new.self.bay) c.args.order.now c.order.result c.order.ensures.answer in
    steps_on (known g.B.Bay.tells g.B.Bay.provider g.B.Bay.connection) c.self.inside.paints c.self.inside.place c.self.inside.state c.order.new.self c.self.invariant (ap (λ (s : Seen _). s.desk) c.order.ensures.state)
    (subst (IsSteady (known g.B.Bay.tells g.B.Bay.provider g.B.Bay.connection) Stepping (has_opened (take c.self.inside.place c.self.inside.paints))) (sym c.order.ensures.state)
    (c.a_session_begins_steady.ensures.order (known g.B.Bay.tells g.B.Bay.provider g.B.Bay.connection) Stepping (has_opened (take c.self.inside.place c.self.inside.paints)) c.self.inside.state c.order.new.self.bay same.0 same.1 c.order.ensures.connections (c.self.invariant).steady))
