use Rattle.std.proofs.Common.{List, sym, subst}
use Rattle.std.specs.Prelude.{Option}
use Rattle.client_connection.specs.Clients.{ClientSeen}
use Rattle.session_core.specs.Slots.{IsAttached}
use Rattle.session_core.proofs.Stepping.{ungreeted_unheard}
use Rattle.session_core.proofs.state.Session.check_greeted.Goals as goal

pub returns-clause-unheard : goal.returns-clause-unheard
returns-clause-unheard g c =
    let off : IsAttached c.self.inside.clients.items c.args.c.0 → ⊥ =
    λ on. absurd (cc (c.if-is_greeted.ensures.1 (subst (λ (xs : List (Option ClientSeen)). IsAttached xs c.args.c.0) (sym c.deref.ensures.value) on))) in
    rw (← c.self.view_is) (ungreeted_unheard (g.B.Bay.connection c.self.inside.bay) g.B.Bay.tells c.self.inside.paints c.self.inside.desk c.self.inside.clients.items c.args.c.0 (rw (← c.self.view_is) at c.requires.open) off c.self.invariant.known)
