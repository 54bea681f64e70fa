use Rattle.std.proofs.Common.{◌<◌, List, set, ap, sym, subst, arith, length}
use Rattle.std.proofs.lemmas.List.{length-map}
use Rattle.std.specs.Option.{option_map}
use Rattle.std.specs.Prelude.{Option}
use Rattle.client_connection.specs.declared.ends.End.{End}
use Rattle.client_connection.specs.Clients.{ClientSeen, plain}
use Rattle.session_core.specs.Steady.{IsSteady}
use Rattle.session_core.proofs.Steadies.{steady_ended}
use Rattle.session_core.proofs.Writings.{dropped_is}
use Rattle.session_core.proofs.state.Session.drop_client.Goals as goal

pub invariant_of-self : goal.invariant_of-self
invariant_of-self g c =
    let within : c.args.c.0 < length c.self.inside.clients.items = omega (arith, c.requires.within, ap (λ s. length s.clients) c.self.view_is, length-map c.self.inside.clients.items (option_map plain)) in
    subst (λ (es : List End). IsSteady g.B.Bay.tells (g.B.Bay.connection c.end_client.new.bay) c.self.inside.paints c.self.inside.place c.self.inside.desk c.end_client.new.clients.items es (g.B.Bay.provider c.end_client.new.bay).count) (sym c.end_client.ensures.ends)
    (subst (λ (cs : List (Option ClientSeen)). IsSteady g.B.Bay.tells (g.B.Bay.connection c.end_client.new.bay) c.self.inside.paints c.self.inside.place c.self.inside.desk cs (set c.self.inside.ends.items c.args.c.0 c.args.end) (g.B.Bay.provider c.end_client.new.bay).count) (sym c.end_client.ensures.clients)
    (steady_ended (g.B.Bay.connection c.end_client.new.bay) c.args.c.0 c.args.end _ c.self.invariant within c.requires.ended (ap (λ p. p.count) c.end_client.ensures.provider) (λ d other. c.end_client.ensures.connections d)))

pub returns-clause-session : goal.returns-clause-session
returns-clause-session g c =
    rw (← c.self.view_is) (dropped_is c.self.inside.paints c.self.inside.place c.self.inside.desk c.self.inside.ends.items _ c.self.inside.clients.items _ c.self.inside.bay _ c.args.c.0 c.args.end c.end_client.ensures.clients c.end_client.ensures.ends)
