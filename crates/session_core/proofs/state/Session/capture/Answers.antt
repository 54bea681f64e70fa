use Rattle.std.proofs.Common.{◌≡◌, ◌<◌, List, length, ap, refl, sym, ◌∙◌, subst, arith, eqb}
use Rattle.std.proofs.lemmas.Bool.{eqb-true}
use Rattle.window_model.specs.Desktop.{Window, IsWindow, find_window}
use Rattle.client_connection.proofs.Sources.{found_one}
use Rattle.session_core.proofs.Steadies.{steady_slot, slot_captured}
use Rattle.std.specs.Prelude.{Option, IsSome}
use Rattle.client_connection.specs.Clients.{ClientSeen}
use Rattle.session_core.specs.State.{open_client}
use Rattle.session_core.proofs.Writings.{captures_made, captures_none, slot_some}
use Rattle.session_core.proofs.state.Session.capture.Goals as goal

pub invariant_of-self : goal.invariant_of-self
invariant_of-self g c =
    let within : c.args.c.0 < length c.self.inside.clients.items = grind (arith, c.if-not-is_open.ensures.within refl, ap length c.deref.ensures.value) in
    let found = found_one IsWindow (λ (w : Window). eqb w.wid c.args.wid) c.self.inside.desk c.in-Some.window.now c.len-count.ensures.kept.windows (sym c.in-Some.ensures) in
    let number : c.in-Some.window.now.wid ≡ c.args.wid = eqb-true c.in-Some.window.now.wid c.args.wid found.1 in
    steady_slot (g.B.Bay.connection c.self.inside.bay) c.args.c.0 c.index_mut-slot.result.now c.capture_slot.new.slot _ c.self.invariant within c.index_mut-slot.ensures.value c.capture_slot.ensures.kept refl (λ d other. refl)
    (slot_captured g.B.Bay.tells c.self.inside.paints c.self.inside.desk c.in-Some.window.now _ c.index_mut-slot.result.now c.capture_slot.new.slot c.capture_slot.result found.0 (ap (find_window c.self.inside.desk) number ∙ sym c.in-Some.ensures) c.capture_slot.ensures.answer)

pub returns-in_default-clause-answer : goal.returns-in_default-clause-answer
returns-in_default-clause-answer g c =
    let within : c.args.c.0 < length c.self.inside.clients.items = grind (arith, c.if-not-is_open.ensures.within refl, ap length c.deref.ensures.value) in
    let some : IsSome (open_client c.self.inside.clients.items c.args.c.0) = subst (λ (xs : List (Option ClientSeen)). IsSome (open_client xs c.args.c.0)) c.deref.ensures.value (c.if-not-is_open.ensures.open.0 refl) in
    rw (← c.self.view_is) (captures_none _ _ c.self.inside.desk _ c.self.inside.clients.items _ c.args.c.0 c.args.wid within some (sym c.in_default.ensures))

pub returns-clause-answer : goal.returns-clause-answer
returns-clause-answer g c =
    let within : c.args.c.0 < length c.self.inside.clients.items = grind (arith, c.if-not-is_open.ensures.within refl, ap length c.deref.ensures.value) in
    let some : IsSome (open_client c.self.inside.clients.items c.args.c.0) = subst (λ (xs : List (Option ClientSeen)). IsSome (open_client xs c.args.c.0)) c.deref.ensures.value (c.if-not-is_open.ensures.open.0 refl) in
    rw (← c.self.view_is) (captures_made _ _ c.self.inside.desk _ c.self.inside.clients.items _ c.args.c.0 c.args.wid c.in-Some.window.now c.index_mut-slot.result.now c.capture_slot.new.slot c.capture_slot.result
    within c.index_mut-slot.ensures.value (slot_some c.self.inside.clients.items c.args.c.0 c.index_mut-slot.result.now within c.index_mut-slot.ensures.value some) (sym c.in-Some.ensures) c.capture_slot.ensures.answer)
