use Rattle.std.proofs.Common.{◌<◌, List, length, ap, refl, ◌∙◌, subst, arith}
use Rattle.std.specs.Prelude.{Option, IsSome}
use Rattle.client_connection.specs.Clients.{ClientSeen}
use Rattle.session_core.specs.State.{open_client}
use Rattle.session_core.specs.Ends.{waiting_at}
use Rattle.session_core.proofs.Steadies.{steady_slot, slot_written, slot_failed}
use Rattle.session_core.proofs.Lessening.{written_less, gone_at}
use Rattle.session_core.proofs.Writings.{sends_written, sends_failed, slot_some}
use Rattle.session_core.proofs.state.Session.send.Goals as goal

pub invariant_of-self : goal.invariant_of-self
invariant_of-self g c =
    let within : c.args.c.0 < length c.self.inside.clients.items = grind (arith, c.if-not-is_open.ensures.within refl, ap length c.deref.ensures.value) in
    steady_slot _ c.args.c.0 c.index_mut-slot.result.now c.send_slot.new.slot _ c.self.invariant within c.index_mut-slot.ensures.value c.send_slot.ensures.kept (ap (λ p. p.count) c.send_slot.ensures.provider) c.send_slot.ensures.others
    (slot_written g.B.Bay.tells c.self.inside.paints c.self.inside.desk c.args.max _ _ c.index_mut-slot.result.now c.send_slot.new.slot c.in-Ok.answer c.in-Ok.ensures.ok)

pub invariant_of-self-in-Err : goal.invariant_of-self-in-Err
invariant_of-self-in-Err g c =
    let within : c.args.c.0 < length c.self.inside.clients.items = grind (arith, c.if-not-is_open.ensures.within refl, ap length c.deref.ensures.value) in
    steady_slot _ c.args.c.0 c.index_mut-slot.result.now c.send_slot.new.slot _ c.self.invariant within c.index_mut-slot.ensures.value c.send_slot.ensures.kept (ap (λ p. p.count) c.send_slot.ensures.provider) c.send_slot.ensures.others
    (slot_failed g.B.Bay.tells c.self.inside.paints c.self.inside.desk c.args.max _ _ c.index_mut-slot.result.now c.send_slot.new.slot c.in-Err.ensures.failed c.in-Err.ensures.same)

pub returns-in-Ok-clause-answer : goal.returns-in-Ok-clause-answer
returns-in-Ok-clause-answer g c =
    let within : c.args.c.0 < length c.self.inside.clients.items = grind (arith, c.if-not-is_open.ensures.within refl, ap length c.deref.ensures.value) in
    let some : IsSome (open_client c.self.inside.clients.items c.args.c.0) = subst (λ (xs : List (Option ClientSeen)). IsSome (open_client xs c.args.c.0)) c.deref.ensures.value (c.if-not-is_open.ensures.open.0 refl) in
    rw (← c.self.view_is) (sends_written g.B.Bay.connection _ _ _ _ c.self.inside.clients.items _ _ c.args.c.0 c.args.max c.index_mut-slot.result.now c.send_slot.new.slot c.in-Ok.answer
    within c.index_mut-slot.ensures.value (slot_some c.self.inside.clients.items c.args.c.0 c.index_mut-slot.result.now within c.index_mut-slot.ensures.value some) c.in-Ok.ensures.ok)

pub returns-in-Ok-clause-waiting : goal.returns-in-Ok-clause-waiting
returns-in-Ok-clause-waiting g c =
    let within : c.args.c.0 < length c.self.inside.clients.items = grind (arith, c.if-not-is_open.ensures.within refl, ap length c.deref.ensures.value) in
    let some : IsSome (open_client c.self.inside.clients.items c.args.c.0) = subst (λ (xs : List (Option ClientSeen)). IsSome (open_client xs c.args.c.0)) c.deref.ensures.value (c.if-not-is_open.ensures.open.0 refl) in
    rw (← c.self.view_is) (written_less c.args.max _ _ c.self.inside.clients.items c.args.c.0 c.index_mut-slot.result.now c.send_slot.new.slot c.in-Ok.answer
    within c.index_mut-slot.ensures.value (slot_some c.self.inside.clients.items c.args.c.0 c.index_mut-slot.result.now within c.index_mut-slot.ensures.value some) c.in-Ok.ensures.ok)

pub returns-in-Err-clause-answer : goal.returns-in-Err-clause-answer
returns-in-Err-clause-answer g c =
    let within : c.args.c.0 < length c.self.inside.clients.items = grind (arith, c.if-not-is_open.ensures.within refl, ap length c.deref.ensures.value) in
    rw (← c.self.view_is) (sends_failed g.B.Bay.connection _ _ _ _ c.self.inside.clients.items _ _ c.drop_client.new.self c.args.c.0 c.args.max c.index_mut-slot.result.now c.send_slot.new.slot
    within c.index_mut-slot.ensures.value c.in-Err.ensures.failed (c.drop_client.ensures.connections c.args.c.0) c.drop_client.ensures.session)

pub returns-in-Err-clause-waiting : goal.returns-in-Err-clause-waiting
returns-in-Err-clause-waiting g c =
    let gone = ap (λ s. waiting_at s.clients c.args.c.0) c.drop_client.ensures.session ∙ gone_at _ c.args.c.0 in
    omega (arith, gone)
