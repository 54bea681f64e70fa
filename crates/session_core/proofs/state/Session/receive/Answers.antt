use Rattle.std.proofs.Common.{◌≡◌, ◌<◌, ℕ, List, length, ap, refl, sym, ◌∙◌, subst, arith, set, None, Some, Err}
use Rattle.std.specs.Option.{option_map}
use Rattle.std.specs.Prelude.{Option, IsSome, IfSome}
use Rattle.link_bay.specs.Answers.{ReadGives}
use Rattle.link_bay.specs.declared.bay.Gave.TheVariants as G
use Rattle.client_connection.specs.declared.ends.End.{End}
use Rattle.client_connection.specs.declared.ends.End.TheVariants as end
use Rattle.client_connection.specs.declared.ends.Trouble.{Trouble}
use Rattle.client_connection.specs.declared.ends.Trouble.TheVariants as T
use Rattle.session_core.specs.declared.answers.Received.TheVariants as R
use Rattle.client_connection.specs.Clients.{ClientSeen, plain}
use Rattle.session_core.specs.Slots.{plain_clients}
use Rattle.client_connection.specs.Hearing.{IsUnbuilt}
use Rattle.session_core.specs.Reading.{ending_answer}
use Rattle.session_core.specs.State.{open_client}
use Rattle.session_core.specs.Causes.{DropMeans}
use Rattle.session_core.specs.Steady.{IsSteady}
use Rattle.session_core.proofs.Each.{each_here}
use Rattle.session_core.proofs.Lives.{clients_gone, set_twice}
use Rattle.session_core.proofs.Meanings.{gave_is, trouble_ends}
use Rattle.session_core.proofs.Steadies.{IsKeptOf, steady_slot, steady_ended, steady_quiet, slot_heard}
use Rattle.session_core.proofs.Writings.{receives_took, receives_again, receives_ended, slot_some, open_some, why_end, why_failed, why_unread, dropped_is}
use Rattle.session_core.proofs.state.Session.receive.Goals as goal

pub invariant_of-self : goal.invariant_of-self
invariant_of-self g c =
    let within : c.args.c.0 < length c.self.inside.clients.items = grind (arith, c.if-not-is_open.ensures.within refl, ap length c.deref.ensures.value) in
    let gives = subst (λ (xs : List ℕ). ReadGives (g.B.Bay.connection c.self.inside.bay c.args.c.0) (g.B.Bay.connection c.read.new.self c.args.c.0) xs c.read.new.into.items 4096 (G.Bytes c.in-Bytes.count)) c.new-bytes.ensures.items c.in-Bytes.ensures.answer in
    let hears = rw (c.as_slice.ensures.value, c.as_slice-lines.ensures.items) at c.in-Ok.ensures.ok in
    steady_slot _ c.args.c.0 c.index_mut-slot.result.now c.hear_slot.new.slot _ c.self.invariant within c.index_mut-slot.ensures.value c.hear_slot.ensures.kept (ap (λ p. p.count) c.read.ensures.provider) c.read.ensures.others
    (slot_heard g.B.Bay.tells c.self.inside.paints c.self.inside.desk c.read.new.into.items _ _ c.index_mut-slot.result.now c.hear_slot.new.slot c.len-count.ensures.kept (gave_is _ _ _ 4096 c.in-Bytes.count gives) hears)

pub returns-in-Ok-clause-answer : goal.returns-in-Ok-clause-answer
returns-in-Ok-clause-answer g c =
    let within : c.args.c.0 < length c.self.inside.clients.items = grind (arith, c.if-not-is_open.ensures.within refl, ap length c.deref.ensures.value) in
    let some : IsSome (open_client c.self.inside.clients.items c.args.c.0) = subst (λ (xs : List (Option ClientSeen)). IsSome (open_client xs c.args.c.0)) c.deref.ensures.value (c.if-not-is_open.ensures.open.0 refl) in
    let gives = subst (λ (xs : List ℕ). ReadGives (g.B.Bay.connection c.self.inside.bay c.args.c.0) (g.B.Bay.connection c.read.new.self c.args.c.0) xs c.read.new.into.items 4096 (G.Bytes c.in-Bytes.count)) c.new-bytes.ensures.items c.in-Bytes.ensures.answer in
    let hears = rw (c.as_slice.ensures.value, c.as_slice-lines.ensures.items) at c.in-Ok.ensures.ok in
    rw (← c.self.view_is) (receives_took g.B.Bay.connection _ _ _ _ c.self.inside.clients.items _ _ c.args.c.0 c.in-Bytes.count c.read.new.into.items c.index_mut-slot.result.now c.hear_slot.new.slot
    within c.index_mut-slot.ensures.value (slot_some c.self.inside.clients.items c.args.c.0 c.index_mut-slot.result.now within c.index_mut-slot.ensures.value some) gives hears)

pub returns-in-Again-clause-answer : goal.returns-in-Again-clause-answer
returns-in-Again-clause-answer g c =
    let within : c.args.c.0 < length c.self.inside.clients.items = grind (arith, c.if-not-is_open.ensures.within refl, ap length c.deref.ensures.value) in
    let some : IsSome (open_client c.self.inside.clients.items c.args.c.0) = subst (λ (xs : List (Option ClientSeen)). IsSome (open_client xs c.args.c.0)) c.deref.ensures.value (c.if-not-is_open.ensures.open.0 refl) in
    let gives = c.in-Again.ensures.answer in
    rw (← c.self.view_is) (receives_again g.B.Bay.connection _ _ _ _ c.self.inside.clients.items c.self.inside.bay c.read.new.self c.args.c.0 within some (refl, gives.1, gives.2))

pub invariant_of-self-in-Err : goal.invariant_of-self-in-Err
invariant_of-self-in-Err g c =
    let within : c.args.c.0 < length c.self.inside.clients.items = grind (arith, c.if-not-is_open.ensures.within refl, ap length c.deref.ensures.value) in
    let some : IsSome (open_client c.self.inside.clients.items c.args.c.0) = subst (λ (xs : List (Option ClientSeen)). IsSome (open_client xs c.args.c.0)) c.deref.ensures.value (c.if-not-is_open.ensures.open.0 refl) in
    let filled = slot_some c.self.inside.clients.items c.args.c.0 c.index_mut-slot.result.now within c.index_mut-slot.ensures.value some in
    let gives = subst (λ (xs : List ℕ). ReadGives (g.B.Bay.connection c.self.inside.bay c.args.c.0) (g.B.Bay.connection c.read.new.self c.args.c.0) xs c.read.new.into.items 4096 (G.Bytes c.in-Bytes.count)) c.new-bytes.ensures.items c.in-Bytes.ensures.answer in
    let unbuilt : c.in-Err.trouble ≡ T.Unbuilt → IfSome (option_map plain c.index_mut-slot.result.now) (λ d. IsUnbuilt c.self.inside.paints c.self.inside.desk d c.read.new.into.items) =
    λ which. rw (c.as_slice.ensures.value, c.as_slice-lines.ensures.items) at c.hear_slot.ensures.unbuilt (c.in-Err.is ∙ ap (λ (t : Trouble). Err t) which) in
    let kept = each_here (IsKeptOf g.B.Bay.tells c.self.inside.paints c.self.inside.desk) (g.B.Bay.connection c.self.inside.bay) c.self.inside.clients.items c.args.c.0 c.index_mut-slot.result.now (λ d x is. (c.self.invariant.told d x is, c.self.invariant.known d x is)) within c.index_mut-slot.ensures.value in
    let why = trouble_ends g.B.Bay.tells c.self.inside.paints c.self.inside.desk (g.B.Bay.connection c.self.inside.bay c.args.c.0) (g.B.Bay.connection c.read.new.self c.args.c.0) c.index_mut-slot.result.now c.read.new.into.items c.in-Bytes.count c.in-Err.trouble c.end-end.result filled gives unbuilt kept c.end-end.ensures.unbuilt c.end-end.ensures.short in
    let gone = c.end_client.ensures.clients ∙ set_twice c.self.inside.clients.items c.args.c.0 c.hear_slot.new.slot None in
    subst (λ (es : List End). IsSteady g.B.Bay.tells (g.B.Bay.connection c.end_client.new.bay) c.self.inside.paints c.self.inside.place c.self.inside.desk c.end_client.new.clients.items es (g.B.Bay.provider c.end_client.new.bay).count) (sym c.end_client.ensures.ends)
    (subst (λ (cs : List (Option ClientSeen)). IsSteady g.B.Bay.tells (g.B.Bay.connection c.end_client.new.bay) c.self.inside.paints c.self.inside.place c.self.inside.desk cs (set c.self.inside.ends.items c.args.c.0 c.end-end.result) (g.B.Bay.provider c.end_client.new.bay).count) (sym gone)
    (steady_ended (g.B.Bay.connection c.end_client.new.bay) c.args.c.0 c.end-end.result _ c.self.invariant within why.2 (ap (λ p. p.count) (c.end_client.ensures.provider ∙ c.read.ensures.provider)) (λ d other. c.end_client.ensures.connections d ∙ c.read.ensures.others d other)))

pub invariant_of-self-in-Again : goal.invariant_of-self-in-Again
invariant_of-self-in-Again g c =
    let same = c.in-Again.ensures.answer.2 in
    steady_quiet (g.B.Bay.connection c.read.new.self) c.args.c.0 _ c.self.invariant (ap (λ p. p.count) c.read.ensures.provider) c.read.ensures.others (ap (λ r. r.sent) same) (ap (λ r. r.given) same) (ap (λ r. r.heard) same)

pub invariant_of-self-in-End : goal.invariant_of-self-in-End
invariant_of-self-in-End g c =
    let same = c.in-End.ensures.answer.2 in
    steady_quiet (g.B.Bay.connection c.read.new.self) c.args.c.0 _ c.self.invariant (ap (λ p. p.count) c.read.ensures.provider) c.read.ensures.others (ap (λ r. r.sent) same) (ap (λ r. r.given) same) (ap (λ r. r.heard) same)

pub invariant_of-self-in-Failed : goal.invariant_of-self-in-Failed
invariant_of-self-in-Failed g c =
    let same = c.in-Failed.ensures.answer.2 in
    steady_quiet (g.B.Bay.connection c.read.new.self) c.args.c.0 _ c.self.invariant (ap (λ p. p.count) c.read.ensures.provider) c.read.ensures.others (ap (λ r. r.sent) same) (ap (λ r. r.given) same) (ap (λ r. r.heard) same)

pub invariant_of-self-in-NoMemory : goal.invariant_of-self-in-NoMemory
invariant_of-self-in-NoMemory g c =
    let same = c.in-NoMemory.ensures.answer.1 in
    steady_quiet (g.B.Bay.connection c.read.new.self) c.args.c.0 _ c.self.invariant (ap (λ p. p.count) c.read.ensures.provider) c.read.ensures.others (ap (λ r. r.sent) same) (ap (λ r. r.given) same) (ap (λ r. r.heard) same)

pub returns-in-Bytes-clause-answer : goal.returns-in-Bytes-clause-answer
returns-in-Bytes-clause-answer g c =
    let within : c.args.c.0 < length c.self.inside.clients.items = grind (arith, c.if-not-is_open.ensures.within refl, ap length c.deref.ensures.value) in
    let some : IsSome (open_client c.self.inside.clients.items c.args.c.0) = subst (λ (xs : List (Option ClientSeen)). IsSome (open_client xs c.args.c.0)) c.deref.ensures.value (c.if-not-is_open.ensures.open.0 refl) in
    let filled = slot_some c.self.inside.clients.items c.args.c.0 c.index_mut-slot.result.now within c.index_mut-slot.ensures.value some in
    let gives = subst (λ (xs : List ℕ). ReadGives (g.B.Bay.connection c.self.inside.bay c.args.c.0) (g.B.Bay.connection c.read.new.self c.args.c.0) xs c.read.new.into.items 4096 (G.Bytes c.in-Bytes.count)) c.new-bytes.ensures.items c.in-Bytes.ensures.answer in
    let unbuilt : c.in-Err.trouble ≡ T.Unbuilt → IfSome (option_map plain c.index_mut-slot.result.now) (λ d. IsUnbuilt c.self.inside.paints c.self.inside.desk d c.read.new.into.items) =
    λ which. rw (c.as_slice.ensures.value, c.as_slice-lines.ensures.items) at c.hear_slot.ensures.unbuilt (c.in-Err.is ∙ ap (λ (t : Trouble). Err t) which) in
    let kept = each_here (IsKeptOf g.B.Bay.tells c.self.inside.paints c.self.inside.desk) (g.B.Bay.connection c.self.inside.bay) c.self.inside.clients.items c.args.c.0 c.index_mut-slot.result.now (λ d x is. (c.self.invariant.told d x is, c.self.invariant.known d x is)) within c.index_mut-slot.ensures.value in
    let why = trouble_ends g.B.Bay.tells c.self.inside.paints c.self.inside.desk (g.B.Bay.connection c.self.inside.bay c.args.c.0) (g.B.Bay.connection c.read.new.self c.args.c.0) c.index_mut-slot.result.now c.read.new.into.items c.in-Bytes.count c.in-Err.trouble c.end-end.result filled gives unbuilt kept c.end-end.ensures.unbuilt c.end-end.ensures.short in
    let gone = dropped_is c.self.inside.paints c.self.inside.place c.self.inside.desk c.self.inside.ends.items _ (set c.self.inside.clients.items c.args.c.0 c.hear_slot.new.slot) _ c.read.new.self _ c.args.c.0 c.end-end.result c.end_client.ensures.clients c.end_client.ensures.ends in
    rw (← c.self.view_is, c.ended.ensures) (receives_ended g.B.Bay.connection _ _ c.self.inside.desk _ c.self.inside.clients.items c.self.inside.bay c.read.new.self _ c.args.c.0 c.end-end.result (ending_answer c.end-end.result) (plain_clients (set c.self.inside.clients.items c.args.c.0 c.hear_slot.new.slot)) c.index_mut-slot.result.now
    within c.index_mut-slot.ensures.value why.1 why.0 (c.end_client.ensures.connections c.args.c.0) (clients_gone c.self.inside.clients.items c.args.c.0 c.hear_slot.new.slot) gone)

pub returns-in-Bytes-clause-means : goal.returns-in-Bytes-clause-means
returns-in-Bytes-clause-means g c =
    let within : c.args.c.0 < length c.self.inside.clients.items = grind (arith, c.if-not-is_open.ensures.within refl, ap length c.deref.ensures.value) in
    let some : IsSome (open_client c.self.inside.clients.items c.args.c.0) = subst (λ (xs : List (Option ClientSeen)). IsSome (open_client xs c.args.c.0)) c.deref.ensures.value (c.if-not-is_open.ensures.open.0 refl) in
    let filled = slot_some c.self.inside.clients.items c.args.c.0 c.index_mut-slot.result.now within c.index_mut-slot.ensures.value some in
    let gives = subst (λ (xs : List ℕ). ReadGives (g.B.Bay.connection c.self.inside.bay c.args.c.0) (g.B.Bay.connection c.read.new.self c.args.c.0) xs c.read.new.into.items 4096 (G.Bytes c.in-Bytes.count)) c.new-bytes.ensures.items c.in-Bytes.ensures.answer in
    let unbuilt : c.in-Err.trouble ≡ T.Unbuilt → IfSome (option_map plain c.index_mut-slot.result.now) (λ d. IsUnbuilt c.self.inside.paints c.self.inside.desk d c.read.new.into.items) =
    λ which. rw (c.as_slice.ensures.value, c.as_slice-lines.ensures.items) at c.hear_slot.ensures.unbuilt (c.in-Err.is ∙ ap (λ (t : Trouble). Err t) which) in
    let kept = each_here (IsKeptOf g.B.Bay.tells c.self.inside.paints c.self.inside.desk) (g.B.Bay.connection c.self.inside.bay) c.self.inside.clients.items c.args.c.0 c.index_mut-slot.result.now (λ d x is. (c.self.invariant.told d x is, c.self.invariant.known d x is)) within c.index_mut-slot.ensures.value in
    let why = trouble_ends g.B.Bay.tells c.self.inside.paints c.self.inside.desk (g.B.Bay.connection c.self.inside.bay c.args.c.0) (g.B.Bay.connection c.read.new.self c.args.c.0) c.index_mut-slot.result.now c.read.new.into.items c.in-Bytes.count c.in-Err.trouble c.end-end.result filled gives unbuilt kept c.end-end.ensures.unbuilt c.end-end.ensures.short in
    rw (← c.self.view_is, c.ended.ensures, why.1) (subst (DropMeans c.self.inside.paints (g.B.Bay.connection c.self.inside.bay c.args.c.0) c.end-end.result) (sym (c.end_client.ensures.connections c.args.c.0)) why.3)

pub returns-in-End-clause-answer : goal.returns-in-End-clause-answer
returns-in-End-clause-answer g c =
    let within : c.args.c.0 < length c.self.inside.clients.items = grind (arith, c.if-not-is_open.ensures.within refl, ap length c.deref.ensures.value) in
    let some : IsSome (open_client c.self.inside.clients.items c.args.c.0) = subst (λ (xs : List (Option ClientSeen)). IsSome (open_client xs c.args.c.0)) c.deref.ensures.value (c.if-not-is_open.ensures.open.0 refl) in
    let stands = open_some c.self.inside.clients.items c.args.c.0 some in
    let filled = slot_some c.self.inside.clients.items c.args.c.0 (Some stands.0) within stands.1 some in
    let gives = c.in-End.ensures.answer in
    let why = why_end (g.B.Bay.connection c.self.inside.bay c.args.c.0) (g.B.Bay.connection c.read.new.self c.args.c.0) c.self.inside.paints c.self.inside.desk (Some stands.0) filled (refl, gives.1, gives.2) in
    rw (← c.self.view_is, c.end_reading.ensures.answer) (receives_ended g.B.Bay.connection _ _ c.self.inside.desk _ c.self.inside.clients.items c.self.inside.bay c.read.new.self c.end_reading.new.self c.args.c.0 end.Unbuilt (R.Ended end.Unbuilt) (plain_clients c.self.inside.clients.items) (Some stands.0) within stands.1 refl why
    (c.end_reading.ensures.connections c.args.c.0) refl c.end_reading.ensures.session)

pub returns-in-Failed-clause-answer : goal.returns-in-Failed-clause-answer
returns-in-Failed-clause-answer g c =
    let within : c.args.c.0 < length c.self.inside.clients.items = grind (arith, c.if-not-is_open.ensures.within refl, ap length c.deref.ensures.value) in
    let some : IsSome (open_client c.self.inside.clients.items c.args.c.0) = subst (λ (xs : List (Option ClientSeen)). IsSome (open_client xs c.args.c.0)) c.deref.ensures.value (c.if-not-is_open.ensures.open.0 refl) in
    let stands = open_some c.self.inside.clients.items c.args.c.0 some in
    let filled = slot_some c.self.inside.clients.items c.args.c.0 (Some stands.0) within stands.1 some in
    let gives = c.in-Failed.ensures.answer in
    let why = why_failed (g.B.Bay.connection c.self.inside.bay c.args.c.0) (g.B.Bay.connection c.read.new.self c.args.c.0) c.self.inside.paints c.self.inside.desk (Some stands.0) filled (refl, gives.1, gives.2) in
    rw (← c.self.view_is, c.end_reading-in-Failed.ensures.answer) (receives_ended g.B.Bay.connection _ _ c.self.inside.desk _ c.self.inside.clients.items c.self.inside.bay c.read.new.self c.end_reading-in-Failed.new.self c.args.c.0 end.Unbuilt (R.Ended end.Unbuilt) (plain_clients c.self.inside.clients.items) (Some stands.0) within stands.1 refl why
    (c.end_reading-in-Failed.ensures.connections c.args.c.0) refl c.end_reading-in-Failed.ensures.session)

pub returns-clause-answer : goal.returns-clause-answer
returns-clause-answer g c =
    let within : c.args.c.0 < length c.self.inside.clients.items = grind (arith, c.if-not-is_open.ensures.within refl, ap length c.deref.ensures.value) in
    let some : IsSome (open_client c.self.inside.clients.items c.args.c.0) = subst (λ (xs : List (Option ClientSeen)). IsSome (open_client xs c.args.c.0)) c.deref.ensures.value (c.if-not-is_open.ensures.open.0 refl) in
    let stands = open_some c.self.inside.clients.items c.args.c.0 some in
    let filled = slot_some c.self.inside.clients.items c.args.c.0 (Some stands.0) within stands.1 some in
    let gives = c.in-NoMemory.ensures.answer in
    let why = why_unread (g.B.Bay.connection c.self.inside.bay c.args.c.0) (g.B.Bay.connection c.read.new.self c.args.c.0) c.self.inside.paints c.self.inside.desk (Some stands.0) filled (refl, gives.1) in
    rw (← c.self.view_is, c.end_reading-in-NoMemory.ensures.answer) (receives_ended g.B.Bay.connection _ _ c.self.inside.desk _ c.self.inside.clients.items c.self.inside.bay c.read.new.self c.end_reading-in-NoMemory.new.self c.args.c.0 end.Short R.NoMemory (plain_clients c.self.inside.clients.items) (Some stands.0) within stands.1 refl why
    (c.end_reading-in-NoMemory.ensures.connections c.args.c.0) refl c.end_reading-in-NoMemory.ensures.session)
