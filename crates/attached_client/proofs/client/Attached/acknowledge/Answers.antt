use Rattle.std.proofs.Common.{pos, None, refl, sym, ap, ◌∙◌, rules, w64}
use Rattle.std.proofs.lemmas.Int.{to_z-of_z}
use Rattle.packet_kinds.specs.declared.from_client.FromClient.TheVariants as C
use Rattle.window_source.specs.Calls.{acknowledged_at}
use Rattle.attached_client.specs.Client.{Attachment, ClientSeen}
use Rattle.attached_client.specs.Acting.{ignored}
use Rattle.attached_client.proofs.Places.{does_at, does_nothing}
use Rattle.ack_tracker.specs.Unacknowledged.{rect_at}
use Rattle.attached_client.proofs.Does.{acts_at, acts_nowhere, stray_so}
use Rattle.attached_client.proofs.client.Attached.acknowledge.Goals as goal

pub returns-in_default : goal.returns-in_default
returns-in_default c =
    let same = ap (λ (a : Attachment). a.client) c.self.view_is in
    let event = acknowledged_at c.args.sequence c.args.time c.args.now in
    let does = does_nothing c.keyed_places.ensures c.keyed_keeps.ensures c.args.wid (record { sources = c.self.inside.sources.items; out = c.self.inside.out.waiting }) event (rw (c.deref.ensures.value, to_z-of_z w64 c.args.wid (search rules)) at c.in_default.ensures.place) in
    (sym (does.stray c.args.sequence) ∙ ap (λ (k : ClientSeen). ignored (C.DamageSequence c.args.sequence c.args.wid (pos 0) (pos 0) c.args.time None) k.seen) same, acts_nowhere (C.DamageSequence c.args.sequence c.args.wid (pos 0) (pos 0) c.args.time None) c.args.now c.args.wid event _ _ (record { acts = λ a. refl }) same does)

pub returns : goal.returns
returns c =
    let same = ap (λ (a : Attachment). a.client) c.self.view_is in
    let event = acknowledged_at c.args.sequence c.args.time c.args.now in
    let made = rw (to_z-of_z w64 c.args.sequence (search rules), to_z-of_z w64 c.args.time (search rules)) at c.in_ok-ack.ensures.ok in
    let does = does_at c.keyed_places.ensures c.keyed_keeps.ensures c.args.wid (record { sources = c.self.inside.sources.items; out = c.self.inside.out.waiting }) c.in-Some.place c.index_mut.result.now c.ack.new.self event c.self.invariant (rw (c.deref.ensures.value, to_z-of_z w64 c.args.wid (search rules)) at c.in-Some.ensures.place) (rw c.deref.ensures.value at c.in-Some.ensures.within) c.index_mut.ensures.value made in
    let stray = rw (to_z-of_z w64 c.args.sequence (search rules)) at c.in_ok-ack.ensures.stray in (
      stray_so (rect_at c.index_mut.result.now.unacknowledged c.args.sequence) c.in_ok-ack.ack c.is_stray.result stray c.is_stray.ensures.stray c.is_stray.ensures.other
          ∙ sym (does.stray c.args.sequence) ∙ ap (λ (k : ClientSeen). ignored (C.DamageSequence c.args.sequence c.args.wid (pos 0) (pos 0) c.args.time None) k.seen) same,
      acts_at (C.DamageSequence c.args.sequence c.args.wid (pos 0) (pos 0) c.args.time None) c.args.now c.args.wid event _ _ c.in-Some.place c.index_mut.result.now c.ack.new.self (record { acts = λ a. refl }) same does,
    )
