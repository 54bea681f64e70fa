use Rattle.std.proofs.Common.{[], refl, ap, rules, w64}
use Rattle.std.proofs.lemmas.Int.{to_z-of_z}
use Rattle.packet_kinds.specs.declared.from_client.FromClient.TheVariants as C
use Rattle.client_delivery.specs.Steps.{quiet, Unmapping}
use Rattle.attached_client.specs.Client.{Attachment}
use Rattle.attached_client.proofs.Places.{does_at, does_nothing}
use Rattle.attached_client.proofs.Does.{acts_at, minded_at, acts_nowhere, ignored_nowhere}
use Rattle.attached_client.proofs.client.Attached.unmap.Goals as goal

pub returns : goal.returns
returns c =
    let same = ap (λ (a : Attachment). a.client) c.self.view_is in
    let does = does_at c.keyed_places.ensures c.keyed_keeps.ensures c.args.wid (record { sources = c.self.inside.sources.items; out = c.self.inside.out.waiting }) c.in-Some.place c.index_mut.result.now c.unmap.new.self (quiet (Unmapping c.args.now)) c.self.invariant (rw (c.deref.ensures.value, to_z-of_z w64 c.args.wid (search rules)) at c.in-Some.ensures.place) (rw c.deref.ensures.value at c.in-Some.ensures.within) c.index_mut.ensures.value c.in_ok-unmap.ensures.ok in
    (minded_at (C.UnmapWindow c.args.wid []) c.args.wid (quiet (Unmapping c.args.now)) _ _ c.in-Some.place c.index_mut.result.now c.unmap.new.self (λ a. refl) same does, acts_at (C.UnmapWindow c.args.wid []) c.args.now c.args.wid (quiet (Unmapping c.args.now)) _ _ c.in-Some.place c.index_mut.result.now c.unmap.new.self (record { acts = λ a. refl }) same does)

pub returns-in_default : goal.returns-in_default
returns-in_default c =
    let same = ap (λ (a : Attachment). a.client) c.self.view_is in
    let does = does_nothing c.keyed_places.ensures c.keyed_keeps.ensures c.args.wid (record { sources = c.self.inside.sources.items; out = c.self.inside.out.waiting }) (quiet (Unmapping c.args.now)) (rw (c.deref.ensures.value, to_z-of_z w64 c.args.wid (search rules)) at c.in_default.ensures.place) in
    (ignored_nowhere (C.UnmapWindow c.args.wid []) c.args.wid (quiet (Unmapping c.args.now)) _ _ (λ a. refl) same does, acts_nowhere (C.UnmapWindow c.args.wid []) c.args.now c.args.wid (quiet (Unmapping c.args.now)) _ _ (record { acts = λ a. refl }) same does)
