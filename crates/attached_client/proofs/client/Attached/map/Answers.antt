use Rattle.std.proofs.Common.{[], refl, ap, rules, w64}
use Rattle.std.proofs.lemmas.Int.{to_z-of_z}
use Rattle.packet_kinds.specs.declared.from_client.FromClient.TheVariants as C
use Rattle.client_delivery.specs.Steps.{quiet, Mapping}
use Rattle.attached_client.specs.Client.{Attachment}
use Rattle.attached_client.proofs.Places.{does_at, does_nothing}
use Rattle.attached_client.proofs.Does.{acts_at, minded_at, acts_nowhere, ignored_nowhere}
use Rattle.attached_client.proofs.client.Attached.map.Goals as goal

pub returns-in-Some : goal.returns-in-Some
returns-in-Some c =
    let same = ap (λ (a : Attachment). a.client) c.self.view_is in
    let does = does_at c.keyed_places.ensures c.keyed_keeps.ensures c.args.wid (record { sources = c.self.inside.sources.items; out = c.self.inside.out.waiting }) c.in-Some.place c.index_mut.result.now c.map.new.self (quiet (Mapping)) c.self.invariant (rw (c.deref.ensures.value, to_z-of_z w64 c.args.wid (search rules)) at c.in-Some.ensures.place) (rw c.deref.ensures.value at c.in-Some.ensures.within) c.index_mut.ensures.value c.map.ensures in
    (minded_at (C.MapWindow c.args.wid []) c.args.wid (quiet (Mapping)) _ _ c.in-Some.place c.index_mut.result.now c.map.new.self (λ a. refl) same does, acts_at (C.MapWindow c.args.wid []) 0 c.args.wid (quiet (Mapping)) _ _ c.in-Some.place c.index_mut.result.now c.map.new.self (record { acts = λ a. refl }) same does)

pub returns-in-None : goal.returns-in-None
returns-in-None c =
    let same = ap (λ (a : Attachment). a.client) c.self.view_is in
    let does = does_nothing c.keyed_places.ensures c.keyed_keeps.ensures c.args.wid (record { sources = c.self.inside.sources.items; out = c.self.inside.out.waiting }) (quiet (Mapping)) (rw (c.deref.ensures.value, to_z-of_z w64 c.args.wid (search rules)) at c.in-None.ensures.place) in
    (ignored_nowhere (C.MapWindow c.args.wid []) c.args.wid (quiet (Mapping)) _ _ (λ a. refl) same does, acts_nowhere (C.MapWindow c.args.wid []) 0 c.args.wid (quiet (Mapping)) _ _ (record { acts = λ a. refl }) same does)

pub invariant_of-self : goal.invariant_of-self
invariant_of-self c =
    let does = does_at c.keyed_places.ensures c.keyed_keeps.ensures c.args.wid (record { sources = c.self.inside.sources.items; out = c.self.inside.out.waiting }) c.in-Some.place c.index_mut.result.now c.map.new.self (quiet (Mapping)) c.self.invariant (rw (c.deref.ensures.value, to_z-of_z w64 c.args.wid (search rules)) at c.in-Some.ensures.place) (rw c.deref.ensures.value at c.in-Some.ensures.within) c.index_mut.ensures.value c.map.ensures in
    does.kept
