use Rattle.std.proofs.Common.{ℕ, List, Some, refl, ap, sym, ◌∙◌, subst}
use Rattle.delivery_model.specs.Events.{resized}
use Rattle.rect_regions.specs.PointSets.{has}
use Rattle.window_source.specs.Resized.{IsResizing, ResizesOutbox}
use Rattle.client_delivery.specs.Attached.{source_key, find_source}
use Rattle.attached_client.specs.Client.{Attachment}
use Rattle.attached_client.proofs.Places.{found_at, put_at, put_keeps}
use Rattle.attached_client.proofs.Sizings.{of_source, not_missing, sizes_so}
use Rattle.attached_client.proofs.client.Attached.resize.Goals as goal

pub resized-requires-clause-made : goal.resized-requires-clause-made
resized-requires-clause-made c =
    let at = sym (rw c.deref.ensures.value at c.in-Some.ensures.place) in
    let found = found_at c.keyed_places.ensures c.keyed_keeps.ensures c.self.inside.sources.items c.args.wid c.in-Some.place c.index_mut.result.now at (rw c.deref.ensures.value at c.in-Some.ensures.within) c.index_mut.ensures.value in
    let there = ap (λ (a : Attachment). find_source a.client.seen.sources c.args.wid) (sym c.self.view_is) ∙ found in
    subst (λ (a : Attachment). IsResizing has c.index_mut.result.now a.client.seen.out.packets c.args.resizing) (sym c.self.view_is)
    (of_source c.args.self.now.client c.args.wid c.index_mut.result.now c.args.resizing there c.requires.made)

pub invariant_of-self : goal.invariant_of-self
invariant_of-self c =
    let at = sym (rw c.deref.ensures.value at c.in-Some.ensures.place) in
    put_keeps c.keyed_places.ensures c.keyed_keeps.ensures c.self.inside.sources.items c.args.wid c.in-Some.place (resized c.args.resizing.wide c.args.resizing.high c.args.now)
    c.index_mut.result.now c.resized.new.self c.self.invariant at c.index_mut.ensures.value c.resized.ensures.source

pub returns-in-Some : goal.returns-in-Some
returns-in-Some c =
    let at = sym (rw c.deref.ensures.value at c.in-Some.ensures.place) in
    let found = found_at c.keyed_places.ensures c.keyed_keeps.ensures c.self.inside.sources.items c.args.wid c.in-Some.place c.index_mut.result.now at (rw c.deref.ensures.value at c.in-Some.ensures.within) c.index_mut.ensures.value in
    let own = c.keyed_finds.ensures.found source_key c.self.inside.sources.items c.args.wid c.index_mut.result.now found in
    let put = put_at c.keyed_places.ensures c.keyed_keeps.ensures c.self.inside.sources.items c.args.wid c.in-Some.place (resized c.args.resizing.wide c.args.resizing.high c.args.now)
    c.index_mut.result.now c.resized.new.self c.self.invariant at c.index_mut.ensures.value c.resized.ensures.source in
    sizes_so c.args.wid c.args.resizing.wide c.args.resizing.high c.args.now _ _ c.self.inside.sources.items _ c.self.inside.out.waiting c.resized.new.out.waiting
    (ap (λ (a : Attachment). a.client) c.self.view_is) refl put
    (subst (λ (j : ℕ). ResizesOutbox has j c.args.resizing.wide c.args.resizing.high c.self.inside.out.waiting c.resized.new.out.waiting) own c.resized.ensures.outbox)

pub returns-in_default : goal.returns-in_default
returns-in_default c =
    let none = c.keyed_places.ensures.missing source_key c.self.inside.sources.items c.args.wid (sym (rw c.deref.ensures.value at c.in_default.ensures.place)) in
    let there = ap (λ (a : Attachment). find_source a.client.seen.sources c.args.wid) (sym c.self.view_is) ∙ none in
    absurd (not_missing c.args.self.now.client c.args.wid c.args.resizing there c.requires.made)
