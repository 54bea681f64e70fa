use Rattle.std.proofs.Common.{List, ap, sym, ◌∙◌}
use Rattle.delivery_model.specs.Events.{damaged}
use Rattle.window_source.specs.Source.{SourceSeen}
use Rattle.client_delivery.specs.Attached.{source_key, find_source}
use Rattle.attached_client.specs.Client.{Attachment}
use Rattle.attached_client.specs.Changes.{damaged_in}
use Rattle.attached_client.proofs.Places.{found_at, put_at, put_keeps}
use Rattle.attached_client.proofs.Damages.{of_source, not_missing}
use Rattle.attached_client.proofs.client.Attached.damage.Goals as goal

pub invariant_of-self : goal.invariant_of-self
invariant_of-self c =
    let at = sym (rw c.deref.ensures.value at c.in-Some.ensures.place) in
    let found = found_at c.keyed_places.ensures c.keyed_keeps.ensures c.self.inside.sources.items c.args.wid c.in-Some.place c.index_mut.result.now at (rw c.deref.ensures.value at c.in-Some.ensures.within) c.index_mut.ensures.value in
    let there = ap (λ (a : Attachment). find_source a.client.seen.sources c.args.wid) (sym c.self.view_is) ∙ found in
    let made = c.put_damaged.ensures c.requires.made.0 (of_source c.args.self.now.client c.args.wid c.requires.made.0 c.index_mut.result.now c.args.pending there c.requires.made.1) in
    put_keeps c.keyed_places.ensures c.keyed_keeps.ensures c.self.inside.sources.items c.args.wid c.in-Some.place (damaged c.requires.made.0 c.args.now) c.index_mut.result.now c.put_damaged.new.self c.self.invariant at c.index_mut.ensures.value made

pub put_damaged-requires-clause-made : goal.put_damaged-requires-clause-made
put_damaged-requires-clause-made c =
    let at = sym (rw c.deref.ensures.value at c.in-Some.ensures.place) in
    let found = found_at c.keyed_places.ensures c.keyed_keeps.ensures c.self.inside.sources.items c.args.wid c.in-Some.place c.index_mut.result.now at (rw c.deref.ensures.value at c.in-Some.ensures.within) c.index_mut.ensures.value in
    let there = ap (λ (a : Attachment). find_source a.client.seen.sources c.args.wid) (sym c.self.view_is) ∙ found in
    (c.requires.made.0, of_source c.args.self.now.client c.args.wid c.requires.made.0 c.index_mut.result.now c.args.pending there c.requires.made.1)

pub returns-in-Some : goal.returns-in-Some
returns-in-Some c = λ r pends.
    let at = sym (rw c.deref.ensures.value at c.in-Some.ensures.place) in
    let found = found_at c.keyed_places.ensures c.keyed_keeps.ensures c.self.inside.sources.items c.args.wid c.in-Some.place c.index_mut.result.now at (rw c.deref.ensures.value at c.in-Some.ensures.within) c.index_mut.ensures.value in
    let there = ap (λ (a : Attachment). find_source a.client.seen.sources c.args.wid) (sym c.self.view_is) ∙ found in
    let made = c.put_damaged.ensures r (of_source c.args.self.now.client c.args.wid r c.index_mut.result.now c.args.pending there pends) in
    let put = put_at c.keyed_places.ensures c.keyed_keeps.ensures c.self.inside.sources.items c.args.wid c.in-Some.place (damaged r c.args.now) c.index_mut.result.now c.put_damaged.new.self c.self.invariant at c.index_mut.ensures.value made in
    ap (λ (sources : List SourceSeen). record { conn = c.self.inside.conn.0; caps = c.self.inside.caps; seen = record { sources = sources; out = c.self.inside.out.waiting } }) put
    ∙ ap (λ (a : Attachment). damaged_in c.args.wid r c.args.now a.client) c.self.view_is

pub returns-in_default : goal.returns-in_default
returns-in_default c = λ r pends.
    let none = c.keyed_places.ensures.missing source_key c.self.inside.sources.items c.args.wid (sym (rw c.deref.ensures.value at c.in_default.ensures.place)) in
    let there = ap (λ (a : Attachment). find_source a.client.seen.sources c.args.wid) (sym c.self.view_is) ∙ none in
    absurd (not_missing c.args.self.now.client c.args.wid r c.args.pending there pends)
