use Rattle.std.proofs.Common.{Some, ap, sym, ◌∙◌}
use Rattle.std.proofs.lemmas.Option.{slice_get-get_or}
use Rattle.window_source.specs.Source.{SourceSeen}
use Rattle.client_delivery.specs.Attached.{source_key, find_source}
use Rattle.attached_client.specs.Client.{Attachment}
use Rattle.attached_client.proofs.client.Attached.source.Goals as goal

pub returns-in-Some : goal.returns-in-Some
returns-in-Some c =
    let sources = c.self.inside.sources.items in
    let found = c.keyed_places.ensures.found source_key sources c.args.wid c.in-Some.place (sym (rw c.deref.ensures.value at c.in-Some.ensures.place)) in
    let there = slice_get-get_or sources c.in-Some.place c.index.result.now (rw c.deref.ensures.value at c.in-Some.ensures.within) in
    sym (ap (λ (a : Attachment). find_source a.client.seen.sources c.args.wid) (sym c.self.view_is) ∙ found ∙ there ∙ ap (λ (s : SourceSeen). Some s) (sym c.index.ensures))

pub returns-in-None : goal.returns-in-None
returns-in-None c =
    let missing = c.keyed_places.ensures.missing source_key c.self.inside.sources.items c.args.wid (sym (rw c.deref.ensures.value at c.in-None.ensures.place)) in
    sym (ap (λ (a : Attachment). find_source a.client.seen.sources c.args.wid) (sym c.self.view_is) ∙ missing)
