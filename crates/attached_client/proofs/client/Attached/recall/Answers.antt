use Rattle.std.proofs.Common.{List, refl, ap, sym, ◌∙◌}
use Rattle.window_source.specs.Source.{SourceSeen, after}
use Rattle.client_delivery.specs.Attached.{source_key, find_source}
use Rattle.client_delivery.specs.Steps.{GivingBack, quiet}
use Rattle.attached_client.specs.Client.{Attachment}
use Rattle.attached_client.specs.Capturing.{recalled}
use Rattle.attached_client.proofs.Places.{put_at}
use Rattle.attached_client.proofs.Placings.{client_of, unchanged}
use Rattle.attached_client.proofs.client.Attached.recall.Goals as goal

pub returns-in_ok-recall-clause-ok : goal.returns-in_ok-recall-clause-ok
returns-in_ok-recall-clause-ok c =
    let put = put_at c.keyed_places.ensures c.keyed_keeps.ensures c.self.inside.sources.items c.args.wid c.in-Some.place (quiet (GivingBack c.args.now)) c.index_mut.result.now c.recall.new.self
    c.self.invariant (sym (rw c.deref.ensures.value at c.in-Some.ensures.place)) c.index_mut.ensures.value c.in_ok-recall.ensures.ok in
    ap (λ (sources : List SourceSeen). client_of c.self.inside.conn.0 c.self.inside.caps sources c.self.inside.out.waiting) put
    ∙ ap (λ (a : Attachment). recalled c.args.wid c.args.now a.client) c.self.view_is

pub returns-in_default-clause-ok : goal.returns-in_default-clause-ok
returns-in_default-clause-ok c =
    let none = c.keyed_places.ensures.missing source_key c.self.inside.sources.items c.args.wid (sym (rw c.deref.ensures.value at c.in_default.ensures.place)) in
    ap (λ (a : Attachment). a.client) (sym c.self.view_is)
    ∙ ap (λ (sources : List SourceSeen). client_of c.self.inside.conn.0 c.self.inside.caps sources c.self.inside.out.waiting) (sym (unchanged c.self.inside.sources.items c.args.wid (after (quiet (GivingBack c.args.now))) none))
    ∙ ap (λ (a : Attachment). recalled c.args.wid c.args.now a.client) c.self.view_is
