use Rattle.std.proofs.Common.{ℕ, refl, ap, sym, ◌∙◌}
use Rattle.client_delivery.specs.Attached.{source_key, find_source}
use Rattle.attached_client.specs.Client.{Attachment}
use Rattle.attached_client.proofs.Placings.{files_so, files_none}
use Rattle.attached_client.proofs.client.Attached.file.Goals as goal

pub returns-in_default : goal.returns-in_default
returns-in_default c =
    let none = c.keyed_places.ensures.missing source_key c.self.inside.sources.items c.args.wid (sym (rw c.deref.ensures.value at c.in_default.ensures.place)) in
    files_none c.args.wid c.args.now c.args.self.now.client c.args.done (ap (λ (a : Attachment). find_source a.client.seen.sources c.args.wid) (sym c.self.view_is) ∙ none)

pub returns-then-not-may_file : goal.returns-then-not-may_file
returns-then-not-may_file c =
    files_so c.keyed_places.ensures c.keyed_keeps.ensures c.self.inside.conn.0 c.self.inside.caps c.self.inside.sources.items c.self.inside.out.waiting c.args.wid c.in-Some.place c.index_mut-source.result.now
    c.self.invariant (sym (rw c.deref.ensures.value at c.in-Some.ensures.place)) (rw c.deref.ensures.value at c.in-Some.ensures.within) c.index_mut-source.ensures.value
    c.args.now c.index_mut-source.result.now c.self.inside.out.waiting c.args.done _ (ap (λ (a : Attachment). a.client) c.self.view_is) (refl, record { source = refl; outbox = refl })

pub returns : goal.returns
returns c =
    files_so c.keyed_places.ensures c.keyed_keeps.ensures c.self.inside.conn.0 c.self.inside.caps c.self.inside.sources.items c.self.inside.out.waiting c.args.wid c.in-Some.place c.index_mut-source.result.now
    c.self.invariant (sym (rw c.deref.ensures.value at c.in-Some.ensures.place)) (rw c.deref.ensures.value at c.in-Some.ensures.within) c.index_mut-source.ensures.value
    c.args.now c.file.new.self c.file.new.out.waiting c.args.done c.file.result (ap (λ (a : Attachment). a.client) c.self.view_is) c.file.ensures
