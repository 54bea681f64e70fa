use Rattle.std.proofs.Common.{ℕ, refl, ap, sym, ◌∙◌}
use Rattle.window_model.specs.Desktop.{Window}
use Rattle.client_delivery.specs.Attached.{source_key, find_source}
use Rattle.attached_client.specs.Client.{Attachment}
use Rattle.attached_client.proofs.Placings.{captures_so, captures_none}
use Rattle.attached_client.proofs.client.Attached.capture.Goals as goal

pub returns-in_default : goal.returns-in_default
returns-in_default c =
    let none = c.keyed_places.ensures.missing source_key c.self.inside.sources.items c.window.inside.wid (sym (rw c.deref.ensures.value at c.in_default.ensures.place)) in
    captures_none c.args.mode c.args.now c.args.first.0 c.args.window.now c.args.self.now.client
    (ap (λ (a : Attachment). find_source a.client.seen.sources c.args.window.now.wid) (sym c.self.view_is)
    ∙ ap (λ (w : Window). find_source c.self.inside.sources.items w.wid) (sym c.window.view_is) ∙ none)

pub returns-then-not-may_capture : goal.returns-then-not-may_capture
returns-then-not-may_capture c =
    captures_so c.keyed_places.ensures c.keyed_keeps.ensures c.self.inside.conn.0 c.self.inside.caps c.self.inside.sources.items c.self.inside.out.waiting c.window.inside.wid c.in-Some.place c.index_mut-source.result.now
    c.self.invariant (sym (rw c.deref.ensures.value at c.in-Some.ensures.place)) (rw c.deref.ensures.value at c.in-Some.ensures.within) c.index_mut-source.ensures.value
    c.args.mode c.args.now c.args.first.0 c.weight-weight.result c.args.window.now c.index_mut-source.result.now _ (ap (λ (a : Attachment). a.client) c.self.view_is)
    (ap (λ (w : Window). w.wid) c.window.view_is) c.weight-weight.ensures (λ packets busy. tt) refl

pub returns : goal.returns
returns c =
    captures_so c.keyed_places.ensures c.keyed_keeps.ensures c.self.inside.conn.0 c.self.inside.caps c.self.inside.sources.items c.self.inside.out.waiting c.window.inside.wid c.in-Some.place c.index_mut-source.result.now
    c.self.invariant (sym (rw c.deref.ensures.value at c.in-Some.ensures.place)) (rw c.deref.ensures.value at c.in-Some.ensures.within) c.index_mut-source.ensures.value
    c.args.mode c.args.now c.args.first.0 c.weight-weight.result c.args.window.now c.capture.new.self c.capture.result (ap (λ (a : Attachment). a.client) c.self.view_is)
    (ap (λ (w : Window). w.wid) c.window.view_is) c.weight-weight.ensures c.capture.ensures.answer c.capture.ensures.source
