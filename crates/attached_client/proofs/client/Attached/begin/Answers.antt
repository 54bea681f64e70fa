use Rattle.std.proofs.Common.{List, ap, ◌∙◌}
use Rattle.std.specs.Prelude.{is_some}
use Rattle.window_source.specs.Source.{SourceSeen}
use Rattle.client_delivery.specs.Attached.{source_key, find_source}
use Rattle.attached_client.specs.Client.{Attachment}
use Rattle.attached_client.proofs.client.Attached.begin.Goals as goal

pub invariant_of-self : goal.invariant_of-self
invariant_of-self c =
    let sources = ap (λ (a : Attachment). a.client.seen.sources) c.self.view_is in
    let none = ap (λ (l : List SourceSeen). find_source l c.args.source.wid) sources ∙ c.requires.new in
    rw c.push_reserved.ensures.items (c.keyed_keeps.ensures.pushed source_key c.self.inside.sources.items c.args.source c.self.invariant (ap is_some none))
