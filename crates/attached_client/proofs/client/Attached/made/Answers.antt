use Rattle.std.proofs.Common.{ℕ, ap, sym, ◌∙◌, subst}
use Rattle.std.specs.Prelude.{Option, IfOk}
use Rattle.window_source.specs.Source.{SourceSeen}
use Rattle.client_delivery.specs.Attached.{find_source}
use Rattle.attached_client.specs.Client.{Attachment}
use Rattle.attached_client.specs.Changes.{IsMadeWhere, IsMadeOf, IsMadeWithout}
use Rattle.attached_client.proofs.client.Attached.made.Goals as goal

pub made_of-requires : goal.made_of-requires
made_of-requires c = c.requires.fits c.in-Some.source.now (ap (find_source c.args.self.now.client.seen.sources) (sym c.wid.ensures) ∙ sym c.in-Some.ensures)

pub returns-in-Some : goal.returns-in-Some
returns-in-Some c =
    let found = ap (find_source c.args.self.now.client.seen.sources) (sym c.wid.ensures) ∙ sym c.in-Some.ensures in
    subst (λ (o : Option SourceSeen). IfOk c.made_of.result (IsMadeWhere o c.args.self.now.client.seen.out.packets c.args.change c.args.now c.args.self.now.client.conn)) (sym found)
    (subst (λ (a : Attachment). IfOk c.made_of.result (IsMadeOf c.in-Some.source.now a.client.seen.out.packets c.args.change)) c.self.view_is c.made_of.ensures)

pub returns-in-None : goal.returns-in-None
returns-in-None c =
    let found = ap (find_source c.args.self.now.client.seen.sources) (sym c.wid.ensures) ∙ sym c.in-None.ensures in
    let conn = ap (λ (a : Attachment). a.client.conn) c.self.view_is in
    subst (λ (o : Option SourceSeen). IfOk c.made_without.result (IsMadeWhere o c.args.self.now.client.seen.out.packets c.args.change c.args.now c.args.self.now.client.conn)) (sym found)
    (subst (λ (k : ℕ). IfOk c.made_without.result (IsMadeWithout c.args.change c.args.now k)) conn c.made_without.ensures)
