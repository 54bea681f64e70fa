use Rattle.std.proofs.Common.{sym, ◌∙◌, ap}
use Rattle.std.proofs.lemmas.Bool.{false≢true}
use Rattle.rect_regions.specs.PointSets.{HasNone}
use Rattle.damage_batch.specs.Pending.{BatchSeen}
use Rattle.damage_batch.proofs.batch.Batch.since_with.Goals as goal

pub returns-then-not-is_empty : goal.returns-then-not-is_empty
returns-then-not-is_empty g c =
    let same = ap (λ (b : BatchSeen g.row.R.Denot). b.pending) c.self.view_is in
    let since = ap (λ (b : BatchSeen g.row.R.Denot). b.since) c.self.view_is in
    let some : HasNone (g.R.Points.has c.args.self.now.pending) → ⊥ = λ none. false≢true (sym c.if-not-is_empty.true ∙ c.is_empty.ensures.1 (rw same none)) in
    record { begins = λ none left. absurd (some none); goes_on = λ left. since; nothing = λ none. since }
