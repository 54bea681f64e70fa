use Rattle.std.proofs.Common.{◌+◌, sym, ◌∙◌, ap}
use Rattle.std.proofs.lemmas.Bool.{false≢true}
use Rattle.rect_regions.specs.PointSets.{HasNone}
use Rattle.damage_batch.specs.Pending.{BatchSeen}
use Rattle.damage_batch.proofs.batch.Batch.due.Goals as goal

pub returns-then-now-earliest : goal.returns-then-now-earliest
returns-then-now-earliest g c =
    let same = ap (λ (b : BatchSeen g.row.R.Denot). b.pending) c.self.view_is in
    let times = ap (λ (b : BatchSeen g.row.R.Denot). b.since + b.delay) c.self.view_is in
    let some : HasNone (g.R.Points.has c.args.self.now.pending) → ⊥ = λ none. false≢true (sym c.if-is_empty.false ∙ c.is_empty.ensures.1 (rw same none)) in
    (some, times, c.if-now-earliest.true)

pub returns : goal.returns
returns g c =
    let same = ap (λ (b : BatchSeen g.row.R.Denot). b.pending) c.self.view_is in
    let times = ap (λ (b : BatchSeen g.row.R.Denot). b.since + b.delay) c.self.view_is in
    let some : HasNone (g.R.Points.has c.args.self.now.pending) → ⊥ = λ none. false≢true (sym c.if-is_empty.false ∙ c.is_empty.ensures.1 (rw same none)) in
    (some, rw (← times) c.if-now-earliest.false)
