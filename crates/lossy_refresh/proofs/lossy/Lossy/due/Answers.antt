use Rattle.std.proofs.Common.{◌+◌, sym, ◌∙◌, ap}
use Rattle.std.proofs.lemmas.Bool.{false≢true}
use Rattle.rect_regions.specs.PointSets.{HasNone}
use Rattle.lossy_refresh.specs.LossyPoints.{LossySeen}
use Rattle.lossy_refresh.proofs.lossy.Lossy.due.Goals as goal

pub returns-then-now-earliest : goal.returns-then-now-earliest
returns-then-now-earliest g c =
    let same = ap (λ (l : LossySeen g.row.R.Denot). l.points) c.self.view_is in
    let times = ap (λ (l : LossySeen g.row.R.Denot). l.since + 250) c.self.view_is in
    let some : HasNone (g.R.Points.has c.args.self.now.points) → ⊥ = λ none. false≢true (sym c.if-is_empty.false ∙ c.is_empty.ensures.1 (rw same none)) in
    (c.if-busy.false, some, times, c.if-now-earliest.true)

pub returns : goal.returns
returns g c =
    let same = ap (λ (l : LossySeen g.row.R.Denot). l.points) c.self.view_is in
    let times = ap (λ (l : LossySeen g.row.R.Denot). l.since + 250) c.self.view_is in
    let some : HasNone (g.R.Points.has c.args.self.now.points) → ⊥ = λ none. false≢true (sym c.if-is_empty.false ∙ c.is_empty.ensures.1 (rw same none)) in
    (c.if-busy.false, some, rw (← times) c.if-now-earliest.false)
