use Rattle.std.proofs.Common.{◌≡◌, ℕ, ◌+◌, ◌*◌, ◌/◌, ◌%◌, ◌<◌, ◌≤◌, Bool, true, false, cond, sym, ◌∙◌, ap, arith}
use Rattle.window_source.specs.Source.{SourceSeen}
use Rattle.window_source.specs.Owed.{owes}
use Rattle.window_source.proofs.OwedLemmas.{count_more, count_all}
use Rattle.window_source.proofs.source.WindowSource.owed_count.Goals.{then-owes, else-owes}
use Rattle.window_source.proofs.source.WindowSource.owed_count.Goals as goal

pub loop-place-preserved : goal.loop-place-preserved
loop-place-preserved g c =
    let test : ℕ → ℕ → Bool = owes g.R.Points.has c.args.self.now c.args.out.now.waiting.packets in
    let place : ℕ = c.loop-place.place in
    let n : ℕ = c.loop-place.count in
    let wide : c.self.inside.w ≡ c.args.self.now.wide = ap (λ (s : SourceSeen). s.wide) c.self.view_is in
    let high : c.self.inside.h ≡ c.args.self.now.high = ap (λ (s : SourceSeen). s.high) c.self.view_is in
    let less : place < c.args.self.now.wide * c.args.self.now.high = rw (← wide, ← high) c.loop-place-test.true in
    let more = count_more test c.args.self.now.wide c.args.self.now.high place n c.loop-place.invariant.counted less in
    let same : test (place % c.args.self.now.wide) (place / c.args.self.now.wide) ≡ c.owes.result = ap (λ v. test (place % v) (place / v)) (sym wide) ∙ sym c.owes.ensures in
    elim c.if-owes.branch [
      | then-owes w ↦ record { counted = w.count-is ∙ ap (λ b. cond b (n + 1) n) (sym (same ∙ w.if-owes.true)) ∙ more; few = omega (arith, w.count-is, c.loop-place.invariant.few) }
      | else-owes w ↦ record { counted = w.count-is ∙ ap (λ b. cond b (n + 1) n) (sym (same ∙ w.if-owes.false)) ∙ more; few = omega (arith, w.count-is, c.loop-place.invariant.few) }
    ]

pub returns : goal.returns
returns g c =
    let test : ℕ → ℕ → Bool = owes g.R.Points.has c.args.self.now c.args.out.now.waiting.packets in
    let wide : c.self.inside.w ≡ c.args.self.now.wide = ap (λ (s : SourceSeen). s.wide) c.self.view_is in
    let high : c.self.inside.h ≡ c.args.self.now.high = ap (λ (s : SourceSeen). s.high) c.self.view_is in
    let most : c.args.self.now.wide * c.args.self.now.high ≤ c.loop-place.place = rw (← wide, ← high) c.loop-place-test.false in
    c.loop-place.invariant.counted ∙ count_all test c.args.self.now.wide c.args.self.now.high c.loop-place.place most
