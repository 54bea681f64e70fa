use Rattle.std.proofs.Common.{◌≡◌, ◌≤◌, ◌+◌, ℕ, Bool, true, false, List, arith, sym, ◌∙◌, subst}
use Rattle.std.proofs.lemmas.Result.{on_ok_weaker}
use Rattle.xp_base.specs.Points.{Rectangle}
use Rattle.rect_regions.specs.BitRows.{has_mark}
use Rattle.rect_regions.specs.Making.{AppendsBand, RunsSoFar, with_run}
use Rattle.rect_regions.proofs.RunSteps.{runs_begin, runs_on, runs_ended, runs_end, at_one}
use Rattle.rect_regions.proofs.Marks.{no_mark_right}
use Rattle.rect_regions.proofs.bit_rects.append_row.Goals as goal
use Rattle.rect_regions.proofs.bit_rects.append_row.Goals.{then-not-test+in_ok-end_run, else-not-test}

pub loop-x-init : goal.loop-x-init
loop-x-init c = runs_begin c.args.rects.now.items c.args.y (c.args.y + 1) _

pub loop-x-preserved : goal.loop-x-preserved
loop-x-preserved c =
    let y = c.args.y in
    let old = c.args.rects.now.items in
    let row : ℕ → Bool = λ x. has_mark c.args.bits.now x y in
    elim c.if-not-test.branch [
      | then-not-test+in_ok-end_run w ↦
          let off : row c.loop-x.x ≡ false = sym c.test.ensures ∙ w.if-not-test.true in
          rw (w.rects-is, w.from-is, w.in_ok-end_run.ensures)
          (runs_ended old c.loop-x.rects.items y (y + 1) row c.loop-x.from c.loop-x.x (c.loop-x.x + 1) (omega arith) (omega arith) (omega arith) (omega arith) (at_one row false c.loop-x.x off) c.loop-x.invariant)
      | else-not-test w ↦
          let on : row c.loop-x.x ≡ true = sym c.test.ensures ∙ w.if-not-test.false in
          rw (w.rects-is, w.from-is) (runs_on old c.loop-x.rects.items y (y + 1) row c.loop-x.from c.loop-x.x (c.loop-x.x + 1) (omega arith) (at_one row true c.loop-x.x on) c.loop-x.invariant)
    ]

done : (old now new : List Rectangle) (y from x : ℕ) (row : ℕ → Bool) → y + 1 ≤ 4096 → x ≤ 4096 → ((c : ℕ) → x ≤ c → row c ≡ false)
    → RunsSoFar old now y (y + 1) row from x → new ≡ with_run now y (y + 1) from x → AppendsBand old new y (y + 1) row
done old now new y from x row down within off runs is = rw is (runs_end old now y (y + 1) row from x (omega arith) down within off runs)

pub returns : goal.returns
returns c =
    let y = c.args.y in
    let row : ℕ → Bool = λ x. has_mark c.args.bits.now x y in
    let kept = c.wide-wide.ensures.kept in
    on_ok_weaker {P = c.end_run-2.new.rects.items ≡ with_run c.loop-x.rects.items y (y + 1) c.loop-x.from c.wide-wide.result} c.end_run-2.result
    (λ is. done c.args.rects.now.items c.loop-x.rects.items c.end_run-2.new.rects.items y c.loop-x.from c.wide-wide.result row (omega arith) (omega arith)
    (λ k far. no_mark_right c.args.bits.now k y (omega arith))
    (let at : c.loop-x.x ≡ c.wide-wide.result = omega arith in subst (λ (n : ℕ). RunsSoFar c.args.rects.now.items c.loop-x.rects.items y (y + 1) row c.loop-x.from n) at c.loop-x.invariant) is)
    c.end_run-2.ensures
