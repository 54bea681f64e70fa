use Rattle.std.proofs.Common.{◌≡◌, ◌≤◌, ◌<◌, ℕ, Bool, false, List, subst, arith}
use Rattle.std.proofs.lemmas.Result.{on_ok_weaker}
use Rattle.xp_base.specs.Points.{Rectangle}
use Rattle.rect_regions.specs.Combinations.{keeps}
use Rattle.rect_regions.specs.Making.{columns, AppendsBand, RunsSoFar, with_run}
use Rattle.rect_regions.proofs.RunSteps.{runs_begin, runs_ended, runs_end}
use Rattle.rect_regions.proofs.RunMerges.{limit_of-within, right_begin, right_on, run_within, run_row, row_past}
use Rattle.rect_regions.proofs.run_merge.append_combined.Goals as goal

pub loop-x-init : goal.loop-x-init
loop-x-init c =
    let within = limit_of-within c.args.combination c.right_end.result c.right_end-2.result 4096 c.right_end.ensures.limit c.right_end-2.ensures.limit in
    record {
      runs = runs_begin c.args.rects.now.items c.args.top c.args.bottom _;
      one = right_begin c.args.one.now c.requires.one;
      other = right_begin c.args.other.now c.requires.other;
      limit = rw c.limit-limit.ensures within;
      across = omega arith;
    }

pub right_of-one_left-requires-clause-reach : goal.right_of-one_left-requires-clause-reach
right_of-one_left-requires-clause-reach c =
    run_within c.loop-x.one_left.now c.min-until.result c.run_at-one_run.result.until (omega (arith, c.min-until.ensures)) c.run_at-one_run.ensures.within

pub right_of-other_left-requires-clause-reach : goal.right_of-other_left-requires-clause-reach
right_of-other_left-requires-clause-reach c =
    run_within c.loop-x.other_left.now c.min-until.result c.run_at-other_run.result.until (omega (arith, c.min-until.ensures)) c.run_at-other_run.ensures.within

pub loop-x-preserved-in_ok-end_run : goal.loop-x-preserved-in_ok-end_run
loop-x-preserved-in_ok-end_run c =
    let x = c.loop-x.x in
    let until = c.min-until.result in
    let one = c.args.one.now in
    let other = c.args.other.now in
    let row : ℕ → Bool = λ k. keeps c.args.combination (columns one k) (columns other k) in
    let later : x < until = omega (arith, c.min-until.ensures, c.run_at-one_run.ensures.right, c.run_at-other_run.ensures.right) in
    let off = run_row c.args.combination one other c.loop-x.one_left.now c.loop-x.other_left.now x c.run_at-one_run.result.until c.run_at-other_run.result.until until
    c.run_at-one_run.result.on c.run_at-other_run.result.on false (omega (arith, c.min-until.ensures)) (omega (arith, c.min-until.ensures))
    c.loop-x.invariant.one c.loop-x.invariant.other c.run_at-one_run.ensures c.run_at-other_run.ensures (cc (c.keeps.ensures, c.if-not-keeps.true)) in
    record {
      runs = rw c.in_ok-end_run.ensures
          (runs_ended c.args.rects.now.items c.loop-x.rects.items c.args.top c.args.bottom row c.loop-x.from x until c.requires.some c.requires.down c.loop-x.invariant.across later off c.loop-x.invariant.runs);
      one = right_on one c.loop-x.one_left.now c.right_of-one_left.result.now x until (omega arith) c.loop-x.invariant.one c.right_of-one_left.ensures;
      other = right_on other c.loop-x.other_left.now c.right_of-other_left.result.now x until (omega arith) c.loop-x.invariant.other c.right_of-other_left.ensures;
      limit = c.loop-x.invariant.limit;
      across = omega (arith, c.min-until.ensures, c.run_at-one_run.ensures.limit);
    }

done : (old now new : List Rectangle) (top bottom from x : ℕ) (row : ℕ → Bool) → top < bottom → bottom ≤ 4096 → x ≤ 4096 → ((c : ℕ) → x ≤ c → row c ≡ false)
    → RunsSoFar old now top bottom row from x → new ≡ with_run now top bottom from x → AppendsBand old new top bottom row
done old now new top bottom from x row rows down within off runs is = rw is (runs_end old now top bottom row from x rows down within off runs)

pub returns : goal.returns
returns c =
    let one = c.args.one.now in
    let other = c.args.other.now in
    let x = c.loop-x.x in
    let row : ℕ → Bool = λ k. keeps c.args.combination (columns one k) (columns other k) in
    let past = subst (λ (n : ℕ). n ≤ x) c.limit-limit.ensures c.loop-x-test.false in
    on_ok_weaker {P = c.end_run-2.new.rects.items ≡ with_run c.loop-x.rects.items c.args.top c.args.bottom c.loop-x.from x} c.end_run-2.result
    (λ is. done c.args.rects.now.items c.loop-x.rects.items c.end_run-2.new.rects.items c.args.top c.args.bottom c.loop-x.from x row c.requires.some c.requires.down c.loop-x.invariant.across
    (λ k far. row_past c.args.combination one other c.right_end.result c.right_end-2.result x k c.right_end.ensures.ends c.right_end-2.ensures.ends past far) c.loop-x.invariant.runs is)
    c.end_run-2.ensures
