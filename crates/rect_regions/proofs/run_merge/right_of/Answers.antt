use Rattle.std.proofs.Common.{◌≡◌, ◌≤◌, length, ap, arith}
use Rattle.std.proofs.lemmas.Bool.Decides.{nat_tests}
use Rattle.xp_base.specs.Points.{Rectangle}
use Rattle.rect_regions.proofs.RunMerges.{right_stay_at, right_next_at}
use Rattle.rect_regions.proofs.run_merge.right_of.Goals as goal

pub returns-then-x-first : goal.returns-then-x-first
returns-then-x-first c =
    let r : Rectangle = c.index-left-0.result in
    let some : 1 ≤ length c.args.left.now = grind (arith, nat_tests) in
    let left : c.first.inside.x ≡ r.x = cc (ap (λ (q : Rectangle). q.x) c.first.view_is) in
    let wide : c.first.inside.w ≡ r.w = cc (ap (λ (q : Rectangle). q.w) c.first.view_is) in
    right_stay_at c.args.left.now r c.args.x c.requires.runs some c.index-left-0.is (omega (arith, c.if-x-first.true))

pub returns : goal.returns
returns c =
    let r : Rectangle = c.index-left-0.result in
    let some : 1 ≤ length c.args.left.now = grind (arith, nat_tests) in
    let left : c.first.inside.x ≡ r.x = cc (ap (λ (q : Rectangle). q.x) c.first.view_is) in
    let wide : c.first.inside.w ≡ r.w = cc (ap (λ (q : Rectangle). q.w) c.first.view_is) in
    right_next_at c.args.left.now c.split_at.result.1.now r c.args.x c.requires.runs some c.index-left-0.is c.split_at.ensures.back (omega (arith, c.if-x-first.false)) c.requires.reach
