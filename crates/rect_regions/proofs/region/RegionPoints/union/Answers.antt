use Rattle.std.proofs.Common.{List, sym, subst}
use Rattle.xp_base.specs.Points.{Rectangle}
use Rattle.rect_regions.specs.PointSets.{has}
use Rattle.rect_regions.specs.Bands.{Each}
use Rattle.rect_regions.specs.Sweeping.{Covers}
use Rattle.rect_regions.proofs.Coverings.{united_covered_all, covers_each, not_both}
use Rattle.rect_regions.proofs.region.RegionPoints.union.Goals as goal

pub returns-then-covers_all-clause-ok : goal.returns-then-covers_all-clause-ok
returns-then-covers_all-clause-ok c =
    let mine = c.args.self.now in
    let all : Each (Covers (has c.list.result.now)) c.list-2.result.now = c.covers_all.ensures.0 c.if-covers_all.true in
    let own : Each (Covers (has mine)) c.list-2.result.now = subst (λ (l : List Rectangle). Each (Covers (has l)) c.list-2.result.now) c.list.ensures.list all in
    let both : Each (Covers (has mine)) c.args.o.now = subst (λ (l : List Rectangle). Each (Covers (has mine)) l) c.list-2.ensures.list own in
    united_covered_all (has mine) c.args.o.now both

pub returns-in_err-self-clause-free : goal.returns-in_err-self-clause-free
returns-in_err-self-clause-free c =
    let mine = c.args.self.now in
    λ all.
    let each : Each (Covers (has mine)) c.args.o.now = covers_each (has mine) c.args.o.now all in
    let theirs : Each (Covers (has mine)) c.list-2.result.now = subst (λ (l : List Rectangle). Each (Covers (has mine)) l) (sym c.list-2.ensures.list) each in
    let own : Each (Covers (has c.list.result.now)) c.list-2.result.now = subst (λ (l : List Rectangle). Each (Covers (has l)) c.list-2.result.now) (sym c.list.ensures.list) theirs in
    absurd (not_both c.covers_all.result (c.covers_all.ensures.1 own) c.if-covers_all.false)
