use Rattle.std.proofs.Common.{◌≡◌, ◌≤◌, ◌+◌, ℕ, true, false, take, drop, sym, ap, subst, ◌∙◌, arith}
use Rattle.xp_base.specs.Points.{Rectangle, IsRectangle, is_in}
use Rattle.rect_regions.specs.Bands.{Each}
use Rattle.rect_regions.proofs.Searches.{IsPast, IsAhead}
use Rattle.rect_regions.proofs.Coverings.{covered_past, covered_out, covered_short, covered_all}
use Rattle.rect_regions.proofs.band_covers.covered_to.Goals as goal

sized_so : (r : Rectangle) (x y w h : ℕ) → x ≡ r.x → y ≡ r.y → w ≡ r.w → h ≡ r.h → 1 ≤ w → 1 ≤ h → x + w ≤ 4096 → y + h ≤ 4096 → IsRectangle r
sized_so r x y w h a b c d wide high across down = record { wide = omega arith; high = omega arith; across = omega arith; down = omega arith }

pub returns-then-place-rects : goal.returns-then-place-rects
returns-then-place-rects c =
    let r : Rectangle = c.args.r in
    let y = c.args.y in
    let k = c.first_not_past-place.result in
    let left : c.r.inside.x ≡ r.x = cc (ap (λ (q : Rectangle). q.x) c.r.view_is) in
    let top : c.r.inside.y ≡ r.y = cc (ap (λ (q : Rectangle). q.y) c.r.view_is) in
    let wide : c.r.inside.w ≡ r.w = cc (ap (λ (q : Rectangle). q.w) c.r.view_is) in
    let high : c.r.inside.h ≡ r.h = cc (ap (λ (q : Rectangle). q.h) c.r.view_is) in
    let sized = sized_so r c.r.inside.x c.r.inside.y c.r.inside.w c.r.inside.h left top wide high c.r.invariant.wide c.r.invariant.high c.r.invariant.across c.r.invariant.down in
    let before : Each (IsPast r.x y) (take k c.args.rects.now) = subst (λ (n : ℕ). Each (IsPast n y) (take k c.args.rects.now)) left c.first_not_past-place.ensures.before in
    covered_past c.args.rects.now r k y sized (omega (arith, c.if-place-rects.true)) before

pub returns-then-not-contains : goal.returns-then-not-contains
returns-then-not-contains c =
    let r : Rectangle = c.args.r in
    let s : Rectangle = c.index-rects-place.result in
    let y = c.args.y in
    let k = c.first_not_past-place.result in
    let left : c.r.inside.x ≡ r.x = cc (ap (λ (q : Rectangle). q.x) c.r.view_is) in
    let top : c.r.inside.y ≡ r.y = cc (ap (λ (q : Rectangle). q.y) c.r.view_is) in
    let wide : c.r.inside.w ≡ r.w = cc (ap (λ (q : Rectangle). q.w) c.r.view_is) in
    let high : c.r.inside.h ≡ r.h = cc (ap (λ (q : Rectangle). q.h) c.r.view_is) in
    let sized = sized_so r c.r.inside.x c.r.inside.y c.r.inside.w c.r.inside.h left top wide high c.r.invariant.wide c.r.invariant.high c.r.invariant.across c.r.invariant.down in
    let before : Each (IsPast r.x y) (take k c.args.rects.now) = subst (λ (n : ℕ). Each (IsPast n y) (take k c.args.rects.now)) left c.first_not_past-place.ensures.before in
    let behind : Each (IsAhead r.x y) (drop k c.args.rects.now) = subst (λ (n : ℕ). Each (IsAhead n y) (drop k c.args.rects.now)) left c.first_not_past-place.ensures.behind in
    let out : is_in s r.x y ≡ false = subst (λ (n : ℕ). is_in s n y ≡ false) left (sym c.contains.ensures ∙ c.if-not-contains.true) in
    covered_out c.args.rects.now r s k y sized c.requires.sorted (omega (arith, c.if-place-rects.false, c.first_not_past-place.ensures.within)) c.index-rects-place.is before behind out

pub returns-then-s-r : goal.returns-then-s-r
returns-then-s-r c =
    let r : Rectangle = c.args.r in
    let s : Rectangle = c.index-rects-place.result in
    let y = c.args.y in
    let k = c.first_not_past-place.result in
    let left : c.r.inside.x ≡ r.x = cc (ap (λ (q : Rectangle). q.x) c.r.view_is) in
    let wide : c.r.inside.w ≡ r.w = cc (ap (λ (q : Rectangle). q.w) c.r.view_is) in
    let begin : c.s.inside.x ≡ s.x = cc (ap (λ (q : Rectangle). q.x) c.s.view_is) in
    let width : c.s.inside.w ≡ s.w = cc (ap (λ (q : Rectangle). q.w) c.s.view_is) in
    let before : Each (IsPast r.x y) (take k c.args.rects.now) = subst (λ (n : ℕ). Each (IsPast n y) (take k c.args.rects.now)) left c.first_not_past-place.ensures.before in
    let there : is_in s r.x y ≡ true = subst (λ (n : ℕ). is_in s n y ≡ true) left (sym c.contains.ensures ∙ c.if-not-contains.false) in
    covered_short c.args.rects.now r s k y c.requires.sorted (omega (arith, c.if-place-rects.false, c.first_not_past-place.ensures.within)) c.index-rects-place.is before there (omega (arith, c.if-s-r.true))

pub returns : goal.returns
returns c =
    let r : Rectangle = c.args.r in
    let s : Rectangle = c.index-rects-place.result in
    let y = c.args.y in
    let k = c.first_not_past-place.result in
    let left : c.r.inside.x ≡ r.x = cc (ap (λ (q : Rectangle). q.x) c.r.view_is) in
    let wide : c.r.inside.w ≡ r.w = cc (ap (λ (q : Rectangle). q.w) c.r.view_is) in
    let begin : c.s.inside.x ≡ s.x = cc (ap (λ (q : Rectangle). q.x) c.s.view_is) in
    let width : c.s.inside.w ≡ s.w = cc (ap (λ (q : Rectangle). q.w) c.s.view_is) in
    let row : c.s.inside.y ≡ s.y = cc (ap (λ (q : Rectangle). q.y) c.s.view_is) in
    let height : c.s.inside.h ≡ s.h = cc (ap (λ (q : Rectangle). q.h) c.s.view_is) in
    let there : is_in s r.x y ≡ true = subst (λ (n : ℕ). is_in s n y ≡ true) left (sym c.contains.ensures ∙ c.if-not-contains.false) in
    covered_all c.args.rects.now r s k y (c.s.inside.y + c.s.inside.h) (omega (arith, c.if-place-rects.false, c.first_not_past-place.ensures.within)) c.index-rects-place.is there
    (omega (arith, c.if-s-r.false)) (omega arith)
