use Rattle.std.proofs.Common.{◌≡◌, cond, Bool, true, false, List, [], sym, ap, subst, ◌∙◌}
use Rattle.xp_base.specs.Points.{Rectangle}
use Rattle.rect_regions.specs.Bands.{Each, IsBanded}
use Rattle.rect_regions.specs.Combinations.{keeps}
use Rattle.rect_regions.specs.Making.{EndsBy, IsMade}
use Rattle.rect_regions.specs.Sweeping.{IsSwept}
use Rattle.rect_regions.proofs.Sweeps.{sorted_banded, kept_banded, kept_ends, above_banded_at, split_of, below_split, below_other, swept_alone, swept_with, left_anew}
use Rattle.rect_regions.proofs.sweep.combine.Goals as goal

pub last_band-last-requires : goal.last_band-last-requires
last_band-last-requires c =
    let one = c.args.one.now in
    let above = c.split_at.result.0.now in
    let place = c.first_not_past-place in
    let banded = above_banded_at one above c.top_row.result place.result c.requires.one c.split_at.ensures.front place.ensures.before place.ensures.behind in
    subst (λ (l : List Rectangle). IsBanded l) (sym c.deref.ensures.value) (kept_banded (keeps c.args.combination true false) c.in_ok-rects.rects.items above c.in_ok-rects.ensures banded)

pub bottom_row-from-requires : goal.bottom_row-from-requires
bottom_row-from-requires c =
    let one = c.args.one.now in
    let above = c.split_at.result.0.now in
    let place = c.first_not_past-place in
    sorted_banded above (above_banded_at one above c.top_row.result place.result c.requires.one c.split_at.ensures.front place.ensures.before place.ensures.behind)

pub sweep-requires-clause-made : goal.sweep-requires-clause-made
sweep-requires-clause-made c =
    let above = c.split_at.result.0.now in
    let from = c.bottom_row-from.result in
    let ends = kept_ends (keeps c.args.combination true false) c.in_ok-rects.rects.items above from c.in_ok-rects.ensures c.bottom_row-from.ensures.ends in
    let named : Each (EndsBy from) c.deref.result.now = subst (λ (l : List Rectangle). Each (EndsBy from) l) (sym c.deref.ensures.value) ends in
    subst (λ (l : List Rectangle). IsMade l c.last_band-last.result from) c.deref.ensures.value (c.last_band-last.ensures from named)

pub sweep-requires-clause-one : goal.sweep-requires-clause-one
sweep-requires-clause-one c =
    let one = c.args.one.now in
    let other = c.args.other.now in
    let above = c.split_at.result.0.now in
    let left = c.split_at.result.1.now in
    let place = c.first_not_past-place in
    let from = c.bottom_row-from in
    let split = split_of c.args.combination one other above left c.top_row.result from.result place.result c.requires.one c.split_at.ensures.front c.split_at.ensures.back
    place.ensures.before place.ensures.behind c.top_row.ensures from.ensures.ends from.ensures.least in
    below_split c.args.combination one other above left from.result c.requires.one split

pub sweep-requires-clause-other : goal.sweep-requires-clause-other
sweep-requires-clause-other c =
    let one = c.args.one.now in
    let other = c.args.other.now in
    let above = c.split_at.result.0.now in
    let left = c.split_at.result.1.now in
    let place = c.first_not_past-place in
    let from = c.bottom_row-from in
    let split = split_of c.args.combination one other above left c.top_row.result from.result place.result c.requires.one c.split_at.ensures.front c.split_at.ensures.back
    place.ensures.before place.ensures.behind c.top_row.ensures from.ensures.ends from.ensures.least in
    below_other c.args.combination one other above left from.result c.requires.other split

pub returns-then-not-keeps-clause-points : goal.returns-then-not-keeps-clause-points
returns-then-not-keeps-clause-points c =
    let one = c.args.one.now in
    let other = c.args.other.now in
    let above = c.split_at.result.0.now in
    let left = c.split_at.result.1.now in
    let place = c.first_not_past-place in
    let from = c.bottom_row-from in
    let swept = c.in_ok-swept in
    let split = split_of c.args.combination one other above left c.top_row.result from.result place.result c.requires.one c.split_at.ensures.front c.split_at.ensures.back
    place.ensures.before place.ensures.behind c.top_row.ensures from.ensures.ends from.ensures.least in
    let alone : keeps c.args.combination true false ≡ false = sym c.keeps.ensures ∙ c.if-not-keeps.true in
    let none : c.in_ok-rects.rects.items ≡ [] = c.in_ok-rects.ensures ∙ ap (λ (b : Bool). cond b above []) alone in
    let named : IsSwept c.args.combination left other [] c.sweep.new.rects.items from.result swept.swept.last swept.swept.y swept.swept.left.now =
    subst (λ (l : List Rectangle). IsSwept c.args.combination left other l c.sweep.new.rects.items from.result swept.swept.last swept.swept.y swept.swept.left.now) none swept.ensures in
    swept_alone c.args.combination one other above left c.sweep.new.rects.items swept.swept.left.now from.result swept.swept.last swept.swept.y alone split named

pub append_rest-requires-clause-anew : goal.append_rest-requires-clause-anew
append_rest-requires-clause-anew c =
    let one = c.args.one.now in
    let other = c.args.other.now in
    let above = c.split_at.result.0.now in
    let left = c.split_at.result.1.now in
    let place = c.first_not_past-place in
    let from = c.bottom_row-from in
    let swept = c.in_ok-swept in
    let split = split_of c.args.combination one other above left c.top_row.result from.result place.result c.requires.one c.split_at.ensures.front c.split_at.ensures.back
    place.ensures.before place.ensures.behind c.top_row.ensures from.ensures.ends from.ensures.least in
    left_anew one other above left swept.swept.left.now c.args.combination from.result swept.swept.y c.requires.one swept.ensures.order split swept.ensures.left

pub returns-clause-points : goal.returns-clause-points
returns-clause-points c =
    let one = c.args.one.now in
    let other = c.args.other.now in
    let above = c.split_at.result.0.now in
    let left = c.split_at.result.1.now in
    let place = c.first_not_past-place in
    let from = c.bottom_row-from in
    let swept = c.in_ok-swept in
    let split = split_of c.args.combination one other above left c.top_row.result from.result place.result c.requires.one c.split_at.ensures.front c.split_at.ensures.back
    place.ensures.before place.ensures.behind c.top_row.ensures from.ensures.ends from.ensures.least in
    let alone : keeps c.args.combination true false ≡ true = sym c.keeps.ensures ∙ c.if-not-keeps.false in
    let kept : c.in_ok-rects.rects.items ≡ above = c.in_ok-rects.ensures ∙ ap (λ (b : Bool). cond b above []) alone in
    let named : IsSwept c.args.combination left other above c.sweep.new.rects.items from.result swept.swept.last swept.swept.y swept.swept.left.now =
    subst (λ (l : List Rectangle). IsSwept c.args.combination left other l c.sweep.new.rects.items from.result swept.swept.last swept.swept.y swept.swept.left.now) kept swept.ensures in
    swept_with c.args.combination one other above left c.sweep.new.rects.items swept.swept.left.now c.append_rest.new.rects.items from.result swept.swept.last swept.swept.y alone split named
    c.in_ok-append_rest.ensures.points
