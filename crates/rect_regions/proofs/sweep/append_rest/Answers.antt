use Rattle.std.proofs.Common.{◌≡◌, ◌≤◌, ℕ, length, Bool, false, List, ◌++◌, sym, subst, arith}
use Rattle.std.proofs.lemmas.Bool.Decides.{nat_tests}
use Rattle.xp_base.specs.Points.{Rectangle}
use Rattle.rect_regions.specs.Bands.{IsBanded}
use Rattle.rect_regions.specs.Combinations.{keeps}
use Rattle.rect_regions.specs.Making.{columns}
use Rattle.rect_regions.specs.Sweeping.{AddsRows, AddsRest}
use Rattle.rect_regions.proofs.Sweeps.{row_limit, rest_made, rest_banded, rest_added}
use Rattle.rect_regions.proofs.sweep.append_rest.Goals as goal

pub stretch_at-rows-requires-clause-limit : goal.stretch_at-rows-requires-clause-limit
stretch_at-rows-requires-clause-limit c =
    let some : 1 ≤ length c.args.swept.left.now = grind (arith, nat_tests) in
    row_limit c.args.swept.left.now c.args.swept.y some c.requires.left.sorted.sized c.requires.left.reach

pub returns-clause-banded : goal.returns-clause-banded
returns-clause-banded c =
    let old = c.args.rects.now.items in
    let mid = c.add_rows.new.rects.items in
    let left = c.args.swept.left.now in
    let rows = c.stretch_at-rows in
    let y = c.args.swept.y in
    let more : AddsRows old mid y rows.result.bottom (λ x. keeps c.args.combination (columns rows.result.band.now x) false) =
    subst (λ (l : List Rectangle). AddsRows old mid y rows.result.bottom (λ x. keeps c.args.combination (columns rows.result.band.now x) (columns l x))) c.split_at.ensures.front c.in_ok-add_rows.ensures.points in
    let rest = rest_made c.args.combination old mid left rows.result.band.now rows.result.below.now c.args.swept.last c.in_ok-add_rows.field-0 y rows.result.bottom
    c.requires.alone c.requires.made c.in_ok-add_rows.ensures.made rows.ensures more c.requires.anew in
    let all : c.extend_from_slice.new.self.items ≡ mid ++ rows.result.below.now = c.in_ok-extend_from_slice.ensures.items in
    subst (λ (l : List Rectangle). IsBanded l) (sym all) (rest_banded mid rows.result.below.now left y rows.result.bottom rest)

pub returns-clause-points : goal.returns-clause-points
returns-clause-points c =
    let old = c.args.rects.now.items in
    let mid = c.add_rows.new.rects.items in
    let left = c.args.swept.left.now in
    let rows = c.stretch_at-rows in
    let y = c.args.swept.y in
    let row : ℕ → Bool = λ x. keeps c.args.combination (columns rows.result.band.now x) false in
    let more : AddsRows old mid y rows.result.bottom row =
    subst (λ (l : List Rectangle). AddsRows old mid y rows.result.bottom (λ x. keeps c.args.combination (columns rows.result.band.now x) (columns l x))) c.split_at.ensures.front c.in_ok-add_rows.ensures.points in
    let rest = rest_made c.args.combination old mid left rows.result.band.now rows.result.below.now c.args.swept.last c.in_ok-add_rows.field-0 y rows.result.bottom
    c.requires.alone c.requires.made c.in_ok-add_rows.ensures.made rows.ensures more c.requires.anew in
    let all : c.extend_from_slice.new.self.items ≡ mid ++ rows.result.below.now = c.in_ok-extend_from_slice.ensures.items in
    subst (λ (l : List Rectangle). AddsRest old l y left) (sym all)
    (rest_added c.args.combination old mid rows.result.below.now left c.args.swept.last y rows.result.bottom row c.requires.made more rest)
