use Rattle.std.proofs.Common.{◌≡◌, ℕ, ◌+◌, ◌-◌, ◌*◌, ◌≤◌, List, ◌++◌, take, drop, get_or, arith, ap, sym, ◌∙◌, subst}
use Rattle.std.proofs.Math.Nat.{suc-mul, mul_comm}
use Rattle.xp_base.specs.Points.{Rectangle}
use Rattle.window_model.proofs.Places.{run_fits}
use Rattle.window_model.proofs.Drawings.{cropped_from_reads, cropped_row}
use Rattle.window_model.proofs.rows.crop_rows.Goals as goal

pub slice_bounds-extend_from_slice-end : goal.slice_bounds-extend_from_slice-end
slice_bounds-extend_from_slice-end c =
    let r : Rectangle = record { x = c.r.inside.x; y = c.r.inside.y; w = c.r.inside.w; h = c.r.inside.h } in
    let same : r ≡ c.args.r = c.r.view_is in
    let across : r.x + r.w ≤ c.args.wide = subst (λ (z : Rectangle). z.x + z.w ≤ c.args.wide) (sym same) c.requires.inside.across in
    let down : r.y + r.h ≤ c.args.high = subst (λ (z : Rectangle). z.y + z.h ≤ c.args.high) (sym same) c.requires.inside.down in
    omega (arith, run_fits c.args.wide c.args.high r.x r.w (r.y + c.loop-row.row) (omega (arith, down)) across, c.requires.sized)

pub loop-row-preserved : goal.loop-row-preserved
loop-row-preserved c =
    let r : Rectangle = record { x = c.r.inside.x; y = c.r.inside.y; w = c.r.inside.w; h = c.r.inside.h } in
    let start : ℕ = (r.y + c.loop-row.row) * c.args.wide + r.x in
    let run : List ℕ = take r.w (drop start c.args.pixels.now) in
    let count : start + r.w - start ≡ r.w = omega arith in
    let items : c.extend_from_slice.new.self.items ≡ c.loop-row.numbers.items ++ run =
    c.in_ok-extend_from_slice.ensures.items ∙ ap (λ z. c.loop-row.numbers.items ++ take z (drop start c.args.pixels.now)) count in
    record {
      sized = omega (arith, c.in_ok-extend_from_slice.ensures.len, c.extend_from_slice.new.self.ok.0, c.loop-row.numbers.ok.0, c.loop-row.invariant.sized, suc-mul c.loop-row.row r.w);
      each = λ k within.
          ap (λ z. get_or z k 0) items
          ∙ cropped_row c.args.wide r c.loop-row.row c.args.pixels.now c.loop-row.numbers.items c.loop-row.invariant.sized c.loop-row.invariant.each k within;
    }

pub returns : goal.returns
returns c =
    let r : Rectangle = record { x = c.r.inside.x; y = c.r.inside.y; w = c.r.inside.w; h = c.r.inside.h } in
    let same : r ≡ c.args.r = c.r.view_is in
    let done : c.loop-row.row ≡ c.r.inside.h = omega (arith, c.loop-row.auto.row-end) in
    let area_is : c.loop-row.row * r.w ≡ r.w * r.h = ap (λ z. z * r.w) done ∙ mul_comm r.h r.w in
    rw (← same) (cropped_from_reads c.args.wide r c.args.pixels.now c.loop-row.numbers.items (c.loop-row.invariant.sized ∙ area_is)
    (λ k within. c.loop-row.invariant.each k (omega (arith, area_is))))
