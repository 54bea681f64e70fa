use Rattle.std.proofs.Common.{◌≡◌, ℕ, ◌+◌, ◌*◌, ◌/◌, ◌%◌, ◌≤◌, ◌&&◌, List, length, get_or, cond, leb, ltb, min, sym, ap, ◌∙◌, arith}
use Rattle.xp_base.specs.Grid.{place_of}
use Rattle.window_model.proofs.Places.{one_row_kept, no_row, some_width}
use Rattle.window_model.proofs.Drawings.{length-blank, get_or-blank, resized_from, overlap}
use Rattle.window_model.proofs.rows.resize_rows.Goals as goal

pub loop-row-init : goal.loop-row-init
loop-row-init c = record {
  sized = ap length c.in_ok-resized.ensures ∙ length-blank c.args.wide c.args.high;
  each = λ k within.
      ap (λ (z : List ℕ). get_or z k 0) c.in_ok-resized.ensures
      ∙ get_or-blank c.args.wide c.args.high k within
      ∙ sym (no_row (k % c.args.wide) c.min-count.result (k / c.args.wide) (get_or c.args.pixels.now (place_of c.args.wide_before (k % c.args.wide) (k / c.args.wide)) 0));
}

pub loop-row-preserved : goal.loop-row-preserved
loop-row-preserved c =
    let start : ℕ = c.loop-row.row * c.args.wide in
    let count : ℕ = c.min-count.result in
    let across : count ≤ c.args.wide = omega (arith, c.min-count.ensures) in
    let number : ℕ → ℕ = λ place. get_or c.args.pixels.now place 0 in
    record {
      sized = c.copy_run.ensures.sized ∙ c.loop-row.invariant.sized;
      each = λ k within.
          c.copy_run.ensures.run k
          ∙ ap (cond (leb start k && ltb k (start + count)) _) (c.loop-row.invariant.each k within)
          ∙ one_row_kept c.args.wide c.args.wide_before count c.loop-row.row k (some_width c.args.wide c.args.high k within) across 0 number;
    }

pub returns : goal.returns
returns c =
    let done : c.loop-row.row ≡ min c.args.high c.args.high_before = omega (arith, c.loop-row.auto.row-end, c.loop-row-test.false, c.min-row-end.ensures) in
    resized_from c.args.wide_before c.args.high_before c.args.wide c.args.high c.args.pixels.now c.loop-row.resized.items c.loop-row.invariant.sized
    (λ k within.
    let column = k % c.args.wide in
    let row = k / c.args.wide in
    c.loop-row.invariant.each k within
    ∙ ap (λ b. cond b (get_or c.args.pixels.now (place_of c.args.wide_before column row) 0) 0)
    (ap (λ z. ltb column z && ltb row c.loop-row.row) c.min-count.ensures
    ∙ ap (λ z. ltb column (min c.args.wide c.args.wide_before) && ltb row z) done
    ∙ overlap c.args.wide_before c.args.high_before c.args.wide c.args.high column row))
