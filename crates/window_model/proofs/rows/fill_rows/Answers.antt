use Rattle.std.proofs.Common.{◌≡◌, ◌+◌, ◌*◌, ◌≤◌, ◌&&◌, get_or, arith, ap, sym, ◌∙◌, cond, leb, ltb, subst}
use Rattle.xp_base.specs.Points.{Rectangle}
use Rattle.window_model.proofs.Places.{one_row, some_width}
use Rattle.window_model.proofs.Drawings.{filled_from}
use Rattle.window_model.proofs.rows.fill_rows.Goals as goal

pub loop-row-preserved : goal.loop-row-preserved
loop-row-preserved c =
    let r : Rectangle = record { x = c.r.inside.x; y = c.r.inside.y; w = c.r.inside.w; h = c.r.inside.h } in
    let same : r ≡ c.args.r = c.r.view_is in
    let across : r.x + r.w ≤ c.args.wide = subst (λ (z : Rectangle). z.x + z.w ≤ c.args.wide) (sym same) c.requires.inside.across in
    let start = (r.y + c.loop-row.row) * c.args.wide + r.x in
    record {
      sized = c.fill_run.ensures.sized ∙ c.loop-row.invariant.sized;
      each = λ k within.
          let some = some_width c.args.wide c.args.high k (omega (arith, c.requires.sized)) in
          c.fill_run.ensures.run k
          ∙ ap (cond (leb start k && ltb k (start + r.w)) c.args.colour) (c.loop-row.invariant.each k within)
          ∙ one_row c.args.wide r c.loop-row.row k some across (get_or c.args.pixels.now.items k 0) c.args.colour;
    }

pub returns : goal.returns
returns c =
    let r : Rectangle = record { x = c.r.inside.x; y = c.r.inside.y; w = c.r.inside.w; h = c.r.inside.h } in
    let same : r ≡ c.args.r = c.r.view_is in
    let done : c.loop-row.row ≡ c.r.inside.h = omega (arith, c.loop-row.auto.row-end) in
    rw (← same) (filled_from c.args.wide r c.args.colour c.args.pixels.now.items c.loop-row.pixels.items c.loop-row.invariant.sized
    (rw (← done) c.loop-row.invariant.each))
