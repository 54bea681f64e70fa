use Rattle.std.proofs.Common.{◌≡◌, ◌+◌, ◌-◌, ◌*◌, ◌<◌, ◌≤◌, ◌&&◌, ◌||◌, false, get_or, arith, ap, ◌∙◌, leb, ltb, min}
use Rattle.xp_base.specs.Points.{Rectangle}
use Rattle.xp_base.specs.Grid.{is_place_in}
use Rattle.window_model.proofs.Places.{run_fits, some_width}
use Rattle.client_connection.proofs.Marks.{one_row_marked, same_clipped, row_below}
use Rattle.client_connection.proofs.points.mark_rows.Goals as goal

pub mark_run-requires : goal.mark_run-requires
mark_run-requires c =
    let fits = run_fits c.args.wide c.args.high c.min-start.result (c.min.result - c.min-start.result) (c.min-first.result + c.loop-row.row) (omega arith) (omega arith) in
    omega (arith, fits, c.loop-row.invariant.sized, c.requires.sized)

pub loop-row-preserved : goal.loop-row-preserved
loop-row-preserved c =
    let r : Rectangle = record { x = c.min-start.result; y = c.min-first.result; w = c.min.result - c.min-start.result; h = 0 } in
    let start = (c.min-first.result + c.loop-row.row) * c.args.wide + c.min-start.result in
    let across : r.x + r.w ≤ c.args.wide = omega arith in
    record {
      sized = c.mark_run.ensures.sized ∙ c.loop-row.invariant.sized;
      each = λ k within.
          let some = some_width c.args.wide c.args.high k (omega (arith, c.requires.sized)) in
          c.mark_run.ensures.run k (omega (arith, c.loop-row.invariant.sized))
          ∙ ap (λ b. (leb start k && ltb k (start + (c.min.result - c.min-start.result))) || b) (c.loop-row.invariant.each k within)
          ∙ one_row_marked c.args.wide r c.loop-row.row k some across (get_or c.args.marks.now.items k false);
    }

pub returns-clause-each : goal.returns-clause-each
returns-clause-each c = λ k within.
    let r : Rectangle = record { x = c.r.inside.x; y = c.r.inside.y; w = c.r.inside.w; h = c.r.inside.h } in
    let inside : k < c.args.wide * c.args.high = omega (arith, c.requires.sized) in
    let x_is : c.min-start.result ≡ min r.x c.args.wide = c.min-start.ensures in
    let y_is : c.min-first.result ≡ min r.y c.args.high = c.min-first.ensures in
    let w_is : c.min.result - c.min-start.result ≡ min (r.x + r.w) c.args.wide - min r.x c.args.wide = omega arith in
    let h_is : c.loop-row.row ≡ min (r.y + r.h) c.args.high - min r.y c.args.high = omega arith in
    let done : Rectangle = record { x = c.min-start.result; y = c.min-first.result; w = c.min.result - c.min-start.result; h = c.loop-row.row } in
    let clipped : Rectangle = record { x = min r.x c.args.wide; y = min r.y c.args.high; w = min (r.x + r.w) c.args.wide - min r.x c.args.wide; h = min (r.y + r.h) c.args.high - min r.y c.args.high } in
    let is_clipped : done ≡ clipped = λ i. record { x = x_is i; y = y_is i; w = w_is i; h = h_is i } in
    c.loop-row.invariant.each k within
    ∙ ap (λ b. b || get_or c.args.marks.now.items k false)
    (ap (λ (q : Rectangle). is_place_in c.args.wide q k) is_clipped ∙ same_clipped c.args.wide c.args.high r k inside (row_below c.args.wide c.args.high k inside)
    ∙ ap (λ (q : Rectangle). is_place_in c.args.wide q k) c.r.view_is)
