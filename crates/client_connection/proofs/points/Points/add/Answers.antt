use Rattle.std.proofs.Common.{◌≡◌, ℕ, ◌+◌, ◌||◌, false, get_or, arith, ap, ◌∙◌}
use Rattle.xp_base.specs.Grid.{is_place_in}
use Rattle.client_connection.specs.PointSets.{marked_from, with_rectangle}
use Rattle.client_connection.proofs.Marks.{marked_each}
use Rattle.client_connection.proofs.points.Points.add.Goals as goal

pub returns : goal.returns
unfolding with_rectangle
returns c =
    let from : (k : ℕ) → k ≡ 0 + k = λ k. omega arith in
    let marks : c.mark_rows.new.marks.items ≡ marked_from c.self.inside.w c.args.r 0 c.self.inside.marks.items =
    marked_each c.self.inside.w c.args.r 0 c.self.inside.marks.items c.mark_rows.new.marks.items c.mark_rows.ensures.sized
    (λ k within. c.mark_rows.ensures.each k within ∙ ap (λ n. is_place_in c.self.inside.w c.args.r n || get_or c.self.inside.marks.items k false) (from k)) in
    rw (← c.self.view_is) (λ i. record { w = c.self.inside.w; h = c.self.inside.h; marks = marks i })
