use Rattle.window_model.specs.Drawing.{blank}
use Rattle.window_model.proofs.rows.blank_pixels.Goals as goal

pub returns : goal.returns
unfolding blank
returns c = c.in_ok-vec.ensures.items_if_clones_equal (λ y e. e)
