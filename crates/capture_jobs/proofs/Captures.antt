-- Pixels that a window gives, as the model of deliveries has them.
use Rattle.std.proofs.Common.{◌≡◌, refl}
use Rattle.xp_base.specs.Points.{Rectangle}
use Rattle.window_model.specs.Desktop.{Window}
use Rattle.window_model.specs.Drawing.{cropped}
use Rattle.delivery_model.specs.Grids.{cut, each_point, number}
use Rattle.capture_jobs.specs.Captured.{grid_of}

pub cropped_cut : (window : Window) (r : Rectangle) → cropped window.w r window.pixels ≡ cut (grid_of window) r
unfolding cropped each_point number
cropped_cut window r = refl
