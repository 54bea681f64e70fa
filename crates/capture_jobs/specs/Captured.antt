-- What a capture holds: the window's numbers in the rectangle, row by row, as they stand at the capture.
use Rattle.xp_base.specs.declared.coding.Coding.{Coding}
use Rattle.xp_base.specs.Points.{Rectangle}
use Rattle.xp_base.specs.Captures.{Captured}
use Rattle.window_model.specs.Desktop.{Window}
use Rattle.delivery_model.specs.Grids.{Grid, cut}

-- a window's pixels, as the model of deliveries has them
abbrev pub grid_of : Window → Grid
grid_of window = record { wide = window.w; high = window.h; numbers = window.pixels }

abbrev pub captured_from : Window → Rectangle → Coding → Captured
captured_from window r coding = record { rect = r; coding = coding; pixels = cut (grid_of window) r }
