-- What a server keeps of an attached client: the sources of its windows, in any order, and the packets that wait.
use Rattle.std.specs.Prelude.{ℕ, Option, Some, None, List}
use Rattle.xp_base.specs.Keyed.{keyed_find}
use Rattle.xp_base.specs.Points.{Rectangle}
use Rattle.delivery_model.specs.Grids.{Grid}
use Rattle.delivery_model.specs.Events.{started}
use Rattle.window_model.specs.Desktop.{Window, find_window}
use Rattle.client_outbox.specs.Outgoing.{Outgoing}
use Rattle.window_source.specs.Source.{SourceSeen, source_of}

pub record AttachedSeen : Type 0 where
  pub sources : List SourceSeen
  pub out : Outgoing (List Rectangle)

-- the source of the window with this number
abbrev pub source_key : SourceSeen → ℕ
source_key s = s.wid

abbrev pub find_source : List SourceSeen → ℕ → Option SourceSeen
find_source sources k = keyed_find source_key sources k

-- a window's pixels, as the model has them
abbrev pub grid_of : Window → Grid
grid_of window = record { wide = window.w; high = window.h; numbers = window.pixels }

-- a source as it begins, at this moment: not mapped, the whole window pending
abbrev pub started_source : ℕ → ℕ → Window → SourceSeen
started_source conn now window = source_of conn window.wid (started (grid_of window) now)
