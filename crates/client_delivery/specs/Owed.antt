-- What an attached client is owed, and where its picture differs from the desktop.
use Rattle.std.specs.Prelude.{ℕ, ◌≡◌, ◌≢◌, Bool, true, false, ◌&&◌, ◌||◌, Option, Some, None, List}
use Rattle.std.specs.Option.{option_and_then}
use Rattle.std.specs.List.{list_any, count_by}
use Rattle.xp_base.specs.Points.{is_within}
use Rattle.xp_base.specs.Grid.{number_at}
use Rattle.rect_regions.specs.PointSets.{has as has_point}
use Rattle.delivery_model.specs.Grids.{has, each_point}
use Rattle.delivery_model.specs.Events.{jobs_relieve}
use Rattle.window_model.specs.Desktop.{Window, find_window}
use Rattle.packet_kinds.specs.Picture.{picture}
use Rattle.client_outbox.specs.Reliefs.{relieve}
use Rattle.window_source.specs.Source.{SourceSeen}
use Rattle.window_source.specs.Waiting.{Queued, client_limit}
use Rattle.client_delivery.specs.Attached.{AttachedSeen, find_source}

-- a point of a source's window is pending, in the relief of a job in hand, lossy, or in the relief of a waiting draw
abbrev pub source_owes : SourceSeen → List Queued → ℕ → ℕ → Bool
source_owes s packets x y = is_within s.wide s.high x y && ((has s.pending x y || jobs_relieve s.jobs x y) || (relieve has_point s.wid packets x y || has s.lossy x y))

abbrev pub owes_in : Option SourceSeen → List Queued → ℕ → ℕ → Bool
owes_in None packets x y = false
owes_in (Some s) packets x y = source_owes s packets x y

-- the point of the window is owed
abbrev pub owes : AttachedSeen → ℕ → ℕ → ℕ → Bool
owes a k x y = owes_in (find_source a.sources k) a.out.packets x y

-- the windows that a client shows once these bytes were sent to it; a packet that was sent in part counts for nothing
abbrev pub shows : List ℕ → List Window
shows sent = (picture client_limit sent).windows

-- the number at a point of the window with this number; none where there is no such window, or no such point in it
abbrev pub number_on : List Window → ℕ → ℕ → ℕ → Option ℕ
number_on windows k x y = option_and_then (λ (w : Window). number_at w.w w.h w.pixels x y) (find_window windows k)

-- a differing pixel: the desktop has the point, and the client's window is not there, or has no such point, or another number there
abbrev pub Differs : List Window → List Window → ℕ → ℕ → ℕ → Type 0
Differs desk windows k x y = (n : ℕ) × (number_on desk k x y ≡ Some n) × (number_on windows k x y ≢ Some n)

-- each differing pixel is owed
abbrev pub OwesWhatDiffers : List Window → AttachedSeen → List ℕ → Type 0
OwesWhatDiffers desk a sent = (k x y : ℕ) → Differs desk (shows sent) k x y → owes a k x y ≡ true
