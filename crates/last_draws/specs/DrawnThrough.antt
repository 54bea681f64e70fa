-- What is drawn of a window at once: its jobs in hand are given back, it is captured, and each result is filed in the order of the
-- jobs. All of it is such drawing as a client knows, and brings the window nearer to rest. This project's own.
use Rattle.std.specs.Prelude.{ℕ, ◌-◌, ◌≡◌, ◌≤◌, ◌==◌, ◌&&◌, Bool, Option, Some, None, List, [], ◌∷◌, length, if◌then◌else◌}
use Rattle.delivery_model.specs.Events.{is_empty}
use Rattle.window_model.specs.Desktop.{Window, find_window}
use Rattle.window_source.specs.Source.{SourceSeen}
use Rattle.window_source.specs.Owed.{is_clear}
use Rattle.client_delivery.specs.Attached.{find_source}
use Rattle.client_delivery.specs.Delivered.{IsTold}
use Rattle.attached_client.specs.Client.{ClientSeen}
use Rattle.attached_client.specs.Drawing.{Drawing, ClientDraws}

-- these drawings in order, beside this desktop and at this moment
abbrev pub DrawsThrough : List Window → ℕ → List Drawing → ClientSeen → ClientSeen → Type 0
DrawsThrough desk now [] c c' = c' ≡ c
DrawsThrough desk now (d ∷ drawings) c c' = (next : ClientSeen) × ClientDraws desk now d c next × DrawsThrough desk now drawings next c'

-- beside a desktop that has the window, and where each window of the client is the model's, what is done is such drawings
abbrev pub DrawsWindow : Window → ℕ → ClientSeen → ClientSeen → Type 0
DrawsWindow window now c c' = (desk : List Window) (were_opened : ℕ → Bool) (sent : List ℕ) → find_window desk window.wid ≡ Some window
    → IsTold desk were_opened c.seen sent → (drawings : List Drawing) × DrawsThrough desk now drawings c c'

-- how many captures bring a window to rest: none where nothing is left to be drawn; one where no job is in hand and nothing is
-- pending, since that one is exact; and else two
abbrev pub captures_left : SourceSeen → ℕ
captures_left s = if is_clear s then 0 else if length s.jobs == 0 && is_empty s.pending then 1 else 2

-- a source before and after: one capture fewer is left
abbrev pub IsNearerIn : Option SourceSeen → Option SourceSeen → Type 0
IsNearerIn None None = Unit {0}
IsNearerIn None (Some s) = ⊥
IsNearerIn (Some s) None = ⊥
IsNearerIn (Some s) (Some s') = captures_left s' ≤ captures_left s - 1

-- where no packet waited before
abbrev pub IsNearer : ℕ → ClientSeen → ClientSeen → Type 0
IsNearer k c c' = c.seen.out.packets ≡ [] → IsNearerIn (find_source c.seen.sources k) (find_source c'.seen.sources k)

-- the sources of the other windows stay
abbrev pub OthersStay : ℕ → ClientSeen → ClientSeen → Type 0
OthersStay k c c' = (j : ℕ) → (j ≡ k → ⊥) → find_source c'.seen.sources j ≡ find_source c.seen.sources j
