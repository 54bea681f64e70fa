-- What is drawn for a client: captures, results, and jobs that are given back. Each is what it makes of the client, by the model's events.
use Rattle.std.specs.Prelude.{ℕ, ◌≡◌, Bool, Some, List}
use Rattle.xp_base.specs.Captures.{Captured}
use Rattle.delivery_model.specs.Events.{Planned}
use Rattle.window_model.specs.Desktop.{Window, find_window}
use Rattle.client_delivery.specs.Attached.{AttachedSeen}
use Rattle.client_delivery.specs.Delivered.{IsTold}
use Rattle.client_delivery.specs.Owed.{owes}
use Rattle.client_delivery.specs.Steps.{GivingBack, quiet, changes_source, Captures, Files}
use Rattle.attached_client.specs.Client.{ClientSeen}
use Rattle.attached_client.specs.Laws.{mark_on}

pub data Drawing : Type 0 where
  -- a window of the desktop, the rectangles, and the number of the first job
  Capturing : Window → List Planned → ℕ → Drawing
  -- the numbers of the window and of the job, and what the job captured
  Filing : ℕ → ℕ → Captured → Drawing
  -- the number of the window whose jobs in hand are given back
  Recalling : ℕ → Drawing

abbrev pub DrawsSo : List Window → ℕ → Drawing → AttachedSeen → AttachedSeen → Type 0
DrawsSo desk now (Capturing window plan first) a a' = (find_window desk window.wid ≡ Some window) × Captures window plan first a a'
DrawsSo desk now (Filing k number capture) a a' = Files k number capture now a a'
DrawsSo desk now (Recalling k) a a' = a' ≡ changes_source k (quiet (GivingBack now)) a

-- beside this desktop and at this moment
pub record ClientDraws (desk : List Window) (now : ℕ) (drawing : Drawing) (c c' : ClientSeen) : Type 0 where
  pub draws : DrawsSo desk now drawing c.seen c'.seen
  pub stays : c' ≡ record c { seen = c'.seen }

-- each window stays the model's
abbrev pub DrawingKeeps : Type 0
DrawingKeeps = (desk : List Window) (were_opened : ℕ → Bool) (now : ℕ) (drawing : Drawing) (c c' : ClientSeen) (sent : List ℕ) → ClientDraws desk now drawing c c'
    → IsTold desk were_opened c.seen sent → IsTold desk were_opened c'.seen sent

-- no mark changes
abbrev pub DrawingMarks : Type 0
DrawingMarks = (desk : List Window) (now : ℕ) (drawing : Drawing) (c c' : ClientSeen) (k : ℕ) → ClientDraws desk now drawing c c' → mark_on k c' ≡ mark_on k c

-- what is owed stays
abbrev pub DrawingOwes : Type 0
DrawingOwes = (desk : List Window) (were_opened : ℕ → Bool) (now : ℕ) (drawing : Drawing) (c c' : ClientSeen) (sent : List ℕ) (k x y : ℕ) → ClientDraws desk now drawing c c'
    → IsTold desk were_opened c.seen sent → owes c'.seen k x y ≡ owes c.seen k x y
