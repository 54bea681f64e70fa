-- What follows of a client's change beside the desktop's.
use Rattle.std.specs.Prelude.{ℕ, ◌≡◌, ◌≤◌, ◌==◌, ◌&&◌, ◌||◌, not, if◌then◌else◌, Bool, false, Option, Some, None, List}
use Rattle.xp_base.specs.Points.{is_in, is_within}
use Rattle.window_model.specs.Desktop.{Window, IsDesktop}
use Rattle.client_delivery.specs.Attached.{AttachedSeen}
use Rattle.client_delivery.specs.Delivered.{IsTold}
use Rattle.client_delivery.specs.Numbered.{AreNumbered}
use Rattle.client_delivery.specs.Owed.{owes}
use Rattle.client_delivery.specs.Owing.{has_place, owed_resized}
use Rattle.attached_client.specs.declared.change.Change.{Change}
use Rattle.attached_client.specs.declared.change.Change.TheVariants as C
use Rattle.attached_client.specs.Client.{ClientSeen}
use Rattle.attached_client.specs.Laws.{mark_on}
use Rattle.attached_client.specs.Changes.{ClientChanges, Fits}
use Rattle.attached_client.specs.Desktops.{DeskChanges, NumbersChange}

-- a client of which each window is the model's beside the desktop is one beside the desktop after the change
abbrev pub ChangeKeeps : Type 0
ChangeKeeps = (desk desk' : List Window) (old new : ℕ → Bool) (change : Change) (now : ℕ) (c c' : ClientSeen) (sent : List ℕ) → IsDesktop desk
    → DeskChanges change desk desk' → NumbersChange change old new → ClientChanges change now c c'
    → IsTold desk old c.seen sent → IsTold desk' new c'.seen sent

-- beside it what a change needs of a client is there: a rectangle lies in the window
abbrev pub ChangeFits : Type 0
ChangeFits = (desk desk' : List Window) (old : ℕ → Bool) (change : Change) (c : ClientSeen) (sent : List ℕ) → DeskChanges change desk desk'
    → IsTold desk old c.seen sent → Fits change c.seen

-- it is on its connection, with what its hello said
pub record SameClient (c c' : ClientSeen) : Type 0 where
  pub conn : c'.conn ≡ c.conn
  pub caps : c'.caps ≡ c.caps

abbrev pub ChangeStays : Type 0
ChangeStays = (change : Change) (now : ℕ) (c c' : ClientSeen) → ClientChanges change now c c' → SameClient c c'

-- a window that begins is not mapped
abbrev pub begun_mark : Option Bool → Option Bool
begun_mark None = Some false
begun_mark (Some mark) = Some mark

-- the mark of window k, where the client has it, after a change: a window that is opened begins, one that is closed has none
abbrev pub changed_mark : Change → ℕ → Option Bool → Option Bool
changed_mark (C.Opened g) k mark = if k == g.wid then begun_mark mark else mark
changed_mark (C.Closed j) k mark = if k == j then None else mark
changed_mark (C.Moved g) k mark = mark
changed_mark (C.Raised j) k mark = mark
changed_mark (C.Damaged j r) k mark = mark
changed_mark (C.Resized g) k mark = mark

abbrev pub ChangeMarks : Type 0
ChangeMarks = (change : Change) (now : ℕ) (c c' : ClientSeen) (k : ℕ) → ClientChanges change now c c' → mark_on k c' ≡ changed_mark change k (mark_on k c)

-- what is owed after a change: of a new window all, of one that goes nothing, what was owed and is painted, and of a resized window
-- what was owed in both sizes and what is new
abbrev pub changed_owed : Change → AttachedSeen → ℕ → ℕ → ℕ → Bool
changed_owed (C.Opened g) a k x y = owes a k x y || ((k == g.wid) && is_within g.w g.h x y)
changed_owed (C.Closed j) a k x y = owes a k x y && not (k == j)
changed_owed (C.Moved g) a k x y = owes a k x y
changed_owed (C.Raised j) a k x y = owes a k x y
changed_owed (C.Damaged j r) a k x y = owes a k x y || ((k == j) && (has_place a k x y && is_in r x y))
changed_owed (C.Resized g) a k x y = if k == g.wid then owed_resized a g.w g.h k x y else owes a k x y

abbrev pub ChangeOwes : Type 0
ChangeOwes = (desk desk' : List Window) (old : ℕ → Bool) (change : Change) (now : ℕ) (c c' : ClientSeen) (sent : List ℕ) (k x y : ℕ)
    → IsDesktop desk → DeskChanges change desk desk' → IsTold desk old c.seen sent → ClientChanges change now c c' → owes c'.seen k x y ≡ changed_owed change c.seen k x y

-- the numbers of jobs and draws stay in order, up to the next job's number
abbrev pub ChangeNumbers : Type 0
ChangeNumbers = (desk desk' : List Window) (old new : ℕ → Bool) (change : Change) (now next : ℕ) (c c' : ClientSeen) (sent : List ℕ) → 1 ≤ next
    → IsDesktop desk → DeskChanges change desk desk' → NumbersChange change old new → IsTold desk old c.seen sent → ClientChanges change now c c'
    → AreNumbered next c.seen → AreNumbered next c'.seen
