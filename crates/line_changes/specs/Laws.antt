-- What a line does to the desktop, and to the numbers of the windows opened so far.
use Rattle.std.specs.Prelude.{ℕ, ◌≡◌, true, false, List, [], ◌∷◌, ◌++◌}
use Rattle.window_model.specs.Desktop.{Window, IsDesktop}
use Rattle.script_lines.specs.declared.paint.Paint.{Paint}
use Rattle.paint_script.specs.Painting.{painted}
use Rattle.paint_script.specs.Validity.{IsPaintOn, opens, has_opened}
use Rattle.attached_client.specs.declared.change.Change.{Change}
use Rattle.attached_client.specs.Desktops.{DeskChanges, NumbersChange}
use Rattle.line_changes.specs.Changes.{IsChangeOf}

-- the desktop after the line differs from that before it as the change says
abbrev pub LineChanges : Type 0
LineChanges = (desk : List Window) (line : Paint) (change : Change) → IsDesktop desk → IsPaintOn desk line → IsChangeOf desk line change → DeskChanges change desk (painted desk line)

-- the numbers opened by lines before a line, and by it too, where it opens none that they opened
abbrev pub LineOpens : Type 0
LineOpens = (lines : List Paint) (line : Paint) (desk : List Window) (change : Change) → ((k : ℕ) → opens k line ≡ true → has_opened lines k ≡ false) → IsChangeOf desk line change
    → NumbersChange change (has_opened lines) (has_opened (lines ++ line ∷ []))
