-- Which changes lines are, computed on a desktop of window 1, 3 by 1 pixels.
use Rattle.std.proofs.Common.{List, [], ◌∷◌, refl}
use Rattle.std.specs.Prelude.{pos, negsuc}
use Rattle.window_model.specs.Desktop.{Window}
use Rattle.script_lines.specs.declared.paint.Paint.TheVariants.{Open, Copy, Resize, Move}
use Rattle.attached_client.specs.declared.change.Change.TheVariants as C
use Rattle.line_changes.specs.Changes.{IsChangeOf}

abbrev desk : List Window
desk = record { wid = 1; x = pos 0; y = pos 0; w = 3; h = 1; pixels = 255 ∷ 0 ∷ 0 ∷ [] } ∷ []

opens-two : IsChangeOf desk (Open 2 (negsuc 4) (pos 9) 2 2) (C.Opened (record { wid = 2; x = negsuc 4; y = pos 9; w = 2; h = 2 }))
opens-two = refl

-- the first two pixels stand at the second and the third too: these are what changes
copies-two : IsChangeOf desk (Copy 1 0 0 2 1 1 0) (C.Damaged 1 (record { x = 1; y = 0; w = 2; h = 1 }))
copies-two = refl

-- the size is the desktop's
moves-one : IsChangeOf desk (Move 1 (negsuc 4) (pos 9)) (C.Moved (record { wid = 1; x = negsuc 4; y = pos 9; w = 3; h = 1 }))
moves-one = refl

-- the place is the desktop's
sizes-one : IsChangeOf desk (Resize 1 7 9) (C.Resized (record { wid = 1; x = pos 0; y = pos 0; w = 7; h = 9 }))
sizes-one = refl
