-- The definitions, computed on a window of 4 by 3 pixels and two more windows.
use Rattle.std.proofs.Common.{◌≡◌, ℕ, false, Some, None, List, [], ◌∷◌, refl}
use Rattle.std.specs.Prelude.{pos, negsuc}
use Rattle.xp_base.specs.Points.{Rectangle}
use Rattle.xp_base.specs.Grid.{number_at}
use Rattle.window_model.specs.Drawing.{blank, filled, placed, cropped, copied, resized}
use Rattle.window_model.specs.Generator.{next_state, number_of, noise}
use Rattle.window_model.specs.Desktop.{Window, find_window, has_window, opened, filled_on, placed_on, cropped_from, without_window, raised, moved_on, resized_on, copied_on, noised_on}

-- 4 by 3: 1 2 3 4, 5 6 7 8, 9 10 11 12
abbrev pixels : List ℕ
pixels = 1 ∷ 2 ∷ 3 ∷ 4 ∷ 5 ∷ 6 ∷ 7 ∷ 8 ∷ 9 ∷ 10 ∷ 11 ∷ 12 ∷ []

-- 2 by 2 in the right lower corner
abbrev corner : Rectangle
corner = record { x = 2; y = 1; w = 2; h = 2 }

blank-4-3 : blank 4 3 ≡ 0 ∷ 0 ∷ 0 ∷ 0 ∷ 0 ∷ 0 ∷ 0 ∷ 0 ∷ 0 ∷ 0 ∷ 0 ∷ 0 ∷ []
unfolding blank
blank-4-3 = refl

filled-corner : filled 4 corner 255 pixels ≡ 1 ∷ 2 ∷ 3 ∷ 4 ∷ 5 ∷ 6 ∷ 255 ∷ 255 ∷ 9 ∷ 10 ∷ 255 ∷ 255 ∷ []
unfolding filled
filled-corner = refl

placed-corner : placed 4 corner (21 ∷ 22 ∷ 23 ∷ 24 ∷ []) pixels ≡ 1 ∷ 2 ∷ 3 ∷ 4 ∷ 5 ∷ 6 ∷ 21 ∷ 22 ∷ 9 ∷ 10 ∷ 23 ∷ 24 ∷ []
unfolding placed
placed-corner = refl

cropped-corner : cropped 4 corner pixels ≡ 7 ∷ 8 ∷ 11 ∷ 12 ∷ []
unfolding cropped
cropped-corner = refl

-- one column of three rows, which tells columns from rows
cropped-column : cropped 4 (record { x = 1; y = 0; w = 1; h = 3 }) pixels ≡ 2 ∷ 6 ∷ 10 ∷ []
unfolding cropped
cropped-column = refl

-- 3 by 2 in the left upper corner, copied over itself: to the right, down, and down to the right
abbrev upper : Rectangle
upper = record { x = 0; y = 0; w = 3; h = 2 }

copied-right : copied 4 upper 1 0 pixels ≡ 1 ∷ 1 ∷ 2 ∷ 3 ∷ 5 ∷ 5 ∷ 6 ∷ 7 ∷ 9 ∷ 10 ∷ 11 ∷ 12 ∷ []
unfolding placed cropped
copied-right = refl

copied-down : copied 4 upper 0 1 pixels ≡ 1 ∷ 2 ∷ 3 ∷ 4 ∷ 1 ∷ 2 ∷ 3 ∷ 8 ∷ 5 ∷ 6 ∷ 7 ∷ 12 ∷ []
unfolding placed cropped
copied-down = refl

copied-diagonal : copied 4 upper 1 1 pixels ≡ 1 ∷ 2 ∷ 3 ∷ 4 ∷ 5 ∷ 1 ∷ 2 ∷ 3 ∷ 9 ∷ 5 ∷ 6 ∷ 7 ∷ []
unfolding placed cropped
copied-diagonal = refl

-- and from the right lower corner to the left and up
copied-back : copied 4 (record { x = 1; y = 1; w = 3; h = 2 }) 0 0 pixels ≡ 6 ∷ 7 ∷ 8 ∷ 4 ∷ 10 ∷ 11 ∷ 12 ∷ 8 ∷ 9 ∷ 10 ∷ 11 ∷ 12 ∷ []
unfolding placed cropped
copied-back = refl

-- narrower and higher; wider and lower
resized-high : resized 4 3 2 4 pixels ≡ 1 ∷ 2 ∷ 5 ∷ 6 ∷ 9 ∷ 10 ∷ 0 ∷ 0 ∷ []
unfolding resized
resized-high = refl

resized-wide : resized 4 3 5 2 pixels ≡ 1 ∷ 2 ∷ 3 ∷ 4 ∷ 0 ∷ 5 ∷ 6 ∷ 7 ∷ 8 ∷ 0 ∷ []
unfolding resized
resized-wide = refl

-- the generator from state 0: 1442695040888963407 / 2^33 = 167951807, and so on
first-state : next_state 0 ≡ 1442695040888963407
unfolding next_state
first-state = refl

first-number : number_of (next_state 0) ≡ 167951807
unfolding next_state
first-number = refl

noise-of-0 : noise 0 3 ≡ 179647 ∷ 292616 ∷ 8076305 ∷ []
unfolding next_state
noise-of-0 = refl

noise-of-255 : noise 255 2 ≡ 13883983 ∷ 10550200 ∷ []
unfolding next_state
noise-of-255 = refl

number-in-corner : number_at 4 3 (filled 4 corner 255 pixels) 2 1 ≡ Some 255
unfolding filled
number-in-corner = refl

number-outside : number_at 4 3 (filled 4 corner 255 pixels) 4 1 ≡ None
number-outside = refl

-- window 7 at 0 0, one pixel wide and two high, and window 9 above it at -5 9, two wide and one high
abbrev desk : List Window
desk = opened (opened [] 7 (pos 0) (pos 0) 1 2) 9 (negsuc 4) (pos 9) 2 1

opened-order : desk ≡ record { wid = 7; x = pos 0; y = pos 0; w = 1; h = 2; pixels = 0 ∷ 0 ∷ [] } ∷ record { wid = 9; x = negsuc 4; y = pos 9; w = 2; h = 1; pixels = 0 ∷ 0 ∷ [] } ∷ []
unfolding blank
opened-order = refl

found-above : find_window desk 9 ≡ Some (record { wid = 9; x = negsuc 4; y = pos 9; w = 2; h = 1; pixels = 0 ∷ 0 ∷ [] })
unfolding blank
found-above = refl

missing : has_window desk 8 ≡ false
missing = refl

-- the left pixel of window 9 gets 255, and window 7 stays
filled-above : filled_on desk 9 (record { x = 0; y = 0; w = 1; h = 1 }) 255
    ≡ record { wid = 7; x = pos 0; y = pos 0; w = 1; h = 2; pixels = 0 ∷ 0 ∷ [] } ∷ record { wid = 9; x = negsuc 4; y = pos 9; w = 2; h = 1; pixels = 255 ∷ 0 ∷ [] } ∷ []
unfolding blank filled
filled-above = refl

-- the lower pixel of window 7 gets 3, and window 9 stays
placed-below : placed_on desk 7 (record { x = 0; y = 1; w = 1; h = 1 }) (3 ∷ [])
    ≡ record { wid = 7; x = pos 0; y = pos 0; w = 1; h = 2; pixels = 0 ∷ 3 ∷ [] } ∷ record { wid = 9; x = negsuc 4; y = pos 9; w = 2; h = 1; pixels = 0 ∷ 0 ∷ [] } ∷ []
unfolding blank placed
placed-below = refl

cropped-missing : cropped_from desk 8 (record { x = 0; y = 0; w = 1; h = 1 }) ≡ None
cropped-missing = refl

without-below : without_window desk 7 ≡ record { wid = 9; x = negsuc 4; y = pos 9; w = 2; h = 1; pixels = 0 ∷ 0 ∷ [] } ∷ []
unfolding blank
without-below = refl

raised-below : raised desk 7
    ≡ record { wid = 9; x = negsuc 4; y = pos 9; w = 2; h = 1; pixels = 0 ∷ 0 ∷ [] } ∷ record { wid = 7; x = pos 0; y = pos 0; w = 1; h = 2; pixels = 0 ∷ 0 ∷ [] } ∷ []
unfolding blank
raised-below = refl

moved-below : moved_on desk 7 (negsuc 0) (pos 3)
    ≡ record { wid = 7; x = negsuc 0; y = pos 3; w = 1; h = 2; pixels = 0 ∷ 0 ∷ [] } ∷ record { wid = 9; x = negsuc 4; y = pos 9; w = 2; h = 1; pixels = 0 ∷ 0 ∷ [] } ∷ []
unfolding blank
moved-below = refl

-- the left pixel of window 9 is noise from the seed 0, then copied to the right, then the window is cut
noised-above : noised_on desk 9 (record { x = 0; y = 0; w = 1; h = 1 }) 0
    ≡ record { wid = 7; x = pos 0; y = pos 0; w = 1; h = 2; pixels = 0 ∷ 0 ∷ [] } ∷ record { wid = 9; x = negsuc 4; y = pos 9; w = 2; h = 1; pixels = 179647 ∷ 0 ∷ [] } ∷ []
unfolding blank placed next_state
noised-above = refl

copied-above : copied_on (noised_on desk 9 (record { x = 0; y = 0; w = 1; h = 1 }) 0) 9 (record { x = 0; y = 0; w = 1; h = 1 }) 1 0
    ≡ record { wid = 7; x = pos 0; y = pos 0; w = 1; h = 2; pixels = 0 ∷ 0 ∷ [] } ∷ record { wid = 9; x = negsuc 4; y = pos 9; w = 2; h = 1; pixels = 179647 ∷ 179647 ∷ [] } ∷ []
unfolding blank placed cropped next_state
copied-above = refl

resized-above : resized_on (filled_on desk 9 (record { x = 0; y = 0; w = 2; h = 1 }) 5) 9 1 2
    ≡ record { wid = 7; x = pos 0; y = pos 0; w = 1; h = 2; pixels = 0 ∷ 0 ∷ [] } ∷ record { wid = 9; x = negsuc 4; y = pos 9; w = 1; h = 2; pixels = 5 ∷ 0 ∷ [] } ∷ []
unfolding blank filled resized
resized-above = refl
