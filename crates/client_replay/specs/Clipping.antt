-- What of a draw lies in its window.
use Rattle.std.specs.Prelude.{ℕ, ◌≡◌, ◌⊎◌, Some, List}
use Rattle.xp_base.specs.Points.{Rectangle, clip}
use Rattle.window_model.specs.Desktop.{Window, find_window}

-- where the window is there, none of the rectangle lies in it
abbrev pub IsUnseen : List Window → ℕ → Rectangle → Type 0
IsUnseen desk wid r = (window : Window) → find_window desk wid ≡ Some window → ((clip window.w window.h r).w ≡ 0) ⊎ ((clip window.w window.h r).h ≡ 0)

-- the window is there, and this part of the rectangle lies in it
abbrev pub IsSeen : List Window → ℕ → Rectangle → Rectangle → Type 0
IsSeen desk wid r part = (window : Window) × (find_window desk wid ≡ Some window) × (part ≡ clip window.w window.h r)
