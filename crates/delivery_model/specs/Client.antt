-- What a packet does to the client's window. From the table of the server's packets, seen at one window.
use Rattle.std.specs.Prelude.{ℕ, Bool, true, false, Option, Some, None, List, [], ◌∷◌, if◌then◌else◌}
use Rattle.xp_base.specs.declared.coding.Coding.{Coding}
use Rattle.xp_base.specs.declared.coding.Coding.TheVariants as C
use Rattle.xp_base.specs.Points.{is_in, is_within, survives}
use Rattle.delivery_model.specs.Grids.{Grid, grid, number, number_in}
use Rattle.delivery_model.specs.Window.{Packet, NewWindow, WindowResized, Draws}

-- the number that a draw of this coding shows for a number
abbrev pub shown : (ℕ → ℕ) → Coding → ℕ → ℕ
shown lossy_shows C.Exact n = n
shown lossy_shows C.Lossy n = lossy_shows n

-- a new window is all 0; a resize keeps what survives, and all else is 0; a draw shows its numbers where they lie in the window
abbrev pub applied : (ℕ → ℕ) → Option Grid → Packet → Option Grid
applied lossy_shows None (NewWindow w h) = Some (grid w h (λ x y. 0))
applied lossy_shows None (WindowResized w h) = None
applied lossy_shows None (Draws d) = None
applied lossy_shows (Some g) (NewWindow w h) = Some g
applied lossy_shows (Some g) (WindowResized w h) = Some (grid w h (λ x y. if survives g.wide g.high w h x y then number g x y else 0))
applied lossy_shows (Some g) (Draws d) = Some (grid g.wide g.high (λ x y. if is_in d.capture.rect x y
    then shown lossy_shows d.capture.coding (number_in d.capture.rect d.capture.pixels x y) else number g x y))

pub record Size : Type 0 where
  pub wide : ℕ
  pub high : ℕ

abbrev pub size_of : Option Grid → Option Size
size_of None = None
size_of (Some g) = Some (record { wide = g.wide; high = g.high })

-- the client's size after a packet, and after several
abbrev pub size_after : Option Size → Packet → Option Size
size_after None (NewWindow w h) = Some (record { wide = w; high = h })
size_after None (WindowResized w h) = None
size_after (Some s) (NewWindow w h) = Some s
size_after (Some s) (WindowResized w h) = Some (record { wide = w; high = h })
size_after size (Draws d) = size

abbrev pub sizes_after : Option Size → List Packet → Option Size
sizes_after size [] = size
sizes_after size (p ∷ packets) = sizes_after (size_after size p) packets

abbrev pub in_size : Option Size → ℕ → ℕ → Bool
in_size None x y = false
in_size (Some s) x y = is_within s.wide s.high x y

-- the point's number does not survive the packet: a new window has no older numbers, and a resize keeps what survives
abbrev pub is_lost : Option Size → Packet → ℕ → ℕ → Bool
is_lost size (NewWindow w h) x y = true
is_lost None (WindowResized w h) x y = true
is_lost (Some s) (WindowResized w h) x y = if survives s.wide s.high w h x y then false else true
is_lost size (Draws d) x y = false
