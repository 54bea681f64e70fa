-- What the server's packets do to the windows that a client shows, from bottom to top.
use Rattle.std.specs.Prelude.{ℕ, ◌*◌, ◌==◌, Bool, ◌&&◌, nat_le, nat_eq, if◌then◌else◌, Option, Some, None, List, length}
use Rattle.xp_base.specs.Points.{Rectangle}
use Rattle.xp_base.specs.declared.coding.Coding.{Coding}
use Rattle.window_model.specs.Desktop.{Window, has_window, fresh_window, opened, changed_window, without_window, raised, moved_window, resized_window, placed_window}
use Rattle.rgb_encoders.specs.PixelBytes.{pixel_size}
use Rattle.rgb_encoders.specs.Decoded.{decoded}
use Rattle.packet_kinds.specs.declared.to_client.ToClient.{ToClient}
use Rattle.packet_kinds.specs.declared.to_client.ToClient.TheVariants as T

-- the bytes of a draw are those of its pixels: a row has room for its pixels, and there are as many rows as it is high
abbrev pub holds_pixels : Coding → ℕ → ℕ → ℕ → List ℕ → Bool
holds_pixels coding w h stride bytes = nat_le (w * pixel_size coding) stride && nat_eq (length bytes) (stride * h)

-- the rectangle's decoded pixels stand where they lie in the window
abbrev pub drawn_window : Rectangle → List ℕ → Window → Window
drawn_window r numbers window = placed_window r numbers window

-- the windows after a packet; none where a draw's bytes do not fit. A packet on a window that is not there does nothing.
abbrev pub effect : List Window → ToClient → Option (List Window)
effect windows (T.Hello caps) = Some windows
effect windows (T.NewWindow wid x y w h) = Some (if has_window windows wid then windows else opened windows wid x y w h)
effect windows (T.LostWindow wid) = Some (without_window windows wid)
effect windows (T.WindowResized wid w h) = Some (changed_window windows wid (resized_window w h))
effect windows (T.WindowMoveResize wid x y w h) = Some (changed_window windows wid (moved_window x y))
effect windows (T.RaiseWindow wid) = Some (raised windows wid)
effect windows (T.Draw wid x y w h coding bytes sequence stride) =
    if holds_pixels coding w h stride bytes
    then Some (changed_window windows wid (drawn_window (record { x = x; y = y; w = w; h = h }) (decoded coding w h stride bytes)))
    else None
effect windows (T.PingEcho t) = Some windows
effect windows (T.Disconnect reason) = Some windows
effect windows T.Other = Some windows

-- what the same packet does to the window of one number, where it is no draw whose bytes do not fit
abbrev pub effect_on : ℕ → Option Window → ToClient → Option Window
effect_on k None (T.NewWindow wid x y w h) = if k == wid then Some (fresh_window wid x y w h) else None
effect_on k None m = None
effect_on k (Some window) (T.LostWindow wid) = if k == wid then None else Some window
effect_on k (Some window) (T.WindowResized wid w h) = Some (if k == wid then resized_window w h window else window)
effect_on k (Some window) (T.WindowMoveResize wid x y w h) = Some (if k == wid then moved_window x y window else window)
effect_on k (Some window) (T.Draw wid x y w h coding bytes sequence stride) =
    Some (if k == wid then drawn_window (record { x = x; y = y; w = w; h = h }) (decoded coding w h stride bytes) window else window)
effect_on k (Some window) m = Some window
