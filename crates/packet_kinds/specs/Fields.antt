-- What the fields of the server's packets are, where a client reads one: each number in its range. The ranges are this
-- project's own.
use Rattle.std.specs.Prelude.{ℕ, ℤ, ◌≡◌, ◌≤◌, ◌+◌, true, length}
use Rattle.window_model.specs.Desktop.{IsSide, IsPlace}
use Rattle.bencode_values.specs.Grammar.{is_in_range}
use Rattle.packet_kinds.specs.declared.to_client.ToClient.{ToClient}
use Rattle.packet_kinds.specs.declared.to_client.ToClient.TheVariants as T

-- a window's number
pub record IsNumber (wid : ℕ) : Type 0 where
  pub first : 1 ≤ wid
  pub last : wid ≤ 65535

-- a place of a draw in its window, and the side from there on
pub record IsSpan (start side : ℕ) : Type 0 where
  pub some : 1 ≤ side
  pub most : start + side ≤ 4096

-- how many bytes one row of a draw is after the row above
pub record IsStride (stride : ℕ) : Type 0 where
  pub some : 1 ≤ stride
  pub most : stride ≤ 67108864

-- an integer of 64 bits
abbrev pub IsInteger : ℤ → Type 0
IsInteger n = is_in_range n ≡ true

-- a packet's numbers, places and sides are such as a window or a draw may have: so it is of each packet that is read
abbrev pub IsInRange : ToClient → Type 0
IsInRange (T.Hello caps) = Unit {0}
IsInRange (T.NewWindow wid x y w h) = IsNumber wid × IsPlace x × IsPlace y × IsSide w × IsSide h
IsInRange (T.LostWindow wid) = IsNumber wid
IsInRange (T.WindowResized wid w h) = IsNumber wid × IsSide w × IsSide h
IsInRange (T.WindowMoveResize wid x y w h) = IsNumber wid × IsPlace x × IsPlace y × IsSide w × IsSide h
IsInRange (T.RaiseWindow wid) = IsNumber wid
IsInRange (T.Draw wid x y w h coding bytes sequence stride) = IsNumber wid × IsSpan x w × IsSpan y h × IsStride stride
IsInRange (T.PingEcho t) = Unit {0}
IsInRange (T.Disconnect reason) = Unit {0}
IsInRange T.Other = Unit {0}

-- a packet has a name, and its further integers are of 64 bits
abbrev pub IsNamed : ToClient → Type 0
IsNamed (T.Hello caps) = Unit {0}
IsNamed (T.NewWindow wid x y w h) = Unit {0}
IsNamed (T.LostWindow wid) = Unit {0}
IsNamed (T.WindowResized wid w h) = Unit {0}
IsNamed (T.WindowMoveResize wid x y w h) = Unit {0}
IsNamed (T.RaiseWindow wid) = Unit {0}
IsNamed (T.Draw wid x y w h coding bytes sequence stride) = IsInteger sequence
IsNamed (T.PingEcho t) = IsInteger t
IsNamed (T.Disconnect reason) = Unit {0}
IsNamed T.Other = ⊥

-- what a packet needs to be written: both
abbrev pub HasFields : ToClient → Type 0
HasFields (T.Hello caps) = Unit {0}
HasFields (T.NewWindow wid x y w h) = IsNumber wid × IsPlace x × IsPlace y × IsSide w × IsSide h
HasFields (T.LostWindow wid) = IsNumber wid
HasFields (T.WindowResized wid w h) = IsNumber wid × IsSide w × IsSide h
HasFields (T.WindowMoveResize wid x y w h) = IsNumber wid × IsPlace x × IsPlace y × IsSide w × IsSide h
HasFields (T.RaiseWindow wid) = IsNumber wid
HasFields (T.Draw wid x y w h coding bytes sequence stride) = IsNumber wid × IsSpan x w × IsSpan y h × IsInteger sequence × IsStride stride
HasFields (T.PingEcho t) = IsInteger t
HasFields (T.Disconnect reason) = Unit {0}
HasFields T.Other = ⊥

-- a packet of numbers and of a draw's bytes alone: all of it but the draw's bytes is small
abbrev pub IsPlain : ToClient → Type 0
IsPlain (T.Hello caps) = ⊥
IsPlain (T.NewWindow wid x y w h) = Unit {0}
IsPlain (T.LostWindow wid) = Unit {0}
IsPlain (T.WindowResized wid w h) = Unit {0}
IsPlain (T.WindowMoveResize wid x y w h) = Unit {0}
IsPlain (T.RaiseWindow wid) = Unit {0}
IsPlain (T.Draw wid x y w h coding bytes sequence stride) = Unit {0}
IsPlain (T.PingEcho t) = Unit {0}
IsPlain (T.Disconnect reason) = ⊥
IsPlain T.Other = ⊥

-- how many bytes of pixels it has
abbrev pub drawn_size : ToClient → ℕ
drawn_size (T.Hello caps) = 0
drawn_size (T.NewWindow wid x y w h) = 0
drawn_size (T.LostWindow wid) = 0
drawn_size (T.WindowResized wid w h) = 0
drawn_size (T.WindowMoveResize wid x y w h) = 0
drawn_size (T.RaiseWindow wid) = 0
drawn_size (T.Draw wid x y w h coding bytes sequence stride) = length bytes
drawn_size (T.PingEcho t) = 0
drawn_size (T.Disconnect reason) = 0
drawn_size T.Other = 0
