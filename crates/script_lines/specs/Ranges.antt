-- What holds of the numbers of a line that was read. This project's own.
use Rattle.std.specs.Prelude.{ℕ, ◌^◌, ◌≤◌, ◌<◌, ◌≡◌, ◌⊎◌, ℤ, pos, negsuc, ◌≤ℤ◌, List, [], length, All}
use Rattle.link_bay.specs.declared.order.Order.{Order}
use Rattle.link_bay.specs.declared.order.Order.TheVariants.{Join, Map, Unmap, Refresh, Leave, Say}
use Rattle.link_bay.specs.declared.order.Kind.{Kind}
use Rattle.link_bay.specs.declared.order.Kind.TheVariants as peers
use Rattle.xp_base.specs.declared.numbers.Conn.{Conn}
use Rattle.script_lines.specs.declared.line.Line.{Line}
use Rattle.script_lines.specs.declared.line.Line.TheVariants as line
use Rattle.script_lines.specs.declared.paint.Paint.{Paint}
use Rattle.script_lines.specs.declared.paint.Paint.TheVariants as paints
use Rattle.script_lines.specs.declared.plan.PlanLine.{PlanLine}
use Rattle.script_lines.specs.declared.plan.PlanLine.TheVariants as plans

pub record IsBetween (low high n : ℕ) : Type 0 where
  pub least : low ≤ n
  pub most : n ≤ high

abbrev pub IsWid : ℕ → Type 0
IsWid = IsBetween 1 65535

abbrev pub IsPoint : ℕ → Type 0
IsPoint = IsBetween 0 4095

abbrev pub IsSide : ℕ → Type 0
IsSide = IsBetween 1 4096

abbrev pub IsClient : ℕ → Type 0
IsClient = IsBetween 0 99999

pub record IsPlace (n : ℤ) : Type 0 where
  pub least : negsuc 32767 ≤ℤ n
  pub most : n ≤ℤ pos 32767

pub record IsBox (wid x y w h : ℕ) : Type 0 where
  pub window : IsWid wid
  pub across : IsPoint x
  pub down : IsPoint y
  pub wide : IsSide w
  pub high : IsSide h

abbrev pub IsPaint : Paint → Type 0
IsPaint (paints.Open wid x y w h) = IsWid wid × IsPlace x × IsPlace y × IsSide w × IsSide h
IsPaint (paints.Close wid) = IsWid wid
IsPaint (paints.Fill wid x y w h c) = IsBox wid x y w h × (c < 2 ^ 24)
IsPaint (paints.Copy wid x y w h tx ty) = IsBox wid x y w h × IsPoint tx × IsPoint ty
IsPaint (paints.Noise wid x y w h seed) = IsBox wid x y w h × (seed < 2 ^ 32)
IsPaint (paints.Resize wid w h) = IsWid wid × IsSide w × IsSide h
IsPaint (paints.Move wid x y) = IsWid wid × IsPlace x × IsPlace y
IsPaint (paints.Raise wid) = IsWid wid

-- bytes that a line can give in hexadecimal
pub record IsSpoken (bytes : List ℕ) : Type 0 where
  pub size : IsBetween 1 32768 (length bytes)
  pub small : All (λ byte. byte < 256) bytes

-- a uuid that a line can give
pub record IsUuid (name : List ℕ) : Type 0 where
  pub size : IsBetween 1 64 (length name)
  pub visible : All (IsBetween 33 126) name

-- a uuid, or none
abbrev pub MayBeUuid : List ℕ → Type 0
MayBeUuid name = (name ≡ []) ⊎ IsUuid name

abbrev pub IsJoin : Kind → List ℕ → Type 0
IsJoin peers.Exact name = MayBeUuid name
IsJoin peers.Lossy name = MayBeUuid name
IsJoin (peers.Dry n) name = IsBetween 0 100000 n × (name ≡ [])
IsJoin peers.Hex bytes = IsSpoken bytes

abbrev pub IsOrder : Order → Type 0
IsOrder (Join kind name) = IsJoin kind name
IsOrder (Map k wid) = IsClient k.0 × IsWid wid
IsOrder (Unmap k wid) = IsClient k.0 × IsWid wid
IsOrder (Refresh k wid) = IsClient k.0 × IsWid wid
IsOrder (Leave k) = IsClient k.0
IsOrder (Say k bytes) = IsClient k.0 × IsSpoken bytes

abbrev pub IsPlan : PlanLine → Type 0
IsPlan plans.Accept = Unit {0}
IsPlan (plans.Read k) = IsClient k
IsPlan (plans.Capture k wid) = IsClient k × IsWid wid
IsPlan plans.Take = Unit {0}
IsPlan (plans.Finish j) = IsBetween 1 9999999999 j
IsPlan (plans.Send k max) = IsClient k × IsBetween 1 16777216 max
IsPlan (plans.Owed k wid) = IsClient k × IsWid wid
IsPlan (plans.Wait ms) = IsBetween 0 1000000 ms
IsPlan plans.Turn = Unit {0}

-- each number is in its range
abbrev pub IsLine : Line → Type 0
IsLine (line.Paint paint) = IsPaint paint
IsLine (line.Peer order) = IsOrder order
IsLine (line.Plan plan) = IsPlan plan
