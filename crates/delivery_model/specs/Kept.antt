-- The form of the invariant that every event keeps. The parts that a reader believes follow from it.
use Rattle.std.specs.Prelude.{ℕ, ◌≡◌, true, Some, All}
use Rattle.xp_base.specs.declared.coding.Coding.TheVariants as C
use Rattle.xp_base.specs.Points.{LiesIn, is_in, is_within}
use Rattle.delivery_model.specs.Grids.{Points, has}
use Rattle.delivery_model.specs.Window.{Job, Draw, Packet, NewWindow, WindowResized, Draws, Window}
use Rattle.delivery_model.specs.Client.{size_of, sizes_after}
use Rattle.delivery_model.specs.Point.{point_at, PointKept}

-- the set is one of points of a window of this size
pub record IsOver (w h : ℕ) (set : Points) : Type 0 where
  pub wide : set.wide ≡ w
  pub high : set.high ≡ h

-- a job's rectangle lies in the window and its relief in its rectangle; a lossy job relieves all of its rectangle
pub record JobFits (w h : ℕ) (j : Job) : Type 0 where
  pub within : LiesIn w h j.capture.rect
  pub over : IsOver w h j.relief
  pub inside : (x y : ℕ) → has j.relief x y ≡ true → is_in j.capture.rect x y ≡ true
  pub whole : j.capture.coding ≡ C.Lossy → (x y : ℕ) → is_in j.capture.rect x y ≡ true → has j.relief x y ≡ true

-- a waiting draw's relief lies in its rectangle
pub record DrawFits (w h : ℕ) (d : Draw) : Type 0 where
  pub over : IsOver w h d.relief
  pub inside : (x y : ℕ) → has d.relief x y ≡ true → is_in d.capture.rect x y ≡ true

abbrev pub PacketFits : ℕ → ℕ → Packet → Type 0
PacketFits wide high (NewWindow w h) = Unit {0}
PacketFits wide high (WindowResized w h) = Unit {0}
PacketFits wide high (Draws d) = DrawFits wide high d

pub record IsKept (w : Window) : Type 0 where
  -- once all waiting packets are written the client's window has the desktop's size
  pub sized : sizes_after (size_of w.client) w.packets ≡ Some (record { wide = w.desk.wide; high = w.desk.high })
  pub jobs : All (JobFits w.desk.wide w.desk.high) w.jobs
  pub packets : All (PacketFits w.desk.wide w.desk.high) w.packets
  pub pending : IsOver w.desk.wide w.desk.high w.pending
  pub lossy : IsOver w.desk.wide w.desk.high w.lossy
  pub points : (x y : ℕ) → is_within w.desk.wide w.desk.high x y ≡ true → PointKept (point_at w x y)
