-- The invariant of one window of one client, as a reader believes it. This project's own.
use Rattle.std.specs.Prelude.{ℕ, ◌≡◌, Bool, true, false, ◌||◌, Some, List, [], ◌∷◌, ◌++◌, map, All, nat_eq, if◌then◌else◌}
use Rattle.std.specs.List.{list_any}
use Rattle.xp_base.specs.declared.coding.Coding.TheVariants as C
use Rattle.xp_base.specs.Points.{LiesIn, is_in, is_within}
use Rattle.delivery_model.specs.Grids.{has, number, number_in, shown_at}
use Rattle.delivery_model.specs.Window.{Job, Draw, Packet, NewWindow, WindowResized, Draws, Window}
use Rattle.delivery_model.specs.Client.{size_of, sizes_after, in_size}
use Rattle.delivery_model.specs.Events.{jobs_relieve}
use Rattle.delivery_model.specs.Owed.{packets_relieve, is_owed}
use Rattle.delivery_model.specs.Point.{is_exact}

-- shown unless owed: a point that is not owed has the desktop's number at the client
abbrev pub ShownUnlessOwed : Window → Type 0
ShownUnlessOwed w = (x y : ℕ) → is_within w.desk.wide w.desk.high x y ≡ true → is_owed w x y ≡ false → shown_at w.client x y ≡ Some (number w.desk x y)

-- a waiting draw or a job in hand at a point: whether its rectangle has it, whether it captured the desktop's number there,
-- whether it is exact (a job counts as such), whether it relieves the point
pub record Item : Type 0 where
  pub covers : Bool
  pub current : Bool
  pub exact : Bool
  pub relieves : Bool

abbrev pub draw_item : Window → ℕ → ℕ → Draw → Item
draw_item w x y d = record {
  covers = is_in d.capture.rect x y;
  current = nat_eq (number_in d.capture.rect d.capture.pixels x y) (number w.desk x y);
  exact = is_exact d.capture.coding;
  relieves = has d.relief x y;
}

abbrev pub job_item : Window → ℕ → ℕ → Job → Item
job_item w x y j = record {
  covers = is_in j.capture.rect x y;
  current = nat_eq (number_in j.capture.rect j.capture.pixels x y) (number w.desk x y);
  exact = true;
  relieves = has j.relief x y;
}

abbrev pub draws_of : List Packet → List Draw
draws_of [] = []
draws_of (NewWindow w h ∷ packets) = draws_of packets
draws_of (WindowResized w h ∷ packets) = draws_of packets
draws_of (Draws d ∷ packets) = d ∷ draws_of packets

-- the window's waiting draws and then its jobs in hand
abbrev pub items : Window → ℕ → ℕ → List Item
items w x y = map (draw_item w x y) (draws_of w.packets) ++ map (job_item w x y) w.jobs

abbrev pub any_item_relieves : List Item → Bool
any_item_relieves is = list_any (λ (i : Item). i.relieves) is

-- from the last item that relieves the point on; where none does, all
abbrev pub from_start : List Item → List Item
from_start [] = []
from_start (i ∷ is) = if any_item_relieves is then from_start is else i ∷ is

-- newest covering draws are current: at a point that is not pending each of these items over it captured the desktop's number,
-- and where it is not lossy either, each waiting draw among them is exact
pub record IsCurrent (w : Window) (x y : ℕ) : Type 0 where
  pub current : All (λ (i : Item). i.covers ≡ true → i.current ≡ true) (from_start (items w x y))
  pub exact : has w.lossy x y ≡ false → All (λ (i : Item). i.covers ≡ true → i.exact ≡ true) (from_start (items w x y))

abbrev pub NewestAreCurrent : Window → Type 0
NewestAreCurrent w = (x y : ℕ) → is_within w.desk.wide w.desk.high x y ≡ true → has w.pending x y ≡ false → IsCurrent w x y

-- pending, or in the relief of an item behind a packet
abbrev pub owed_behind : Window → List Packet → ℕ → ℕ → Bool
owed_behind w behind x y = has w.pending x y || (packets_relieve behind x y || jobs_relieve w.jobs x y)

abbrev pub IsWindowPacket : Packet → Type 0
IsWindowPacket (NewWindow w h) = Unit {0}
IsWindowPacket (WindowResized w h) = Unit {0}
IsWindowPacket (Draws d) = ⊥

-- no draw in front of the packet has a relief, and each point of the window is owed behind it
pub record IsAnew (w : Window) (front behind : List Packet) : Type 0 where
  pub free : (x y : ℕ) → packets_relieve front x y ≡ false
  pub owed : (x y : ℕ) → is_within w.desk.wide w.desk.high x y ≡ true → owed_behind w behind x y ≡ true

-- nothing is owed only in front of a window packet: of an announcement nothing, of a change of size no relief outside the size
-- that it gives; and points that come with a size are owed behind it
pub record NothingInFront (w : Window) : Type 0 where
  pub announced : (front : List Packet) (wide high : ℕ) (behind : List Packet) → w.packets ≡ front ++ NewWindow wide high ∷ behind → IsAnew w front behind
  pub resized : (front : List Packet) (wide high : ℕ) (behind : List Packet) → w.packets ≡ front ++ WindowResized wide high ∷ behind
      → (x y : ℕ) → packets_relieve front x y ≡ true → is_within wide high x y ≡ true
  pub grown : (front : List Packet) (p : Packet) (behind : List Packet) → IsWindowPacket p → w.packets ≡ front ++ p ∷ behind
      → (x y : ℕ) → is_within w.desk.wide w.desk.high x y ≡ true → in_size (sizes_after (size_of w.client) front) x y ≡ false → owed_behind w behind x y ≡ true

-- a lossy job owes its whole rectangle
abbrev pub LossyJobsOweAll : Window → Type 0
LossyJobsOweAll w = All (λ (j : Job). j.capture.coding ≡ C.Lossy → (x y : ℕ) → is_in j.capture.rect x y ≡ true → has j.relief x y ≡ true) w.jobs

-- a job's rectangle lies in the window
abbrev pub JobsLieInside : Window → Type 0
JobsLieInside w = All (λ (j : Job). LiesIn w.desk.wide w.desk.high j.capture.rect) w.jobs

-- the invariant of a window
pub record IsSteady (w : Window) : Type 0 where
  pub inside : JobsLieInside w
  pub shown : ShownUnlessOwed w
  pub current : NewestAreCurrent w
  pub fronts : NothingInFront w
  pub lossy : LossyJobsOweAll w
