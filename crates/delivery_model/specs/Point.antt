-- What is known at one point of one window of one client.
use Rattle.std.specs.Prelude.{ℕ, ◌≡◌, Bool, true, false, ◌&&◌, ◌||◌, Option, Some, None, List, [], ◌∷◌, ◌++◌, map, nat_eq, if◌then◌else◌}
use Rattle.xp_base.specs.declared.coding.Coding.{Coding}
use Rattle.xp_base.specs.declared.coding.Coding.TheVariants as C
use Rattle.xp_base.specs.Points.{is_in, is_within, survives}
use Rattle.delivery_model.specs.Grids.{has, number, shown_at, number_in}
use Rattle.delivery_model.specs.Window.{Job, Draw, Packet, NewWindow, WindowResized, Draws, Window}
use Rattle.delivery_model.specs.Client.{Size, size_of, size_after, in_size}
use Rattle.delivery_model.specs.Marks.{Mark, any_relieves, StaysRight}

-- a draw or a job: whether its rectangle has the point, the number that it captured there, its coding, whether it relieves the point
pub record Drawing : Type 0 where
  pub covers : Bool
  pub number : ℕ
  pub coding : Coding
  pub relieves : Bool

-- a packet: a draw, which counts where the client's window has the point by then, or a window packet, after which the point
-- has its number still, or becomes another: 0, or no point of the window
pub data Waiting : Type 0 where
  DrawsThere : Bool → Drawing → Waiting
  Survives : Waiting
  Becomes : Option ℕ → Waiting

pub record Point : Type 0 where
  pub number : ℕ
  pub shows : Option ℕ
  pub waiting : List Waiting
  pub jobs : List Drawing
  pub pending : Bool
  pub lossy : Bool

abbrev pub job_at : Job → ℕ → ℕ → Drawing
job_at j x y = record {
  covers = is_in j.capture.rect x y;
  number = number_in j.capture.rect j.capture.pixels x y;
  coding = j.capture.coding;
  relieves = has j.relief x y;
}

abbrev pub draw_at : Draw → ℕ → ℕ → Drawing
draw_at d x y = record {
  covers = is_in d.capture.rect x y;
  number = number_in d.capture.rect d.capture.pixels x y;
  coding = d.capture.coding;
  relieves = has d.relief x y;
}

-- after a packet by which the point is lost it is 0, where the window then has it
abbrev pub zero_in : ℕ → ℕ → ℕ → ℕ → Option ℕ
zero_in w h x y = if is_within w h x y then Some 0 else None

-- a window is announced once; of one announced again nothing would be known
abbrev pub packet_at : Option Size → Packet → ℕ → ℕ → Waiting
packet_at None (NewWindow w h) x y = Becomes (zero_in w h x y)
packet_at (Some s) (NewWindow w h) x y = Becomes None
packet_at None (WindowResized w h) x y = Becomes None
packet_at (Some s) (WindowResized w h) x y = if survives s.wide s.high w h x y then Survives else Becomes (zero_in w h x y)
packet_at size (Draws d) x y = DrawsThere (in_size size x y) (draw_at d x y)

-- the packets in order, where the client's window has this size
abbrev pub packets_at : Option Size → List Packet → ℕ → ℕ → List Waiting
packets_at size [] x y = []
packets_at size (p ∷ packets) x y = packet_at size p x y ∷ packets_at (size_after size p) packets x y

abbrev pub jobs_at : List Job → ℕ → ℕ → List Drawing
jobs_at [] x y = []
jobs_at (j ∷ jobs) x y = job_at j x y ∷ jobs_at jobs x y

-- a window at a point
abbrev pub point_at : Window → ℕ → ℕ → Point
point_at w x y = record {
  number = number w.desk x y;
  shows = shown_at w.client x y;
  waiting = packets_at (size_of w.client) w.packets x y;
  jobs = jobs_at w.jobs x y;
  pending = has w.pending x y;
  lossy = has w.lossy x y;
}

abbrev pub is_number : ℕ → Option ℕ → Bool
is_number n None = false
is_number n (Some m) = nat_eq m n

abbrev pub is_exact : Coding → Bool
is_exact C.Exact = true
is_exact C.Lossy = false

-- what captures carry: a job or a waiting draw is right where it captured the desktop's number
abbrev pub job_mark : ℕ → Drawing → Mark
job_mark n d = record { leaves = if d.covers then Some (nat_eq d.number n) else None; relieves = d.relieves }

abbrev pub carried_mark : ℕ → Waiting → Mark
carried_mark n (DrawsThere there d) = job_mark n d
carried_mark n Survives = record { leaves = None; relieves = false }
carried_mark n (Becomes o) = record { leaves = Some false; relieves = false }

-- what the client shows: a waiting draw is right where it is exact and captured the desktop's number
abbrev pub shown_mark : ℕ → Waiting → Mark
shown_mark n (DrawsThere there d) = record { leaves = if d.covers then Some (there && (is_exact d.coding && nat_eq d.number n)) else None; relieves = d.relieves }
shown_mark n Survives = record { leaves = None; relieves = false }
shown_mark n (Becomes o) = record { leaves = Some (is_number n o); relieves = false }

-- no draw relieves the point in front of a packet by which it is lost
abbrev pub AllSurvive : List Waiting → Type 0
AllSurvive [] = Unit {0}
AllSurvive (DrawsThere there d ∷ waiting) = AllSurvive waiting
AllSurvive (Survives ∷ waiting) = AllSurvive waiting
AllSurvive (Becomes o ∷ waiting) = ⊥

abbrev pub FrontsAreFree : List Waiting → Type 0
FrontsAreFree [] = Unit {0}
FrontsAreFree (DrawsThere there d ∷ waiting) = (d.relieves ≡ true → AllSurvive waiting) × FrontsAreFree waiting
FrontsAreFree (Survives ∷ waiting) = FrontsAreFree waiting
FrontsAreFree (Becomes o ∷ waiting) = FrontsAreFree waiting

abbrev pub job_marks : Point → List Mark
job_marks p = map (job_mark p.number) p.jobs

-- the form that every event keeps: what captures carry stays right but for what is pending, and what the client shows stays right
-- but for what is pending, in hand or lossy
pub record PointKept (p : Point) : Type 0 where
  pub carried : StaysRight p.pending (map (carried_mark p.number) p.waiting ++ job_marks p) true
  pub shown : StaysRight ((p.pending || any_relieves (job_marks p)) || p.lossy) (map (shown_mark p.number) p.waiting) (is_number p.number p.shows)
  pub fronts : FrontsAreFree p.waiting
