-- How far a client is from rest, and what a quiet turn does. This project's own.
use Rattle.std.specs.Prelude.{ℕ, ◌+◌, ◌-◌, ◌≡◌, ◌≤◌, ◌<◌, ◌↔◌, ◌^◌, max, Bool, true, false, not, ◌&&◌, ◌||◌, Option, Some, None, List, [], ◌∷◌, nat_eq, if◌then◌else◌, All}
use Rattle.std.specs.List.{list_any, list_all}
use Rattle.xp_base.specs.Points.{is_within}
use Rattle.xp_base.specs.Captures.{Captured}
use Rattle.delivery_model.specs.Grids.{points, has}
use Rattle.delivery_model.specs.Window.{Job, Packet, NewWindow, WindowResized, Draws, Sent, Window}
use Rattle.delivery_model.specs.Events.{Planned, is_empty, filed, written, acknowledged, same_capture}
use Rattle.delivery_model.specs.Refusals.{is_allowed, capture_answer, captured_where}
use Rattle.delivery_model.specs.Owed.{is_owed, owes}
use Rattle.delivery_model.specs.Plans.{IsCaptureOf}
use Rattle.delivery_model.specs.Kept.{IsKept}
use Rattle.delivery_model.specs.Numbers.{IsNumbered}
use Rattle.delivery_log.specs.Times.{IsTimed}

abbrev pub is_none : {A : Type 0} → List A → Bool
is_none [] = true
is_none (x ∷ xs) = false

-- no job is in hand, and no packet waits
abbrev pub is_idle : Window → Bool
is_idle w = is_none w.jobs && is_none w.packets

-- no point of the window is owed
abbrev pub owes_nothing : Window → Bool
owes_nothing w = is_empty (points w.desk.wide w.desk.high (is_owed w))

-- 0: idle, and nothing is owed, where the window is mapped; 1: idle, and nothing is pending, where it is mapped; 2: idle; 3: any
abbrev pub rest : Window → ℕ
rest w = if not (is_idle w) then 3 else if not w.mapped || owes_nothing w then 0 else if is_empty w.pending then 1 else 2

-- of all windows of a client; `others` tells whether a packet waits that is none of theirs, as an echo, a move or a raise is
abbrev pub greatest_rest : List Window → ℕ
greatest_rest [] = 0
greatest_rest (w ∷ ws) = max (rest w) (greatest_rest ws)

abbrev pub rest_of : Bool → List Window → ℕ
rest_of others ws = if others then 3 else greatest_rest ws

-- the rows of the table, as a reader believes them; the distance is the least whose row holds
abbrev pub AtZero : Window → Type 0
AtZero w = (is_idle w ≡ true) × (w.mapped ≡ true → (x y : ℕ) → owes (Some w) x y ≡ false)

abbrev pub AtOne : Window → Type 0
AtOne w = (is_idle w ≡ true) × (w.mapped ≡ true → (x y : ℕ) → is_within w.desk.wide w.desk.high x y ≡ true → has w.pending x y ≡ false)

abbrev pub AtTwo : Window → Type 0
AtTwo w = is_idle w ≡ true

pub record IsLeast (w : Window) : Type 0 where
  pub at_zero : (rest w ≤ 0) ↔ AtZero w
  pub at_one : (rest w ≤ 1) ↔ AtOne w
  pub at_two : (rest w ≤ 2) ↔ AtTwo w
  pub at_three : rest w ≤ 3

pub record IsLeastOf (others : Bool) (ws : List Window) : Type 0 where
  pub at_zero : (rest_of others ws ≤ 0) ↔ ((others ≡ false) × All AtZero ws)
  pub at_one : (rest_of others ws ≤ 1) ↔ ((others ≡ false) × All AtOne ws)
  pub at_two : (rest_of others ws ≤ 2) ↔ ((others ≡ false) × All AtTwo ws)
  pub at_three : rest_of others ws ≤ 3

-- the pending points are a set of points of the window and have no mark beyond it, so the set is empty where no point is pending
abbrev pub IsPointwise : Window → Type 0
IsPointwise w = w.pending ≡ points w.desk.wide w.desk.high (has w.pending)

abbrev pub PointwiseWhereThere : Option Window → Type 0
PointwiseWhereThere None = Unit {0}
PointwiseWhereThere (Some w) = IsPointwise w

-- a read: these draws are acknowledged, with times that are not negative
abbrev pub read : ℕ → List ℕ → Window → Window
read t [] w = w
read t (k ∷ ks) w = read t ks (acknowledged k false t w)

-- the filing of several results
pub record Result : Type 0 where
  pub number : ℕ
  pub capture : Captured

abbrev pub file_all : ℕ → List Result → Window → Window
file_all now [] w = w
file_all now (r ∷ results) w = file_all now results (filed r.number r.capture now w)

-- writes, each of a whole packet or of a part of one
abbrev pub write_all : (ℕ → ℕ) → List Bool → Window → Window
write_all lossy_shows [] w = w
write_all lossy_shows (wholly ∷ more) w = write_all lossy_shows more (written lossy_shows wholly w)

-- a turn: the draws that are acknowledged, and when; then the moment, the weight of the connection and the next job's number at the
-- capture, and its plan; then the results, and the writes
pub record Turn : Type 0 where
  pub acknowledged : List ℕ
  pub read_at : ℕ
  pub now : ℕ
  pub weight : ℕ
  pub first : ℕ
  pub plan : List Planned
  pub results : List Result
  pub writes : List Bool

abbrev pub captured_in : Turn → Window → Window
captured_in t w = captured_where (is_allowed (capture_answer t.now t.weight t.first w)) t.plan t.first w

abbrev pub turned : (ℕ → ℕ) → Turn → Window → Window
turned lossy_shows t w = write_all lossy_shows t.writes (file_all t.now t.results (captured_in t (read t.read_at t.acknowledged w)))

-- a waiting draw has the number
abbrev pub is_waiting : ℕ → List Packet → Bool
is_waiting k [] = false
is_waiting k (NewWindow w h ∷ packets) = is_waiting k packets
is_waiting k (WindowResized w h ∷ packets) = is_waiting k packets
is_waiting k (Draws d ∷ packets) = nat_eq d.sequence k || is_waiting k packets

-- each draw that was written and not acknowledged is acknowledged
abbrev pub AllAcknowledged : List ℕ → Window → Type 0
AllAcknowledged ks w = All (λ (s : Sent). (is_waiting s.sequence w.packets || list_any (λ (k : ℕ). nat_eq k s.sequence) ks) ≡ true) w.unacknowledged

-- a quiet turn of one window, where the clock was `clock` before it: 500 milliseconds pass, numbers allow a capture, and so does the
-- weight where the client was idle; and in the end no job is in hand and no packet waits
pub record IsQuiet (lossy_shows : ℕ → ℕ) (clock : ℕ) (idle : Bool) (t : Turn) (w : Window) : Type 0 where
  pub kept : IsKept w
  pub numbered : IsNumbered t.first w
  pub timed : IsTimed clock w
  pub ticked : clock + 500 ≤ t.now
  pub acknowledged : AllAcknowledged t.acknowledged w
  pub light : idle ≡ true → t.weight < 33_554_432
  pub numbers : t.first < 2 ^ 62
  pub planned : is_allowed (capture_answer t.now t.weight t.first (read t.read_at t.acknowledged w)) ≡ true → IsCaptureOf (read t.read_at t.acknowledged w) t.plan
  pub filed : (turned lossy_shows t w).jobs ≡ []
  pub written : (turned lossy_shows t w).packets ≡ []

-- the first job in hand has no result yet
abbrev pub FrontWaits : List Job → Type 0
FrontWaits [] = Unit {0}
FrontWaits (j ∷ jobs) = j.encoded ≡ false

-- each job in hand has its result already, or one of these is
abbrev pub HaveResults : List Result → List Job → Type 0
HaveResults results jobs = All (λ (j : Job). (j.encoded || list_any (λ (r : Result). nat_eq r.number j.number && same_capture j.capture r.capture) results) ≡ true) jobs

-- each window came one nearer to rest, or was there
abbrev pub CameNearer : List Window → List Window → Type 0
CameNearer [] [] = Unit {0}
CameNearer [] (v ∷ vs) = ⊥
CameNearer (w ∷ ws) [] = ⊥
CameNearer (w ∷ ws) (v ∷ vs) = (rest v ≤ rest w - 1) × CameNearer ws vs

-- a turn of a client: one of each window, in their order
abbrev pub turned_all : (ℕ → ℕ) → List Turn → List Window → List Window
turned_all lossy_shows [] ws = []
turned_all lossy_shows (t ∷ ts) [] = []
turned_all lossy_shows (t ∷ ts) (w ∷ ws) = turned lossy_shows t w ∷ turned_all lossy_shows ts ws

-- whether a client is idle: all its windows are, and no other packet waits
abbrev pub are_idle : Bool → List Window → Bool
are_idle others ws = not others && list_all is_idle ws

-- a client's turn is quiet where it is quiet for each window
abbrev pub AreQuiet : (ℕ → ℕ) → ℕ → Bool → List Turn → List Window → Type 0
AreQuiet lossy_shows clock idle [] [] = Unit {0}
AreQuiet lossy_shows clock idle [] (w ∷ ws) = ⊥
AreQuiet lossy_shows clock idle (t ∷ ts) [] = ⊥
AreQuiet lossy_shows clock idle (t ∷ ts) (w ∷ ws) = IsQuiet lossy_shows clock idle t w × AreQuiet lossy_shows clock idle ts ws
