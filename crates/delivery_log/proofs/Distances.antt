-- The distance from rest: it is the least of its table, and what the parts of a turn do to it.
use Rattle.std.proofs.Common.{◌≡◌, ◌↔◌, ◌⊎◌, inl, inr, ℕ, ◌+◌, ◌-◌, ◌<◌, ◌≤◌, Bool, true, false, ◌&&◌, List, [], ◌∷◌, ◌++◌, length, Option, Some, None, cond, refl, sym, ap, ◌∙◌, arith}
use Rattle.std.specs.Prelude.{All, max}
use Rattle.std.specs.List.{list_all}
use Rattle.std.proofs.lemmas.Bool.{cases_Bool, false_from_ne_true, false≢true}
use Rattle.std.proofs.lemmas.List.Elements.{All-nil, All-cons, All-head, All-tail}
use Rattle.xp_base.specs.Points.{Rectangle, is_within}
use Rattle.delivery_model.specs.Grids.{Grid, Points, has, points}
use Rattle.delivery_model.specs.Window.{Job, Window}
use Rattle.delivery_model.specs.Events.{is_empty, Planned, region_taken, jobs_of, captured, acknowledged, filing_of, capture_of, rect_sent, without_sent, counted, acknowledged_as, given_back, filed_as, written_front, Event, Start, Paint, Capture, File, Write, Acknowledge, MapWindow, UnmapWindow, Recall, Resize, BufferRefresh, Close, changed, step}
use Rattle.delivery_model.specs.Refusals.{is_allowed, capture_answer, captured_where}
use Rattle.delivery_model.specs.Numbers.{IsNumbered}
use Rattle.delivery_model.specs.Owed.{is_owed, owes}
use Rattle.delivery_model.proofs.Grids.{has-points_within, has-empty, points_alike, empty-has_none, none-is_empty}
use Rattle.delivery_model.proofs.Numberings.{numbered_step}
use Rattle.delivery_log.specs.Rest.{FrontWaits, HaveResults, captured_in, is_idle, owes_nothing, rest, greatest_rest, rest_of, read, Result, file_all, write_all, Turn, turned, AtZero, AtOne, AtTwo, IsLeast, IsLeastOf, IsPointwise, PointwiseWhereThere, turned_all, IsQuiet, are_idle, AreQuiet, CameNearer}
use Rattle.delivery_log.proofs.Reading.{ReadsAs, read_reads, idle_from, filing_empties}
use Rattle.delivery_log.proofs.Turns.{StaysAs, stays_trans, file_all_stays, write_all_writes, quiet_turn_rests, clients_come_nearer, filed_stays, front_writes}

-- each row by its tests
rest_busy : (w : Window) → is_idle w ≡ false → rest w ≡ 3
rest_busy w busy = rw busy refl

rest_unmapped : (w : Window) → is_idle w ≡ true → w.mapped ≡ false → rest w ≡ 0
rest_unmapped w idle unmapped = rw (idle, unmapped) refl

rest_unowed : (w : Window) → is_idle w ≡ true → w.mapped ≡ true → owes_nothing w ≡ true → rest w ≡ 0
rest_unowed w idle mapped nothing = rw (idle, mapped, nothing) refl

rest_unpending : (w : Window) → is_idle w ≡ true → w.mapped ≡ true → owes_nothing w ≡ false → is_empty w.pending ≡ true → rest w ≡ 1
rest_unpending w idle mapped some empty = rw (idle, mapped, some, empty) refl

rest_pending : (w : Window) → is_idle w ≡ true → w.mapped ≡ true → owes_nothing w ≡ false → is_empty w.pending ≡ false → rest w ≡ 2
rest_pending w idle mapped some pending = rw (idle, mapped, some, pending) refl

low_from : (n m k : ℕ) → n ≡ m → m ≤ k → n ≤ k
low_from n m k is le = omega (arith, is, le)

none_low : (n m k : ℕ) → n ≡ m → n ≤ k → k < m → ⊥
none_low n m k is le less = omega (arith, is, le, less)

-- nothing is owed, as a reader believes it
unowed_points : (w : Window) → owes_nothing w ≡ true → (x y : ℕ) → owes (Some w) x y ≡ false
unowed_points w nothing x y = which (cases_Bool (is_within w.desk.wide w.desk.high x y))
  where
    which : (is_within w.desk.wide w.desk.high x y ≡ true) ⊎ (is_within w.desk.wide w.desk.high x y ≡ false) → owes (Some w) x y ≡ false
    which (inl within) = rw (within, empty-has_none w.desk.wide w.desk.high (is_owed w) nothing x y within) refl
    which (inr outside) = rw outside refl

unowed_window : (w : Window) → ((x y : ℕ) → owes (Some w) x y ≡ false) → owes_nothing w ≡ true
unowed_window w none = none-is_empty w.desk.wide w.desk.high (is_owed w) (λ x y within. sym (ap (λ (b : Bool). b && is_owed w x y) within) ∙ none x y)

unpending_points : (w : Window) → owes_nothing w ≡ true → (x y : ℕ) → is_within w.desk.wide w.desk.high x y ≡ true → has w.pending x y ≡ false
unpending_points w nothing x y within = false_from_ne_true (has w.pending x y) (λ is. false≢true (sym (empty-has_none w.desk.wide w.desk.high (is_owed w) nothing x y within) ∙ (rw is refl)))

unpending_window : (w : Window) → IsPointwise w → ((x y : ℕ) → is_within w.desk.wide w.desk.high x y ≡ true → has w.pending x y ≡ false) → is_empty w.pending ≡ true
unpending_window w pointwise none = ap is_empty pointwise ∙ none-is_empty w.desk.wide w.desk.high (has w.pending) none

module _ (w : Window) where
  abbrev Idles : Type 0
  Idles = (is_idle w ≡ true) ⊎ (is_idle w ≡ false)

  abbrev Maps : Type 0
  Maps = (w.mapped ≡ true) ⊎ (w.mapped ≡ false)

  abbrev Owes : Type 0
  Owes = (owes_nothing w ≡ true) ⊎ (owes_nothing w ≡ false)

  abbrev Pends : Type 0
  Pends = (is_empty w.pending ≡ true) ⊎ (is_empty w.pending ≡ false)

  zero_row : Idles → Maps → Owes → Pends → rest w ≤ 0 → AtZero w
  zero_row (inr busy) maps owing pends low = absurd (none_low (rest w) 3 0 (rest_busy w busy) low (omega arith))
  zero_row (inl idle) (inr unmapped) owing pends low = (idle, λ mapped x y. absurd (false≢true (sym unmapped ∙ mapped)))
  zero_row (inl idle) (inl mapped) (inl nothing) pends low = (idle, λ is x y. unowed_points w nothing x y)
  zero_row (inl idle) (inl mapped) (inr some) (inl empty) low = absurd (none_low (rest w) 1 0 (rest_unpending w idle mapped some empty) low (omega arith))
  zero_row (inl idle) (inl mapped) (inr some) (inr pending) low = absurd (none_low (rest w) 2 0 (rest_pending w idle mapped some pending) low (omega arith))

  zero_low : Maps → AtZero w → rest w ≤ 0
  zero_low (inr unmapped) row = low_from (rest w) 0 0 (rest_unmapped w row.0 unmapped) (omega arith)
  zero_low (inl mapped) row = low_from (rest w) 0 0 (rest_unowed w row.0 mapped (unowed_window w (row.1 mapped))) (omega arith)

  one_row : Idles → Maps → Owes → Pends → rest w ≤ 1 → AtOne w
  one_row (inr busy) maps owing pends low = absurd (none_low (rest w) 3 1 (rest_busy w busy) low (omega arith))
  one_row (inl idle) (inr unmapped) owing pends low = (idle, λ mapped x y within. absurd (false≢true (sym unmapped ∙ mapped)))
  one_row (inl idle) (inl mapped) (inl nothing) pends low = (idle, λ is x y within. unpending_points w nothing x y within)
  one_row (inl idle) (inl mapped) (inr some) (inl empty) low = (idle, λ is x y within. has-empty w.pending x y empty)
  one_row (inl idle) (inl mapped) (inr some) (inr pending) low = absurd (none_low (rest w) 2 1 (rest_pending w idle mapped some pending) low (omega arith))

  one_low : IsPointwise w → Maps → Owes → AtOne w → rest w ≤ 1
  one_low pointwise (inr unmapped) owing row = low_from (rest w) 0 1 (rest_unmapped w row.0 unmapped) (omega arith)
  one_low pointwise (inl mapped) (inl nothing) row = low_from (rest w) 0 1 (rest_unowed w row.0 mapped nothing) (omega arith)
  one_low pointwise (inl mapped) (inr some) row = low_from (rest w) 1 1 (rest_unpending w row.0 mapped some (unpending_window w pointwise (row.1 mapped))) (omega arith)

  two_row : Idles → rest w ≤ 2 → AtTwo w
  two_row (inr busy) low = absurd (none_low (rest w) 3 2 (rest_busy w busy) low (omega arith))
  two_row (inl idle) low = idle

  two_low : Maps → Owes → Pends → AtTwo w → rest w ≤ 2
  two_low (inr unmapped) owing pends idle = low_from (rest w) 0 2 (rest_unmapped w idle unmapped) (omega arith)
  two_low (inl mapped) (inl nothing) pends idle = low_from (rest w) 0 2 (rest_unowed w idle mapped nothing) (omega arith)
  two_low (inl mapped) (inr some) (inl empty) idle = low_from (rest w) 1 2 (rest_unpending w idle mapped some empty) (omega arith)
  two_low (inl mapped) (inr some) (inr pending) idle = low_from (rest w) 2 2 (rest_pending w idle mapped some pending) (omega arith)

  three_low : Idles → rest w ≤ 3
  three_low (inr busy) = low_from (rest w) 3 3 (rest_busy w busy) (omega arith)
  three_low (inl idle) = let low : rest w ≤ 2 = two_low (cases_Bool w.mapped) (cases_Bool (owes_nothing w)) (cases_Bool (is_empty w.pending)) idle in omega (arith, low)

zero_rows : (w : Window) → (rest w ≤ 0) ↔ AtZero w
zero_rows w = (zero_row w (cases_Bool (is_idle w)) (cases_Bool w.mapped) (cases_Bool (owes_nothing w)) (cases_Bool (is_empty w.pending)), zero_low w (cases_Bool w.mapped))

pub rest_is_least : (w : Window) → IsPointwise w → IsLeast w
rest_is_least w pointwise = record {
  at_zero = zero_rows w;
  at_one = (one_row w (cases_Bool (is_idle w)) (cases_Bool w.mapped) (cases_Bool (owes_nothing w)) (cases_Bool (is_empty w.pending)), one_low w pointwise (cases_Bool w.mapped) (cases_Bool (owes_nothing w)));
  at_two = (two_row w (cases_Bool (is_idle w)), two_low w (cases_Bool w.mapped) (cases_Bool (owes_nothing w)) (cases_Bool (is_empty w.pending)));
  at_three = three_low w (cases_Bool (is_idle w));
}

-- of a client
head_low : (a b n : ℕ) → max a b ≤ n → a ≤ n
head_low a b n low = omega (arith, low)

tail_low : (a b n : ℕ) → max a b ≤ n → b ≤ n
tail_low a b n low = omega (arith, low)

both_low : (a b n : ℕ) → a ≤ n → b ≤ n → max a b ≤ n
both_low a b n first second = omega (arith, first, second)

rows_of : (n : ℕ) (P : Window → Type 0) (ws : List Window) → All (λ (w : Window). rest w ≤ n → P w) ws → greatest_rest ws ≤ n → All P ws
rows_of n P [] rows low = All-nil P
rows_of n P (w ∷ ws) rows low = All-cons P w ws (All-head (λ (w : Window). rest w ≤ n → P w) w ws rows (head_low (rest w) (greatest_rest ws) n low))
    (rows_of n P ws (All-tail (λ (w : Window). rest w ≤ n → P w) w ws rows) (tail_low (rest w) (greatest_rest ws) n low))

low_of : (n : ℕ) (P : Window → Type 0) (ws : List Window) → All (λ (w : Window). P w → rest w ≤ n) ws → All P ws → greatest_rest ws ≤ n
low_of n P [] lows rows = omega arith
low_of n P (w ∷ ws) lows rows = both_low (rest w) (greatest_rest ws) n (All-head (λ (w : Window). P w → rest w ≤ n) w ws lows (All-head P w ws rows))
    (low_of n P ws (All-tail (λ (w : Window). P w → rest w ≤ n) w ws lows) (All-tail P w ws rows))

every : (P Q : Window → Type 0) (ws : List Window) → ((w : Window) → P w → Q w) → All P ws → All Q ws
every P Q [] each all = All-nil Q
every P Q (w ∷ ws) each all = All-cons Q w ws (each w (All-head P w ws all)) (every P Q ws each (All-tail P w ws all))

any_window : (Q : Window → Type 0) (ws : List Window) → ((w : Window) → Q w) → All Q ws
any_window Q [] each = All-nil Q
any_window Q (w ∷ ws) each = All-cons Q w ws (each w) (any_window Q ws each)

rows_there : (n : ℕ) (P : Window → Type 0) (others : Bool) (ws : List Window) → n ≤ 2 → All (λ (w : Window). rest w ≤ n → P w) ws → rest_of others ws ≤ n → (others ≡ false) × All P ws
rows_there n P true ws less rows low = absurd (none_low 3 3 n refl low (omega (arith, less)))
rows_there n P false ws less rows low = (refl, rows_of n P ws rows low)

low_there : (n : ℕ) (P : Window → Type 0) (others : Bool) (ws : List Window) → All (λ (w : Window). P w → rest w ≤ n) ws → (others ≡ false) × All P ws → rest_of others ws ≤ n
low_there n P true ws lows rows = absurd (false≢true (sym rows.0))
low_there n P false ws lows rows = low_of n P ws lows rows.1

pub rest_of_is_least : (others : Bool) (ws : List Window) → All IsPointwise ws → IsLeastOf others ws
rest_of_is_least others ws all = record {
  at_zero = (rows_there 0 AtZero others ws (omega arith) (any_window (λ (w : Window). rest w ≤ 0 → AtZero w) ws (λ w. (zero_rows w).0)), low_there 0 AtZero others ws (any_window (λ (w : Window). AtZero w → rest w ≤ 0) ws (λ w. (zero_rows w).1)));
  at_one = (rows_there 1 AtOne others ws (omega arith) (every IsPointwise (λ (w : Window). rest w ≤ 1 → AtOne w) ws (λ w is. (rest_is_least w is).at_one.0) all), low_there 1 AtOne others ws (every IsPointwise (λ (w : Window). AtOne w → rest w ≤ 1) ws (λ w is. (rest_is_least w is).at_one.1) all));
  at_two = (rows_there 2 AtTwo others ws (omega arith) (every IsPointwise (λ (w : Window). rest w ≤ 2 → AtTwo w) ws (λ w is. (rest_is_least w is).at_two.0) all), low_there 2 AtTwo others ws (every IsPointwise (λ (w : Window). AtTwo w → rest w ≤ 2) ws (λ w is. (rest_is_least w is).at_two.1) all));
  at_three = at_most others;
}
  where
    at_most : (others : Bool) → rest_of others ws ≤ 3
    at_most true = omega arith
    at_most false = low_of 3 (λ (w : Window). Unit {0}) ws (any_window (λ (w : Window). Unit {0} → rest w ≤ 3) ws (λ w is. three_low w (cases_Bool (is_idle w)))) (any_window (λ (w : Window). Unit {0}) ws (λ w. tt))

-- every event keeps the pending points a set of the window's points
pointwise_made : (wide high : ℕ) (f : ℕ → ℕ → Bool) → points wide high f ≡ points wide high (has (points wide high f))
pointwise_made wide high f = points_alike wide high f (has (points wide high f)) (λ x y within. sym (has-points_within wide high f x y within))

pointwise_as : (v w : Window) → v.desk.wide ≡ w.desk.wide → v.desk.high ≡ w.desk.high → v.pending ≡ w.pending → IsPointwise w → IsPointwise v
pointwise_as v w wide high pending is = rw (wide, high, pending) is

pointwise_stays : (v w : Window) → StaysAs v w → IsPointwise w → IsPointwise v
pointwise_stays v w stays is = rw (stays.desk, stays.pending) is

pointwise_acknowledged : (o : Option Rectangle) (k : ℕ) (negative : Bool) (now : ℕ) (w : Window) → IsPointwise w → IsPointwise (acknowledged_as o k negative now w)
pointwise_acknowledged None k negative now w is = is
pointwise_acknowledged (Some r) k false now w is = pointwise_as (counted (without_sent w.unacknowledged k) w) w refl refl refl is
pointwise_acknowledged (Some r) k true now w is = pointwise_made w.desk.wide w.desk.high _

pointwise_unmapped : (b : Bool) (now : ℕ) (w : Window) → IsPointwise w → IsPointwise (cond b (record (given_back now w) { mapped = false }) w)
pointwise_unmapped true now w is = pointwise_made w.desk.wide w.desk.high _
pointwise_unmapped false now w is = is

pointwise_changed : (lossy_shows : ℕ → ℕ) (e : Event) (w : Window) → IsPointwise w → PointwiseWhereThere (changed lossy_shows e w)
pointwise_changed lossy_shows (Start desk now) w is = is
pointwise_changed lossy_shows (Paint r numbers now) w is = pointwise_made w.desk.wide w.desk.high _
pointwise_changed lossy_shows (Capture plan first) w is = pointwise_made w.desk.wide w.desk.high _
pointwise_changed lossy_shows (File k capture now) w is = pointwise_stays (filed_as (filing_of (capture_of w.jobs k) capture) k now w) w (filed_stays (filing_of (capture_of w.jobs k) capture) k now w) is
pointwise_changed lossy_shows (Write true) w is = pointwise_stays (written_front lossy_shows w.packets w) w (front_writes lossy_shows w.packets w).stays is
pointwise_changed lossy_shows (Write false) w is = is
pointwise_changed lossy_shows (Acknowledge k negative now) w is = pointwise_acknowledged (rect_sent w.unacknowledged k) k negative now w is
pointwise_changed lossy_shows MapWindow w is = pointwise_as (record w { mapped = true }) w refl refl refl is
pointwise_changed lossy_shows (UnmapWindow now) w is = pointwise_unmapped w.mapped now w is
pointwise_changed lossy_shows (Recall now) w is = pointwise_made w.desk.wide w.desk.high _
pointwise_changed lossy_shows (Resize wide high now) w is = pointwise_made wide high _
pointwise_changed lossy_shows (BufferRefresh now) w is = pointwise_made w.desk.wide w.desk.high _
pointwise_changed lossy_shows Close w is = tt

pub pointwise_step : (lossy_shows : ℕ → ℕ) (o : Option Window) (e : Event) → PointwiseWhereThere o → PointwiseWhereThere (step lossy_shows o e)
pointwise_step lossy_shows (Some w) e is = pointwise_changed lossy_shows e w is
pointwise_step lossy_shows None (Start desk now) is = pointwise_made desk.wide desk.high _
pointwise_step lossy_shows None (Paint r numbers now) is = tt
pointwise_step lossy_shows None (Capture plan first) is = tt
pointwise_step lossy_shows None (File k capture now) is = tt
pointwise_step lossy_shows None (Write wholly) is = tt
pointwise_step lossy_shows None (Acknowledge k negative now) is = tt
pointwise_step lossy_shows None MapWindow is = tt
pointwise_step lossy_shows None (UnmapWindow now) is = tt
pointwise_step lossy_shows None (Recall now) is = tt
pointwise_step lossy_shows None (Resize wide high now) is = tt
pointwise_step lossy_shows None (BufferRefresh now) is = tt
pointwise_step lossy_shows None Close is = tt

-- what the parts of a turn do to the distance
nothing-read : (v w : Window) → ReadsAs v w → owes_nothing v ≡ owes_nothing w
nothing-read v w reads = rw reads.desk (ap is_empty (points_alike w.desk.wide w.desk.high (is_owed v) (is_owed w) (λ x y within. same x y)))
  where
    same : (x y : ℕ) → is_owed v x y ≡ is_owed w x y
    same x y = rw (reads.pending, reads.jobs, reads.packets, reads.lossy) refl

rest-read : (v w : Window) → owes_nothing v ≡ owes_nothing w → ReadsAs v w → rest v ≡ rest w
rest-read v w nothing reads = rw (nothing, reads.packets, reads.jobs, reads.pending, reads.mapped) refl

pub read_rests : (t : ℕ) (ks : List ℕ) (w : Window) → rest (read t ks w) ≡ rest w
read_rests t ks w = rest-read (read t ks w) w (nothing-read (read t ks w) w (read_reads t ks w)) (read_reads t ks w)

pub ends_nearer : (lossy_shows : ℕ → ℕ) (now : ℕ) (results : List Result) (writes : List Bool) (w : Window)
    → (write_all lossy_shows writes (file_all now results w)).jobs ≡ [] → (write_all lossy_shows writes (file_all now results w)).packets ≡ []
    → (rest (write_all lossy_shows writes (file_all now results w)) ≤ 2) × (is_empty w.pending ≡ true → rest (write_all lossy_shows writes (file_all now results w)) ≤ 1)
ends_nearer lossy_shows now results writes w jobs packets = (two_low v (cases_Bool v.mapped) (cases_Bool (owes_nothing v)) (cases_Bool (is_empty v.pending)) idle, λ empty. which (ap is_empty stays.pending ∙ empty) (cases_Bool v.mapped) (cases_Bool (owes_nothing v)))
  where
    f : Window
    f = file_all now results w

    v : Window
    v = write_all lossy_shows writes f

    idle : is_idle v ≡ true
    idle = idle_from v jobs packets

    stays : StaysAs v w
    stays = stays_trans v f w (write_all_writes lossy_shows writes f).stays (file_all_stays now results w)

    which : is_empty v.pending ≡ true → (v.mapped ≡ true) ⊎ (v.mapped ≡ false) → (owes_nothing v ≡ true) ⊎ (owes_nothing v ≡ false) → rest v ≤ 1
    which empty (inr unmapped) owing = low_from (rest v) 0 1 (rest_unmapped v idle unmapped) (omega arith)
    which empty (inl mapped) (inl nothing) = low_from (rest v) 0 1 (rest_unowed v idle mapped nothing) (omega arith)
    which empty (inl mapped) (inr some) = low_from (rest v) 1 1 (rest_unpending v idle mapped some empty) (omega arith)

-- where each job that is in hand after the capture has its result, none is in hand at the end
read_numbered : (next t : ℕ) (ks : List ℕ) (w : Window) → 1 ≤ next → IsNumbered next w → IsNumbered next (read t ks w)
read_numbered next t [] w first numbered = numbered
read_numbered next t (k ∷ ks) w first numbered = read_numbered next t ks (acknowledged k false t w) first (numbered_step (λ n. n) next (Some w) (Acknowledge k false t) first tt numbered)

front_append : (jobs new : List Job) → FrontWaits jobs → FrontWaits new → FrontWaits (jobs ++ new)
front_append [] new waits fresh = fresh
front_append (j ∷ jobs) new waits fresh = waits

front_new : (desk : Grid) (region : Points) (first : ℕ) (plan : List Planned) → FrontWaits (jobs_of desk region first plan)
front_new desk region first [] = tt
front_new desk region first (p ∷ plan) = refl

captured_empties : (b : Bool) (t : Turn) (r : Window) → 1 ≤ t.first → IsNumbered t.first r → FrontWaits r.jobs → HaveResults t.results (captured_where b t.plan t.first r).jobs
    → (file_all t.now t.results (captured_where b t.plan t.first r)).jobs ≡ []
captured_empties true t r first numbered waits have = filing_empties (t.first + length t.plan) t.now t.results (captured t.plan t.first r)
    (numbered_step (λ n. n) t.first (Some r) (Capture t.plan t.first) first (omega arith) numbered) (front_append r.jobs (jobs_of r.desk (region_taken r) t.first t.plan) waits (front_new r.desk (region_taken r) t.first t.plan)) have
captured_empties false t r first numbered waits have = filing_empties t.first t.now t.results r numbered waits have

pub results_empty : (lossy_shows : ℕ → ℕ) (t : Turn) (w : Window) → 1 ≤ t.first → IsNumbered t.first w → FrontWaits w.jobs → HaveResults t.results (captured_in t (read t.read_at t.acknowledged w)).jobs
    → (turned lossy_shows t w).jobs ≡ []
results_empty lossy_shows t w first numbered waits have =
    (write_all_writes lossy_shows t.writes (file_all t.now t.results (captured_in t r))).jobs
    ∙ captured_empties (is_allowed (capture_answer t.now t.weight t.first r)) t r first (read_numbered t.first t.read_at t.acknowledged w first numbered) (rw (read_reads t.read_at t.acknowledged w).jobs waits) have
  where
    r : Window
    r = read t.read_at t.acknowledged w

-- a quiet turn of a client: where it was idle, each window comes nearer
each_nearer : (lossy_shows : ℕ → ℕ) (clock : ℕ) (ts : List Turn) (ws : List Window) → AreQuiet lossy_shows clock true ts ws → CameNearer ws (turned_all lossy_shows ts ws)
each_nearer lossy_shows clock [] [] quiet = tt
each_nearer lossy_shows clock [] (w ∷ ws) quiet = absurd quiet
each_nearer lossy_shows clock (t ∷ ts) [] quiet = absurd quiet
each_nearer lossy_shows clock (t ∷ ts) (w ∷ ws) quiet = (quiet_turn_rests lossy_shows clock t w (alone quiet.0), each_nearer lossy_shows clock ts ws quiet.1)
  where
    alone : IsQuiet lossy_shows clock true t w → IsQuiet lossy_shows clock (is_idle w) t w
    alone q = record { kept = q.kept; numbered = q.numbered; timed = q.timed; ticked = q.ticked; acknowledged = q.acknowledged; light = λ idle. q.light refl; numbers = q.numbers; planned = q.planned; filed = q.filed; written = q.written }

-- where it was not, it was at 3, and each window ends at 2 or less
end_low : (lossy_shows : ℕ → ℕ) (clock : ℕ) (idle : Bool) (t : Turn) (w : Window) → IsQuiet lossy_shows clock idle t w → rest (turned lossy_shows t w) ≤ 2
end_low lossy_shows clock idle t w quiet = two_low v (cases_Bool v.mapped) (cases_Bool (owes_nothing v)) (cases_Bool (is_empty v.pending)) (idle_from v quiet.filed quiet.written)
  where
    v : Window
    v = turned lossy_shows t w

ends_low : (lossy_shows : ℕ → ℕ) (clock : ℕ) (idle : Bool) (ts : List Turn) (ws : List Window) → AreQuiet lossy_shows clock idle ts ws → greatest_rest (turned_all lossy_shows ts ws) ≤ 2
ends_low lossy_shows clock idle [] [] quiet = omega arith
ends_low lossy_shows clock idle [] (w ∷ ws) quiet = absurd quiet
ends_low lossy_shows clock idle (t ∷ ts) [] quiet = absurd quiet
ends_low lossy_shows clock idle (t ∷ ts) (w ∷ ws) quiet =
    both_low (rest (turned lossy_shows t w)) (greatest_rest (turned_all lossy_shows ts ws)) 2 (end_low lossy_shows clock idle t w quiet.0) (ends_low lossy_shows clock idle ts ws quiet.1)

some_far : (ws : List Window) → list_all is_idle ws ≡ false → 3 ≤ greatest_rest ws
some_far [] busy = absurd (false≢true (sym busy))
some_far (w ∷ ws) busy = which (cases_Bool (is_idle w)) (some_far ws)
  where
    which : (is_idle w ≡ true) ⊎ (is_idle w ≡ false) → (list_all is_idle ws ≡ false → 3 ≤ greatest_rest ws) → 3 ≤ max (rest w) (greatest_rest ws)
    which (inr here) more = let three : rest w ≡ 3 = rest_busy w here in omega (arith, three)
    which (inl idle) more = let behind : 3 ≤ greatest_rest ws = more (sym (ap (λ (b : Bool). b && list_all is_idle ws) idle) ∙ busy) in omega (arith, behind)

busy_far : (others : Bool) (ws : List Window) → are_idle others ws ≡ false → 3 ≤ rest_of others ws
busy_far true ws busy = omega arith
busy_far false ws busy = some_far ws busy

pub client_rests : (lossy_shows : ℕ → ℕ) (clock : ℕ) (ts : List Turn) (others : Bool) (ws : List Window) → AreQuiet lossy_shows clock (are_idle others ws) ts ws
    → rest_of false (turned_all lossy_shows ts ws) ≤ rest_of others ws - 1
client_rests lossy_shows clock ts others ws quiet = which (cases_Bool (are_idle others ws))
  where
    after : List Window
    after = turned_all lossy_shows ts ws

    which : (are_idle others ws ≡ true) ⊎ (are_idle others ws ≡ false) → rest_of false after ≤ rest_of others ws - 1
    which (inl idle) = clients_come_nearer others ws after (each_nearer lossy_shows clock ts ws (rw idle at quiet))
    which (inr busy) = omega (arith, ends_low lossy_shows clock (are_idle others ws) ts ws quiet, busy_far others ws busy)

three_less : (a b c d : ℕ) → a ≤ 3 → b ≤ a - 1 → c ≤ b - 1 → d ≤ c - 1 → d ≤ 0
three_less a b c d low first second third = omega (arith, low, first, second, third)

pub three_turns : (lossy_shows : ℕ → ℕ) (first second third : ℕ) (ts us vs : List Turn) (others : Bool) (ws : List Window) → AreQuiet lossy_shows first (are_idle others ws) ts ws
    → AreQuiet lossy_shows second (are_idle false (turned_all lossy_shows ts ws)) us (turned_all lossy_shows ts ws)
    → AreQuiet lossy_shows third (are_idle false (turned_all lossy_shows us (turned_all lossy_shows ts ws))) vs (turned_all lossy_shows us (turned_all lossy_shows ts ws))
    → All AtZero (turned_all lossy_shows vs (turned_all lossy_shows us (turned_all lossy_shows ts ws)))
three_turns lossy_shows first second third ts us vs others ws once twice thrice =
    rows_of 0 AtZero (turned_all lossy_shows vs then_twice) (any_window (λ (w : Window). rest w ≤ 0 → AtZero w) (turned_all lossy_shows vs then_twice) (λ w. (zero_rows w).0))
    (three_less (rest_of others ws) (greatest_rest then_once) (greatest_rest then_twice) (greatest_rest (turned_all lossy_shows vs then_twice)) (at_most others)
    (client_rests lossy_shows first ts others ws once) (client_rests lossy_shows second us false then_once twice) (client_rests lossy_shows third vs false then_twice thrice))
  where
    then_once : List Window
    then_once = turned_all lossy_shows ts ws

    then_twice : List Window
    then_twice = turned_all lossy_shows us then_once

    at_most : (others : Bool) → rest_of others ws ≤ 3
    at_most true = omega arith
    at_most false = low_of 3 (λ (w : Window). Unit {0}) ws (any_window (λ (w : Window). Unit {0} → rest w ≤ 3) ws (λ w is. three_low w (cases_Bool (is_idle w)))) (any_window (λ (w : Window). Unit {0}) ws (λ w. tt))
