-- What is true of every window of every client, as statements. Each is the contract of a function of `src/laws.rt`.
use Rattle.std.specs.Prelude.{ℕ, ◌+◌, ◌≡◌, ◌≤◌, ◌<◌, Bool, true, false, not, ◌&&◌, ◌||◌, Option, Some, None, List, [], ◌∷◌, ◌++◌, All}
use Rattle.xp_base.specs.Points.{is_within}
use Rattle.xp_base.specs.Captures.{Captured}
use Rattle.delivery_model.specs.Grids.{has, points, Grid, grid, number, shown_at}
use Rattle.delivery_model.specs.Window.{Job, Window}
use Rattle.delivery_model.specs.Events.{is_empty, Event, started, changed, step, run, given_back, jobs_relieve, queued, queue_ready, ready_count, resized, filing_of, capture_of, Late}
use Rattle.delivery_model.specs.Plans.{IsEvent, AreEvents}
use Rattle.delivery_model.specs.Owed.{is_owed, owes}
use Rattle.delivery_model.specs.Changes.{owed_after}
use Rattle.delivery_model.specs.Kept.{IsKept}
use Rattle.delivery_model.specs.Invariant.{IsSteady}
use Rattle.delivery_model.specs.Numbers.{IsInHand, NumbersFrom, AllNumberFrom, IsGone, Rise, IsNumbered, NumberedWhereThere, next_after}

abbrev pub KeptWhereThere : Option Window → Type 0
KeptWhereThere None = Unit {0}
KeptWhereThere (Some w) = IsKept w

-- every event keeps the form; the first event of a window, its start, makes it
abbrev pub EventsKeepTheForm : Type 0
EventsKeepTheForm = (lossy_shows : ℕ → ℕ) (o : Option Window) (e : Event) → IsEvent o e → KeptWhereThere o → KeptWhereThere (step lossy_shows o e)

abbrev pub RunsKeepTheForm : Type 0
RunsKeepTheForm = (lossy_shows : ℕ → ℕ) (o : Option Window) (events : List Event) → AreEvents lossy_shows o events → KeptWhereThere o
    → KeptWhereThere (run lossy_shows o events)

-- after every list of events from no window on
abbrev pub WholeRunsHaveTheForm : Type 0
WholeRunsHaveTheForm = (lossy_shows : ℕ → ℕ) (events : List Event) → AreEvents lossy_shows None events → KeptWhereThere (run lossy_shows None events)

abbrev pub FormGivesInvariant : Type 0
FormGivesInvariant = (w : Window) → IsKept w → IsSteady w

-- after every list of events a point that is not owed has the desktop's number at the client
abbrev pub UnowedIsShown : Type 0
UnowedIsShown = (lossy_shows : ℕ → ℕ) (events : List Event) → AreEvents lossy_shows None events → (w : Window) → run lossy_shows None events ≡ Some w
    → (x y : ℕ) → is_within w.desk.wide w.desk.high x y ≡ true → is_owed w x y ≡ false → shown_at w.client x y ≡ Some (number w.desk x y)

-- what is owed after an event, exactly
abbrev pub EventsChangeOwed : Type 0
EventsChangeOwed = (lossy_shows : ℕ → ℕ) (e : Event) (w : Window) → IsEvent (Some w) e → IsKept w → (x y : ℕ) → owes (changed lossy_shows e w) x y ≡ owed_after e w x y

abbrev pub StartOwesAll : Type 0
StartOwesAll = (desk : Grid) (now x y : ℕ) → owes (Some (started desk now)) x y ≡ is_within desk.wide desk.high x y

-- giving back makes pending the union of pending and the reliefs of jobs in hand
abbrev pub GivingBackMovesReliefs : Type 0
GivingBackMovesReliefs = (now : ℕ) (w : Window) (x y : ℕ)
    → has (given_back now w).pending x y ≡ (is_within w.desk.wide w.desk.high x y && (has w.pending x y || jobs_relieve w.jobs x y))

-- a resize: pending are the points of the new window that were pending, in the relief of a job, or not in the old window
abbrev pub ResizePends : Type 0
ResizePends = (w h now : ℕ) (old : Window) (x y : ℕ) → has (resized w h now old).pending x y
    ≡ (is_within w h x y && (not (is_within old.desk.wide old.desk.high x y) || (has old.pending x y || jobs_relieve old.jobs x y)))

-- of the lossy points those in both sizes are left
abbrev pub ResizeClipsLossy : Type 0
ResizeClipsLossy = (w h now : ℕ) (old : Window) (x y : ℕ) → has (resized w h now old).lossy x y
    ≡ (is_within w h x y && (has old.lossy x y && is_within old.desk.wide old.desk.high x y))

-- owed are the points of the new window that were owed, and those that are new
abbrev pub ResizeOwes : Type 0
ResizeOwes = (w h now : ℕ) (old : Window) (x y : ℕ) → owes (Some (resized w h now old)) x y
    ≡ (is_within w h x y && (owes (Some old) x y || not (is_within old.desk.wide old.desk.high x y)))

-- jobs leave one after another: the first where it has its result, and none where there is none or the first has none
abbrev pub FirstJobLeaves : Type 0
FirstJobLeaves = (now : ℕ) (j : Job) (jobs : List Job) (w : Window) → j.encoded ≡ true
    → queue_ready now jobs (queued now j (record w { jobs = jobs })) ≡ queue_ready now (j ∷ jobs) w

abbrev pub FirstJobStays : Type 0
FirstJobStays = (now : ℕ) (j : Job) (jobs : List Job) (w : Window) → j.encoded ≡ false → w.jobs ≡ j ∷ jobs → queue_ready now (j ∷ jobs) w ≡ w

abbrev pub NoJobLeaves : Type 0
NoJobLeaves = (now : ℕ) (w : Window) → w.jobs ≡ [] → queue_ready now [] w ≡ w

-- each that leaves takes a sequence number
abbrev pub LeavingTakesNumbers : Type 0
LeavingTakesNumbers = (now : ℕ) (jobs : List Job) (w : Window) → (queue_ready now jobs w).next_sequence ≡ w.next_sequence + ready_count jobs

-- a job in hand after an event, with a number below the next one before it, was in hand with the same capture
abbrev pub JobWasInHand : Type 0
JobWasInHand = (lossy_shows : ℕ → ℕ) (next k : ℕ) (capture : Captured) → k < next → (o : Option Window) (e : Event) → NumbersFrom next e
    → IsInHand (step lossy_shows o e) k capture → IsInHand o k capture

-- a number that no job in hand has, below the next one, is never again that of a job in hand
abbrev pub GoneStaysGone : Type 0
GoneStaysGone = (lossy_shows : ℕ → ℕ) (next k : ℕ) (o : Option Window) (events : List Event) → k < next → AllNumberFrom next events
    → IsGone o k → IsGone (run lossy_shows o events) k

-- a result whose number no job in hand has is late
abbrev pub LateWhereGone : Type 0
LateWhereGone = (w : Window) (k : ℕ) (capture : Captured) → IsGone (Some w) k → filing_of (capture_of w.jobs k) capture ≡ Late

-- every event keeps the numbering, where its jobs are numbered from the next number on
abbrev pub EventsKeepNumbering : Type 0
EventsKeepNumbering = (lossy_shows : ℕ → ℕ) (next : ℕ) (o : Option Window) (e : Event) → 1 ≤ next → NumbersFrom next e
    → NumberedWhereThere next o → NumberedWhereThere (next_after next e) (step lossy_shows o e)

-- other windows may take numbers meanwhile
abbrev pub NumberingWaits : Type 0
NumberingWaits = (next later : ℕ) (w : Window) → next ≤ later → IsNumbered next w → IsNumbered later w

-- numbers that rise are distinct: before each stand smaller ones, and behind it greater ones
abbrev pub RisingIsDistinct : Type 0
RisingIsDistinct = (low next k : ℕ) (front behind : List ℕ) → Rise low next (front ++ k ∷ behind)
    → All (λ (i : ℕ). i < k) front × All (λ (i : ℕ). k < i) behind

-- a set that was made point by point
abbrev pub PointsHave : Type 0
PointsHave = (w h : ℕ) (f : ℕ → ℕ → Bool) (x y : ℕ) → has (points w h f) x y ≡ (is_within w h x y && f x y)

abbrev pub PointsAreAlike : Type 0
PointsAreAlike = (w h : ℕ) (f g : ℕ → ℕ → Bool) → ((x y : ℕ) → is_within w h x y ≡ true → f x y ≡ g x y) → points w h f ≡ points w h g

abbrev pub EmptyHasNone : Type 0
EmptyHasNone = (w h : ℕ) (f : ℕ → ℕ → Bool) → is_empty (points w h f) ≡ true → (x y : ℕ) → is_within w h x y ≡ true → f x y ≡ false

abbrev pub NoneIsEmpty : Type 0
NoneIsEmpty = (w h : ℕ) (f : ℕ → ℕ → Bool) → ((x y : ℕ) → is_within w h x y ≡ true → f x y ≡ false) → is_empty (points w h f) ≡ true

-- a grid that was made point by point
abbrev pub GridNumbers : Type 0
GridNumbers = (w h : ℕ) (f : ℕ → ℕ → ℕ) (x y : ℕ) → is_within w h x y ≡ true → number (grid w h f) x y ≡ f x y

abbrev pub GridsAreAlike : Type 0
GridsAreAlike = (w h : ℕ) (f g : ℕ → ℕ → ℕ) → ((x y : ℕ) → is_within w h x y ≡ true → f x y ≡ g x y) → grid w h f ≡ grid w h g
