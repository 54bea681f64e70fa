-- What is true of every log, as statements. Each is the contract of a function of `src/laws.rt`.
use Rattle.std.specs.Prelude.{ℕ, ◌+◌, ◌-◌, ◌≡◌, ◌≤◌, ◌<◌, ◌^◌, Bool, true, false, ◌&&◌, ◌||◌, Option, Some, None, List, [], ◌∷◌, replicate, length, All}
use Rattle.xp_base.specs.Points.{is_within}
use Rattle.delivery_model.specs.Grids.{has}
use Rattle.delivery_model.specs.Window.{Job, Window}
use Rattle.delivery_model.specs.Events.{is_empty, Planned, region_taken, jobs_of, captured, jobs_relieve, load, queued, capture_of, Filed, filing_of, filed, Event, step, run}
use Rattle.delivery_model.specs.Plans.{IsPlan, IsEvent}
use Rattle.delivery_model.specs.Numbers.{NumbersFrom, IsNumbered, next_after}
use Rattle.delivery_model.specs.Refusals.{is_clean, earliest, capture_answer, is_allowed}
use Rattle.delivery_model.specs.Owed.{owes}
use Rattle.delivery_model.specs.Laws.{KeptWhereThere}
use Rattle.delivery_log.specs.Log.{Entry, log_after, log_of}
use Rattle.delivery_log.specs.Stale.{is_stale, is_stale_queued}
use Rattle.delivery_log.specs.Agreement.{Agrees, AgreesWhereThere}
use Rattle.delivery_log.specs.Times.{IsTimed, TimedWhereThere, IsBy}
use Rattle.delivery_log.specs.Rest.{Turn, Result, IsQuiet, captured_in, turned, read, file_all, write_all, rest, rest_of, is_idle, AllAcknowledged, FrontWaits, HaveResults, CameNearer, AtZero, IsLeast, IsLeastOf, IsPointwise, PointwiseWhereThere, turned_all, are_idle, AreQuiet}
use Rattle.delivery_log.specs.DrawnOut.{results_of, IsDrawnOut}

-- for every log: where it agrees with the window before an event, it does after it, with the event's entries
abbrev pub EventsKeepAgreement : Type 0
EventsKeepAgreement = (lossy_shows : ℕ → ℕ) (next : ℕ) (log : List Entry) (o : Option Window) (e : Event) → IsEvent o e → NumbersFrom next e
    → KeptWhereThere o → AgreesWhereThere next log o → AgreesWhereThere (next_after next e) (log_after log o e) (step lossy_shows o e)

-- a point is owed exactly where it is stale
abbrev pub OwedIsStale : Type 0
OwedIsStale = (next : ℕ) (log : List Entry) (w : Window) → Agrees next log w → (x y : ℕ) → owes (Some w) x y ≡ is_stale w.desk log x y

-- a point is pending, in the relief of a job in hand, or lossy, exactly where it is stale once all waiting draws are written
abbrev pub UnqueuedIsStale : Type 0
UnqueuedIsStale = (next : ℕ) (log : List Entry) (w : Window) → Agrees next log w → (x y : ℕ)
    → is_stale_queued w.desk log x y ≡ (is_within w.desk.wide w.desk.high x y && ((has w.pending x y || jobs_relieve w.jobs x y) || has w.lossy x y))

-- the events of a window, where captures number upwards; other windows may take numbers in between
abbrev pub AreLogged : (ℕ → ℕ) → ℕ → Option Window → List Event → Type 0
AreLogged lossy_shows next o [] = Unit {0}
AreLogged lossy_shows next o (e ∷ events) = IsEvent o e × (NumbersFrom next e × AreLogged lossy_shows (next_after next e) (step lossy_shows o e) events)

-- so from a window's start on, with the log of what happened, owed is stale
abbrev pub RunsOweWhatIsStale : Type 0
RunsOweWhatIsStale = (lossy_shows : ℕ → ℕ) (next : ℕ) (events : List Event) → AreLogged lossy_shows next None events → (w : Window) → run lossy_shows None events ≡ Some w
    → (x y : ℕ) → owes (Some w) x y ≡ is_stale w.desk (log_of lossy_shows [] None events) x y

-- other windows may take numbers meanwhile
abbrev pub AgreementWaits : Type 0
AgreementWaits = (next later : ℕ) (log : List Entry) (w : Window) → next ≤ later → Agrees next log w → Agrees later log w

-- every event that is not after the clock keeps the times, and time may pass
abbrev pub EventsKeepTimes : Type 0
EventsKeepTimes = (lossy_shows : ℕ → ℕ) (clock : ℕ) (o : Option Window) (e : Event) → IsBy clock e → TimedWhereThere clock o → TimedWhereThere clock (step lossy_shows o e)

abbrev pub TimesWait : Type 0
TimesWait = (clock later : ℕ) (w : Window) → clock ≤ later → IsTimed clock w → IsTimed later w

-- after 500 milliseconds damage and refresh are due
abbrev pub DueAfterTick : Type 0
DueAfterTick = (clock : ℕ) (w : Window) → IsTimed clock w → earliest w ≤ clock + 500

-- an idle window has no load once all its written draws are acknowledged
abbrev pub ReadingUnloads : Type 0
ReadingUnloads = (next t : ℕ) (ks : List ℕ) (w : Window) → IsNumbered next w → is_idle w ≡ true → AllAcknowledged ks w → load (read t ks w) ≡ 0

-- once each job in hand has its result none is in hand
abbrev pub FilingEmpties : Type 0
FilingEmpties = (next now : ℕ) (results : List Result) (w : Window) → IsNumbered next w → FrontWaits w.jobs → HaveResults results w.jobs
    → (file_all now results w).jobs ≡ []

-- so in a turn, where each job that is in hand after the capture has its result
abbrev pub ResultsEmpty : Type 0
ResultsEmpty = (lossy_shows : ℕ → ℕ) (t : Turn) (w : Window) → 1 ≤ t.first → IsNumbered t.first w → FrontWaits w.jobs → HaveResults t.results (captured_in t (read t.read_at t.acknowledged w)).jobs
    → (turned lossy_shows t w).jobs ≡ []

-- once as many packets are written as wait, none waits
abbrev pub WritingEmpties : Type 0
WritingEmpties = (lossy_shows : ℕ → ℕ) (w : Window) → (write_all lossy_shows (replicate (length w.packets) true) w).packets ≡ []

-- a read leaves the distance from rest as it is
abbrev pub ReadingKeepsRest : Type 0
ReadingKeepsRest = (t : ℕ) (ks : List ℕ) (w : Window) → rest (read t ks w) ≡ rest w

-- a capture leaves nothing pending
abbrev pub CapturePendsNothing : Type 0
CapturePendsNothing = (plan : List Planned) (first : ℕ) (w : Window) → is_empty (captured plan first w).pending ≡ true

-- a mapped window that is not clean and has no load is captured, where that is due and weight and numbers allow it
abbrev pub CaptureAllowed : Type 0
CaptureAllowed = (now weight first : ℕ) (w : Window) → earliest w ≤ now → load w ≡ 0 → weight < 33_554_432 → first < 2 ^ 62 → w.mapped ≡ true → is_clean w ≡ false
    → is_allowed (capture_answer now weight first w) ≡ true

-- where filings leave no job and writes no packet, the distance is 2 or less, and 1 or less where nothing was pending before them
abbrev pub EndsNearer : Type 0
EndsNearer = (lossy_shows : ℕ → ℕ) (now : ℕ) (results : List Result) (writes : List Bool) (w : Window)
    → (write_all lossy_shows writes (file_all now results w)).jobs ≡ [] → (write_all lossy_shows writes (file_all now results w)).packets ≡ []
    → (rest (write_all lossy_shows writes (file_all now results w)) ≤ 2) × (is_empty w.pending ≡ true → rest (write_all lossy_shows writes (file_all now results w)) ≤ 1)

-- a quiet turn brings a window one nearer to rest, or leaves it there
abbrev pub QuietTurnsRest : Type 0
QuietTurnsRest = (lossy_shows : ℕ → ℕ) (clock : ℕ) (t : Turn) (w : Window) → IsQuiet lossy_shows clock (is_idle w) t w → rest (turned lossy_shows t w) ≤ rest w - 1

-- where each window came one nearer, their client did; whether other packets waited before or not, none does afterwards
abbrev pub NearerTogether : Type 0
NearerTogether = (others : Bool) (before after : List Window) → CameNearer before after → rest_of false after ≤ rest_of others before - 1

-- so a quiet turn of a client brings it one nearer, or leaves it at rest
abbrev pub ClientsRest : Type 0
ClientsRest = (lossy_shows : ℕ → ℕ) (clock : ℕ) (ts : List Turn) (others : Bool) (ws : List Window) → AreQuiet lossy_shows clock (are_idle others ws) ts ws
    → rest_of false (turned_all lossy_shows ts ws) ≤ rest_of others ws - 1

-- and after three of them, with nothing between, nothing on its mapped windows is owed
abbrev pub ThreeTurnsRepair : Type 0
ThreeTurnsRepair = (lossy_shows : ℕ → ℕ) (first second third : ℕ) (ts us vs : List Turn) (others : Bool) (ws : List Window) → AreQuiet lossy_shows first (are_idle others ws) ts ws
    → AreQuiet lossy_shows second (are_idle false (turned_all lossy_shows ts ws)) us (turned_all lossy_shows ts ws)
    → AreQuiet lossy_shows third (are_idle false (turned_all lossy_shows us (turned_all lossy_shows ts ws))) vs (turned_all lossy_shows us (turned_all lossy_shows ts ws))
    → All AtZero (turned_all lossy_shows vs (turned_all lossy_shows us (turned_all lossy_shows ts ws)))

-- the distance is the least whose row holds; and every event keeps what that needs
abbrev pub RestIsLeast : Type 0
RestIsLeast = (w : Window) → IsPointwise w → IsLeast w

abbrev pub ClientsRestIsLeast : Type 0
ClientsRestIsLeast = (others : Bool) (ws : List Window) → All IsPointwise ws → IsLeastOf others ws

abbrev pub EventsKeepPointwise : Type 0
EventsKeepPointwise = (lossy_shows : ℕ → ℕ) (o : Option Window) (e : Event) → PointwiseWhereThere o → PointwiseWhereThere (step lossy_shows o e)

-- a window with no job in hand that is captured is drawn out, once the results of its jobs are filed in their order
abbrev pub OrderedResultsDrawOut : Type 0
OrderedResultsDrawOut = (plan : List Planned) (first now : ℕ) (w : Window) → w.jobs ≡ [] → IsPlan w plan
    → IsDrawnOut w (file_all now (results_of (jobs_of w.desk (region_taken w) first plan)) (captured plan first w))

-- the first job's result is filed, and its draw queued; where the second has no result yet, the others stay in hand
abbrev pub FrontResultsLeaveTheRest : Type 0
FrontResultsLeaveTheRest = (now : ℕ) (j : Job) (jobs : List Job) (w : Window) → w.jobs ≡ j ∷ jobs → FrontWaits jobs
    → (filing_of (capture_of w.jobs j.number) j.capture ≡ Filed) × (filed j.number j.capture now w ≡ queued now j (record w { jobs = jobs }))
