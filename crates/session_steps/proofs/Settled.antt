-- Settling.
use Rattle.std.proofs.Common.{◌≡◌, ◌≢◌, ℕ, ◌<◌, ◌≤◌, Bool, Some, None, List, [], ◌∷◌, length, refl, sym, ap, ◌∙◌, subst, arith}
use Rattle.std.specs.Prelude.{Option, slice_get}
use Rattle.std.proofs.lemmas.Option.{slice_get_within}
use Rattle.xp_base.specs.declared.numbers.Conn.{Conn}
use Rattle.link_bay.specs.Connections.{ConnectionRecord, fresh_connection}
use Rattle.window_model.specs.Desktop.{Window}
use Rattle.connection_table.specs.Tables.{Slot, Open, Away, Ended}
use Rattle.connection_ends.specs.Causes.{HasCause, IsOfSteps}
use Rattle.connection_ends.specs.Laws.{GoOn, TakerGoesOn}
use Rattle.connection_ends.specs.declared.end.End.{End}
use Rattle.connection_ends.specs.declared.end.End.TheVariants as E
use Rattle.open_connection.specs.Connection.{ConnectionSeen}
use Rattle.session_steps.specs.Seen.{Known, Seen}
use Rattle.session_steps.specs.Slots.{Slots}
use Rattle.session_steps.specs.Drawing.{DrawKeeps}
use Rattle.session_steps.specs.Laws.{AcceptKeeps, ReceiveKeeps, SendKeeps}
use Rattle.session_steps.specs.Settling.{settling_from, Closes, Act, Accepting, Reading, Writing, Drawn, Closing, ActsSo, SettlesBy, SettlingBegins, SettlingKeeps, CauseCame, AllEndRightly}
use Rattle.session_steps.specs.Steady.{Phase, Stepping, Settling, TakerIsKnown, EndsByStep, EndsSince, EndsIn, HasEnded, IsSlot, AreSlots, IsSteady}
use Rattle.session_steps.proofs.Places.{open_slot}
use Rattle.session_steps.proofs.Since.{earlier_same, fresh_earlier, not_settled}
use Rattle.session_steps.proofs.Staying.{AllGoOn, goes_same, ended_stays}
use Rattle.session_steps.proofs.Heard.{Causes, put_alone}

-- ---- it begins

pub settling_begins : {B : Type 0} → SettlingBegins B
settling_begins known were_opened s steady = record {
  desktop = steady.desktop;
  holds = steady.holds;
  clocked = steady.clocked;
  counted = steady.counted;
  numbered = steady.numbered;
  few = steady.few;
  failed = steady.failed;
  slots = λ k slot found. go k slot found (steady.slots k slot found);
  since = (
    refl,
    record {
      longer = omega arith;
      counts = λ k low. earlier_same (known.connection s.bay k) (known.connection s.bay k) refl;
      ended = λ k e is. is;
    },
  );
}
  where
    go : (k : ℕ) (slot : Slot ConnectionSeen End) → slice_get s.slots k ≡ Some slot → IsSlot known.tells Stepping s.desk were_opened (known.connection s.bay) (length s.slots) k slot
        → IsSlot known.tells (settling_from known s) s.desk were_opened (known.connection s.bay) (length s.slots) k slot
    go k (Open c) found kept = kept
    go k Away found kept = kept
    go k (Ended e) found ended = record {
      taker = ended.taker;
      cause = subst (λ (slot : Option (Slot ConnectionSeen End)). EndsSince known.tells s.desk slot (known.connection s.bay k) (known.connection s.bay) k e) (sym found) (refl, ended.cause);
    }

-- ---- a connection is closed

module _ (causes : Causes) {B : Type 0} (known : Known B) (phase : Phase) (were_opened : ℕ → Bool) (c : Conn) (e : End) (old new : Seen B) (closes : Closes known phase c e old new) (steady : IsSteady known phase were_opened old) where
  at : slice_get old.slots c.0 ≡ Some (Open closes.connection)
  at = open_slot old.slots c.0 closes.connection closes.opened

  all_go : AllGoOn (length old.slots) (known.connection old.bay) (known.connection new.bay)
  all_go j low = goes_same (known.connection old.bay j).given (known.connection new.bay j).given (ap (λ (r : ConnectionRecord). r.given) (closes.connections j))

  ended : HasEnded known.tells phase (known.connection new.bay) (length old.slots) c.0 e
  ended = ended_stays causes.stay known.tells phase old.desk were_opened (known.connection old.bay) (known.connection new.bay) (length old.slots) (length old.slots) all_go (omega arith) c.0 e (closes.connections c.0)
      (record { taker = subst (λ n. TakerIsKnown n e) (sym steady.counted) closes.taker; cause = closes.cause })

  pub close_keeps : IsSteady known phase were_opened new
  close_keeps = subst (IsSteady known phase were_opened) (sym closes.changed)
      (put_alone causes known phase were_opened c closes.connection old new.bay steady at (λ d apart. closes.connections d) closes.provider
      (earlier_same (known.connection old.bay c.0) (known.connection new.bay c.0) (closes.connections c.0)) (Ended e) ended)

-- ---- its acts

pub record Steps (B : Type 0) : Type 0 where
  pub accepts : AcceptKeeps B
  pub reads : ReceiveKeeps B
  pub writes : SendKeeps B
  pub draws : DrawKeeps B

act_keeps : Causes → {B : Type 0} → Steps B → (known : Known B) (phase : Phase) (were_opened : ℕ → Bool) (act : Act) (old new : Seen B) → ActsSo known phase act old new
    → IsSteady known phase were_opened old → IsSteady known phase were_opened new
act_keeps causes steps known phase were_opened (Accepting answer) old new is steady = steps.accepts known phase were_opened old new answer is steady
act_keeps causes steps known phase were_opened (Reading c answer) old new is steady = steps.reads known phase were_opened c old new answer is steady
act_keeps causes steps known phase were_opened (Writing c max answer) old new is steady = steps.writes known phase were_opened c max old new answer is.1 steady
act_keeps causes steps known phase were_opened (Drawn c drawing) old new is steady = steps.draws known phase were_opened c drawing old new is steady
act_keeps causes steps known phase were_opened (Closing c e) old new is steady = close_keeps causes known phase were_opened c e old new is steady

pub settling_keeps : Causes → {B : Type 0} → Steps B → SettlingKeeps B
settling_keeps causes steps known phase were_opened [] old new is steady = subst (IsSteady known phase were_opened) (sym is) steady
settling_keeps causes steps known phase were_opened (act ∷ acts) old new is steady =
    settling_keeps causes steps known phase were_opened acts is.0 new is.2 (act_keeps causes steps known phase were_opened act old is.0 is.1 steady)

-- ---- causes

pub cause_came : Causes → {B : Type 0} → CauseCame B
cause_came causes {B = B} known were_opened began s k connection now e steady opened cause = go (slice_get began.slots k) refl
  where
    at : slice_get s.slots k ≡ Some (Open connection)
    at = open_slot s.slots k connection opened

    since : (slot : Slot ConnectionSeen End) → slice_get began.slots k ≡ Some slot → HasCause began.desk (λ j. known.connection began.bay k) now k e
    since slot is = causes.count_earlier began.desk (λ j. known.connection began.bay k) (known.connection s.bay) now k e (steady.since.1.counts k (slice_get_within began.slots k slot is)) cause

    go : (slot : Option (Slot ConnectionSeen End)) → slice_get began.slots k ≡ slot → EndsSince known.tells began.desk slot (known.connection began.bay k) now k e
    go None is = causes.count_earlier began.desk (λ j. fresh_connection known.tells) (known.connection s.bay) now k e
        (fresh_earlier known.tells s.desk were_opened k (known.connection s.bay k) connection (steady.slots k (Open connection) at)) cause
    go (Some (Open c)) is = since (Open c) is
    go (Some Away) is = since Away is
    go (Some (Ended e')) is = absurd (cc (sym at ∙ steady.since.1.ended k e' is))

module _ (causes : Causes) (tells : Bool) (desk : List Window) (now : ℕ → ConnectionRecord) (k : ℕ) (e : End) where
  -- an end of a step speaks of no desktop
  of_step : EndsByStep tells now k e → HasCause desk (λ j. fresh_connection tells) now k e
  of_step ends = causes.any_desk [] desk (λ j. fresh_connection tells) now k e (not_settled e ends.of_steps) ends.cause

pub all_end_rightly : Causes → {B : Type 0} → AllEndRightly B
all_end_rightly causes {B = B} known were_opened began s k e started steady found = go (slice_get began.slots k) refl (steady.slots k (Ended e) found).cause
  where
    go : (slot : Option (Slot ConnectionSeen End)) → slice_get began.slots k ≡ slot → EndsSince known.tells began.desk slot (known.connection began.bay k) (known.connection s.bay) k e
        → HasCause began.desk (λ j. fresh_connection known.tells) (known.connection s.bay) k e
    go None is cause = cause
    go (Some (Open c)) is cause = causes.count_earlier began.desk (λ j. fresh_connection known.tells) (λ j. known.connection began.bay k) (known.connection s.bay) k e
        (fresh_earlier known.tells began.desk were_opened k (known.connection began.bay k) c (started.slots k (Open c) is)) cause
    go (Some Away) is cause = absurd (started.slots k Away is)
    go (Some (Ended e')) is cause = of_step causes known.tells began.desk (known.connection s.bay) k e cause.1
