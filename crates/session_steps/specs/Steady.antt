-- What every session keeps.
use Rattle.std.specs.Prelude.{ℕ, ◌≡◌, ◌≤◌, ◌<◌, ◌^◌, Bool, true, Option, Some, None, List, [], length, slice_get}
use Rattle.xp_base.specs.Clocks.{last_moment}
use Rattle.link_bay.specs.Connections.{ConnectionRecord, fresh_connection}
use Rattle.link_bay.specs.Provider.{ProviderRecord}
use Rattle.window_model.specs.Desktop.{Window, IsDesktop}
use Rattle.client_delivery.specs.Keeping.{HoldsDesk}
use Rattle.connection_table.specs.Tables.{Slot, Open, Away, Ended, open_count}
use Rattle.connection_ends.specs.Causes.{HasCause, IsOfSteps}
use Rattle.connection_ends.specs.Laws.{IsEarlier}
use Rattle.connection_ends.specs.declared.end.End.{End}
use Rattle.connection_ends.specs.declared.end.End.TheVariants as E
use Rattle.open_connection.specs.Connection.{ConnectionSeen}
use Rattle.connection_steps.specs.Kept.{IsConnection}
use Rattle.session_steps.specs.Seen.{Known, Seen}
use Rattle.session_steps.specs.Accepting.{capacity}

-- a connection that took another over was handed out
abbrev pub TakerIsKnown : ℕ → End → Type 0
TakerIsKnown count (E.TakenOver c) = c.0 < count
TakerIsKnown count e = Unit {0}

-- steps are taken; or a session is settled, since its desktop, its slots and what was known of the connections were these
pub data Phase : Type 0 where
  Stepping : Phase
  Settling : List Window → List (Slot ConnectionSeen End) → (ℕ → ConnectionRecord) → Phase

-- connection k ended by a step, with a cause that came since it was handed out; no such end speaks of the desktop
pub record EndsByStep (tells : Bool) (connection : ℕ → ConnectionRecord) (k : ℕ) (e : End) : Type 0 where
  pub of_steps : IsOfSteps e
  pub cause : HasCause [] (λ j. fresh_connection tells) connection k e

-- by what its slot was as settling began: one that had ended keeps that end; of any other the cause came since then, or since it was
-- handed out
abbrev pub EndsSince : Bool → List Window → Option (Slot ConnectionSeen End) → ConnectionRecord → (ℕ → ConnectionRecord) → ℕ → End → Type 0
EndsSince tells desk None was connection k e = HasCause desk (λ j. fresh_connection tells) connection k e
EndsSince tells desk (Some (Open c)) was connection k e = HasCause desk (λ j. was) connection k e
EndsSince tells desk (Some Away) was connection k e = HasCause desk (λ j. was) connection k e
EndsSince tells desk (Some (Ended earlier)) was connection k e = (e ≡ earlier) × EndsByStep tells connection k e

abbrev pub EndsIn : Bool → Phase → (ℕ → ConnectionRecord) → ℕ → End → Type 0
EndsIn tells Stepping connection k e = EndsByStep tells connection k e
EndsIn tells (Settling desk slots was) connection k e = EndsSince tells desk (slice_get slots k) (was k) connection k e

-- connection k ended with a cause
pub record HasEnded (tells : Bool) (phase : Phase) (connection : ℕ → ConnectionRecord) (count k : ℕ) (e : End) : Type 0 where
  pub taker : TakerIsKnown count e
  pub cause : EndsIn tells phase connection k e

-- what is kept of connection k
abbrev pub IsSlot : Bool → Phase → List Window → (ℕ → Bool) → (ℕ → ConnectionRecord) → ℕ → ℕ → Slot ConnectionSeen End → Type 0
IsSlot tells phase desk were_opened connection count k (Open c) = IsConnection tells desk were_opened k (connection k) c
IsSlot tells phase desk were_opened connection count k Away = ⊥
IsSlot tells phase desk were_opened connection count k (Ended e) = HasEnded tells phase connection count k e

-- what is kept of all connections
abbrev pub AreSlots : Bool → Phase → List Window → (ℕ → Bool) → (ℕ → ConnectionRecord) → ℕ → List (Slot ConnectionSeen End) → Type 0
AreSlots tells phase desk were_opened connection count slots = (k : ℕ) (slot : Slot ConnectionSeen End) → slice_get slots k ≡ Some slot → IsSlot tells phase desk were_opened connection count k slot

-- since settling began connections were only handed out more, counts only rose, and what had ended stays so
pub record GoesOnSince (began : List (Slot ConnectionSeen End)) (was : ℕ → ConnectionRecord) (slots : List (Slot ConnectionSeen End)) (connection : ℕ → ConnectionRecord) : Type 0 where
  pub longer : length began ≤ length slots
  pub counts : (k : ℕ) → k < length began → IsEarlier (was k) (connection k)
  pub ended : (k : ℕ) (e : End) → slice_get began k ≡ Some (Ended e) → slice_get slots k ≡ Some (Ended e)

-- nothing is painted while a session is settled
abbrev pub IsSince : Phase → List Window → List (Slot ConnectionSeen End) → (ℕ → ConnectionRecord) → Type 0
IsSince Stepping desk slots connection = Unit {0}
IsSince (Settling began_desk began was) desk slots connection = (desk ≡ began_desk) × GoesOnSince began was slots connection

-- The desktop is one, and its windows' numbers were opened; place k of the slots is the provider's connection k, and what is
-- kept of each is kept; their numbers are of 32 bits; at most `capacity` are open; and an accept failed only where the provider had a
-- fault.
pub record IsSteady {B : Type 0} (known : Known B) (phase : Phase) (were_opened : ℕ → Bool) (s : Seen B) : Type 0 where
  pub desktop : IsDesktop s.desk
  pub holds : HoldsDesk s.desk were_opened
  pub clocked : s.clock ≤ last_moment
  pub counted : length s.slots ≡ (known.provider s.bay).count
  pub numbered : (known.provider s.bay).count < 2 ^ 32
  pub few : open_count s.slots ≤ capacity
  pub failed : s.accept_failed ≡ true → 1 ≤ (known.provider s.bay).faults
  pub slots : AreSlots known.tells phase s.desk were_opened (known.connection s.bay) (length s.slots) s.slots
  pub since : IsSince phase s.desk s.slots (known.connection s.bay)
