-- How a settling ends.
use Rattle.std.specs.Prelude.{ℕ, ◌≡◌, ◌<◌, Bool, true, false, Option, None, Some, slice_get, length}
use Rattle.xp_base.specs.Counts.{Rose}
use Rattle.link_bay.specs.Connections.{AllStay}
use Rattle.connection_table.specs.Tables.{Slot, Open, Away, Ended, open_at, open_count}
use Rattle.connection_ends.specs.declared.end.End.{End}
use Rattle.connection_ends.specs.declared.end.End.TheVariants as E
use Rattle.open_connection.specs.Connection.{ConnectionSeen}
use Rattle.session_steps.specs.Seen.{Known, Seen}
use Rattle.session_settling.specs.declared.turns.How.{How}
use Rattle.session_settling.specs.declared.turns.How.TheVariants as H
use Rattle.session_settling.specs.declared.turns.Next.{Next}
use Rattle.session_settling.specs.declared.turns.Next.TheVariants as N

-- no connection is open
abbrev pub LeavesNone : {B : Type 0} → Seen B → Type 0
LeavesNone s = (k : ℕ) → open_at s.slots k ≡ None

-- the ends that no settled connection has: for want of memory, and because the run stopped
abbrev pub is_lost : End → Bool
is_lost E.Settled = false
is_lost E.Left = false
is_lost (E.Refused fault) = false
is_lost (E.Broken place fault) = false
is_lost (E.TakenOver c) = false
is_lost E.LinkFault = false
is_lost E.Stalled = false
is_lost E.Flooded = false
is_lost E.Silent = false
is_lost E.Short = true
is_lost E.Unended = true

-- no connection more ended so
abbrev pub NoMoreLost : {B : Type 0} → Seen B → Seen B → Type 0
NoMoreLost old new = (k : ℕ) (e : End) → is_lost e ≡ true → slice_get new.slots k ≡ Some (Ended e) → slice_get old.slots k ≡ Some (Ended e)

-- nobody came any more, and none is open
pub record SettlesAll {B : Type 0} (known : Known B) (old new : Seen B) : Type 0 where
  pub lulls : Rose (known.provider old.bay).lulls (known.provider new.bay).lulls
  pub served : known.tells ≡ true → (known.provider new.bay).room ≡ 0
  pub faults : (known.provider new.bay).faults ≡ (known.provider old.bay).faults
  pub none : LeavesNone new
  pub lost : NoMoreLost old new

-- an accept failed
pub record MeetsFault {B : Type 0} (known : Known B) (old new : Seen B) : Type 0 where
  pub faults : Rose (known.provider old.bay).faults (known.provider new.bay).faults
  pub lost : NoMoreLost old new

abbrev pub SettlesAs : {B : Type 0} → Known B → Seen B → How → Seen B → Type 0
SettlesAs known old H.Settled new = SettlesAll known old new
SettlesAs known old H.NoMemory new = (known.provider new.bay).faults ≡ (known.provider old.bay).faults
SettlesAs known old H.BayFault new = MeetsFault known old new

-- by how it ended; the provider was asked for no peer
pub record SettledSo {B : Type 0} (known : Known B) (old : Seen B) (how : How) (new : Seen B) : Type 0 where
  pub asked : (known.provider new.bay).asked ≡ (known.provider old.bay).asked
  pub ends : SettlesAs known old how new

-- it ended so
abbrev pub has_lost : Option End → Bool
has_lost None = false
has_lost (Some e) = is_lost e

-- The open connection of least number has ended; or there was none. The provider was asked nothing.
pub record EndsNext {B : Type 0} (known : Known B) (old new : Seen B) : Type 0 where
  pub provider : known.provider new.bay ≡ known.provider old.bay
  pub fewer : open_count new.slots < open_count old.slots

abbrev pub NextEnds : {B : Type 0} → Known B → Seen B → Next → Seen B → Type 0
NextEnds known old N.NoneOpen new = LeavesNone old × (new ≡ old)
NextEnds known old N.Ended new = EndsNext known old new × NoMoreLost old new
NextEnds known old N.Lost new = EndsNext known old new

-- each connection that was open is closed with the end `Unended`, and every other one is as before
abbrev pub closed : Slot ConnectionSeen End → Slot ConnectionSeen End
closed (Open connection) = Ended E.Unended
closed Away = Away
closed (Ended e) = Ended e

pub record ClosesAll {B : Type 0} (known : Known B) (old new : Seen B) : Type 0 where
  pub provider : known.provider new.bay ≡ known.provider old.bay
  pub connections : AllStay (known.connection old.bay) (known.connection new.bay)
  pub desk : new.desk ≡ old.desk
  pub long : length new.slots ≡ length old.slots
  pub each : (k : ℕ) (slot : Slot ConnectionSeen End) → slice_get old.slots k ≡ Some slot → slice_get new.slots k ≡ Some (closed slot)
