-- A session is settled, or given up.
use Rattle.std.specs.Prelude.{ℕ, ◌≡◌, Some, List, map, slice_get}
use Rattle.link_bay.specs.Connections.{fresh_connection}
use Rattle.window_model.specs.Desktop.{Window}
use Rattle.connection_table.specs.Tables.{Ended}
use Rattle.connection_ends.specs.Causes.{HasCause}
use Rattle.connection_ends.specs.declared.end.End.{End}
use Rattle.session_steps.specs.Seen.{Known, Seen}
use Rattle.session_steps.specs.Settling.{Act, settling_from, SettlesBy}
use Rattle.session_settling.specs.Settled.{SettledSo, ClosesAll}
use Rattle.session_settling.specs.declared.turns.How.{How}

-- a session whose connections have all ended so, with this provider
pub record HasEnded {B : Type 0} (ends : List End) (bay : B) (s : Seen B) : Type 0 where
  pub each : s.slots ≡ map Ended ends
  pub provider : s.bay ≡ bay

-- Acts lead from the session to one that is settled so; then each connection that is still open is closed. So all ends of a settled
-- session are those of settling and those from before.
pub record SettlesTo {B : Type 0} (known : Known B) (began : Seen B) (how : How) (ends : List End) (bay : B) : Type 0 where
  pub settled : Seen B
  pub last : Seen B
  pub acts : List Act
  pub by : SettlesBy known (settling_from known began) acts began last
  pub so : SettledSo known began how settled
  pub closes : ClosesAll known settled last
  pub ended : HasEnded ends bay last

-- each connection's end has its cause, on this desktop, since it was handed out
abbrev pub EndRightly : {B : Type 0} → Known B → List Window → List End → B → Type 0
EndRightly known desk ends bay = (k : ℕ) (e : End) → slice_get ends k ≡ Some e → HasCause desk (λ j. fresh_connection known.tells) (known.connection bay) k e

-- each open connection is closed with the end `Unended`
pub record AbandonsTo {B : Type 0} (known : Known B) (old : Seen B) (ends : List End) (bay : B) : Type 0 where
  pub last : Seen B
  pub closes : ClosesAll known old last
  pub ended : HasEnded ends bay last
