-- What each end of a connection means, read from what the provider knows of it.
use Rattle.std.specs.Prelude.{ℕ, ◌+◌, ◌≤◌, ◌≡◌, ◌≢◌, ◌⊎◌, Bool, true, false, Option, Some, None, List, length, slice_get}
use Rattle.xp_base.specs.Counts.{Rose, RoseBy}
use Rattle.link_bay.specs.Connections.{ConnectionRecord}
use Rattle.window_model.specs.Desktop.{Window}
use Rattle.first_script.specs.declared.paint.Paint.{Paint}
use Rattle.client_connection.specs.declared.ends.End.{End}
use Rattle.client_connection.specs.declared.ends.End.TheVariants as end
use Rattle.client_connection.specs.Given.{IsBuilt, HasHello, TellsAll}
use Rattle.client_connection.specs.Mapped.{IsMapped}
use Rattle.client_connection.specs.Shown.{shows, Differs}
use Rattle.session_core.specs.State.{is_unended}
use Rattle.client_connection.specs.Told.{layout}
use Rattle.client_connection.specs.Wire.{client_limit}
use Rattle.packet_kinds.specs.Written.{Show}

-- The bytes sent are whole packets without a fault, and the client shows exactly the desktop: its windows in their order, at their
-- places, of their sizes, and in a window that it has mapped no point has another number.
pub record ShowsExactly (desk : List Window) (r : ConnectionRecord) (sent : List ℕ) : Type 0 where
  pub clean : Show client_limit sent (shows sent)
  pub laid : layout (shows sent) ≡ layout desk
  pub same : (wid x y : ℕ) → IsMapped r wid → Differs desk (shows sent) wid x y → ⊥

-- a settled client: after the last byte sent to it a read found nothing more (so no byte is unheard), it has said its hello and
-- nothing that is not built, and it shows exactly the desktop
pub record IsSettled (lines : List Paint) (desk : List Window) (r : ConnectionRecord) : Type 0 where
  pub read_out : r.unheard ≡ 0
  pub waited : r.waits ≢ 0
  pub said : (given : List ℕ) → r.given ≡ Some given → HasHello given × IsBuilt lines given
  pub shows : (sent : List ℕ) → r.sent ≡ Some sent → ShowsExactly desk r sent

-- the bytes are of no form that is built, where they are told
abbrev pub GaveUnbuilt : List Paint → Option (List ℕ) → Type 0
GaveUnbuilt lines None = Unit {0}
GaveUnbuilt lines (Some given) = IsBuilt lines given → ⊥

-- the bytes hold no whole hello, where they are told
abbrev pub GaveNoHello : Option (List ℕ) → Type 0
GaveNoHello None = Unit {0}
GaveNoHello (Some given) = HasHello given → ⊥

-- the causes for which a connection breaks off: a read or a write failed; a read met the end; 1,000 writes in a row took nothing;
-- or the client said what is not built
abbrev pub BreaksOff : List Paint → ConnectionRecord → Type 0
BreaksOff lines r = (r.faults ≢ 0) ⊎ (r.ends ≢ 0) ⊎ ((1000 ≤ r.dry) × (1000 ≤ r.drought)) ⊎ GaveUnbuilt lines r.given

-- the causes of the end `Unbuilt`: those, or a read had to wait for a client that has not said its whole hello
abbrev pub IsUnbuiltFor : List Paint → ConnectionRecord → Type 0
IsUnbuiltFor lines r = BreaksOff lines r ⊎ ((r.waits ≢ 0) × GaveNoHello r.given)

-- the same, where only what came after this time counts: a fault, an end, 1,000 writes that took nothing, of which the last
-- 1,000 are in a row; but all bytes that the client said
abbrev pub BreaksOffSince : List Paint → ConnectionRecord → ConnectionRecord → Type 0
BreaksOffSince lines was r = Rose was.faults r.faults ⊎ Rose was.ends r.ends ⊎ (RoseBy 1000 was.dry r.dry × (1000 ≤ r.drought)) ⊎ GaveUnbuilt lines r.given

-- those, or a read after this time had to wait for a client that has not said its whole hello
abbrev pub IsUnbuiltSince : List Paint → ConnectionRecord → ConnectionRecord → Type 0
IsUnbuiltSince lines was r = BreaksOffSince lines was r ⊎ (Rose was.waits r.waits × GaveNoHello r.given)

-- a write leaves what was read and how often a read had to wait
abbrev pub ReadsStay : ConnectionRecord → ConnectionRecord → Type 0
ReadsStay was now = (now.given ≡ was.given) × (now.waits ≡ was.waits)

-- with so many bytes more it will have given as many as may be read
abbrev pub ReachesFlood : ℕ → Option (List ℕ) → Type 0
ReachesFlood budget None = Unit {0}
ReachesFlood budget (Some given) = 4194304 ≤ budget + length given

-- what the end means; `Short`, want of memory, may come at any time
abbrev pub EndMeans : List Paint → List Window → End → ConnectionRecord → Type 0
EndMeans lines desk end.Settled r = IsSettled lines desk r
EndMeans lines desk end.Unbuilt r = IsUnbuiltFor lines r
EndMeans lines desk end.Short r = Unit {0}
EndMeans lines desk end.Unended r = Unit {0}

-- what an end means that reads alone or writes alone give, from this time on
abbrev pub DropMeans : List Paint → ConnectionRecord → End → ConnectionRecord → Type 0
DropMeans lines was end.Settled r = ⊥
DropMeans lines was end.Unbuilt r = BreaksOffSince lines was r
DropMeans lines was end.Short r = Unit {0}
DropMeans lines was end.Unended r = ⊥

-- what an end means that rounds of reads, captures and writes give
abbrev pub RoundsMean : List Paint → ConnectionRecord → End → ConnectionRecord → Type 0
RoundsMean lines was end.Settled r = ⊥
RoundsMean lines was end.Unbuilt r = IsUnbuiltSince lines was r
RoundsMean lines was end.Short r = Unit {0}
RoundsMean lines was end.Unended r = ⊥

-- what an end means that settling a connection gives: of its reads one had to wait, where it is `Settled`
abbrev pub SettlingMeans : List Paint → ConnectionRecord → End → ConnectionRecord → Type 0
SettlingMeans lines was end.Settled r = Rose was.waits r.waits
SettlingMeans lines was end.Unbuilt r = IsUnbuiltSince lines was r
SettlingMeans lines was end.Short r = Unit {0}
SettlingMeans lines was end.Unended r = ⊥

-- an end with its cause, and a provider that tells its bytes tells those of the connection
pub record HasCause (tells : Bool) (lines : List Paint) (desk : List Window) (e : End) (r : ConnectionRecord) : Type 0 where
  pub means : EndMeans lines desk e r
  pub tells_all : TellsAll tells r

-- the connection has ended between these two times
abbrev pub HasEnded : List End → List End → ℕ → End → Type 0
HasEnded old new k e = (slice_get new k ≡ Some e) × (is_unended e ≡ false) × ((was : End) → slice_get old k ≡ Some was → is_unended was ≡ true)

-- each connection that has ended between these two times has its cause
abbrev pub EndsHaveCauses : Bool → List Paint → List Window → (ℕ → ConnectionRecord) → List End → List End → Type 0
EndsHaveCauses tells lines desk connection old new = (k : ℕ) (e : End) → HasEnded old new k e → HasCause tells lines desk e (connection k)

-- what is known of a connection that had ended stays
abbrev pub EndedStay : (ℕ → ConnectionRecord) → (ℕ → ConnectionRecord) → List End → Type 0
EndedStay was now ends = (k : ℕ) (e : End) → slice_get ends k ≡ Some e → is_unended e ≡ false → now k ≡ was k
