-- What each end means, read from what the provider knows of the connections. The rules are this project's own.
use Rattle.std.specs.Prelude.{ℕ, ◌+◌, ◌<◌, ◌≤◌, ◌≡◌, ◌≢◌, ◌⊎◌, Option, Some, None, List, [], ◌++◌, length}
use Rattle.xp_base.specs.Counts.{Rose, RoseBy}
use Rattle.link_bay.specs.Connections.{ConnectionRecord}
use Rattle.packet_frames.specs.Written.{packet_bytes}
use Rattle.hello_caps.specs.Replies.{goodbye_value}
use Rattle.hello_caps.specs.declared.caps.Caps.{Caps}
use Rattle.window_model.specs.Desktop.{Window}
use Rattle.packet_kinds.specs.Talk.{talk}
use Rattle.packet_kinds.specs.Written.{Show}
use Rattle.client_talk.specs.declared.ending.Ending.{Ending}
use Rattle.client_talk.specs.declared.ending.Ending.TheVariants as W
use Rattle.client_talk.specs.Talked.{server_limit, HasGreeted, GoesOn, HasEnding}
use Rattle.client_talk.specs.Mapped.{IsMapped, client_limit}
use Rattle.client_delivery.specs.Delivered.{layout}
use Rattle.client_delivery.specs.Owed.{shows, Differs}
use Rattle.connection_ends.specs.declared.end.End.{End}
use Rattle.connection_ends.specs.declared.end.End.TheVariants as E

-- what bytes that are told have; of bytes that are not told nothing is known
abbrev pub TellsThat : Option (List ℕ) → (List ℕ → Type 0) → Type 0
TellsThat None P = Unit {0}
TellsThat (Some bytes) P = P bytes

-- the end of a connection whose talk ended so
abbrev pub end_of : Ending → End
end_of W.Left = E.Left
end_of (W.Refused fault) = E.Refused fault
end_of (W.Broken place fault) = E.Broken place fault

-- the bytes given end the talk so
abbrev pub EndsTalk : Ending → List ℕ → Type 0
EndsTalk ending given = HasEnding ending (talk server_limit given)

-- the bytes are the first of these
abbrev pub IsFrontOf : List ℕ → List ℕ → Type 0
IsFrontOf whole front = (more : List ℕ) × (whole ≡ front ++ more)

-- the later client's hello has the uuid of the earlier one's, and it is one
pub record ReturnsAs (earlier later : List ℕ) : Type 0 where
  pub caps : Caps
  pub caps' : Caps
  pub greeted : HasGreeted (talk server_limit earlier) caps
  pub greeted' : HasGreeted (talk server_limit later) caps'
  pub same : caps'.uuid ≡ caps.uuid
  pub named : caps.uuid ≢ []

-- so many bytes more were given, where they are told
abbrev pub GaveMore : ℕ → Option (List ℕ) → Option (List ℕ) → Type 0
GaveMore n None given = Unit {0}
GaveMore n (Some before) None = Unit {0}
GaveMore n (Some before) (Some given) = length before + n ≤ length given

-- the bytes given hold no whole packet
abbrev pub HasSaidNothing : List ℕ → Type 0
HasSaidNothing given = let t = talk server_limit given in t.first ≡ None

-- The bytes sent are whole packets without a fault, and the client shows exactly the desktop: its windows in their order, at their
-- places, of their sizes, and in a window that it has mapped no point has another number.
pub record ShowsExactly (desk : List Window) (r : ConnectionRecord) (sent : List ℕ) : Type 0 where
  pub clean : Show client_limit sent (shows sent)
  pub laid : layout (shows sent) ≡ layout desk
  pub same : (wid x y : ℕ) → IsMapped r wid → Differs desk (shows sent) wid x y → ⊥

-- A settled client: a read found nothing more after the last byte sent to it (so no byte is unheard), what it said is an accepted
-- hello and messages without a fault, none that it leaves, and it shows exactly the desktop.
pub record IsSettled (desk : List Window) (was now : ConnectionRecord) : Type 0 where
  pub read_out : now.unheard ≡ 0
  pub waited : Rose was.waits now.waits
  pub said : TellsThat now.given (λ given. (caps : Caps) × GoesOn (Some caps) (talk server_limit given))
  pub shows : TellsThat now.sent (ShowsExactly desk now)

-- What the end of connection k means, beside the desktop that it was ended with, and from this time on: counts rose and bytes were
-- given since then. `TakenOver` speaks of two connections.
abbrev pub HasCause : List Window → (ℕ → ConnectionRecord) → (ℕ → ConnectionRecord) → ℕ → End → Type 0
HasCause desk was now k E.Settled = IsSettled desk (was k) (now k)
HasCause desk was now k E.Left = TellsThat (now k).given (EndsTalk W.Left) ⊎ Rose (was k).ends (now k).ends
HasCause desk was now k (E.Refused fault) = TellsThat (now k).given (EndsTalk (W.Refused fault)) × TellsThat (now k).sent (IsFrontOf (packet_bytes (goodbye_value fault) None))
HasCause desk was now k (E.Broken place fault) = TellsThat (now k).given (EndsTalk (W.Broken place fault))
HasCause desk was now k (E.TakenOver c) = (k < c.0) × TellsThat (now k).given (λ given. TellsThat (now c.0).given (ReturnsAs given))
HasCause desk was now k E.LinkFault = Rose (was k).faults (now k).faults
HasCause desk was now k E.Stalled = RoseBy 1000 (was k).dry (now k).dry × (1000 ≤ (now k).drought)
HasCause desk was now k E.Flooded = GaveMore 4194304 (was k).given (now k).given
HasCause desk was now k E.Silent = Rose (was k).waits (now k).waits × TellsThat (now k).given HasSaidNothing
HasCause desk was now k E.Short = Unit {0}
HasCause desk was now k E.Unended = Unit {0}

-- the ends that the steps of a session give; the others come of settling and of stopping
abbrev pub IsOfSteps : End → Type 0
IsOfSteps E.Settled = ⊥
IsOfSteps E.Left = Unit {0}
IsOfSteps (E.Refused fault) = Unit {0}
IsOfSteps (E.Broken place fault) = Unit {0}
IsOfSteps (E.TakenOver c) = Unit {0}
IsOfSteps E.LinkFault = Unit {0}
IsOfSteps E.Stalled = ⊥
IsOfSteps E.Flooded = ⊥
IsOfSteps E.Silent = ⊥
IsOfSteps E.Short = Unit {0}
IsOfSteps E.Unended = ⊥
