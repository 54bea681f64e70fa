-- What is kept of all connections, by their numbers: a slot for each, which is empty where it has ended.
use Rattle.std.specs.Prelude.{ℕ, ◌≡◌, Bool, true, false, IsSomeAnd, Option, Some, None, List, map}
use Rattle.std.specs.Option.{option_map}
use Rattle.link_bay.specs.Connections.{ConnectionRecord}
use Rattle.window_model.specs.Desktop.{Window}
use Rattle.first_script.specs.declared.paint.Paint.{Paint}
use Rattle.client_connection.specs.declared.answers.Captured.{Captured}
use Rattle.client_connection.specs.declared.answers.Captured.TheVariants as C
use Rattle.client_connection.specs.declared.answers.Sent.{Sent}
use Rattle.client_connection.specs.declared.answers.Sent.TheVariants as S
use Rattle.client_connection.specs.Clients.{ClientSeen, plain}
use Rattle.client_connection.specs.Hearing.{Hears}
use Rattle.client_connection.specs.Capturing.{CapturesWindow}
use Rattle.client_connection.specs.Sending.{Writes, Fails}
use Rattle.client_connection.specs.Owed.{client_owes}
use Rattle.client_connection.specs.Told.{IsToldFor}
use Rattle.client_connection.specs.Given.{IsKnown}
use Rattle.session_core.specs.State.{Seen, open_client}

-- what is kept of each connection, by its number; none where it has ended
abbrev pub plain_clients : List (Option ClientSeen) → List (Option ClientSeen)
plain_clients clients = map (option_map plain) clients

-- what hearing, a capture and a write do to a slot
abbrev pub HearsSlot : List Paint → List Window → Option ClientSeen → List ℕ → Option ClientSeen → Type 0
HearsSlot lines desk None bytes slot' = slot' ≡ None
HearsSlot lines desk (Some c) bytes slot' = (c' : ClientSeen) × Hears lines desk c bytes c' × (slot' ≡ Some c')

abbrev pub CapturesSlot : Window → Option ClientSeen → Captured → Option ClientSeen → Type 0
CapturesSlot window None answer slot' = (answer ≡ C.Closed) × (slot' ≡ None)
CapturesSlot window (Some c) answer slot' = (c' : ClientSeen) × CapturesWindow window c answer c' × (slot' ≡ Some c')

abbrev pub WritesSlot : ℕ → ConnectionRecord → ConnectionRecord → Option ClientSeen → Sent → Option ClientSeen → Type 0
WritesSlot most was now None answer slot' = (answer ≡ S.Closed) × (now ≡ was) × (slot' ≡ None)
WritesSlot most was now (Some c) answer slot' = (c' : ClientSeen) × Writes most was now c answer c' × (slot' ≡ Some c')

abbrev pub FailsSlot : ℕ → ConnectionRecord → ConnectionRecord → Option ClientSeen → Type 0
FailsSlot most was now None = ⊥
FailsSlot most was now (Some c) = Fails most was now c

-- the connection is open and its hello was accepted
abbrev pub IsAttached : List (Option ClientSeen) → ℕ → Type 0
IsAttached clients k = IsSomeAnd (open_client clients k) (λ (c : ClientSeen). c.greeted ≡ true)

-- what is owed on a connection
abbrev pub slot_owes : ℕ → ℕ → ℕ → Option ClientSeen → Bool
slot_owes wid x y None = false
slot_owes wid x y (Some c) = client_owes wid x y c

abbrev pub owes : {B : Type 0} → Seen B → ℕ → ℕ → ℕ → ℕ → Bool
owes s k wid x y = slot_owes wid x y (open_client s.clients k)

-- what is kept of a client and the bytes sent to it, of every connection that is open
abbrev pub AreTold : (ℕ → ConnectionRecord) → List Window → List (Option ClientSeen) → Type 0
AreTold connection desk clients = (k : ℕ) (c : ClientSeen) → open_client clients k ≡ Some c → IsToldFor desk c (connection k).sent

-- and what is kept of the bytes that it gave
abbrev pub AreKnown : Bool → (ℕ → ConnectionRecord) → List Paint → List Window → List (Option ClientSeen) → Type 0
AreKnown tells connection lines desk clients = (k : ℕ) (c : ClientSeen) → open_client clients k ≡ Some c → IsKnown tells lines desk c (connection k)
