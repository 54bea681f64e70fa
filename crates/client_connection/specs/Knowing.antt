-- Each step keeps what is kept of the bytes that a client gave, and what that comes to. This project's own.
use Rattle.std.specs.Prelude.{ℕ, ◌≡◌, Bool, true, false, Some, List, ◌++◌}
use Rattle.xp_base.specs.Told.{told_append}
use Rattle.link_bay.specs.Connections.{ConnectionRecord, fresh_connection}
use Rattle.window_model.specs.Desktop.{Window}
use Rattle.first_script.specs.declared.paint.Paint.{Paint}
use Rattle.first_script.specs.Painting.{painted}
use Rattle.first_script.specs.Validity.{ArePaints}
use Rattle.client_connection.specs.declared.answers.Captured.{Captured}
use Rattle.client_connection.specs.declared.answers.Sent.{Sent}
use Rattle.client_connection.specs.declared.source.Source.{Source}
use Rattle.client_connection.specs.Clients.{ClientSeen, fresh_client, painted_client}
use Rattle.client_connection.specs.Delivery.{find_source}
use Rattle.client_connection.specs.Hearing.{Hears, IsUnbuilt}
use Rattle.client_connection.specs.Sending.{Writes}
use Rattle.client_connection.specs.Capturing.{CapturesWindow}
use Rattle.client_connection.specs.Told.{IsToldFor}
use Rattle.client_connection.specs.Given.{HasHello, IsBuilt, IsGiven, IsKnown}
use Rattle.client_connection.specs.Mapped.{IsMapped}

-- it is so of a client that was just accepted, and a paint line, a read, a capture and a write keep it
abbrev pub FreshKnows : Type 0
FreshKnows = (tells : Bool) (lines : List Paint) (desk : List Window) → IsKnown tells lines desk fresh_client (fresh_connection tells)

abbrev pub PaintKnows : Type 0
PaintKnows = (tells : Bool) (lines : List Paint) (desk : List Window) (line : Paint) (c : ClientSeen) (r : ConnectionRecord)
    → IsKnown tells lines desk c r → IsKnown tells lines (painted desk line) (painted_client line c) r

abbrev pub HearingKnows : Type 0
HearingKnows = (tells : Bool) (lines : List Paint) (desk : List Window) (bytes : List ℕ) (r : ConnectionRecord) (c c' : ClientSeen) → Hears lines desk c bytes c'
    → IsToldFor desk c r.sent → IsKnown tells lines desk c r → IsKnown tells lines desk c' (record r { given = told_append r.given bytes })

abbrev pub CaptureKnows : Type 0
CaptureKnows = (tells : Bool) (lines : List Paint) (desk : List Window) (window : Window) (r : ConnectionRecord) (c c' : ClientSeen) (answer : Captured) → CapturesWindow window c answer c'
    → IsKnown tells lines desk c r → IsKnown tells lines desk c' r

abbrev pub WriteKnows : Type 0
WriteKnows = (tells : Bool) (lines : List Paint) (desk : List Window) (most : ℕ) (was now : ConnectionRecord) (c c' : ClientSeen) (answer : Sent) → Writes most was now c answer c'
    → IsToldFor desk c was.sent → IsKnown tells lines desk c was → IsKnown tells lines desk c' now

-- a client whose hello was accepted gave it, and nothing that is not built
abbrev pub AttachedGaveHello : Type 0
AttachedGaveHello = (lines : List Paint) (c : ClientSeen) (given : List ℕ) → IsGiven lines c given → c.greeted ≡ true → HasHello given × IsBuilt lines given

-- one whose hello was not accepted gave no whole hello
abbrev pub OthersGaveNone : Type 0
OthersGaveNone = (lines : List Paint) (c : ClientSeen) (given : List ℕ) → IsGiven lines c given → c.greeted ≡ false → HasHello given → ⊥

-- where the bytes that come are unbuilt, all that was given is
abbrev pub UnbuiltIsGiven : Type 0
UnbuiltIsGiven = (lines : List Paint) (desk : List Window) (c : ClientSeen) (given bytes : List ℕ) → IsUnbuilt lines desk c bytes → IsGiven lines c given → IsBuilt lines (given ++ bytes) → ⊥

-- a window that the client mapped after it was shown has a mapped source
abbrev pub MappedIsMarked : Type 0
MappedIsMarked = (tells : Bool) (lines : List Paint) (desk : List Window) (c : ClientSeen) (r : ConnectionRecord) (wid : ℕ) → ArePaints lines → IsKnown tells lines desk c r → IsMapped r wid
    → (s : Source) × (find_source c.sources wid ≡ Some s) × (s.mapped ≡ true)
