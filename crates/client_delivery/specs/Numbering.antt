-- Each step of an attached client keeps its numbering.
use Rattle.std.specs.Prelude.{ℕ, ◌≡◌, ◌+◌, ◌≤◌, false, None, List, length}
use Rattle.std.specs.List.{AllByRecursion}
use Rattle.xp_base.specs.Captures.{Captured}
use Rattle.xp_base.specs.Points.{Rectangle}
use Rattle.delivery_model.specs.Events.{Planned, damaged}
use Rattle.window_model.specs.Desktop.{Window}
use Rattle.packet_kinds.specs.declared.to_client.ToClient.{ToClient}
use Rattle.client_outbox.specs.Reliefs.{draws_in}
use Rattle.window_source.specs.Waiting.{Queued}
use Rattle.client_delivery.specs.Attached.{AttachedSeen, find_source}
use Rattle.client_delivery.specs.Delivered.{is_draw}
use Rattle.client_delivery.specs.Numbered.{AreNumbered}
use Rattle.client_delivery.specs.Steps.{Attaches, Quiet, quiet, changes_source, Opens, Closes, Resizes, PutsAlone, Captures, Files, writes}

abbrev pub AttachNumbers : Type 0
AttachNumbers = (desk : List Window) (conn now next : ℕ) (a : AttachedSeen) → 1 ≤ next → Attaches desk conn now a → AreNumbered next a

abbrev pub QuietNumbers : Type 0
QuietNumbers = (next k : ℕ) (q : Quiet) (a : AttachedSeen) → 1 ≤ next → AreNumbered next a → AreNumbered next (changes_source k (quiet q) a)

abbrev pub PaintNumbers : Type 0
PaintNumbers = (next k : ℕ) (r : Rectangle) (now : ℕ) (a : AttachedSeen) → 1 ≤ next → AreNumbered next a → AreNumbered next (changes_source k (damaged r now) a)

abbrev pub OpenNumbers : Type 0
OpenNumbers = (next : ℕ) (window : Window) (conn now : ℕ) (a a' : AttachedSeen) → 1 ≤ next → find_source a.sources window.wid ≡ None
    → AllByRecursion (λ (p : Queued). draws_in window.wid p ≡ false) a.out.packets → Opens window conn now a a' → AreNumbered next a → AreNumbered next a'

abbrev pub CloseNumbers : Type 0
CloseNumbers = (next k : ℕ) (a a' : AttachedSeen) → Closes k a a' → AreNumbered next a → AreNumbered next a'

abbrev pub ResizeNumbers : Type 0
ResizeNumbers = (next k w h now : ℕ) (a a' : AttachedSeen) → 1 ≤ next → Resizes k w h now a a' → AreNumbered next a → AreNumbered next a'

abbrev pub PutNumbers : Type 0
PutNumbers = (next : ℕ) (m : ToClient) (a a' : AttachedSeen) → is_draw m ≡ false → PutsAlone m a a' → AreNumbered next a → AreNumbered next a'

abbrev pub CaptureNumbers : Type 0
CaptureNumbers = (next : ℕ) (window : Window) (plan : List Planned) (first : ℕ) (a a' : AttachedSeen) → 1 ≤ next → next ≤ first → Captures window plan first a a' → AreNumbered next a → AreNumbered (first + length plan) a'

abbrev pub FileNumbers : Type 0
FileNumbers = (next k number : ℕ) (capture : Captured) (now : ℕ) (a a' : AttachedSeen) → 1 ≤ next → Files k number capture now a a' → AreNumbered next a → AreNumbered next a'

abbrev pub WriteNumbers : Type 0
WriteNumbers = (next n : ℕ) (a : AttachedSeen) → 1 ≤ next → AreNumbered next a → AreNumbered next (writes n a)

-- it stands while other windows take numbers
abbrev pub NumberingWaits : Type 0
NumberingWaits = (next later : ℕ) (a : AttachedSeen) → next ≤ later → AreNumbered next a → AreNumbered later a
