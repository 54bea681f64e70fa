-- Each step of an attached client keeps that each of its windows is the model's.
use Rattle.std.specs.Prelude.{ℕ, ◌≡◌, ◌==◌, ◌≤◌, ◌*◌, Bool, true, false, ℤ, Option, Some, None, List, [], ◌∷◌, ◌++◌, length, take}
use Rattle.xp_base.specs.Captures.{Captured}
use Rattle.xp_base.specs.Grid.{place_of}
use Rattle.xp_base.specs.Points.{Rectangle, is_in, is_within}
use Rattle.delivery_model.specs.Grids.{number}
use Rattle.delivery_model.specs.Events.{Planned, damaged}
use Rattle.window_model.specs.Desktop.{Window, IsWindow, IsDesktop, find_window, has_window, fresh_window, changed_window, opened, without_window, raised, moved_on, resized_on}
use Rattle.packet_kinds.specs.declared.to_client.ToClient.TheVariants as T
use Rattle.client_outbox.specs.Outgoing.{unwritten}
use Rattle.client_outbox.specs.Sending.{rest_of}
use Rattle.packet_kinds.specs.Written.{Show}
use Rattle.window_source.specs.Waiting.{client_limit}
use Rattle.client_delivery.specs.Attached.{AttachedSeen, find_source, grid_of}
use Rattle.client_delivery.specs.Delivered.{IsTold, layout}
use Rattle.client_delivery.specs.Owed.{shows}
use Rattle.client_delivery.specs.Steps.{Attaches, Quiet, quiet, changes_source, Opens, Closes, Resizes, PutsAlone, Captures, Files, writes}

-- the numbers opened so far hold those of the desktop
abbrev pub HoldsDesk : List Window → (ℕ → Bool) → Type 0
HoldsDesk desk were_opened = (k : ℕ) → has_window desk k ≡ true → were_opened k ≡ true

abbrev pub AttachTells : Type 0
AttachTells = (desk : List Window) (were_opened : ℕ → Bool) (conn now : ℕ) (a : AttachedSeen) → IsDesktop desk → HoldsDesk desk were_opened → Attaches desk conn now a → IsTold desk were_opened a []

abbrev pub QuietKeeps : Type 0
QuietKeeps = (desk : List Window) (were_opened : ℕ → Bool) (k : ℕ) (q : Quiet) (a : AttachedSeen) (sent : List ℕ) → IsTold desk were_opened a sent → IsTold desk were_opened (changes_source k (quiet q) a) sent

-- a window has other pixels in a rectangle alone
pub record IsPainted (r : Rectangle) (window window' : Window) : Type 0 where
  pub same : window' ≡ record window { pixels = window'.pixels }
  pub sized : length window'.pixels ≡ window.w * window.h
  pub outside : (x y : ℕ) → is_within window.w window.h x y ≡ true → is_in r x y ≡ false → number (grid_of window') x y ≡ number (grid_of window) x y

abbrev pub PaintKeeps : Type 0
PaintKeeps = (desk : List Window) (were_opened : ℕ → Bool) (r : Rectangle) (window window' : Window) (now : ℕ) (a : AttachedSeen) (sent : List ℕ) → IsDesktop desk → find_window desk window.wid ≡ Some window → IsPainted r window window'
    → IsTold desk were_opened a sent → IsTold (changed_window desk window.wid (λ w. window')) were_opened (changes_source window.wid (damaged r now) a) sent

-- a number is opened for the first time
pub record FirstOpens (k : ℕ) (old new : ℕ → Bool) : Type 0 where
  pub before : old k ≡ false
  pub after : new k ≡ true
  pub more : (j : ℕ) → new j ≡ false → old j ≡ false

abbrev pub OpenKeeps : Type 0
OpenKeeps = (desk : List Window) (old new : ℕ → Bool) (wid : ℕ) (x y : ℤ) (w h conn now : ℕ) (a a' : AttachedSeen) (sent : List ℕ) → IsWindow (fresh_window wid x y w h) → FirstOpens wid old new
    → Opens (fresh_window wid x y w h) conn now a a' → IsTold desk old a sent → IsTold (opened desk wid x y w h) new a' sent

abbrev pub CloseKeeps : Type 0
CloseKeeps = (desk : List Window) (were_opened : ℕ → Bool) (window : Window) (a a' : AttachedSeen) (sent : List ℕ) → IsDesktop desk → find_window desk window.wid ≡ Some window
    → Closes window.wid a a' → IsTold desk were_opened a sent → IsTold (without_window desk window.wid) were_opened a' sent

abbrev pub ResizeKeeps : Type 0
ResizeKeeps = (desk : List Window) (were_opened : ℕ → Bool) (window : Window) (w h now : ℕ) (a a' : AttachedSeen) (sent : List ℕ) → IsDesktop desk → find_window desk window.wid ≡ Some window
    → 1 ≤ w → w ≤ 4096 → 1 ≤ h → h ≤ 4096 → Resizes window.wid w h now a a' → IsTold desk were_opened a sent → IsTold (resized_on desk window.wid w h) were_opened a' sent

abbrev pub MoveKeeps : Type 0
MoveKeeps = (desk : List Window) (were_opened : ℕ → Bool) (window : Window) (x y : ℤ) (a a' : AttachedSeen) (sent : List ℕ) → IsDesktop desk → find_window desk window.wid ≡ Some window
    → PutsAlone (T.WindowMoveResize window.wid x y window.w window.h) a a' → IsTold desk were_opened a sent → IsTold (moved_on desk window.wid x y) were_opened a' sent

abbrev pub RaiseKeeps : Type 0
RaiseKeeps = (desk : List Window) (were_opened : ℕ → Bool) (window : Window) (a a' : AttachedSeen) (sent : List ℕ) → IsDesktop desk → find_window desk window.wid ≡ Some window
    → PutsAlone (T.RaiseWindow window.wid) a a' → IsTold desk were_opened a sent → IsTold (raised desk window.wid) were_opened a' sent

abbrev pub AnswerKeeps : Type 0
AnswerKeeps = (desk : List Window) (were_opened : ℕ → Bool) (t : ℤ) (a a' : AttachedSeen) (sent : List ℕ) → PutsAlone (T.PingEcho t) a a' → IsTold desk were_opened a sent → IsTold desk were_opened a' sent

abbrev pub CaptureKeeps : Type 0
CaptureKeeps = (desk : List Window) (were_opened : ℕ → Bool) (window : Window) (plan : List Planned) (first : ℕ) (a a' : AttachedSeen) (sent : List ℕ) → find_window desk window.wid ≡ Some window
    → Captures window plan first a a' → IsTold desk were_opened a sent → IsTold desk were_opened a' sent

abbrev pub FileKeeps : Type 0
FileKeeps = (desk : List Window) (were_opened : ℕ → Bool) (k number : ℕ) (capture : Captured) (now : ℕ) (a a' : AttachedSeen) (sent : List ℕ) → Files k number capture now a a' → IsTold desk were_opened a sent → IsTold desk were_opened a' sent

abbrev pub WriteKeeps : Type 0
WriteKeeps = (desk : List Window) (were_opened : ℕ → Bool) (n : ℕ) (a : AttachedSeen) (sent : List ℕ) → n ≤ length (rest_of a.out.packets a.out.taken) → IsDesktop desk
    → IsTold desk were_opened a sent → IsTold desk were_opened (writes n a) (sent ++ take n (rest_of a.out.packets a.out.taken))

-- once all that waits is sent the stream has no fault and nothing unread, and the client shows the desktop's windows in its order, with its places and sizes
abbrev pub WillShowTheDesktop : List Window → AttachedSeen → List ℕ → Type 0
WillShowTheDesktop desk a sent = (after : List Window) × Show client_limit (sent ++ unwritten a.out) after × (layout after ≡ layout desk)

abbrev pub ToldLaysOut : Type 0
ToldLaysOut = (desk : List Window) (were_opened : ℕ → Bool) (a : AttachedSeen) (sent : List ℕ) → IsTold desk were_opened a sent → WillShowTheDesktop desk a sent

-- the client shows no window with a number that no line so far has opened
abbrev pub ToldShowsOpened : Type 0
ToldShowsOpened = (desk : List Window) (were_opened : ℕ → Bool) (a : AttachedSeen) (sent : List ℕ) (k : ℕ) → IsTold desk were_opened a sent → were_opened k ≡ false → has_window (shows sent) k ≡ false
