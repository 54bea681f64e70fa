-- What the definitions of messages and pictures come to.
use Rattle.std.specs.Prelude.{ℕ, ◌-◌, ◌*◌, ◌≡◌, ◌≢◌, ◌<◌, ◌↔◌, ℤ, true, Option, Some, None, Ok, List, [], ◌++◌, length, map, fold, if◌then◌else◌}
use Rattle.std.specs.List.{AllByRecursion}
use Rattle.std.specs.Option.{option_and_then}
use Rattle.xp_base.specs.Points.{Rectangle, is_in, is_within}
use Rattle.xp_base.specs.Grid.{number_at}
use Rattle.xp_base.specs.Keyed.{HasDistinctKeys}
use Rattle.xp_base.specs.declared.coding.Coding.{Coding}
use Rattle.bencode_values.specs.declared.value.Value.{Value}
use Rattle.window_model.specs.Desktop.{Window, IsDesktop, find_window, fresh_window, resized_window}
use Rattle.rgb_encoders.specs.Decoded.{decoded_at, decoded, HoldsPixels}
use Rattle.packet_frames.specs.Stream.{packets_of}
use Rattle.packet_kinds.specs.declared.to_client.ToClient.{ToClient}
use Rattle.packet_kinds.specs.declared.to_client.ToClient.TheVariants as T
use Rattle.packet_kinds.specs.ToShapes.{to_client}
use Rattle.packet_kinds.specs.Fields.{IsInRange, IsNamed, HasFields}
use Rattle.packet_kinds.specs.Effects.{holds_pixels, drawn_window, effect, effect_on}
use Rattle.packet_kinds.specs.Picture.{picture}
use Rattle.packet_kinds.specs.Written.{IsMessage, Show}

-- whole packets followed by a message show what they showed, changed by the message
abbrev pub MessageFollows : Type 0
MessageFollows = (limit : ℕ) (sent bytes : List ℕ) (m : ToClient) (windows after : List Window)
    → Show limit sent windows → IsMessage limit bytes m → effect windows m ≡ Some after → Show limit (sent ++ bytes) after

-- a part of a message, short of all, changes nothing
abbrev pub PartShowsNothing : Type 0
PartShowsNothing = (limit : ℕ) (sent bytes front more : List ℕ) (m : ToClient) (windows : List Window)
    → Show limit sent windows → IsMessage limit bytes m → bytes ≡ front ++ more → more ≢ []
    → picture limit (sent ++ front) ≡ record { windows = windows; fault = None }

-- no message is empty
abbrev pub MessageHasBytes : Type 0
MessageHasBytes = (limit : ℕ) (bytes : List ℕ) (m : ToClient) → IsMessage limit bytes m → 8 < length bytes

-- what a client shows of one window depends on the packets on that window alone
abbrev pub OneWindowChanges : Type 0
OneWindowChanges = (windows after : List Window) (m : ToClient) (k : ℕ) → effect windows m ≡ Some after
    → find_window after k ≡ effect_on k (find_window windows k) m

-- no two windows have one number
abbrev pub AreDistinct : List Window → Type 0
AreDistinct windows = HasDistinctKeys (λ window. window.wid) windows

-- no packet makes a second window of one number
abbrev pub NumbersStayDistinct : Type 0
NumbersStayDistinct = (windows after : List Window) (m : ToClient) → AreDistinct windows → effect windows m ≡ Some after → AreDistinct after

-- a packet that is read has its numbers in their ranges; so, where it has a name and its further integers are of 64 bits, it has
-- what it needs to be written again
abbrev pub ReadIsInRange : Type 0
ReadIsInRange = (v : Value) (m : ToClient) → to_client v ≡ Ok m → IsInRange m

abbrev pub ReadHasFields : Type 0
ReadHasFields = (v : Value) (m : ToClient) → to_client v ≡ Ok m → IsNamed m → HasFields m

-- what a draw carries is bytes
abbrev pub HasBytes : ToClient → Type 0
HasBytes (T.Draw wid x y w h coding bytes sequence stride) = AllByRecursion (λ byte. byte < 256) bytes
HasBytes m = Unit {0}

-- where its numbers are in their ranges and its bytes are bytes, a packet keeps a desktop
abbrev pub EffectKeepsDesktop : Type 0
EffectKeepsDesktop = (windows after : List Window) (m : ToClient) → IsInRange m → HasBytes m → IsDesktop windows → effect windows m ≡ Some after → IsDesktop after

-- the picture of any bytes is a desktop, each window of its size
abbrev pub PictureIsDesktop : Type 0
PictureIsDesktop = (limit : ℕ) (bytes : List ℕ) → AllByRecursion (λ byte. byte < 256) bytes → IsDesktop (picture limit bytes).windows

-- a point of a drawn window shows the colour that was decoded for it in the rectangle, and what it showed elsewhere
abbrev pub DrawShows : Type 0
DrawShows = (window : Window) (r : Rectangle) (coding : Coding) (stride : ℕ) (bytes : List ℕ) (x y : ℕ)
    → length window.pixels ≡ window.w * window.h → is_within window.w window.h x y ≡ true
    → number_at window.w window.h (drawn_window r (decoded coding r.w r.h stride bytes) window).pixels x y
    ≡ (if is_in r x y then Some (decoded_at coding stride bytes (x - r.x) (y - r.y)) else number_at window.w window.h window.pixels x y)

-- a draw's bytes are taken for its pixels exactly where they hold them by the rules of decoding
abbrev pub DrawHoldsPixels : Type 0
DrawHoldsPixels = (coding : Coding) (w h stride : ℕ) (bytes : List ℕ) → (holds_pixels coding w h stride bytes ≡ true) ↔ HoldsPixels coding w h stride bytes

-- each point of a new window shows 0
abbrev pub NewWindowShows : Type 0
NewWindowShows = (wid : ℕ) (x y : ℤ) (w h a b : ℕ) → is_within w h a b ≡ true → number_at w h (fresh_window wid x y w h).pixels a b ≡ Some 0

-- a point of a resized window shows what it showed where it was in the window before, and 0 elsewhere
abbrev pub ResizeShows : Type 0
ResizeShows = (window : Window) (w h x y : ℕ) → length window.pixels ≡ window.w * window.h → is_within w h x y ≡ true
    → number_at w h (resized_window w h window).pixels x y ≡ (if is_within window.w window.h x y then number_at window.w window.h window.pixels x y else Some 0)

-- behind its first fault a picture stays
abbrev pub PictureStops : Type 0
PictureStops = (limit : ℕ) (bytes more : List ℕ) → (picture limit bytes).fault ≢ None → picture limit (bytes ++ more) ≡ picture limit bytes

-- the windows after a packet, where there were windows
abbrev pub effect_after : Option (List Window) → ToClient → Option (List Window)
effect_after before m = option_and_then (λ windows. effect windows m) before

-- The bytes have no fault of their own, their packets are read as these, and their effects in order lead from no window
-- to these windows.
pub record Leads (limit : ℕ) (bytes : List ℕ) (messages : List ToClient) (windows : List Window) : Type 0 where
  pub whole : (packets_of limit bytes).fault ≡ None
  pub read : map (λ packet. to_client packet.value) (packets_of limit bytes).packets ≡ map Ok messages
  pub effects : fold effect_after (Some []) messages ≡ Some windows

-- a picture has no fault exactly where the bytes have none and each packet is read and has an effect; then it is what they lead to
abbrev pub PictureFolds : Type 0
PictureFolds = (limit : ℕ) (bytes : List ℕ) (windows : List Window)
    → (picture limit bytes ≡ record { windows = windows; fault = None }) ↔ ((messages : List ToClient) × Leads limit bytes messages windows)
