-- Packets keep a desktop.
use Rattle.std.proofs.Common.{◌≡◌, ℕ, ◌+◌, ◌*◌, ◌/◌, ◌%◌, ◌<◌, lit<, ℤ, Bool, true, false, List, [], ◌∷◌, length, get_or, zero, suc, cond, refl, subst, arith}
use Rattle.std.specs.List.{All, AllByRecursion}
use Rattle.std.proofs.lemmas.List.Elements.{All-from_get_or}
use Rattle.std.proofs.lemmas.List.FromFn.{get_or-map-range_with_len, length-map-range_with_len}
use Rattle.xp_base.specs.declared.coding.Coding.{Coding}
use Rattle.xp_base.specs.declared.coding.Coding.TheVariants.{Exact, Lossy}
use Rattle.window_model.specs.Desktop.{Window, IsWindow, IsDesktop, has_window, fresh_window, opened}
use Rattle.window_model.proofs.Drawings.{IsColour}
use Rattle.window_model.proofs.Windows.{IsWindow-fresh}
use Rattle.window_model.proofs.Desktops.{effects_keep_lem}
use Rattle.rgb_encoders.specs.Colour.{colour, expansion}
use Rattle.rgb_encoders.specs.PixelBytes.{colour_at}
use Rattle.rgb_encoders.specs.Decoded.{decoded_at, decoded}
use Rattle.packet_kinds.specs.declared.to_client.ToClient.{ToClient}
use Rattle.packet_kinds.specs.declared.to_client.ToClient.TheVariants as T
use Rattle.packet_kinds.specs.Effects.{effect}
use Rattle.packet_kinds.specs.Laws.{EffectKeepsDesktop}
use Rattle.packet_kinds.proofs.Windows.{same_after, drawn_after}

-- each place of a list of bytes reads as a byte
byte_at : (bytes : List ℕ) (k : ℕ) → AllByRecursion (λ byte. byte < 256) bytes → get_or bytes k 0 < 256
byte_at [] k all = lit< tt
byte_at (b ∷ bytes) zero all = all.0
byte_at (b ∷ bytes) (suc k) all = byte_at bytes k all.1

exact_small : (r g b : ℕ) → r < 256 → g < 256 → b < 256 → IsColour (colour r g b)
exact_small r g b red green blue = omega arith

expansion_small : (n : ℕ) → n < 65536 → IsColour (expansion n)
expansion_small n small = omega arith

colour_at_small : (coding : Coding) (bytes : List ℕ) (place : ℕ) → AllByRecursion (λ byte. byte < 256) bytes → IsColour (colour_at coding bytes place)
colour_at_small Exact bytes place all = exact_small _ _ _ (byte_at bytes (place + 2) all) (byte_at bytes (place + 1) all) (byte_at bytes place all)
colour_at_small Lossy bytes place all =
    let high = byte_at bytes (place + 1) all in
    let low = byte_at bytes place all in
    expansion_small (get_or bytes (place + 1) 0 * 256 + get_or bytes place 0) (omega arith)

pub decoded_small : (coding : Coding) (w h stride : ℕ) (bytes : List ℕ) → AllByRecursion (λ byte. byte < 256) bytes → All IsColour (decoded coding w h stride bytes)
decoded_small coding w h stride bytes all =
    let f : ℕ → ℕ = λ k. decoded_at coding stride bytes (k % w) (k / w) in
    All-from_get_or IsColour (decoded coding w h stride bytes) 0
    (λ k within.
    let inside : k < w * h = omega (arith, length-map-range_with_len f 0 (w * h)) in
    rw (get_or-map-range_with_len f 0 (w * h) k k 0 inside (omega arith)) (colour_at_small coding bytes _ all))

new_desktop : (windows : List Window) (wid : ℕ) (x y : ℤ) (w h : ℕ) (there : Bool) → has_window windows wid ≡ there → IsDesktop windows → IsWindow (fresh_window wid x y w h)
    → IsDesktop (cond there windows (opened windows wid x y w h))
new_desktop windows wid x y w h true e is window = is
new_desktop windows wid x y w h false e is window = effects_keep_lem.opening windows wid x y w h is e window

pub effect_keeps_desktop : EffectKeepsDesktop
effect_keeps_desktop windows after (T.Hello caps) fields bytes is e = subst IsDesktop (same_after _ after e) is
effect_keeps_desktop windows after (T.NewWindow wid x y w h) fields bytes is e =
    subst IsDesktop (same_after _ after e)
    (new_desktop windows wid x y w h (has_window windows wid) refl is
    (IsWindow-fresh wid x y w h fields.0.first (omega (arith, fields.0.last)) fields.1 fields.2 fields.3 fields.4))
effect_keeps_desktop windows after (T.LostWindow wid) fields bytes is e = subst IsDesktop (same_after _ after e) (effects_keep_lem.removing windows wid is)
effect_keeps_desktop windows after (T.WindowResized wid w h) fields bytes is e =
    subst IsDesktop (same_after _ after e) (effects_keep_lem.resizing windows wid w h is fields.1 fields.2)
effect_keeps_desktop windows after (T.WindowMoveResize wid x y w h) fields bytes is e =
    subst IsDesktop (same_after _ after e) (effects_keep_lem.moving windows wid x y is fields.1 fields.2)
effect_keeps_desktop windows after (T.RaiseWindow wid) fields bytes is e = subst IsDesktop (same_after _ after e) (effects_keep_lem.raising windows wid is)
effect_keeps_desktop windows after (T.Draw wid x y w h coding bytes sequence stride) fields are is e =
    subst IsDesktop (drawn_after wid x y w h coding bytes sequence stride windows after e)
    (effects_keep_lem.placing windows wid (record { x = x; y = y; w = w; h = h }) (decoded coding w h stride bytes) is (decoded_small coding w h stride bytes are))
effect_keeps_desktop windows after (T.PingEcho t) fields bytes is e = subst IsDesktop (same_after _ after e) is
effect_keeps_desktop windows after (T.Disconnect reason) fields bytes is e = subst IsDesktop (same_after _ after e) is
effect_keeps_desktop windows after T.Other fields bytes is e = subst IsDesktop (same_after _ after e) is
