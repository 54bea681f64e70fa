-- The picture of bytes is a desktop.
use Rattle.std.proofs.Common.{◌≡◌, ℕ, zero, suc, ◌<◌, List, [], ◌∷◌, refl, sym, ap, subst, arith}
use Rattle.std.specs.Prelude.{Option, Some, None, Result, Ok, Err, codes, bytes_eq, slice_get}
use Rattle.std.specs.List.{AllByRecursion, All, AllPairs}
use Rattle.std.proofs.lemmas.Bool.{cond_both}
use Rattle.bencode_values.specs.declared.value.Value.{Value, out-Value}
use Rattle.bencode_values.specs.declared.value.Value.TheOpen.{Value-F}
use Rattle.bencode_values.specs.declared.value.Pair.{Pair}
use Rattle.window_model.specs.Desktop.{Window, IsDesktop}
use Rattle.packet_frames.specs.Stream.{Packet, Fault, packets_of}
use Rattle.packet_frames.specs.Texts.{AreBytes, text_layer, text_in, items_in, IsOfBytes}
use Rattle.packet_frames.specs.Texts.{items_layer as list_layer}
use Rattle.packet_frames.proofs.Texts.{packets_of_bytes}
use Rattle.packet_kinds.specs.declared.to_client.ToClient.{ToClient}
use Rattle.packet_kinds.specs.declared.to_client.ToClient.TheVariants as T
use Rattle.packet_kinds.specs.Items.{items_layer, bytes_layer, items_of, bytes_of, bytes_at, int_at, wid_at, point_at, side_from, coding_at, stride_at, need, place_at, side_at}
use Rattle.packet_kinds.specs.ToShapes.{new_window_in, lost_window_in, window_resized_in, move_resize_in, raise_window_in, draw_data_in, draw_in, ping_echo_in, to_client_named, to_client}
use Rattle.packet_kinds.specs.Effects.{effect}
use Rattle.packet_kinds.specs.Picture.{Picture, ended, shown_or_data, shown_or_shape, shown, picture}
use Rattle.packet_kinds.specs.Laws.{HasBytes, PictureIsDesktop}
use Rattle.packet_kinds.proofs.Shapes.{read_in_range}
use Rattle.packet_kinds.proofs.Desktops.{effect_keeps_desktop}

-- what is read has bytes, where something is
abbrev Reads : Result ToClient ℕ → Type 0
Reads (Err i) = Unit {0}
Reads (Ok m) = HasBytes m

needs : {A : Type 0} (i : ℕ) (o : Option A) (next : A → Result ToClient ℕ) → ((a : A) → o ≡ Some a → Reads (next a)) → Reads (need i o next)
needs i None next later = tt
needs i (Some a) next later = later a refl

abbrev AreTexts : List Value → Type 0
AreTexts = AllByRecursion (λ item. AreBytes (text_in item))

bytes_by : (layer : Value-F Value Pair) (bytes : List ℕ) → bytes_layer layer ≡ Some bytes → AreBytes (text_layer layer) → AreBytes bytes
bytes_by (Value-F.Int n) bytes e are = absurd (cc)
bytes_by (Value-F.Bytes text) bytes e are = subst AreBytes (same text bytes e) are where
  same : (a b : List ℕ) → Some a ≡ Some b → a ≡ b
  same a b f = cc
bytes_by (Value-F.List items) bytes e are = absurd (cc)
bytes_by (Value-F.Dict pairs) bytes e are = absurd (cc)

text_is : (v : Value) (bytes : List ℕ) → bytes_of v ≡ Some bytes → AreBytes (text_in v) → AreBytes bytes
unfolding bytes_of text_in
text_is v bytes e are = bytes_by (out-Value v) bytes e are

text_at : (items : List Value) (i : ℕ) (bytes : List ℕ) → AreTexts items → bytes_at items i ≡ Some bytes → AreBytes bytes
text_at [] i bytes all e = absurd (cc)
text_at (v ∷ items) zero bytes all e = text_is v bytes e all.0
text_at (v ∷ items) (suc i) bytes all e = text_at items i bytes all.1 e

items_by : (layer : Value-F Value Pair) (items : List Value) → items_layer layer ≡ Some items → AreTexts (list_layer layer) → AreTexts items
items_by (Value-F.Int n) items e are = absurd (cc)
items_by (Value-F.Bytes text) items e are = absurd (cc)
items_by (Value-F.List vs) items e are = subst AreTexts (same vs items e) are where
  same : (a b : List Value) → Some a ≡ Some b → a ≡ b
  same a b f = cc
items_by (Value-F.Dict pairs) items e are = absurd (cc)

items_are : (v : Value) (items : List Value) → items_of v ≡ Some items → IsOfBytes v → AreTexts items
unfolding items_of items_in
items_are v items e of = items_by (out-Value v) items e of

new_window_has : (items : List Value) → Reads (new_window_in items)
new_window_has items =
    needs 1 (wid_at items 1) _ (λ wid _. needs 2 (place_at items 2) _ (λ x _. needs 3 (place_at items 3) _ (λ y _. needs 4 (side_at items 4) _ (λ w _. needs 5 (side_at items 5) _ (λ h _. tt)))))

move_resize_has : (items : List Value) → Reads (move_resize_in items)
move_resize_has items =
    needs 1 (wid_at items 1) _ (λ wid _. needs 2 (place_at items 2) _ (λ x _. needs 3 (place_at items 3) _ (λ y _. needs 4 (side_at items 4) _ (λ w _. needs 5 (side_at items 5) _ (λ h _. tt)))))

window_resized_has : (items : List Value) → Reads (window_resized_in items)
window_resized_has items = needs 1 (wid_at items 1) _ (λ wid _. needs 2 (side_at items 2) _ (λ w _. needs 3 (side_at items 3) _ (λ h _. tt)))

draw_data_has : (items : List Value) (wid x y w h : ℕ) → AreTexts items → Reads (draw_data_in items wid x y w h)
draw_data_has items wid x y w h all =
    needs 6 (coding_at items 6) _ (λ coding _. needs 7 (bytes_at items 7) _ (λ bytes here. needs 8 (int_at items 8) _ (λ sequence _. needs 9 (stride_at items 9) _
    (λ stride _. text_at items 7 bytes all here))))

draw_has : (items : List Value) → AreTexts items → Reads (draw_in items)
draw_has items all =
    needs 1 (wid_at items 1) _ (λ wid _. needs 2 (point_at items 2) _ (λ x _. needs 3 (point_at items 3) _ (λ y _. needs 4 (side_from x items 4) _ (λ w _. needs 5 (side_from y items 5) _
    (λ h _. draw_data_has items wid x y w h all)))))

named_has : (name : List ℕ) (items : List Value) → AreTexts items → Reads (to_client_named name items)
named_has name items all =
    cond_both (bytes_eq name (codes "hello")) _ _ Reads (λ _. tt)
    (λ _. cond_both (bytes_eq name (codes "new-window")) _ _ Reads (λ _. new_window_has items)
    (λ _. cond_both (bytes_eq name (codes "lost-window")) _ _ Reads (λ _. needs 1 (wid_at items 1) _ (λ wid _. tt))
    (λ _. cond_both (bytes_eq name (codes "window-resized")) _ _ Reads (λ _. window_resized_has items)
    (λ _. cond_both (bytes_eq name (codes "window-move-resize")) _ _ Reads (λ _. move_resize_has items)
    (λ _. cond_both (bytes_eq name (codes "raise-window")) _ _ Reads (λ _. needs 1 (wid_at items 1) _ (λ wid _. tt))
    (λ _. cond_both (bytes_eq name (codes "draw")) _ _ Reads (λ _. draw_has items all)
    (λ _. cond_both (bytes_eq name (codes "ping_echo")) _ _ Reads (λ _. needs 1 (int_at items 1) _ (λ t _. tt))
    (λ _. cond_both (bytes_eq name (codes "disconnect")) _ _ Reads (λ _. tt) (λ _. tt)))))))))

read_has : (v : Value) → IsOfBytes v → Reads (to_client v)
unfolding to_client
read_has v of = needs 0 (items_of v) _ (λ items here. needs 0 (bytes_at items 0) _ (λ name _. named_has name items (items_are v items here of)))

-- a packet that is of bytes has bytes, if it is read
pub read_has_bytes : (v : Value) (m : ToClient) → IsOfBytes v → to_client v ≡ Ok m → HasBytes m
read_has_bytes v m of e = subst Reads e (read_has v of)

data_desktop : (place : ℕ) (windows : List Window) (o : Option (List Window)) (next : List Window → Picture) → IsDesktop windows
    → ((after : List Window) → o ≡ Some after → IsDesktop (next after).windows) → IsDesktop (shown_or_data place windows o next).windows
data_desktop place windows None next is later = is
data_desktop place windows (Some after) next is later = later after refl

shape_desktop : (place : ℕ) (windows : List Window) (r : Result ToClient ℕ) (next : List Window → Picture) → IsDesktop windows
    → ((m : ToClient) (after : List Window) → r ≡ Ok m → effect windows m ≡ Some after → IsDesktop (next after).windows) → IsDesktop (shown_or_shape place windows r next).windows
shape_desktop place windows (Err i) next is later = is
shape_desktop place windows (Ok m) next is later = data_desktop place windows (effect windows m) next is (λ after does. later m after refl does)

ended_desktop : (windows : List Window) (fault : Option Fault) → IsDesktop windows → IsDesktop (ended windows fault).windows
ended_desktop windows None is = is
ended_desktop windows (Some f) is = is

shown_desktop : (fault : Option Fault) (packets : List Packet) (windows : List Window) → AllByRecursion (λ (p : Packet). IsOfBytes p.value) packets → IsDesktop windows
    → IsDesktop (shown fault packets windows).windows
shown_desktop fault [] windows all is = ended_desktop windows fault is
shown_desktop fault (p ∷ packets) windows all is =
    shape_desktop p.place windows (to_client p.value) (shown fault packets) is
    (λ m after read does. shown_desktop fault packets after all.1
    (effect_keeps_desktop windows after m (read_in_range p.value m read) (read_has_bytes p.value m all.0 read) is does))

no_desktop : IsDesktop []
no_desktop = record { windows = λ k d within. absurd (omega arith); distinct = λ i j d before within. absurd (omega arith) }

pub picture_is_desktop : PictureIsDesktop
unfolding picture
picture_is_desktop limit bytes are = shown_desktop (packets_of limit bytes).fault (packets_of limit bytes).packets [] (packets_of_bytes limit bytes are) no_desktop
