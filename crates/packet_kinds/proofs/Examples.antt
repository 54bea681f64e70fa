-- The definitions, computed on the bytes of a new window and of a draw in it.
use Rattle.std.proofs.Common.{◌≡◌, ℕ, List, [], ◌∷◌, ◌++◌, length, refl, ap, ◌∙◌}
use Rattle.std.specs.Prelude.{ℤ, codes, pos, Some, None, Ok}
use Rattle.xp_base.specs.declared.coding.Coding.TheVariants.{Exact}
use Rattle.bencode_values.specs.declared.value.Key.TheVariants as K
use Rattle.bencode_values.specs.declared.value.Value.{Value}
use Rattle.bencode_values.specs.declared.value.Value.TheVariants as V
use Rattle.bencode_values.specs.Steps.{step, feed}
use Rattle.window_model.specs.Drawing.{blank, placed}
use Rattle.window_model.specs.Desktop.{Window}
use Rattle.packet_frames.specs.Header.{head_of}
use Rattle.packet_frames.specs.Framing.{Chunk, whole, put_or_wrong, put_all, read_of, frames, begins}
use Rattle.packet_frames.specs.Stream.{Packet, Stream, from_place, judged, push, read_on, packets_of}
use Rattle.packet_frames.specs.Following.{behind}
use Rattle.packet_frames.proofs.Layers.{out-Int, out-Bytes, out-List, put_in-fit, empty_string}
use Rattle.packet_frames.proofs.Streams.{waiting, read_on-append, read_on-behind}
use Rattle.packet_kinds.specs.declared.to_client.ToClient.TheVariants as T
use Rattle.packet_kinds.specs.Items.{items_of, int_of, bytes_of}
use Rattle.packet_kinds.specs.ToShapes.{to_client}
use Rattle.packet_kinds.specs.Picture.{Data, shown_or_shape, shown, picture}
use Rattle.packet_kinds.proofs.Following.{picture_is}

-- what a value is
items_are : (items : List Value) → items_of (V.List items) ≡ Some items
unfolding items_of
items_are items = rw (out-List items) refl

int_is : (n : ℤ) → int_of (V.Int n) ≡ Some n
unfolding int_of
int_is n = rw (out-Int n) refl

bytes_are : (bytes : List ℕ) → bytes_of (V.Bytes bytes) ≡ Some bytes
unfolding bytes_of
bytes_are bytes = rw (out-Bytes bytes) refl

-- window 1 at 0 0, of 1 by 1: 40 bytes
abbrev opening : List ℕ
opening = 0x50 ∷ 0 ∷ 0 ∷ 0 ∷ 0 ∷ 0 ∷ 0 ∷ 0x20 ∷ codes "l10:new-windowi1ei0ei0ei1ei1edee"

abbrev opening_items : List Value
opening_items = V.Bytes (codes "new-window") ∷ V.Int (pos 1) ∷ V.Int (pos 0) ∷ V.Int (pos 0) ∷ V.Int (pos 1) ∷ V.Int (pos 1) ∷ V.Dict [] ∷ []

abbrev opened : Packet
opened = record { place = 0; value = V.List opening_items }

opening_read : read_on 67108864 (from_place 0) opening ≡ waiting (opened ∷ []) 40 []
unfolding push read_on begins frames head_of read_of feed step
opening_read = refl

opening_says : to_client (V.List opening_items) ≡ Ok (T.NewWindow 1 (pos 0) (pos 0) 1 1)
unfolding to_client
opening_says = rw (items_are opening_items, bytes_are (codes "new-window"), int_is (pos 1), int_is (pos 0)) refl

-- the main packet of a draw of its one pixel, without its last byte: 66 bytes
abbrev main_front : List ℕ
main_front = 0x50 ∷ 0 ∷ 0 ∷ 0 ∷ 0 ∷ 0 ∷ 0 ∷ 0x3b ∷ codes "l4:drawi1ei0ei0ei1ei1e5:rgb320:i1ei4ed10:rgb_format4:BGRXe"

-- the items of the draw, with these bytes for its data
abbrev drawing_items : List ℕ → List Value
drawing_items carried = V.Bytes (codes "draw") ∷ V.Int (pos 1) ∷ V.Int (pos 0) ∷ V.Int (pos 0) ∷ V.Int (pos 1) ∷ V.Int (pos 1) ∷ V.Bytes (codes "rgb32") ∷ V.Bytes carried ∷ V.Int (pos 1) ∷ V.Int (pos 4)
    ∷ V.Dict (record { key = K.Bytes (codes "rgb_format"); value = V.Bytes (codes "BGRX") } ∷ []) ∷ []

abbrev drawn : ℕ → List ℕ → Packet
drawn place carried = record { place = place; value = V.List (drawing_items carried) }

drawing_says : (carried : List ℕ) → to_client (V.List (drawing_items carried)) ≡ Ok (T.Draw 1 0 0 1 1 Exact carried (pos 1) 4)
unfolding to_client
drawing_says carried =
    rw (items_are (drawing_items carried), bytes_are (codes "draw"), bytes_are (codes "rgb32"), bytes_are carried, int_is (pos 1), int_is (pos 0), int_is (pos 4)) refl

-- the chunk of its four bytes, and then the main packet
abbrev drawing_front : List ℕ
drawing_front = 0x50 ∷ 0 ∷ 0 ∷ 7 ∷ 0 ∷ 0 ∷ 0 ∷ 4 ∷ 0x30 ∷ 0x20 ∷ 0x10 ∷ 0xff ∷ main_front

drawing_front_read : read_on 67108864 (from_place 40) drawing_front ≡ waiting [] 40 drawing_front
unfolding push read_on begins frames head_of read_of feed step
drawing_front_read = refl

abbrev pixel : List ℕ
pixel = 0x30 ∷ 0x20 ∷ 0x10 ∷ 0xff ∷ []

drawing_begins : begins 67108864 (drawing_front ++ 101 ∷ []) ≡ whole 12 (V.List (drawing_items pixel)) 79
unfolding begins frames head_of read_of feed step
drawing_begins =
    let c : Chunk = record { index = 7; at = 0; bytes = pixel } in
    ap (λ o. put_or_wrong c o (put_all 12 79 [])) (put_in-fit (drawing_items []) 7 pixel (empty_string (V.Bytes []) _ (out-Bytes [])))

-- one byte less in the chunk
abbrev short_front : List ℕ
short_front = 0x50 ∷ 0 ∷ 0 ∷ 7 ∷ 0 ∷ 0 ∷ 0 ∷ 3 ∷ 0x30 ∷ 0x20 ∷ 0x10 ∷ main_front

short_front_read : read_on 67108864 (from_place 40) short_front ≡ waiting [] 40 short_front
unfolding push read_on begins frames head_of read_of feed step
short_front_read = refl

short_begins : begins 67108864 (short_front ++ 101 ∷ []) ≡ whole 11 (V.List (drawing_items (0x30 ∷ 0x20 ∷ 0x10 ∷ []))) 78
unfolding begins frames head_of read_of feed step
short_begins =
    let c : Chunk = record { index = 7; at = 0; bytes = 0x30 ∷ 0x20 ∷ 0x10 ∷ [] } in
    ap (λ o. put_or_wrong c o (put_all 11 78 [])) (put_in-fit (drawing_items []) 7 (0x30 ∷ 0x20 ∷ 0x10 ∷ []) (empty_string (V.Bytes []) _ (out-Bytes [])))

-- a front, and the last byte behind it
last_read : (front : List ℕ) (at size : ℕ) (v : Value) → read_on 67108864 (from_place 40) front ≡ waiting [] 40 front → begins 67108864 (front ++ 101 ∷ []) ≡ whole at v size
    → read_on 67108864 (from_place 40) (front ++ 101 ∷ []) ≡ judged (waiting [] 40 front) (front ++ 101 ∷ []) (whole at v size)
unfolding push read_on
last_read front at size v before is =
    read_on-append 67108864 (from_place 40) front (101 ∷ []) ∙ ap (λ s. read_on 67108864 s (101 ∷ [])) before ∙ ap (judged (waiting [] 40 front) (front ++ 101 ∷ [])) is

-- behind the new window
behind_opening : (bytes : List ℕ) (s : Stream) → read_on 67108864 (from_place 40) bytes ≡ s → packets_of 67108864 (opening ++ bytes) ≡ behind (opened ∷ []) s
behind_opening bytes s e =
    read_on-append 67108864 (from_place 0) opening bytes ∙ ap (λ t. read_on 67108864 t bytes) opening_read
    ∙ read_on-behind 67108864 (opened ∷ []) (from_place 40) bytes ∙ ap (behind (opened ∷ [])) e

-- window 1 with this number for its pixel
abbrev one_window : ℕ → List Window
one_window number = record { wid = 1; x = pos 0; y = pos 0; w = 1; h = 1; pixels = number ∷ [] } ∷ []

opening_shown : (packets : List Packet) → shown None (opened ∷ packets) [] ≡ shown None packets (one_window 0)
unfolding blank
opening_shown packets = ap (λ r. shown_or_shape 0 [] r (shown None packets)) opening_says

drawn_read : packets_of 67108864 (opening ++ drawing_front ++ 101 ∷ []) ≡ waiting (opened ∷ drawn 52 pixel ∷ []) 119 []
drawn_read = behind_opening (drawing_front ++ 101 ∷ []) _ (last_read drawing_front 12 79 (V.List (drawing_items pixel)) drawing_front_read drawing_begins)

-- 119 bytes: a new window, and a draw in it that shows 0x102030
a_draw_is_shown : picture 67108864 (opening ++ drawing_front ++ 101 ∷ []) ≡ record { windows = one_window 1056816; fault = None }
unfolding placed
a_draw_is_shown =
    picture_is 67108864 (opening ++ drawing_front ++ 101 ∷ []) _ drawn_read ∙ opening_shown (drawn 52 pixel ∷ [])
    ∙ ap (λ r. shown_or_shape 52 (one_window 0) r (shown None [])) (drawing_says pixel)

-- without the last byte the draw is not shown
a_part_is_not_shown : picture 67108864 (opening ++ drawing_front) ≡ record { windows = one_window 0; fault = None }
a_part_is_not_shown = picture_is 67108864 (opening ++ drawing_front) _ (behind_opening drawing_front _ drawing_front_read) ∙ opening_shown []

short_read : packets_of 67108864 (opening ++ short_front ++ 101 ∷ []) ≡ waiting (opened ∷ drawn 51 (0x30 ∷ 0x20 ∷ 0x10 ∷ []) ∷ []) 118 []
short_read = behind_opening (short_front ++ 101 ∷ []) _ (last_read short_front 11 78 (V.List (drawing_items (0x30 ∷ 0x20 ∷ 0x10 ∷ []))) short_front_read short_begins)

-- with three bytes for its one pixel the draw is a fault at the place of its main header
three_bytes_are_no_pixel : picture 67108864 (opening ++ short_front ++ 101 ∷ []) ≡ record { windows = one_window 0; fault = Some (record { place = 51; kind = Data }) }
three_bytes_are_no_pixel =
    picture_is 67108864 (opening ++ short_front ++ 101 ∷ []) _ short_read ∙ opening_shown (drawn 51 (0x30 ∷ 0x20 ∷ 0x10 ∷ []) ∷ [])
    ∙ ap (λ r. shown_or_shape 51 (one_window 0) r (shown None [])) (drawing_says (0x30 ∷ 0x20 ∷ 0x10 ∷ []))

lengths : (length (opening ++ drawing_front ++ 101 ∷ []) ≡ 119) × (length (opening ++ short_front ++ 101 ∷ []) ≡ 118)
lengths = (refl, refl)
