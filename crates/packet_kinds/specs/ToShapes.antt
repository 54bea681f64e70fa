-- What a value says as a packet of the server, or the first item that is missing or does not fit. Items past those
-- that are named are ignored.
use Rattle.std.specs.Prelude.{ℕ, bytes_eq, codes, if◌then◌else◌, Result, Ok, List, slice_get}
use Rattle.bencode_values.specs.declared.value.Value.{Value}
use Rattle.packet_kinds.specs.declared.to_client.ToClient.{ToClient}
use Rattle.packet_kinds.specs.declared.to_client.ToClient.TheVariants as T
use Rattle.packet_kinds.specs.Items.{need, items_of, int_at, bytes_at, wid_at, place_at, side_at, point_at, side_from, coding_at, stride_at}

abbrev pub new_window_in : List Value → Result ToClient ℕ
new_window_in items = need 1 (wid_at items 1) (λ wid. need 2 (place_at items 2) (λ x. need 3 (place_at items 3) (λ y.
    need 4 (side_at items 4) (λ w. need 5 (side_at items 5) (λ h. Ok (T.NewWindow wid x y w h))))))

abbrev pub lost_window_in : List Value → Result ToClient ℕ
lost_window_in items = need 1 (wid_at items 1) (λ wid. Ok (T.LostWindow wid))

abbrev pub window_resized_in : List Value → Result ToClient ℕ
window_resized_in items = need 1 (wid_at items 1) (λ wid. need 2 (side_at items 2) (λ w. need 3 (side_at items 3) (λ h. Ok (T.WindowResized wid w h))))

abbrev pub move_resize_in : List Value → Result ToClient ℕ
move_resize_in items = need 1 (wid_at items 1) (λ wid. need 2 (place_at items 2) (λ x. need 3 (place_at items 3) (λ y.
    need 4 (side_at items 4) (λ w. need 5 (side_at items 5) (λ h. Ok (T.WindowMoveResize wid x y w h))))))

abbrev pub raise_window_in : List Value → Result ToClient ℕ
raise_window_in items = need 1 (wid_at items 1) (λ wid. Ok (T.RaiseWindow wid))

-- past its coding
abbrev pub draw_data_in : List Value → ℕ → ℕ → ℕ → ℕ → ℕ → Result ToClient ℕ
draw_data_in items wid x y w h = need 6 (coding_at items 6) (λ coding. need 7 (bytes_at items 7) (λ bytes. need 8 (int_at items 8) (λ sequence.
    need 9 (stride_at items 9) (λ stride. Ok (T.Draw wid x y w h coding bytes sequence stride)))))

abbrev pub draw_in : List Value → Result ToClient ℕ
draw_in items = need 1 (wid_at items 1) (λ wid. need 2 (point_at items 2) (λ x. need 3 (point_at items 3) (λ y.
    need 4 (side_from x items 4) (λ w. need 5 (side_from y items 5) (λ h. draw_data_in items wid x y w h)))))

abbrev pub ping_echo_in : List Value → Result ToClient ℕ
ping_echo_in items = need 1 (int_at items 1) (λ t. Ok (T.PingEcho t))

-- by the name, which is the first item
abbrev pub to_client_named : List ℕ → List Value → Result ToClient ℕ
to_client_named name items =
    if bytes_eq name (codes "hello") then Ok (T.Hello (slice_get items 1))
    else if bytes_eq name (codes "new-window") then new_window_in items
    else if bytes_eq name (codes "lost-window") then lost_window_in items
    else if bytes_eq name (codes "window-resized") then window_resized_in items
    else if bytes_eq name (codes "window-move-resize") then move_resize_in items
    else if bytes_eq name (codes "raise-window") then raise_window_in items
    else if bytes_eq name (codes "draw") then draw_in items
    else if bytes_eq name (codes "ping_echo") then ping_echo_in items
    else if bytes_eq name (codes "disconnect") then Ok (T.Disconnect (slice_get items 1))
    else Ok T.Other

-- a list, by its first item
abbrev pub list_to_client : List Value → Result ToClient ℕ
list_to_client items = need 0 (bytes_at items 0) (λ name. to_client_named name items)

-- a value that is no list, or whose first item is no byte string, does not fit at 0
unfoldable pub to_client : Value → Result ToClient ℕ
to_client v = need 0 (items_of v) (λ items. list_to_client items)
