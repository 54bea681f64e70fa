-- The definitions of what a client shows, says and maps, on the bytes of one window of 2 by 2 pixels.
use Rattle.std.proofs.Common.{◌≡◌, ◌≢◌, ◌⊎◌, inl, inr, ℕ, suc, ◌+◌, ◌-◌, ◌*◌, ◌<◌, ◌≤◌, false, List, [], ◌∷◌, ◌++◌, None, length, take, drop, replicate, refl, sym, ap, ◌∙◌, subst, arith}
use Rattle.std.specs.Prelude.{pos, codes, slice_index, All}
use Rattle.std.specs.List.{concat}
use Rattle.std.specs.Fmt.{digits}
use Rattle.std.proofs.lemmas.Bool.{cases_lt, false≢true}
use Rattle.std.proofs.lemmas.Int.{ints}
use Rattle.std.proofs.lemmas.List.{append_assoc, append-nil, length-append, length-drop, take-append-drop, take_all, take-append-le, get_or-replicate, length-replicate}
use Rattle.std.proofs.lemmas.List.Elements.{All-nil, All-head}
use Rattle.std.proofs.Math.Seq.{take-append-add, take-append_seam, get_or-append_seam}
use Rattle.bencode_values.specs.Grammar.{spelled}
use Rattle.bencode_values.proofs.Values.{spelled-Int, spelled-Bytes, spelled-List, spelled-Dict}
use Rattle.window_model.specs.Desktop.{has_window, fresh_window}
use Rattle.hello_caps.specs.Replies.{server_hello_value}
use Rattle.hello_caps.proofs.Spellings.{exact_hello as hello_spelled}
use Rattle.packet_frames.specs.Written.{frame_bytes}
use Rattle.packet_frames.proofs.Writing.{packet_bytes_are}
use Rattle.first_script.specs.declared.paint.Paint.{Paint}
use Rattle.first_script.specs.declared.paint.Paint.TheVariants.{Open}
use Rattle.packet_kinds.specs.declared.to_client.ToClient.{ToClient}
use Rattle.packet_kinds.specs.ToClients.{to_value, to_chunk}
use Rattle.packet_kinds.specs.Picture.{Picture}
use Rattle.packet_kinds.specs.Written.{IsMessage, Show}
use Rattle.packet_kinds.specs.Talk.{Said, talk}
use Rattle.packet_kinds.proofs.Following.{nothing_shows, message_follows, part_shows_nothing}
use Rattle.client_connection.specs.declared.geometry.Geometry.{Geometry}
use Rattle.client_connection.specs.Wire.{client_limit, server_hello, announces, new_window, exact_hello, map_window}
use Rattle.client_connection.specs.Hearing.{IsPartOf}
use Rattle.client_connection.specs.Shown.{shows}
use Rattle.client_connection.specs.Given.{IsBuilt, IsShownBy}
use Rattle.client_connection.specs.Mapped.{server_limit, SaysMapped, EndsMapped, Maps}
use Rattle.client_connection.proofs.Hearings.{concat_size}
use Rattle.client_connection.proofs.Heard.{map_window_some}
use Rattle.client_connection.proofs.Carried.{greets, IsGeometry, announces_message, hello_message}
use Rattle.client_connection.proofs.Talking.{map_message, IsMapTalk, talk_of_maps, talk_of_hello}

-- window 1 at 0 0, of 2 by 2
abbrev window : Geometry
window = record { wid = 1; x = pos 0; y = pos 0; w = 2; h = 2 }

-- such as a window may be
window_is : IsGeometry window
window_is = record {
  number = record { first = omega arith; last = omega arith };
  across = record { least = omega (arith, ints); most = omega (arith, ints) };
  down = record { least = omega (arith, ints); most = omega (arith, ints) };
  wide = record { some = omega arith; most = omega arith };
  high = record { some = omega arith; most = omega arith };
}

-- a packet without chunks, of fewer than 256 bytes
abbrev frame : ℕ → List ℕ → List ℕ
frame size content = 0x50 ∷ 0 ∷ 0 ∷ 0 ∷ 0 ∷ 0 ∷ 0 ∷ size ∷ content

-- the 83 bytes of the server's hello
server_hello_is : server_hello ≡ frame 75 (codes "l5:hellod7:bencodei1e9:encodingsl5:rgb32e3:lz4i0e7:rencodei0e7:version1:1ee")
server_hello_is = sym (packet_bytes_are (server_hello_value false) None) ∙ ap (frame_bytes 0) hello_spelled

window_spelled : spelled (to_value (announces window)) ≡ codes "l10:new-windowi1ei0ei0ei2ei2edee"
unfolding to_value digits
window_spelled = simp (spelled-Int, spelled-Bytes, spelled-List, spelled-Dict) refl

-- the 40 bytes of the window's announcement
new_window_is : new_window window ≡ frame 32 (codes "l10:new-windowi1ei0ei0ei2ei2edee")
unfolding to_chunk
new_window_is = sym (packet_bytes_are (to_value (announces window)) None) ∙ ap (frame_bytes 0) window_spelled

-- the 39 bytes of an exact client's hello
exact_hello_is : exact_hello ≡ frame 31 (codes "l5:hellod9:encodingsl5:rgb32eee")
exact_hello_is = refl

-- the 38 bytes of the window's map
map_window_is : map_window window ≡ frame 30 (codes "l10:map-windowi1ei0ei0ei2ei2ee")
unfolding digits
map_window_is = refl

-- what is left behind a part
rest_some : (k : ℕ) (bytes : List ℕ) → k < length bytes → drop k bytes ≢ []
rest_some k bytes within = λ none. let size = length-drop k bytes in let zero_size = ap length none in absurd (omega (arith, size, zero_size, within))

part_of : (k : ℕ) (bytes : List ℕ) → k < length bytes → IsPartOf (take k bytes) bytes
part_of k bytes within = (drop k bytes, rest_some k bytes within, sym (take-append-drop k bytes))

-- a front of two that goes into the second
front_of_both : (xs ys : List ℕ) (n : ℕ) → length xs ≤ n → take n (xs ++ ys) ≡ xs ++ take (n - length xs) ys
front_of_both xs ys n long =
    let enough : n ≡ length xs + (n - length xs) = omega (arith, long) in
    ap (λ k. take k (xs ++ ys)) enough ∙ take-append-add xs ys (n - length xs)

-- the bytes sent: the server's hello, and the window's announcement
abbrev sent : List ℕ
sent = server_hello ++ new_window window

-- the place of the last byte sent
abbrev last_place : ℕ
last_place = length sent - 1

-- 83 and 40 bytes
sent_size : length sent ≡ 123
sent_size = ap (λ (bs : List ℕ). length (bs ++ new_window window)) server_hello_is
    ∙ ap (λ (bs : List ℕ). length (frame 75 (codes "l5:hellod7:bencodei1e9:encodingsl5:rgb32e3:lz4i0e7:rencodei0e7:version1:1ee") ++ bs)) new_window_is

-- the server's hello shows no window, and the announcement behind it one
pub hello_shows : Show client_limit server_hello []
hello_shows = message_follows client_limit [] server_hello greets [] [] (nothing_shows client_limit) hello_message refl

window_shows : Show client_limit sent (fresh_window 1 (pos 0) (pos 0) 2 2 ∷ [])
window_shows = message_follows client_limit server_hello (new_window window) (announces window) [] _ hello_shows (announces_message window window_is) refl

-- behind packets that show no window a part of a message shows none
part_shows : (done bytes : List ℕ) (m : ToClient) (k : ℕ) → Show client_limit done [] → IsMessage client_limit bytes m → k < length bytes → has_window (shows (done ++ take k bytes)) 1 ≡ false
part_shows done bytes m k show is within =
    ap (λ (p : Picture). has_window p.windows 1) (part_shows_nothing client_limit done bytes (take k bytes) (drop k bytes) m [] show is (sym (take-append-drop k bytes)) (rest_some k bytes within))

-- with the last byte the announcement is whole
shown_at_last : IsShownBy sent last_place 1
shown_at_last =
    let all : take (last_place + 1) sent ≡ sent = take_all (last_place + 1) sent (omega (arith, sent_size)) in
    ap (λ (bs : List ℕ). has_window (shows bs) 1) all ∙ ap (λ (p : Picture). has_window p.windows 1) window_shows.shown

-- at no place before the last byte of the announcement the client shows the window
shown_at_no_other : (n : ℕ) → n < last_place → has_window (shows (take (n + 1) sent)) 1 ≡ false
shown_at_no_other n early = go (cases_lt (n + 1) (length server_hello))
  where
    go : (n + 1 < length server_hello) ⊎ (length server_hello ≤ n + 1) → has_window (shows (take (n + 1) sent)) 1 ≡ false
    go (inl short) =
        ap (λ (bs : List ℕ). has_window (shows bs) 1) (take-append-le (n + 1) server_hello (new_window window) (omega (arith, short)))
        ∙ part_shows [] server_hello greets (n + 1) (nothing_shows client_limit) hello_message short
    go (inr long) =
        let size = length-append server_hello (new_window window) in
        ap (λ (bs : List ℕ). has_window (shows bs) 1) (front_of_both server_hello (new_window window) (n + 1) long)
        ∙ part_shows server_hello (new_window window) (announces window) (n + 1 - length server_hello) hello_shows (announces_message window window_is) (omega (arith, size, early, long))

-- at the place of the last byte of a hello and an announcement the client shows the window, and at the place before it not
shown_when_whole : IsShownBy sent last_place 1 × (has_window (shows (take (last_place - 1 + 1) sent)) 1 ≡ false)
shown_when_whole = (shown_at_last, shown_at_no_other (last_place - 1) (omega (arith, sent_size)))

-- the bytes given: an exact client's hello, and the map of the window
abbrev given : List ℕ
given = exact_hello ++ map_window window

-- so many bytes had been given when each byte was sent
abbrev heard_at : ℕ → List ℕ
heard_at count = replicate (length sent) count

-- the bytes given say one map of the window
map_talk : IsMapTalk window 1 (talk server_limit given)
map_talk = talk_of_maps window 1 (map_window window) [] window_is (one, (map_window window, some, refl))
  where
    one : map_window window ≡ concat (replicate 1 (map_window window)) ++ []
    one = sym (append-nil (map_window window)) ∙ sym (append-nil (map_window window ++ []))

    some : map_window window ≢ []
    some none = let size = ap length none in let more = map_window_some window in absurd (omega (arith, size, more))

-- one map ends a talk as mapped
one_ends : (said : List Said) → length said ≡ 1 → All (λ (m : Said). m.message ≡ map_message window) said → EndsMapped 1 0 said
one_ends [] counted maps = absurd (omega (arith, counted))
one_ends (m ∷ n ∷ said) counted maps = absurd (omega (arith, counted))
one_ends (m ∷ []) counted maps = record {
  before = [];
  message = m;
  after = [];
  said_is = refl;
  count_is = refl;
  maps = let is : m.message ≡ map_message window = All-head (λ (n : Said). n.message ≡ map_message window) m [] maps in says (sym is);
  last = All-nil _;
}
  where
    says : map_message window ≡ m.message → SaysMapped 1 m.message
    says is = subst (SaysMapped 1) is refl

-- what is heard is the same at each place
heard_is : (count n : ℕ) → n < length sent → slice_index (heard_at count) n ≡ count
heard_is count n within = get_or-replicate (length sent) n count 0 within

-- where the bytes given before the last byte sent do not hold the whole map, the window is mapped
mapped_where : (count : ℕ) → length (talk server_limit (take count given)).said ≡ 0 → Maps 1 sent given (heard_at count)
mapped_where count none = record {
  count = 0;
  place = last_place;
  mapped = one_ends (talk server_limit given).said map_talk.counted map_talk.maps;
  within = omega (arith, sent_size);
  shown = shown_at_last;
  later = let at = ap (λ (n : ℕ). length (talk server_limit (take n given)).said) (heard_is count last_place (omega (arith, sent_size))) in omega (arith, at, none);
}

-- the client gave its hello before any byte was sent, and its map after all: it has mapped the window
mapped_after : Maps 1 sent given (heard_at (length exact_hello))
mapped_after = mapped_where (length exact_hello) (ap (λ (bs : List ℕ). length (talk server_limit bs).said) hello ∙ ap length (talk_of_hello [] refl))
  where
    hello : take (length exact_hello) given ≡ exact_hello ++ []
    hello = take-append_seam exact_hello (map_window window) ∙ sym (append-nil exact_hello)

-- where all was given before a byte was sent with which the client shows the window, it has not mapped it
unmapped_where : (heard : List ℕ) → ((n : ℕ) → n < length sent → IsShownBy sent n 1 → slice_index heard n ≡ length given) → Maps 1 sent given heard → ⊥
unmapped_where heard early maps =
    let ends = maps.mapped in
    let sizes = ap length ends.said_is ∙ length-append ends.before (ends.message ∷ ends.after) in
    let counted = map_talk.counted in
    let first = ends.count_is in
    let all : take (slice_index heard maps.place) given ≡ given = ap (λ (n : ℕ). take n given) (early maps.place maps.within maps.shown) ∙ take_all (length given) given (omega arith) in
    let said = ap (λ (bs : List ℕ). length (talk server_limit bs).said) all in
    let later = maps.later in
    omega (arith, sizes, counted, first, said, later)

-- the client gave its map before any byte was sent, so before it was shown the window: it has not mapped it
mapped_too_early : Maps 1 sent given (heard_at (length given)) → ⊥
mapped_too_early = unmapped_where (heard_at (length given)) (λ n within shown. heard_is (length given) n within)

-- a hello had been given when each byte but the last was sent, and all when the last was
abbrev heard_before_the_last : List ℕ
heard_before_the_last = replicate last_place (length exact_hello) ++ length given ∷ []

-- the client gave its map when all but the last byte of the announcement was sent: it has not mapped the window
mapped_before_the_last_byte : Maps 1 sent given heard_before_the_last → ⊥
mapped_before_the_last_byte = unmapped_where heard_before_the_last (λ n within shown. go n within shown (cases_lt n last_place))
  where
    at_last : slice_index heard_before_the_last last_place ≡ length given
    at_last = ap (slice_index heard_before_the_last) (sym (length-replicate last_place (length exact_hello))) ∙ get_or-append_seam (replicate last_place (length exact_hello)) (length given) [] 0

    go : (n : ℕ) → n < length sent → IsShownBy sent n 1 → (n < last_place) ⊎ (last_place ≤ n) → slice_index heard_before_the_last n ≡ length given
    go n within shown (inl early) = absurd (false≢true (sym (shown_at_no_other n early) ∙ shown))
    go n within shown (inr late) = let last : n ≡ last_place = omega (arith, within, late) in ap (slice_index heard_before_the_last) last ∙ at_last

-- of its map the client gave all but the last byte before any byte was sent, and that one after all: it has mapped the window
mapped_by_a_byte : Maps 1 sent given (heard_at (length given - 1))
mapped_by_a_byte = mapped_where (length given - 1) (ap (λ (bs : List ℕ). length (talk server_limit bs).said) but_one ∙ says_none.counted)
  where
    map : List ℕ
    map = map_window window

    front : List ℕ
    front = take (length given - 1 - length exact_hello) map

    but_one : take (length given - 1) given ≡ exact_hello ++ front
    but_one = front_of_both exact_hello map (length given - 1) (omega arith)

    says_none : IsMapTalk window 0 (talk server_limit (exact_hello ++ front))
    says_none = talk_of_maps window 0 front front window_is (refl, part_of (length given - 1 - length exact_hello) map (omega arith))

-- the script that opens the window
abbrev opening : List Paint
opening = Open 1 (pos 0) (pos 0) 2 2 ∷ []

-- a hello is built where no window is opened, a hello and a map where one is, and a byte 0 nowhere
built_examples : IsBuilt [] exact_hello × IsBuilt opening given × (IsBuilt [] (0 ∷ []) → ⊥)
built_examples = (([], append-nil exact_hello), (concat (replicate 999 (map_window window)), more_maps 999), zero_is_none)
  where
    more_maps : (n : ℕ) → given ++ concat (replicate n (map_window window)) ≡ exact_hello ++ concat (replicate (suc n) (map_window window))
    more_maps n = append_assoc exact_hello (map_window window) (concat (replicate n (map_window window)))

    zero_is_none : IsBuilt [] (0 ∷ []) → ⊥
    zero_is_none built = let first = ap (λ (bs : List ℕ). slice_index bs 0) built.1 in absurd (omega (arith, first))

-- a hello and 1000 maps are built where a window is opened, and 1001 maps are not
built_to_a_thousand : IsBuilt opening (exact_hello ++ concat (replicate 1000 (map_window window))) × (IsBuilt opening (exact_hello ++ concat (replicate 1001 (map_window window))) → ⊥)
built_to_a_thousand = (([], append-nil (exact_hello ++ concat (replicate 1000 (map_window window)))), λ built. over 1000 1001 built.0 (omega arith) built.1)
  where
    over : (most n : ℕ) (more : List ℕ) → most < n → (exact_hello ++ concat (replicate n (map_window window))) ++ more ≡ exact_hello ++ concat (replicate most (map_window window)) → ⊥
    over most n more many is =
        let map : List ℕ = map_window window in
        let size = length-append (exact_hello ++ concat (replicate n map)) more in
        let maps = length-append exact_hello (concat (replicate n map)) in
        let all = ap length is ∙ length-append exact_hello (concat (replicate most map)) in
        let one : length map ≡ 38 = ap length map_window_is in
        let so_many = concat_size map n ∙ ap (λ k. n * k) one in
        let at_most = concat_size map most ∙ ap (λ k. most * k) one in
        omega (arith, size, maps, all, so_many, at_most, many)
