-- What an exact peer in memory says to the bytes that it took. It reads them byte by byte and goes by the headers of
-- their frames alone, so it says the same in whatever pieces they come. The header is that of Xpra's protocol; what is
-- answered is this project's own.
use Rattle.std.specs.Prelude.{ℕ, ◌+◌, ◌-◌, ◌*◌, ◌==◌, ◌&&◌, Bool, true, false, List, [], ◌∷◌, ◌++◌, length, take, drop, slice_index, codes, if◌then◌else◌}
use Rattle.std.specs.Int.{to_be_bytes, w32}
use Rattle.std.specs.List.{starts_with}

-- a main packet with this content: its header of eight bytes has index 0 and the content's size
abbrev pub main_packet : List ℕ → List ℕ
main_packet content = (80 ∷ 0 ∷ 0 ∷ 0 ∷ to_be_bytes w32 (length content)) ++ content

abbrev pub exact_hello : List ℕ
exact_hello = main_packet (codes "l5:hellod9:encodingsl5:rgb32eee")

-- bytes 4 to 7 of a header: the size of what follows it, the highest byte first
abbrev pub size_in : List ℕ → ℕ
size_in bytes = ((slice_index bytes 4 * 256 + slice_index bytes 5) * 256 + slice_index bytes 6) * 256 + slice_index bytes 7

-- a whole frame: a header, and as many bytes as it says (fewer than eight bytes are none)
abbrev pub is_frame : List ℕ → Bool
is_frame bytes = length bytes == 8 + size_in bytes

-- a window is announced
abbrev pub is_announcement : List ℕ → Bool
is_announcement content = starts_with (λ a b. a == b) content (codes "l10:new-window")

-- the map of the window, with the announcement's numbers: what stands between its first 14 and its last 3 bytes
abbrev pub map_of : List ℕ → List ℕ
map_of content = codes "l10:map-window" ++ take (length content - 17) (drop 14 content) ++ codes "e"

-- what is said to a frame: the map, where it is a main packet that announces a window
abbrev pub answer_to : List ℕ → List ℕ
answer_to frame = if slice_index frame 3 == 0 && is_announcement (drop 8 frame) then main_packet (map_of (drop 8 frame)) else []

-- what was said so far, and the bytes behind the last whole frame
pub record Following : Type 0 where
  pub said : List ℕ
  pub rest : List ℕ

abbrev pub judged : Following → List ℕ → Following
judged t bytes = if is_frame bytes then record { said = t.said ++ answer_to bytes; rest = [] } else record t { rest = bytes }

-- one byte more
unfoldable pub push : Following → ℕ → Following
push t b = judged t (t.rest ++ b ∷ [])

unfoldable pub follow : Following → List ℕ → Following
follow t [] = t
follow t (b ∷ bytes) = follow (push t b) bytes

abbrev pub nothing_yet : Following
nothing_yet = record { said = []; rest = [] }

-- the answers to these bytes
abbrev pub replies : List ℕ → List ℕ
replies bytes = (follow nothing_yet bytes).said

-- all that a peer says that has joined and took these bytes; nobody says nothing
abbrev pub says : Bool → List ℕ → List ℕ
says true sent = exact_hello ++ replies sent
says false sent = []
