-- The packets of the first path: the server's hello, a window's announcement and the exact draw of a whole window,
-- and the packets of the one client that is built. The items are this project's own.
use Rattle.std.specs.Prelude.{ℕ, ◌*◌, pos, List, ◌∷◌, ◌++◌, length, codes, None, false}
use Rattle.std.specs.Fmt.{decimal, signed_decimal}
use Rattle.std.specs.Int.{to_be_bytes, w32}
use Rattle.xp_base.specs.declared.coding.Coding.TheVariants.{Exact}
use Rattle.window_model.specs.Desktop.{Window}
use Rattle.rgb_encoders.specs.PixelBytes.{coded_bytes}
use Rattle.packet_frames.specs.Written.{packet_bytes}
use Rattle.hello_caps.specs.Replies.{server_hello_value}
use Rattle.packet_kinds.specs.declared.to_client.ToClient.{ToClient}
use Rattle.packet_kinds.specs.declared.to_client.ToClient.TheVariants as T
use Rattle.packet_kinds.specs.Written.{message_bytes}
use Rattle.client_connection.specs.declared.geometry.Geometry.{Geometry}

-- how many bytes a packet or a chunk has at most that a client reads
abbrev pub client_limit : ℕ
client_limit = 67108864

-- the server's hello to a client that takes exact draws alone
abbrev pub server_hello : List ℕ
server_hello = packet_bytes (server_hello_value false) None

-- a window's number, place and size
abbrev pub geometry_of : Window → Geometry
geometry_of window = record { wid = window.wid; x = window.x; y = window.y; w = window.w; h = window.h }

-- a window's announcement
abbrev pub announces : Geometry → ToClient
announces g = T.NewWindow g.wid g.x g.y g.w g.h

abbrev pub new_window : Geometry → List ℕ
new_window g = message_bytes (announces g)

-- the exact draw of a whole window
abbrev pub draws_whole : Window → ℕ → ToClient
draws_whole window sequence = T.Draw window.wid 0 0 window.w window.h Exact (coded_bytes Exact window.pixels) (pos sequence) (window.w * 4)

abbrev pub draw : Window → ℕ → List ℕ
draw window sequence = message_bytes (draws_whole window sequence)

-- the header of a main packet has index 0; and a main packet
abbrev pub header : ℕ → ℕ → List ℕ
header index size = 80 ∷ 0 ∷ 0 ∷ index ∷ to_be_bytes w32 size

abbrev pub packet : List ℕ → List ℕ
packet content = header 0 (length content) ++ content

-- an exact client's hello
abbrev pub exact_hello : List ℕ
exact_hello = packet (codes "l5:hellod9:encodingsl5:rgb32eee")

-- the map of a window that an exact client sends
abbrev pub geometry_text : Geometry → List ℕ
geometry_text g = codes "i" ++ decimal g.wid ++ codes "ei" ++ signed_decimal g.x ++ codes "ei" ++ signed_decimal g.y
    ++ codes "ei" ++ decimal g.w ++ codes "ei" ++ decimal g.h ++ codes "e"

abbrev pub map_window : Geometry → List ℕ
map_window g = packet (codes "l10:map-window" ++ geometry_text g ++ codes "e")
