-- The hellos of clients in memory: their keys are Xpra's, and what these say is this project's own.
use Rattle.std.specs.Prelude.{ℕ, codes, Bool, true, false, List, [], ◌∷◌, ◌++◌}
use Rattle.bencode_values.specs.Grammar.{spelled_bytes}
use Rattle.bencode_values.specs.declared.value.Key.TheVariants as K
use Rattle.bencode_values.specs.declared.value.Value.{Value}
use Rattle.bencode_values.specs.declared.value.Value.TheVariants as V
use Rattle.bencode_values.specs.declared.value.Pair.{Pair}
use Rattle.packet_frames.specs.Written.{frame_bytes}
use Rattle.link_bay.specs.declared.order.Kind.{Kind}
use Rattle.link_bay.specs.declared.order.Kind.TheVariants as Kd

-- the key of lossy draws, and its formats
abbrev pub formats_key : Bool → List ℕ
formats_key true = codes "21:encodings.rgb_formatsl4:BGRX6:BGR565e"
formats_key false = []

-- a uuid that is not empty, as the last key
abbrev pub uuid_key : List ℕ → List ℕ
uuid_key [] = []
uuid_key (b ∷ uuid) = codes "4:uuid" ++ spelled_bytes (b ∷ uuid)

abbrev pub hello_content : Bool → List ℕ → List ℕ
hello_content lossy uuid = ((codes "l5:hellod9:encodingsl5:rgb32e" ++ formats_key lossy) ++ uuid_key uuid) ++ codes "ee"

-- a main packet with this content
unfoldable pub hello_bytes : Bool → List ℕ → List ℕ
hello_bytes lossy uuid = frame_bytes 0 (hello_content lossy uuid)

-- what a peer says first: the bytes of a scripted one are its own
abbrev pub first_words : Kind → List ℕ → List ℕ
first_words Kd.Exact uuid = hello_bytes false uuid
first_words Kd.Lossy uuid = hello_bytes true uuid
first_words (Kd.Dry n) uuid = hello_bytes false uuid
first_words Kd.Hex bytes = bytes
