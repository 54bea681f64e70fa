-- What the server says: its hello, and the last packet to a client that it refuses. The names of packets and keys are
-- Xpra's, the order of keys and the reasons this project's own.
use Rattle.std.specs.Prelude.{ℕ, pos, Bool, List, [], ◌∷◌, codes, if◌then◌else◌}
use Rattle.bencode_values.specs.declared.value.Key.TheVariants as K
use Rattle.bencode_values.specs.declared.value.Value.{Value}
use Rattle.bencode_values.specs.declared.value.Value.TheVariants as V
use Rattle.bencode_values.specs.declared.value.Pair.{Pair}
use Rattle.hello_caps.specs.declared.caps.HelloFault.{HelloFault}
use Rattle.hello_caps.specs.declared.caps.HelloFault.TheVariants as F

-- a key of bytes with its value
abbrev pub entry : List ℕ → Value → Pair
entry key v = record { key = K.Bytes key; value = v }

-- the codings that the server may send: lossy ones where they are allowed
abbrev pub codings : Bool → List Value
codings lossy = if lossy then V.Bytes (codes "rgb32") ∷ V.Bytes (codes "rgb16") ∷ [] else V.Bytes (codes "rgb32") ∷ []

-- the pairs of the server's hello: `bencode` is used, `lz4` and `rencode` are not
abbrev pub server_pairs : Bool → List Pair
server_pairs lossy =
    entry (codes "bencode") (V.Int (pos 1))
    ∷ entry (codes "encodings") (V.List (codings lossy))
    ∷ entry (codes "lz4") (V.Int (pos 0))
    ∷ entry (codes "rencode") (V.Int (pos 0))
    ∷ entry (codes "version") (V.Bytes (codes "1"))
    ∷ []

-- the server's hello, by whether lossy draws are allowed
unfoldable pub server_hello_value : Bool → Value
server_hello_value lossy = V.List (V.Bytes (codes "hello") ∷ V.Dict (server_pairs lossy) ∷ [])

-- why a client is refused, in words
abbrev pub reason_of : HelloFault → List ℕ
reason_of F.NotHello = codes "not hello"
reason_of F.NoEncoding = codes "no encoding"
reason_of (F.Uuid size) = codes "uuid too long"

-- the packet that ends the connection of a client that is refused
unfoldable pub goodbye_value : HelloFault → Value
goodbye_value fault = V.List (V.Bytes (codes "disconnect") ∷ V.Bytes (reason_of fault) ∷ [])
