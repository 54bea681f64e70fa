-- What an exact client answers to the bytes sent to it: a map of each new window, and an acknowledgement of each draw, up
-- to the first fault. This project's own.
use Rattle.std.specs.Prelude.{ℕ, pos, Bool, true, Some, Result, Ok, Err, List, [], ◌∷◌, ◌++◌, map, if◌then◌else◌}
use Rattle.std.specs.List.{concat}
use Rattle.bencode_values.specs.declared.value.Value.TheVariants as V
use Rattle.packet_frames.specs.Stream.{Packet, packets_of}
use Rattle.packet_kinds.specs.declared.to_client.ToClient.{ToClient}
use Rattle.packet_kinds.specs.declared.to_client.ToClient.TheVariants as T
use Rattle.packet_kinds.specs.declared.from_client.FromClient.{FromClient}
use Rattle.packet_kinds.specs.declared.from_client.FromClient.TheVariants as C
use Rattle.packet_kinds.specs.Items.{number, text}
use Rattle.packet_kinds.specs.Effects.{holds_pixels}
use Rattle.packet_kinds.specs.ToShapes.{to_client}
use Rattle.packet_kinds.specs.FromWritten.{client_bytes}

-- to a new window a map with its numbers, to a draw its acknowledgement after 0 milliseconds, with an empty message
abbrev pub answer_to : ToClient → List FromClient
answer_to (T.NewWindow wid x y w h) = C.MapWindow (pos wid) (V.Int x ∷ V.Int y ∷ number w ∷ number h ∷ []) ∷ []
answer_to (T.Draw wid x y w h coding bytes sequence stride) = C.DamageSequence sequence (pos wid) (pos w) (pos h) (pos 0) (Some (text [])) ∷ []
answer_to m = []

-- a draw's bytes are its pixels; any other packet has an effect whatever it says
abbrev pub has_effect : ToClient → Bool
has_effect (T.Draw wid x y w h coding bytes sequence stride) = holds_pixels coding w h stride bytes
has_effect m = true

abbrev pub answered_or_stop : Result ToClient ℕ → List FromClient → List FromClient
answered_or_stop (Err i) later = []
answered_or_stop (Ok m) later = if has_effect m then answer_to m ++ later else []

-- the answers to these packets in order, up to the first that is not read or whose bytes are not its pixels
abbrev pub answers : List Packet → List FromClient
answers [] = []
answers (p ∷ packets) = answered_or_stop (to_client p.value) (answers packets)

-- the answers to these bytes, whose packets and chunks are of at most so many bytes
unfoldable pub replies : ℕ → List ℕ → List FromClient
replies limit bytes = answers (packets_of limit bytes).packets

-- messages as a client writes them, one behind the other
abbrev pub said_bytes : List FromClient → List ℕ
said_bytes messages = concat (map client_bytes messages)
