-- What the definition of an exact client's replies comes to.
use Rattle.std.specs.Prelude.{ℕ, ◌≡◌, ◌≢◌, is_some, None, Some, List, [], ◌∷◌, ◌++◌}
use Rattle.std.specs.List.{AllByRecursion}
use Rattle.window_model.specs.Desktop.{Window}
use Rattle.packet_frames.specs.Stream.{Packet}
use Rattle.packet_kinds.specs.declared.to_client.ToClient.{ToClient}
use Rattle.packet_kinds.specs.declared.from_client.FromClient.{FromClient}
use Rattle.packet_kinds.specs.ToShapes.{to_client}
use Rattle.packet_kinds.specs.Fields.{IsInRange, IsNamed}
use Rattle.packet_kinds.specs.FromFields.{IsSmallPacket}
use Rattle.packet_kinds.specs.Effects.{effect}
use Rattle.packet_kinds.specs.Picture.{shown, picture}
use Rattle.packet_kinds.specs.Written.{IsMessage, Show}
use Rattle.packet_kinds.specs.Replies.{answer_to, has_effect, answered_or_stop, answers, replies}

-- a packet has an effect on these windows exactly where it has one on any
abbrev pub EffectIsThere : Type 0
EffectIsThere = (windows : List Window) (m : ToClient) → is_some (effect windows m) ≡ has_effect m

-- what was answered stays answered, whatever bytes follow
abbrev pub RepliesGoOn : Type 0
RepliesGoOn = (limit : ℕ) (bytes more : List ℕ) → (later : List FromClient) × (replies limit (bytes ++ more) ≡ replies limit bytes ++ later)

-- behind the picture's first fault nothing is answered
abbrev pub RepliesStop : Type 0
RepliesStop = (limit : ℕ) (bytes more : List ℕ) → (picture limit bytes).fault ≢ None → replies limit (bytes ++ more) ≡ replies limit bytes

-- behind packets that are all shown the next are answered
abbrev pub PacketsAreAnswered : Type 0
PacketsAreAnswered = (given more : List Packet) (windows goal : List Window) → shown None given windows ≡ record { windows = goal; fault = None }
    → answers (given ++ more) ≡ answers given ++ answers more

-- behind a packet that is not shown none is answered
abbrev pub PacketsStop : Type 0
PacketsStop = (given more : List Packet) (windows : List Window) → (shown None given windows).fault ≢ None → answers (given ++ more) ≡ answers given

-- whole packets followed by a message are answered as they were, and then the message is
abbrev pub MessageIsAnswered : Type 0
MessageIsAnswered = (limit : ℕ) (sent bytes : List ℕ) (m : ToClient) (windows after : List Window)
    → Show limit sent windows → IsMessage limit bytes m → effect windows m ≡ Some after → replies limit (sent ++ bytes) ≡ replies limit sent ++ answer_to m

-- a part of a message, short of all, is not answered
abbrev pub PartIsUnanswered : Type 0
PartIsUnanswered = (limit : ℕ) (sent bytes front more : List ℕ) (m : ToClient) (windows : List Window)
    → Show limit sent windows → IsMessage limit bytes m → bytes ≡ front ++ more → more ≢ [] → replies limit (sent ++ front) ≡ replies limit sent

-- the answer to a packet with its numbers in their ranges is of small packets, so it may be written
abbrev pub AnswersAreSmall : Type 0
AnswersAreSmall = (m : ToClient) → IsInRange m → IsNamed m → AllByRecursion IsSmallPacket (answer_to m)
