-- What bytes that were read come to.
use Rattle.std.specs.Prelude.{ℕ, ◌+◌, ◌≡◌, min, false, Option, Some, None, List, [], ◌∷◌, ◌++◌, if◌then◌else◌}
use Rattle.xp_base.specs.Counts.{greatest}
use Rattle.bencode_values.specs.declared.value.Value.{Value}
use Rattle.packet_frames.specs.Stream.{Packet, Fault}
use Rattle.packet_frames.specs.Following.{Framing, left_of, fed}
use Rattle.client_talk.specs.Handling.{Acts, handled}
use Rattle.client_talk.specs.Kept.{Hears, EndsHearing}
use Rattle.attached_client.specs.Client.{ClientSeen}
use Rattle.open_connection.specs.Connection.{OpenSeen, ConnectionSeen, connection_in}
use Rattle.open_connection.specs.declared.heard.Heard.{Heard}
use Rattle.open_connection.specs.declared.heard.Heard.TheVariants as H
use Rattle.open_connection.specs.declared.step.Step.{Step}
use Rattle.open_connection.specs.declared.step.Step.TheVariants as S

-- The first of the packets were handled, and for the next there was no memory.
pub record StopsAt (acts : Acts ClientSeen) (f : Framing) (client client' : Option ClientSeen) (ignored : ℕ) : Type 0 where
  pub before : List Packet
  pub after : List Packet
  pub packets : (left_of f).packets ≡ before ++ after
  pub outcome : handled acts client 0 before None ≡ record { attached = client'; ignored = ignored; ended = None }

-- of these bytes; or there was no memory for the bytes themselves
abbrev pub StopsShort : Acts ClientSeen → ConnectionSeen → List ℕ → Option ClientSeen → ℕ → Type 0
StopsShort acts old bytes client ignored = StopsAt acts (fed old.framing bytes) old.client client ignored

-- By the answer. Each tells how many messages were ignored, or the greatest number where they are more.
abbrev pub HearGives : Acts ClientSeen → ConnectionSeen → List ℕ → Heard → ConnectionSeen → Type 0
HearGives acts old bytes (H.GoesOn n) new = (ignored : ℕ) × (n ≡ min ignored greatest) × Hears acts old.framing old.client bytes new.framing new.client ignored
HearGives acts old bytes (H.Ends ending n) new = (ignored : ℕ) × (n ≡ min ignored greatest) × EndsHearing acts old.framing old.client bytes ending new.client ignored
HearGives acts old bytes (H.NoMemory n) new = (ignored : ℕ) × (n ≡ min ignored greatest) × StopsShort acts old bytes new.client ignored

-- the same of a connection with the room that its client has
abbrev pub HearsPiece : Acts ClientSeen → OpenSeen → List ℕ → Heard → OpenSeen → Type 0
HearsPiece acts o bytes answer o' = HearGives acts (connection_in o) bytes answer (connection_in o')

-- all packets that a framer still has: the same of what is left of its bytes
pub record HearsOn (acts : Acts ClientSeen) (f : Framing) (client : Option ClientSeen) (f' : Framing) (client' : Option ClientSeen) (ignored : ℕ) : Type 0 where
  pub limit : f'.limit ≡ f.limit
  pub going : f'.stopped ≡ false
  pub nothing_left : left_of f' ≡ record { packets = []; start = f'.start; rest = f'.rest; fault = None }
  pub packets : List Packet
  pub left : left_of f ≡ record { packets = packets; start = f'.start; rest = f'.rest; fault = None }
  pub outcome : handled acts client 0 packets None ≡ record { attached = client'; ignored = ignored; ended = None }

abbrev pub HearsLeft : Acts ClientSeen → Framing → Option ClientSeen → Heard → Framing → Option ClientSeen → Type 0
HearsLeft acts f client (H.GoesOn n) f' client' = (ignored : ℕ) × (n ≡ min ignored greatest) × HearsOn acts f client f' client' ignored
HearsLeft acts f client (H.Ends ending n) f' client' = (ignored : ℕ) × (n ≡ min ignored greatest)
    × (handled acts client 0 (left_of f).packets (left_of f).fault ≡ record { attached = client'; ignored = ignored; ended = Some ending })
HearsLeft acts f client (H.NoMemory n) f' client' = (ignored : ℕ) × (n ≡ min ignored greatest) × StopsAt acts f client client' ignored

-- one packet: handled, and perhaps ignored; or it ends the talk; or there was no memory, and the client is as it was
abbrev pub TakesPacket : Acts ClientSeen → Option ClientSeen → ℕ → Value → Step → Option ClientSeen → Type 0
TakesPacket acts client place value (S.Handled was_ignored) client' = (ignored : ℕ) (packets : List Packet) (fault : Option Fault)
    → handled acts client ignored (record { place = place; value = value } ∷ packets) fault ≡ handled acts client' (if was_ignored then ignored + 1 else ignored) packets fault
TakesPacket acts client place value (S.Ends ending) client' = (ignored : ℕ) (packets : List Packet) (fault : Option Fault)
    → handled acts client ignored (record { place = place; value = value } ∷ packets) fault ≡ record { attached = client'; ignored = ignored; ended = Some ending }
TakesPacket acts client place value S.NoMemory client' = client' ≡ client
