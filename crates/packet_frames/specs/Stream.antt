-- The packets of a stream of bytes. It is read byte by byte: after each byte it is asked whether the bytes behind
-- the last packet are a whole packet, a fault or neither. So a stream has the same packets in whatever pieces it comes.
use Rattle.std.specs.Prelude.{ℕ, Option, Some, None, List, [], ◌∷◌, ◌++◌}
use Rattle.xp_base.specs.Counts.{count_sum}
use Rattle.bencode_values.specs.declared.value.Value.{Value}
use Rattle.packet_frames.specs.declared.fault.FrameFault.{FrameFault}
use Rattle.packet_frames.specs.Framing.{Beginning, part, whole, wrong, begins}

-- a packet: the place of its main header, and its value with the chunks' bytes put in
pub record Packet : Type 0 where
  pub place : ℕ
  pub value : Value

pub record Fault : Type 0 where
  pub place : ℕ
  pub kind : FrameFault

-- The packets so far, the place of the first byte behind them, the unread bytes behind them, and the fault where one
-- stands. Places are `u64` and stay at the greatest once there.
pub record Stream : Type 0 where
  pub packets : List Packet
  pub start : ℕ
  pub rest : List ℕ
  pub fault : Option Fault

abbrev pub judged : Stream → List ℕ → Beginning → Stream
judged s rest part = record s { rest = rest }
judged s rest (whole at v size) = record {
  packets = s.packets ++ record { place = count_sum s.start at; value = v } ∷ [];
  start = count_sum s.start size;
  rest = [];
  fault = None;
}
judged s rest (wrong at kind) = record s { rest = rest; fault = Some (record { place = count_sum s.start at; kind = kind }) }

-- one byte more; behind a fault nothing is read
abbrev pub push_where : ℕ → Stream → ℕ → Option Fault → Stream
push_where limit s b None = judged s (s.rest ++ b ∷ []) (begins limit (s.rest ++ b ∷ []))
push_where limit s b (Some fault) = s

unfoldable pub push : ℕ → Stream → ℕ → Stream
push limit s b = push_where limit s b s.fault

unfoldable pub read_on : ℕ → Stream → List ℕ → Stream
read_on limit s [] = s
read_on limit s (b ∷ bytes) = read_on limit (push limit s b) bytes

-- nothing read yet, from this place on
abbrev pub from_place : ℕ → Stream
from_place start = record { packets = []; start = start; rest = []; fault = None }

-- the packets of these bytes, what is left of them, and the fault
abbrev pub packets_of : ℕ → List ℕ → Stream
packets_of limit bytes = read_on limit (from_place 0) bytes
