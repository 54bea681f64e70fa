-- What a framer keeps.
use Rattle.std.specs.Prelude.{◌≡◌, ℕ, ◌+◌, ◌*◌, ◌<◌, ◌≤◌, Option, Some, None, List, ◌++◌, length}
use Rattle.xp_base.specs.Counts.{count_sum}
use Rattle.packet_frames.specs.declared.fault.FrameFault.{FrameFault}
use Rattle.packet_frames.specs.Framing.{part, wrong, begins}

-- a fault that was answered is that of the bytes
abbrev pub IsFaultOf : ℕ → ℕ → List ℕ → Option (ℕ × FrameFault) → Type 0
IsFaultOf limit start rest None = Unit {0}
IsFaultOf limit start rest (Some f) = (at : ℕ) × (begins limit rest ≡ wrong at f.1) × (f.0 ≡ count_sum start at)

-- What was taken is in the buffer; with fewer than the wanted bytes more the rest is a part of a packet, and with
-- them no more than four chunks and a main packet; and the fault is that of the rest.
pub record IsFramer (limit start taken size wanted : ℕ) (rest : List ℕ) (fault : Option (ℕ × FrameFault)) : Type 0 where
  pub within : taken ≤ size
  pub waits : (next : List ℕ) → length next < wanted → begins limit (rest ++ next) ≡ part
  pub room : 0 < wanted → length rest + wanted ≤ 5 * (limit + 8)
  pub told : IsFaultOf limit start rest fault
