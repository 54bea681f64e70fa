-- What a part of the reader answers, by what the bytes begin with.
use Rattle.std.specs.Prelude.{◌≡◌, ℕ, ◌+◌, ◌*◌, ◌≤◌, ◌<◌, List, ◌++◌, length, slice_range}
use Rattle.packet_frames.specs.declared.ahead.Ahead.{Ahead}
use Rattle.packet_frames.specs.declared.begun.Begun.{Begun}
use Rattle.packet_frames.specs.declared.begun.Begun.TheVariants as B
use Rattle.packet_frames.specs.Framing.{Beginning, part, whole, wrong, Chunk, begins}

-- the chunk with its bytes
abbrev pub chunk_in : List ℕ → Ahead → Chunk
chunk_in bytes chunk = record { index = chunk.index; at = chunk.at; bytes = slice_range bytes (chunk.at + 8) chunk.end }

-- its header and its bytes are there
pub record LiesIn (bytes : List ℕ) (chunk : Ahead) : Type 0 where
  pub header : chunk.at + 8 ≤ chunk.end
  pub content : chunk.end ≤ length bytes

-- the answer is what a whole content makes of the bytes, never a part
abbrev pub Says : Beginning → Begun → Type 0
Says b (B.Part more) = ⊥
Says b (B.Whole at v size) = b ≡ whole at v size
Says b (B.Wrong place fault) = b ≡ wrong place fault

-- The same of a packet. Where the answer is a part, so are the bytes with fewer than so many more, and with so many more
-- they are no more than four chunks and a main packet.
abbrev pub BeginsAs : ℕ → List ℕ → Begun → Type 0
BeginsAs limit bytes (B.Part more) =
    (1 ≤ more) × ((next : List ℕ) → length next < more → begins limit (bytes ++ next) ≡ part) × (length bytes + more ≤ 5 * (limit + 8))
BeginsAs limit bytes (B.Whole at v size) = begins limit bytes ≡ whole at v size
BeginsAs limit bytes (B.Wrong place fault) = begins limit bytes ≡ wrong place fault
