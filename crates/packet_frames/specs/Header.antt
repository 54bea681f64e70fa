-- The eight bytes of a header. Their layout is that of Xpra's protocol; which flags and levels are taken, the
-- limit and the rule on indexes are this project's own.
use Rattle.std.specs.Prelude.{ℕ, ◌<◌, ◌≤◌, ◌+◌, ◌*◌, ◌==◌, ◌||◌, ◌&&◌, not, Bool, List, [], ◌∷◌, length, nat_lt, nat_le, slice_index, if◌then◌else◌}
use Rattle.std.specs.List.{list_any}
use Rattle.packet_frames.specs.declared.fault.FrameFault.TheVariants as F
use Rattle.packet_frames.specs.declared.head.Head.{Head}
use Rattle.packet_frames.specs.declared.head.Head.TheVariants as H

-- four bytes as a number, the highest first
abbrev pub size_of : ℕ → ℕ → ℕ → ℕ → ℕ
size_of a b c d = ((a * 256 + b) * 256 + c) * 256 + d

-- whether an index was given by a chunk that came before
abbrev pub is_given : ℕ → List ℕ → Bool
is_given index given = list_any (λ i. i == index) given

-- whether an index may come after chunks with these: no second time, and at most four
abbrev pub may_come : ℕ → List ℕ → Bool
may_come index given = not (is_given index given) && (index == 0 || nat_lt (length given) 4)

-- bytes 4 to 7: the size of what follows, at most the limit
abbrev pub size_bytes : ℕ → ℕ → List ℕ → Head
size_bytes limit index (a ∷ b ∷ c ∷ d ∷ bytes) =
    if nat_le (size_of a b c d) limit then H.Whole index (size_of a b c d) else H.Wrong 4 (F.Size (size_of a b c d))
size_bytes limit index bytes = H.Part

-- byte 3: 0 for a main packet, else the place in its list that the chunk stands for
abbrev pub index_byte : ℕ → List ℕ → List ℕ → Head
index_byte limit given [] = H.Part
index_byte limit given (index ∷ bytes) = if may_come index given then size_bytes limit index bytes else H.Wrong 3 (F.Chunk index)

-- byte 2: no compression
abbrev pub level_byte : ℕ → List ℕ → List ℕ → Head
level_byte limit given [] = H.Part
level_byte limit given (level ∷ bytes) = if level == 0 then index_byte limit given bytes else H.Wrong 2 (F.Level level)

-- byte 1: the flags, of which one bit is let pass
abbrev pub flags_byte : ℕ → List ℕ → List ℕ → Head
flags_byte limit given [] = H.Part
flags_byte limit given (flags ∷ bytes) = if flags == 0 || flags == 8 then level_byte limit given bytes else H.Wrong 1 (F.Flags flags)

-- what the bytes from a header's first on say, behind chunks with these indexes
unfoldable pub head_of : ℕ → List ℕ → List ℕ → Head
head_of limit given [] = H.Part
head_of limit given (magic ∷ bytes) = if magic == 80 then flags_byte limit given bytes else H.Wrong 0 F.Magic

abbrev pub size_in : List ℕ → ℕ
size_in bytes = size_of (slice_index bytes 4) (slice_index bytes 5) (slice_index bytes 6) (slice_index bytes 7)

abbrev pub size_at : ℕ → ℕ → List ℕ → Head
size_at limit index bytes =
    if nat_le (length bytes) 7 then H.Part
    else if nat_le (size_in bytes) limit then H.Whole index (size_in bytes)
    else H.Wrong 4 (F.Size (size_in bytes))

-- the same by the places of the bytes, as far as they are there
abbrev pub head_at : ℕ → List ℕ → List ℕ → Head
head_at limit given bytes =
    if nat_le (length bytes) 0 then H.Part
    else if slice_index bytes 0 == 80 then
    (if nat_le (length bytes) 1 then H.Part
    else if slice_index bytes 1 == 0 || slice_index bytes 1 == 8 then
    (if nat_le (length bytes) 2 then H.Part
    else if slice_index bytes 2 == 0 then
    (if nat_le (length bytes) 3 then H.Part
    else if may_come (slice_index bytes 3) given then size_at limit (slice_index bytes 3) bytes
    else H.Wrong 3 (F.Chunk (slice_index bytes 3)))
    else H.Wrong 2 (F.Level (slice_index bytes 2)))
    else H.Wrong 1 (F.Flags (slice_index bytes 1)))
    else H.Wrong 0 F.Magic

-- what a header says, its bytes are there
abbrev pub IsThere : List ℕ → Head → Type 0
IsThere bytes H.Part = Unit {0}
IsThere bytes (H.Wrong place kind) = place < length bytes
IsThere bytes (H.Whole index size) = 8 ≤ length bytes
