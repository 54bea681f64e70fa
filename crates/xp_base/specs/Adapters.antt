-- What goes through an adapter over a reader or a writer, where that reader or writer tells its bytes.
use Rattle.std.specs.Prelude.{ℕ, ◌≡◌, ◌≤◌, ◌<◌, Bool, true, false, Option, List, ◌++◌, length, take, MatchOption}
use Rattle.std.specs.Io.KnownBytes.{Keeps, Appends, Consumes, IsAtEnd}
use Rattle.xp_base.specs.declared.source.Get.{Get}
use Rattle.xp_base.specs.declared.source.Get.TheVariants as G
use Rattle.xp_base.specs.declared.sink.Put.{Put}
use Rattle.xp_base.specs.declared.sink.Put.TheVariants as P
use Rattle.xp_base.specs.Counts.{count_sum}
use Rattle.xp_base.specs.Lists.{IsPrefix}

-- a read into a piece, by what the reader has left before and after: so many of its next bytes, none of them only at its end or with no room; or it failed
abbrev pub ReadsOnce : Option (List ℕ) → Option (List ℕ) → Option ℕ → List ℕ → Type 0
ReadsOnce old new count piece =
    MatchOption count (Keeps old new) (λ n. (n ≤ length piece) × Consumes old new (take n piece) × (n ≡ 0 → 0 < length piece → IsAtEnd new))

-- a write of a piece, by what the writer holds before and after: it got so many bytes from the front; or it failed
abbrev pub WritesOnce : Option (List ℕ) → Option (List ℕ) → Option ℕ → List ℕ → Type 0
WritesOnce old new count piece = MatchOption count (Keeps old new) (λ n. (n ≤ length piece) × Appends old new (take n piece))

-- the writer got a part of the piece from its front, none of it or all of it perhaps
abbrev pub WritesFront : Option (List ℕ) → Option (List ℕ) → List ℕ → Type 0
WritesFront old new piece = (part : List ℕ) × IsPrefix part piece × Appends old new part

-- the writer got the piece whole where the answer is true, and else a part of it
abbrev pub WritesWhole : Option (List ℕ) → Option (List ℕ) → List ℕ → Bool → Type 0
WritesWhole old new piece true = Appends old new piece
WritesWhole old new piece false = WritesFront old new piece

-- a read by the source: the buffer grew by the reader's next bytes, and an answer without bytes leaves them all to the reader
abbrev pub PassesIn : Option (List ℕ) → Option (List ℕ) → List ℕ → List ℕ → Get → Type 0
PassesIn old new into into' (G.Got n) = (bytes : List ℕ) × (length bytes ≡ n) × (into' ≡ into ++ bytes) × Consumes old new bytes
PassesIn old new into into' G.End = Keeps old new × IsAtEnd new
PassesIn old new into into' G.Failed = Keeps old new
PassesIn old new into into' G.NoMemory = Keeps old new

-- a write by the sink: the writer got the piece whole, or a part of it from its front where writing failed
abbrev pub PassesOut : Option (List ℕ) → Option (List ℕ) → List ℕ → Put → Type 0
PassesOut old new piece P.Done = Appends old new piece
PassesOut old new piece P.Failed = WritesFront old new piece
PassesOut old new piece P.NoMemory = ⊥

-- the count of faults after a read, and after a write: one more exactly where it failed
abbrev pub faults_after_get : ℕ → Get → ℕ
faults_after_get faults (G.Got n) = faults
faults_after_get faults G.End = faults
faults_after_get faults G.Failed = count_sum faults 1
faults_after_get faults G.NoMemory = faults

abbrev pub faults_after_put : ℕ → Put → ℕ
faults_after_put faults P.Done = faults
faults_after_put faults P.Failed = count_sum faults 1
faults_after_put faults P.NoMemory = faults
