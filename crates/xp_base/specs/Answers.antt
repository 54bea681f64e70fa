-- What a source and a sink may answer, and what that leaves of them.
use Rattle.std.specs.Prelude.{ℕ, ◌≤◌, ◌≡◌, List, ◌++◌, take, length}
use Rattle.xp_base.specs.declared.source.Get.{Get}
use Rattle.xp_base.specs.declared.source.Get.TheVariants as G
use Rattle.xp_base.specs.declared.sink.Put.{Put}
use Rattle.xp_base.specs.declared.sink.Put.TheVariants as P
use Rattle.xp_base.specs.Counts.{Rose}
use Rattle.xp_base.specs.Told.{told_append, HandsOut, HasNoneLeft}
use Rattle.xp_base.specs.Streams.{SourceRecord, SinkRecord}

-- a read of at most so many bytes: from the source before to the source after, from the buffer before to the buffer after
abbrev pub GetGives : SourceRecord → SourceRecord → List ℕ → List ℕ → ℕ → Get → Type 0
GetGives old new into into' max (G.Got n) =
    (bytes : List ℕ) × (length bytes ≡ n) × (1 ≤ n) × (n ≤ max) × (into' ≡ into ++ bytes)
    × HandsOut old.left new.left bytes × (new.faults ≡ old.faults)
GetGives old new into into' max G.End = (into' ≡ into) × HasNoneLeft old.left × (new ≡ old)
GetGives old new into into' max G.Failed = (into' ≡ into) × Rose old.faults new.faults × (new ≡ record old { faults = new.faults })
GetGives old new into into' max G.NoMemory = (into' ≡ into) × (new ≡ old)

-- a write of a piece: all of it was taken, or a part of it from its front
abbrev pub PutGives : SinkRecord → SinkRecord → List ℕ → Put → Type 0
PutGives old new piece P.Done = new ≡ record old { taken = told_append old.taken piece }
PutGives old new piece P.Failed =
    (n : ℕ) × (n ≤ length piece) × Rose old.faults new.faults
    × (new ≡ record { taken = told_append old.taken (take n piece); faults = new.faults })
PutGives old new piece P.NoMemory =
    (n : ℕ) × (n ≤ length piece) × (new ≡ record old { taken = told_append old.taken (take n piece) })

-- where bytes are given they are so many
abbrev pub GetsSome : ℕ → Get → Type 0
GetsSome count (G.Got n) = n ≡ count
GetsSome count G.End = Unit {0}
GetsSome count G.Failed = Unit {0}
GetsSome count G.NoMemory = Unit {0}
