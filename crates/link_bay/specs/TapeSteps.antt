-- What each call of the provider of tapes does, exactly.
use Rattle.std.specs.Prelude.{ℕ, ◌+◌, ◌≡◌, ◌≢◌, ◌≤◌, Bool, true, false, min, Contains, Some, List, [], ◌∷◌, ◌++◌, length, take, replicate, slice_get, slice_set}
use Rattle.xp_base.specs.Counts.{count_sum}
use Rattle.link_bay.specs.declared.bay.Accept.{Accept}
use Rattle.link_bay.specs.declared.bay.Accept.TheVariants as A
use Rattle.link_bay.specs.declared.bay.Gave.{Gave}
use Rattle.link_bay.specs.declared.bay.Gave.TheVariants as G
use Rattle.link_bay.specs.declared.bay.Wrote.{Wrote}
use Rattle.link_bay.specs.declared.bay.Wrote.TheVariants as W
use Rattle.link_bay.specs.Counted.{after_write}
use Rattle.link_bay.specs.Tapes.{Tape, PlayedTape, TapeProvider, fresh_tape, left_on}

-- the next call, after so many, is one of those that fail
abbrev pub FailsNext : List ℕ → ℕ → Type 0
FailsNext failing calls = Contains failing (count_sum calls 1)

abbrev pub PassesNext : List ℕ → ℕ → Type 0
PassesNext failing calls = FailsNext failing calls → ⊥

-- every read counts, whatever it answers, and so does every write and every accept
abbrev pub read_once : PlayedTape → PlayedTape
read_once p = record p { reads = count_sum p.reads 1 }

abbrev pub written_once : PlayedTape → PlayedTape
written_once p = record p { writes = count_sum p.writes 1 }

abbrev pub accepted_once : TapeProvider → TapeProvider
accepted_once b = record b { accepts = count_sum b.accepts 1 }

-- a read of at most so many bytes: the connection before and after, the buffer before and after
abbrev pub ReadOfTape : PlayedTape → PlayedTape → List ℕ → List ℕ → ℕ → Gave → Type 0
ReadOfTape old new into into' max (G.Bytes n) =
    PassesNext old.tape.failing_reads old.reads × (n ≡ min (min (length (left_on old)) max) old.tape.piece) × (1 ≤ n)
    × (into' ≡ into ++ take n (left_on old)) × (new ≡ record (read_once old) { place = old.place + n })
ReadOfTape old new into into' max G.Again =
    PassesNext old.tape.failing_reads old.reads × (left_on old ≡ []) × (old.tape.ends ≡ false) × (into' ≡ into)
    × (new ≡ record (read_once old) { counts = record old.counts { waits = count_sum old.counts.waits 1; unheard = 0 } })
ReadOfTape old new into into' max G.End =
    PassesNext old.tape.failing_reads old.reads × (left_on old ≡ []) × (old.tape.ends ≡ true) × (into' ≡ into)
    × (new ≡ record (read_once old) { counts = record old.counts { ends = count_sum old.counts.ends 1 } })
ReadOfTape old new into into' max G.Failed =
    FailsNext old.tape.failing_reads old.reads × (into' ≡ into)
    × (new ≡ record (read_once old) { counts = record old.counts { faults = count_sum old.counts.faults 1 } })
ReadOfTape old new into into' max G.NoMemory =
    PassesNext old.tape.failing_reads old.reads × (left_on old ≢ []) × (into' ≡ into) × (new ≡ read_once old)

-- a write of a piece: the connection before and after
abbrev pub WriteOfTape : PlayedTape → PlayedTape → List ℕ → Wrote → Type 0
WriteOfTape old new piece (W.Took n) =
    PassesNext old.tape.failing_writes old.writes × (n ≡ min (length piece) old.tape.quota)
    × (new ≡ record (written_once old) {
      sent = old.sent ++ take n piece;
      heard = old.heard ++ replicate n old.place;
      counts = after_write piece n old.counts;
    })
WriteOfTape old new piece W.Failed =
    FailsNext old.tape.failing_writes old.writes
    × (new ≡ record (written_once old) { counts = record old.counts { faults = count_sum old.counts.faults 1 } })
WriteOfTape old new piece W.NoMemory = PassesNext old.tape.failing_writes old.writes × (new ≡ written_once old)

-- an accept: the provider before and after
abbrev pub AcceptOfTapes : TapeProvider → TapeProvider → Accept → Type 0
AcceptOfTapes old new (A.Conn c) =
    PassesNext old.failing old.accepts × (c.0 ≡ length old.played)
    × (tape : Tape) × (rest : List Tape) × (old.waiting ≡ tape ∷ rest)
    × (new ≡ record (accepted_once old) { waiting = rest; played = old.played ++ fresh_tape tape ∷ [] })
AcceptOfTapes old new A.Nobody =
    PassesNext old.failing old.accepts × (old.waiting ≡ []) × (new ≡ record (accepted_once old) { lulls = count_sum old.lulls 1 })
AcceptOfTapes old new A.Failed =
    FailsNext old.failing old.accepts × (new ≡ record (accepted_once old) { faults = count_sum old.faults 1 })
AcceptOfTapes old new A.NoMemory =
    PassesNext old.failing old.accepts × (old.waiting ≢ []) × (new ≡ accepted_once old)

-- a call on one connection: it is that of its tape, and nothing else changes
abbrev pub OnTape : TapeProvider → TapeProvider → ℕ → (PlayedTape → PlayedTape → Type 0) → Type 0
OnTape old new c Step =
    (was : PlayedTape) × (is : PlayedTape) × (slice_get old.played c ≡ Some was) × Step was is
    × (new ≡ record old { played = slice_set old.played c is })
