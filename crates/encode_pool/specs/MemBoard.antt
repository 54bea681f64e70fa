-- A board in memory: what it holds, and what each of its calls leaves of it. This project's own.
use Rattle.std.specs.Prelude.{ℕ, ◌≡◌, ◌==◌, Bool, false, Option, None, Some, List, [], ◌∷◌, ◌++◌, if◌then◌else◌}
use Rattle.std.specs.List.{list_any}
use Rattle.capture_jobs.specs.Jobs.{EncodingJob, FinishedJob}
use Rattle.capture_jobs.specs.declared.answers.Taken.{Taken}
use Rattle.capture_jobs.specs.declared.answers.Taken.TheVariants as T
use Rattle.capture_jobs.specs.declared.answers.Filed.{Filed}
use Rattle.capture_jobs.specs.declared.answers.Filed.TheVariants as F
use Rattle.encode_pool.specs.Board.{Board, handed_out, counted_up, released}

-- what it is as a board; the jobs that wait and what was filed, in order; the filings, counted from 1, that find no memory; the look,
-- counted from 1, at which it tells of a stop; and how many filings and looks there were
pub record BoardInMemory : Type 0 where
  pub board : Board
  pub waiting : List EncodingJob
  pub results : List FinishedJob
  pub failing : List ℕ
  pub stopping : ℕ
  pub filings : ℕ
  pub looks : ℕ

abbrev pub empty_board : Board
empty_board = record { held = None; taken = 0; filed = 0; nothings = 0; stops = 0 }

abbrev pub new_board : List EncodingJob → List ℕ → ℕ → BoardInMemory
new_board waiting failing stopping = record {
  board = empty_board;
  waiting = waiting;
  results = [];
  failing = failing;
  stopping = stopping;
  filings = 0;
  looks = 0;
}

-- the first job that waits is handed out; nothing exactly where none waits
abbrev pub MemoryTakes : BoardInMemory → BoardInMemory → Taken → Type 0
MemoryTakes old new (T.Job job) =
    (old.waiting ≡ job ∷ new.waiting)
    × (new ≡ record old {
      board = record old.board { held = Some (handed_out job); taken = counted_up old.board.taken 1 };
      waiting = new.waiting;
    })
MemoryTakes old new T.Nothing =
    (old.waiting ≡ [])
    × (new ≡ record old { board = record old.board { nothings = counted_up old.board.nothings 1 } })

-- whether the next filing is one that finds no memory
abbrev pub next_fails : BoardInMemory → Bool
next_fails b = list_any (λ n. n == counted_up b.filings 1) b.failing

-- the result stands behind those that were filed; or it is handed back, and only the filing is counted
abbrev pub MemoryFiles : BoardInMemory → BoardInMemory → FinishedJob → Filed → Type 0
MemoryFiles old new done F.Filed =
    (next_fails old ≡ false)
    × (new ≡ record old { board = released old.board; results = old.results ++ done ∷ []; filings = counted_up old.filings 1 })
MemoryFiles old new done (F.Back back) = (back ≡ done) × (new ≡ record old { filings = counted_up old.filings 1 })
MemoryFiles old new done F.Late = ⊥
MemoryFiles old new done (F.Foreign back) = ⊥

-- a stop is told of at its look alone
abbrev pub MemoryStops : BoardInMemory → BoardInMemory → Bool → Type 0
MemoryStops old new stop =
    (stop ≡ (counted_up old.looks 1 == old.stopping))
    × (new ≡ record old {
      board = if stop then record old.board { stops = counted_up old.board.stops 1 } else old.board;
      looks = counted_up old.looks 1;
    })
