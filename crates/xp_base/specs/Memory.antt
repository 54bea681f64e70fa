-- Input and output in memory.
use Rattle.std.specs.Prelude.{ℕ, List, ◌++◌, drop, Some}
use Rattle.xp_base.specs.declared.source.Get.{Get}
use Rattle.xp_base.specs.declared.source.Get.TheVariants as G
use Rattle.xp_base.specs.declared.sink.Put.{Put}
use Rattle.xp_base.specs.declared.sink.Put.TheVariants as P
use Rattle.xp_base.specs.Counts.{count_sum}
use Rattle.xp_base.specs.Streams.{SourceRecord, SinkRecord}

-- the bytes that are left to give, the numbers of the calls that fail, how many calls there were, and how many failed
pub record MemoryInput : Type 0 where
  pub left : List ℕ
  pub failing : List ℕ
  pub calls : ℕ
  pub faults : ℕ

-- the bytes that were taken, and the same
pub record MemoryOutput : Type 0 where
  pub taken : List ℕ
  pub failing : List ℕ
  pub calls : ℕ
  pub faults : ℕ

-- as a source and a sink they tell their bytes
abbrev pub input_record : MemoryInput → SourceRecord
input_record m = record { left = Some m.left; faults = m.faults }

abbrev pub output_record : MemoryOutput → SinkRecord
output_record m = record { taken = Some m.taken; faults = m.faults }

-- after a read with this answer: each call counts, a failed one counts one fault, and only bytes that were given are gone
abbrev pub after_get : MemoryInput → Get → MemoryInput
after_get m (G.Got n) = record m { left = drop n m.left; calls = count_sum m.calls 1 }
after_get m G.End = record m { calls = count_sum m.calls 1 }
after_get m G.Failed = record m { calls = count_sum m.calls 1; faults = count_sum m.faults 1 }
after_get m G.NoMemory = record m { calls = count_sum m.calls 1 }

-- after a write of a piece with this answer: the same, and the piece was taken whole or not at all
abbrev pub after_put : MemoryOutput → List ℕ → Put → MemoryOutput
after_put m piece P.Done = record m { taken = m.taken ++ piece; calls = count_sum m.calls 1 }
after_put m piece P.Failed = record m { calls = count_sum m.calls 1; faults = count_sum m.faults 1 }
after_put m piece P.NoMemory = record m { calls = count_sum m.calls 1 }
