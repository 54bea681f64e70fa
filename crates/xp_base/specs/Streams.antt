-- What is known of an input and of an output.
use Rattle.std.specs.Prelude.{ℕ, Option, List}

-- the bytes that are left, where the source tells them, and how often reading failed
pub record SourceRecord : Type 0 where
  pub left : Option (List ℕ)
  pub faults : ℕ

-- the bytes that were taken, where the sink tells them, and how often writing failed
pub record SinkRecord : Type 0 where
  pub taken : Option (List ℕ)
  pub faults : ℕ
