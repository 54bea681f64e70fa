-- What a part of the reader returns, by the steps that it goes.
use Rattle.std.specs.Prelude.{◌≡◌, ℕ, ◌≤◌, ◌<◌, List, length, drop, Result, Ok, Err}
use Rattle.bencode_values.specs.declared.reading.Read.TheVariants as R
use Rattle.bencode_values.specs.declared.stop.Stop.{Stop}
use Rattle.bencode_values.specs.declared.stop.Stop.TheVariants as S
use Rattle.bencode_values.specs.Steps.{State, feed, answer_of}

-- From the state s, that was reached at the place, the bytes lead on to the state that the part found makes at
-- the next place, or reading them all comes to the answer that the error says.
abbrev pub Comes : {A : Type 0} → List ℕ → ℕ → State → (ℕ → A → State) → Result (A × ℕ) Stop → Type 0
Comes bytes place s then (Ok found) = (place < found.1) × (found.1 ≤ length bytes) × (feed s (drop place bytes) ≡ feed (then found.1 found.0) (drop found.1 bytes))
Comes bytes place s then (Err S.Short) = answer_of (feed s (drop place bytes)) ≡ R.Short
Comes bytes place s then (Err (S.Bad at why)) = answer_of (feed s (drop place bytes)) ≡ R.Bad at why
Comes bytes place s then (Err S.NoMemory) = Unit {0}
