-- What reading the input may answer.
use Rattle.std.specs.Prelude.{ℕ, ◌<◌, ◌≤◌, Option, List, length}
use Rattle.xp_base.specs.Told.{HandsOut, HasNoneLeft}
use Rattle.xpra_server.specs.declared.input.Input.{Input}
use Rattle.xpra_server.specs.declared.input.Input.TheVariants as I

abbrev pub IsFailed : Input → Type 0
IsFailed (I.Whole text) = ⊥
IsFailed I.Long = ⊥
IsFailed I.Failed = Unit {0}
IsFailed I.NoMemory = ⊥

-- more bytes than this were read, from the front of those that were left, where these are told
abbrev pub ReadsPast : ℕ → Option (List ℕ) → Option (List ℕ) → Type 0
ReadsPast limit left left' = (bytes : List ℕ) × HandsOut left left' bytes × (limit < length bytes)

-- the bytes left before and after, and the answer
abbrev pub ReadsAll : Option (List ℕ) → Option (List ℕ) → ℕ → Input → Type 0
ReadsAll left left' limit (I.Whole text) = HandsOut left left' text.items × HasNoneLeft left' × (length text.items ≤ limit)
ReadsAll left left' limit I.Long = ReadsPast limit left left'
ReadsAll left left' limit I.Failed = Unit {0}
ReadsAll left left' limit I.NoMemory = Unit {0}
