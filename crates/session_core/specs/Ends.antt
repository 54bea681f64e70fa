-- The ends of connections, by their numbers, and what is left to do before all have ended.
use Rattle.std.specs.Prelude.{ℕ, ◌+◌, ◌*◌, ◌<◌, ◌≤◌, ◌≡◌, ◌⊎◌, Bool, true, false, Option, Some, None, Result, Ok, Err, List, length, slice_set, slice_index_or, count_by, All}
use Rattle.client_connection.specs.declared.ends.End.{End}
use Rattle.client_connection.specs.declared.ends.End.TheVariants.{Settled, Short}
use Rattle.client_connection.specs.declared.answers.Sent.{Sent}
use Rattle.client_connection.specs.declared.answers.Sent.TheVariants as S
use Rattle.client_connection.specs.Clients.{ClientSeen, waiting}
use Rattle.session_core.specs.State.{is_unended, open_client}

-- an end stays once it is not `Unended`
pub record KeepsEnds (old new : List End) : Type 0 where
  pub longer : length old ≤ length new
  pub stay : (k : ℕ) (e : End) → k < length old → is_unended (slice_index_or old k e) ≡ false → slice_index_or new k e ≡ slice_index_or old k e

-- no connection is open
abbrev pub AllEnded : List End → Type 0
AllEnded ends = All (λ e. is_unended e ≡ false) ends

-- only what was `Short` before is so after
abbrev pub NoMoreShort : List End → List End → Type 0
NoMoreShort old new = (k : ℕ) (e : End) → k < length new → slice_index_or new k e ≡ Short → (k < length old) × (slice_index_or old k e ≡ Short)

-- one connection that was open has ended so
pub record EndsOne (old : List End) (ended : End) (new : List End) : Type 0 where
  pub number : ℕ
  pub within : number < length old
  pub unended : is_unended (slice_index_or old number ended) ≡ true
  pub closed : is_unended ended ≡ false
  pub changed : new ≡ slice_set old number ended

-- where it is said that this connection has to end so, it has or it is open still
abbrev pub LeavesEnds : {A : Type 0} → ℕ → List End → Result A End → List End → Type 0
LeavesEnds k old (Ok done) new = new ≡ old
LeavesEnds k old (Err ended) new = (is_unended ended ≡ false) × ((new ≡ old) ⊎ (new ≡ slice_set old k ended))

-- the end of a connection after its rounds
abbrev pub rounds_end : {A : Type 0} → Result A End → End
rounds_end (Ok done) = Settled
rounds_end (Err ended) = ended

-- what settling has left to do: connections to accept and settle, and those to settle
abbrev pub work : ℕ → List End → ℕ
work room ends = 2 * room + count_by is_unended ends

-- how many bytes wait to be written to this connection
abbrev pub waiting_in : Option ClientSeen → ℕ
waiting_in None = 0
waiting_in (Some c) = waiting c

abbrev pub waiting_at : List (Option ClientSeen) → ℕ → ℕ
waiting_at clients k = waiting_in (open_client clients k)

-- fewer bytes wait where something was written, and no more where nothing was
abbrev pub WritesLess : Bool → ℕ → ℕ → Type 0
WritesLess true old new = new < old
WritesLess false old new = new ≤ old

-- the same of one write by its answer
abbrev pub SendsLess : Sent → ℕ → ℕ → Type 0
SendsLess S.Closed old new = new ≤ old
SendsLess S.Idle old new = new ≤ old
SendsLess (S.Took n) old new = new < old
SendsLess S.Again old new = new ≤ old
SendsLess (S.Ended ended) old new = new ≤ old
SendsLess S.NoMemory old new = new ≤ old
