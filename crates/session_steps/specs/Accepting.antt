-- An accept.
use Rattle.std.specs.Prelude.{ℕ, ◌≡◌, ◌≤◌, ◌<◌, ◌^◌, true, List, [], ◌∷◌, ◌++◌}
use Rattle.link_bay.specs.Connections.{OthersStay}
use Rattle.link_bay.specs.Answers.{AcceptGives}
use Rattle.link_bay.specs.declared.bay.Accept.{Accept}
use Rattle.link_bay.specs.declared.bay.Accept.TheVariants as B
use Rattle.connection_table.specs.Tables.{Open, open_count}
use Rattle.open_connection.specs.Connection.{fresh}
use Rattle.session_steps.specs.declared.answers.Accepted.{Accepted}
use Rattle.session_steps.specs.declared.answers.Accepted.TheVariants as A
use Rattle.session_steps.specs.Seen.{Known, Seen, IsAsBefore}

-- so many connections may be open at once
abbrev pub capacity : ℕ
capacity = 8

-- the provider was asked once, and answered so
pub record Asks {B : Type 0} (known : Known B) (old new : Seen B) (accept : Accept) : Type 0 where
  pub room : open_count old.slots < capacity
  pub gives : AcceptGives known.tells (known.provider old.bay) (known.provider new.bay) (known.connection new.bay) accept
  pub others : OthersStay (known.connection old.bay) (known.connection new.bay) (known.provider old.bay).count
  pub numbered : (known.provider new.bay).count < 2 ^ 32

-- by the answer; without memory the provider is known as before, whether it was asked or not
abbrev pub Accepts : {B : Type 0} → Known B → Seen B → Accepted → Seen B → Type 0
Accepts known old A.Full new = (capacity ≤ open_count old.slots) × (new ≡ old)
Accepts known old (A.Conn c) new = Asks known old new (B.Conn c) × (new ≡ record old { slots = old.slots ++ Open fresh ∷ []; bay = new.bay })
Accepts known old A.Nobody new = Asks known old new B.Nobody × (new ≡ record old { bay = new.bay })
Accepts known old A.Failed new = Asks known old new B.Failed × (new ≡ record old { accept_failed = true; bay = new.bay })
Accepts known old A.NoMemory new = (open_count old.slots < capacity) × IsAsBefore known old.bay new.bay × (new ≡ record old { bay = new.bay })
