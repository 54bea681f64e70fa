-- What a step asks of the state that it finds, which every session keeps, and how a read answers an end.
use Rattle.std.specs.Prelude.{◌≡◌, ◌≤◌, length}
use Rattle.xp_base.specs.Clocks.{last_moment}
use Rattle.connection_ends.specs.declared.end.End.{End}
use Rattle.connection_ends.specs.declared.end.End.TheVariants as E
use Rattle.session_steps.specs.declared.answers.Received.{Received}
use Rattle.session_steps.specs.declared.answers.Received.TheVariants as R
use Rattle.session_steps.specs.Seen.{Known, Seen}

-- each connection that was handed out has a slot, and the clock is a moment
pub record IsReady {B : Type 0} (known : Known B) (s : Seen B) : Type 0 where
  pub counted : length s.slots ≡ (known.provider s.bay).count
  pub early : s.clock ≤ last_moment

-- want of memory is an answer of its own
abbrev pub answer_of : End → Received
answer_of E.Settled = R.Ended E.Settled
answer_of E.Left = R.Ended E.Left
answer_of (E.Refused fault) = R.Ended (E.Refused fault)
answer_of (E.Broken place fault) = R.Ended (E.Broken place fault)
answer_of (E.TakenOver c) = R.Ended (E.TakenOver c)
answer_of E.LinkFault = R.Ended E.LinkFault
answer_of E.Stalled = R.Ended E.Stalled
answer_of E.Flooded = R.Ended E.Flooded
answer_of E.Silent = R.Ended E.Silent
answer_of E.Short = R.NoMemory
answer_of E.Unended = R.Ended E.Unended
