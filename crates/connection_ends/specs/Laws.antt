-- What becomes of a cause while the connections go on.
use Rattle.std.specs.Prelude.{ℕ, ◌≡◌, ◌≢◌, ◌≤◌, Option, Some, None, List, ◌++◌}
use Rattle.link_bay.specs.Connections.{ConnectionRecord}
use Rattle.window_model.specs.Desktop.{Window}
use Rattle.connection_ends.specs.declared.end.End.{End}
use Rattle.connection_ends.specs.declared.end.End.TheVariants as E
use Rattle.connection_ends.specs.Causes.{HasCause}

-- more bytes perhaps, told as before or not
abbrev pub GoOn : Option (List ℕ) → Option (List ℕ) → Type 0
GoOn None None = Unit {0}
GoOn None (Some now) = ⊥
GoOn (Some was) None = ⊥
GoOn (Some was) (Some now) = (more : List ℕ) × (now ≡ was ++ more)

-- where a later connection took this one over, that one gives more perhaps
abbrev pub TakerGoesOn : (ℕ → ConnectionRecord) → (ℕ → ConnectionRecord) → End → Type 0
TakerGoesOn now now' (E.TakenOver c) = GoOn (now c.0).given (now' c.0).given
TakerGoesOn now now' e = Unit {0}

-- an ended connection keeps its cause, as long as nothing becomes of it, while the one that took it over gives more
abbrev pub CausesStay : Type 0
CausesStay = (desk : List Window) (was now now' : ℕ → ConnectionRecord) (k : ℕ) (e : End) → now' k ≡ now k → TakerGoesOn now now' e
    → HasCause desk was now k e → HasCause desk was now' k e

-- one time is before another, for one connection
pub record IsEarlier (was was' : ConnectionRecord) : Type 0 where
  pub given : GoOn was.given was'.given
  pub faults : was.faults ≤ was'.faults
  pub dry : was.dry ≤ was'.dry
  pub waits : was.waits ≤ was'.waits
  pub ends : was.ends ≤ was'.ends

abbrev pub CausesCountFromEarlier : Type 0
CausesCountFromEarlier = (desk : List Window) (was was' now : ℕ → ConnectionRecord) (k : ℕ) (e : End) → IsEarlier (was k) (was' k) → HasCause desk was' now k e → HasCause desk was now k e

abbrev pub OnlySettledSpeaksOfTheDesktop : Type 0
OnlySettledSpeaksOfTheDesktop = (desk desk' : List Window) (was now : ℕ → ConnectionRecord) (k : ℕ) (e : End) → e ≢ E.Settled → HasCause desk was now k e → HasCause desk' was now k e
