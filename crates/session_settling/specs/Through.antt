-- What settling does to a session: acts in order, whatever moment it began at.
use Rattle.std.specs.Prelude.{ℕ, ◌≡◌, Bool, List, [], ◌∷◌}
use Rattle.session_steps.specs.Seen.{Known, Seen}
use Rattle.session_steps.specs.Settling.{Act, Accepting, Reading, Writing, Drawn, Closing, settling_from, SettlesBy}
use Rattle.session_steps.specs.Steady.{Phase, IsSteady}

-- a session that is being settled since some moment
abbrev pub IsSettling : {B : Type 0} → Known B → Seen B → Type 0
IsSettling {B = B} known s = (began : Seen B) × (were_opened : ℕ → Bool) × IsSteady known (settling_from known began) were_opened s

-- each act may be made
abbrev pub AllMay : (Act → Type 0) → List Act → Type 0
AllMay May [] = Unit {0}
AllMay May (act ∷ acts) = May act × AllMay May acts

-- such acts lead from one session to the other
pub record ActsThrough {B : Type 0} (known : Known B) (phase : Phase) (May : Act → Type 0) (old new : Seen B) : Type 0 where
  pub acts : List Act
  pub may : AllMay May acts
  pub by : SettlesBy known phase acts old new

-- whenever settling began
abbrev pub GoesThrough : {B : Type 0} → Known B → (Act → Type 0) → Seen B → Seen B → Type 0
GoesThrough {B = B} known May old new = (began : Seen B) (were_opened : ℕ → Bool) → IsSteady known (settling_from known began) were_opened old → ActsThrough known (settling_from known began) May old new

-- an act on this connection; so nobody is accepted
abbrev pub IsOn : ℕ → Act → Type 0
IsOn k (Accepting answer) = ⊥
IsOn k (Reading c answer) = c.0 ≡ k
IsOn k (Writing c max answer) = c.0 ≡ k
IsOn k (Drawn c drawing) = c.0 ≡ k
IsOn k (Closing c e) = c.0 ≡ k

abbrev pub IsAny : Act → Type 0
IsAny act = Unit {0}
