-- One session.
use Rattle.std.specs.Prelude.{ℕ, ◌≡◌, ◌≤◌, List, length, take}
use Rattle.script_lines.specs.declared.paint.Paint.{Paint}
use Rattle.paint_script.specs.Painting.{desk_at}
use Rattle.paint_script.specs.Validity.{ArePaints, has_opened}
use Rattle.session_steps.specs.Seen.{Known, Seen}
use Rattle.session_steps.specs.Laws.{begun}
use Rattle.session_steps.specs.Steady.{Stepping, IsSteady}

-- the paint lines, how many of them were painted, and the desktop, the clock, the connections and their provider
pub record SessionSeen (B : Type 0) : Type 0 where
  pub lines : List Paint
  pub place : ℕ
  pub seen : Seen B

-- What the type keeps: the lines are valid, the desktop is that after the lines painted so far, and what every session keeps is kept
-- beside the numbers that these lines opened.
pub record IsSession {B : Type 0} (known : Known B) (lines : List Paint) (place : ℕ) (s : Seen B) : Type 0 where
  pub valid : ArePaints lines
  pub placed : place ≤ length lines
  pub desk : s.desk ≡ desk_at lines place
  pub steady : IsSteady known Stepping (has_opened (take place lines)) s

-- before its first paint line
abbrev pub started : {B : Type 0} → List Paint → B → SessionSeen B
started lines bay = record { lines = lines; place = 0; seen = begun bay }

-- the script is as before
pub record SameScript {B : Type 0} (old new : SessionSeen B) : Type 0 where
  pub lines : new.lines ≡ old.lines
  pub place : new.place ≡ old.place
