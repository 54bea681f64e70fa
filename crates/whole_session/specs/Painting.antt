-- A paint step.
use Rattle.std.specs.Prelude.{◌≡◌, ◌+◌, ◌≤◌, ◌<◌, length, slice_get, Some}
use Rattle.script_lines.specs.declared.paint.Paint.{Paint}
use Rattle.session_steps.specs.declared.answers.Painted.{Painted}
use Rattle.session_steps.specs.declared.answers.Painted.TheVariants as P
use Rattle.session_state.specs.Painting.{PaintsLine}
use Rattle.whole_session.specs.Session.{SessionSeen}

-- the next paint line was painted, for the desktop and for each open connection
pub record PaintsNext {B : Type 0} (old new : SessionSeen B) : Type 0 where
  pub line : Paint
  pub next : slice_get old.lines old.place ≡ Some line
  pub paints : PaintsLine line old.seen new.seen
  pub lines : new.lines ≡ old.lines
  pub place : new.place ≡ old.place + 1

-- each answer only where it says so: `Finished` exactly where no line is left
abbrev pub PaintsSo : {B : Type 0} → SessionSeen B → Painted → SessionSeen B → Type 0
PaintsSo old P.Done new = PaintsNext old new
PaintsSo old P.Finished new = (length old.lines ≤ old.place) × (new ≡ old)
PaintsSo old P.NoMemory new = (old.place < length old.lines) × (new ≡ old)
