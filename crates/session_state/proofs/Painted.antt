-- A paint line fits a session.
use Rattle.std.proofs.Common.{◌≡◌, sym, subst}
use Rattle.script_lines.specs.declared.paint.Paint.{Paint}
use Rattle.line_changes.specs.Changes.{IsChangeOf}
use Rattle.attached_client.specs.declared.change.Change.{Change}
use Rattle.session_steps.specs.Seen.{Seen}
use Rattle.session_steps.specs.Painting.{AllFit}
use Rattle.session_state.specs.Painting.{LineFits}

pub line_fits : {B : Type 0} (seen old : Seen B) → seen ≡ old → (line : Paint) (change : Change) → LineFits line old → IsChangeOf seen.desk line change → AllFit change seen.slots
line_fits seen old is line change fits of = subst (λ (s : Seen _). LineFits line s) (sym is) fits change of
