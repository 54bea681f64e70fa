use Rattle.std.proofs.Common.{Option, None, subst}
use Rattle.delivery_model.specs.Window.{Window}
use Rattle.delivery_model.specs.Laws.{KeptWhereThere}
use Rattle.delivery_model.proofs.Runs.{kept_run}
use Rattle.delivery_model.proofs.Steadies.{shown_unless_owed}
use Rattle.delivery_model.proofs.laws.unowed_is_shown.Goals as goal

pub returns : goal.returns
returns c lossy_shows events are w is = shown_unless_owed w (subst (λ (o : Option Window). KeptWhereThere o) is (kept_run lossy_shows None events are tt))
