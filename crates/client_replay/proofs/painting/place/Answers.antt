use Rattle.std.proofs.Common.{sym, ◌∙◌}
use Rattle.window_model.specs.Desktop.{moved_window}
use Rattle.client_replay.proofs.Missing.{missing_changed}
use Rattle.client_replay.proofs.painting.place.Goals as goal

pub returns-else-is_there : goal.returns-else-is_there
returns-else-is_there c = sym (missing_changed c.args.desk.now c.args.wid (moved_window c.args.x c.args.y) (sym c.is_there.ensures ∙ c.if-is_there.false))
