use Rattle.std.proofs.Common.{sym, ◌∙◌}
use Rattle.window_model.specs.Desktop.{resized_window}
use Rattle.client_replay.proofs.Missing.{missing_changed}
use Rattle.client_replay.proofs.painting.resize.Goals as goal

pub returns-then-not-is_there-clause-ok : goal.returns-then-not-is_there-clause-ok
returns-then-not-is_there-clause-ok c = sym (missing_changed c.args.desk.now c.args.wid (resized_window c.args.w c.args.h) (sym c.is_there.ensures ∙ c.if-not-is_there.true))
