use Rattle.std.proofs.Common.{sym, ◌∙◌}
use Rattle.client_replay.proofs.Missing.{missing_raised}
use Rattle.client_replay.proofs.painting.raise.Goals as goal

pub returns-else-is_there : goal.returns-else-is_there
returns-else-is_there c = sym (missing_raised c.args.desk.now c.args.wid (sym c.is_there.ensures ∙ c.if-is_there.false))
