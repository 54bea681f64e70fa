use Rattle.std.proofs.Common.{sym}
use Rattle.rect_regions.proofs.Runs.{same_runs-length}
use Rattle.rect_regions.proofs.bands.same_runs.Goals as goal

pub returns-then-one-other : goal.returns-then-one-other
returns-then-one-other c = sym (same_runs-length c.args.one.now c.args.other.now c.if-one-other.true)
