use Rattle.paint_script.proofs.Desks.{valid_desks_lem}
use Rattle.paint_script.proofs.laws.valid_desks.Goals as goal

pub returns : goal.returns
returns c = valid_desks_lem c.effects_keep.ensures
