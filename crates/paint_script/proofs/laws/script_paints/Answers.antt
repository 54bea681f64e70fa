use Rattle.paint_script.proofs.Scripts.{script_paints_lem}
use Rattle.paint_script.proofs.laws.script_paints.Goals as goal

pub returns : goal.returns
returns c = script_paints_lem c.effects_keep.ensures
