use Rattle.paint_script.proofs.Texts.{scripts_of_texts_lem}
use Rattle.paint_script.proofs.laws.scripts_of_texts.Goals as goal

pub returns : goal.returns
returns c = scripts_of_texts_lem
