use Rattle.first_script.proofs.Scripts.{script_is}
use Rattle.first_script.proofs.laws.valid_scripts.Goals as goal

pub returns : goal.returns
returns c = script_is
