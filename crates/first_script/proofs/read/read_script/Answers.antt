use Rattle.first_script.proofs.Scripts.{script_is}
use Rattle.first_script.proofs.read.read_script.Goals as goal

pub new-requires : goal.new-requires
new-requires c = script_is c.args.text.now c.in-Ok.lines.items c.in-Ok.ensures
