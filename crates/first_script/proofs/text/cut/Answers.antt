use Rattle.std.proofs.Common.{sym, ◌+◌}
use Rattle.std.proofs.lemmas.List.{take_rest}
use Rattle.first_script.proofs.Lines.{cut_none, cut_some}
use Rattle.first_script.proofs.text.cut.Goals as goal

pub returns-in-Some : goal.returns-in-Some
returns-in-Some c = rw (take_rest c.args.text.now (c.in-Some.end + 1)) (cut_some c.args.text.now c.args.byte c.in-Some.end (sym c.in-Some.ensures))

pub returns-in-None : goal.returns-in-None
returns-in-None c = cut_none c.args.text.now c.args.byte (sym c.in-None.ensures)
