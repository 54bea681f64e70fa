use Rattle.line_changes.proofs.Numbers.{line_opens}
use Rattle.line_changes.proofs.laws.a_line_opens_its_number.Goals as goal

pub returns : goal.returns
returns c = line_opens
