use Rattle.script_lines.proofs.RangesLemmas.{text_holds}
use Rattle.script_lines.proofs.laws.lines_in_range.Goals as goal

pub returns : goal.returns
returns c = text_holds
