use Rattle.script_lines.proofs.FormsLemmas.{small_if}
use Rattle.script_lines.proofs.numbers.number.Goals as goal

pub returns-clause-small : goal.returns-clause-small
returns-clause-small c = small_if c.numeral.result c.args.word.now c.if-word-gt10.false c.numeral.ensures.small
