use Rattle.script_lines.specs.Text.{words_of}
use Rattle.script_lines.specs.Arguments.{Number, number_of}
use Rattle.script_lines.proofs.PlacesLemmas.{read_one}
use Rattle.script_lines.proofs.plan_forms.one_number.Goals as goal

pub returns : goal.returns
returns c = read_one (Number c.args.low c.args.high) number_of (words_of c.args.words.now) (words_of c.number_in-n.result.1.now) c.number_in-n.result.0 c.only.result c.number_in-n.ensures.value c.number_in-n.ensures.rest c.only.ensures
