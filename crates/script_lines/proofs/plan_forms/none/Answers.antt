use Rattle.std.proofs.Common.{◌∙◌}
use Rattle.script_lines.specs.Text.{words_of}
use Rattle.script_lines.proofs.PlacesLemmas.{read-none}
use Rattle.script_lines.proofs.plan_forms.none.Goals as goal

pub returns : goal.returns
returns c = c.only.ensures ∙ read-none (words_of c.args.words.now)
