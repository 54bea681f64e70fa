use Rattle.std.proofs.Common.{◌∙◌, ap, sym, ◌∷◌, ◌+◌, List, ℕ}
use Rattle.std.proofs.lemmas.List.{take_rest}
use Rattle.script_lines.specs.Text.{lines_of}
use Rattle.script_lines.proofs.TextLemmas.{first_line_is, lines_none, none_found, none_left}
use Rattle.script_lines.proofs.text.first_line.Goals as goal

pub returns-in-Some-clause-lines : goal.returns-in-Some-clause-lines
returns-in-Some-clause-lines c = rw (take_rest c.args.text.now (c.in-Some.end + 1)) (first_line_is c.args.text.now c.in-Some.end (sym c.in-Some.ensures))

pub returns-in-None-clause-lines : goal.returns-in-None-clause-lines
returns-in-None-clause-lines c =
    lines_none c.args.text.now c.requires (none_found _ c.args.text.now (sym c.in-None.ensures)) ∙ ap (λ (rest : List ℕ). c.args.text.now ∷ lines_of rest) (sym (none_left c.args.text.now))
