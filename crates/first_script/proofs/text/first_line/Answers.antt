use Rattle.std.proofs.Common.{◌∙◌, ap, sym, ◌∷◌, List, ℕ}
use Rattle.first_script.specs.Text.{lines_of}
use Rattle.first_script.proofs.Lines.{lines_none, lines_at, none_left}
use Rattle.first_script.proofs.text.first_line.Goals as goal

pub returns-in-Some-clause-lines : goal.returns-in-Some-clause-lines
returns-in-Some-clause-lines c =
    ap lines_of c.in-Some.ensures.parts ∙ lines_at c.in-Some.parts.0.now c.in-Some.parts.1.now c.in-Some.ensures.without

pub returns-in-None-clause-lines : goal.returns-in-None-clause-lines
returns-in-None-clause-lines c =
    lines_none c.args.text.now c.requires c.in-None.ensures ∙ ap (λ (rest : List ℕ). c.args.text.now ∷ lines_of rest) (sym (none_left c.args.text.now))
