use Rattle.std.proofs.Common.{◌∙◌, ap, sym}
use Rattle.std.proofs.lemmas.List.{take_rest}
use Rattle.std.specs.List.{position}
use Rattle.std.proofs.Common.{drop}
use Rattle.script_lines.specs.Text.{is_blank}
use Rattle.script_lines.proofs.TextLemmas.{words_none, word_found, word_only, none_left}
use Rattle.script_lines.proofs.text.next_word.Goals as goal

pub returns-in_err-start : goal.returns-in_err-start
returns-in_err-start c = rw c.from_residual.ensures (words_none c.args.line.now (sym c.blanks.ensures ∙ c.in_err-start.was))

pub returns-in-Some : goal.returns-in-Some
returns-in-Some c =
    let line = c.args.line.now in
    let start = c.in_ok-start.start in
    rw (take_rest line start, take_rest (drop start line) c.in-Some.end)
    (word_found line start c.in-Some.end (sym c.blanks.ensures ∙ c.in_ok-start.was) (ap (position is_blank) (sym (take_rest line start)) ∙ sym c.word_end.ensures ∙ c.in-Some.is))

pub returns-in-None : goal.returns-in-None
returns-in-None c =
    let line = c.args.line.now in
    let start = c.in_ok-start.start in
    rw (take_rest line start, none_left (drop start line))
    (word_only line start (sym c.blanks.ensures ∙ c.in_ok-start.was) (ap (position is_blank) (sym (take_rest line start)) ∙ sym c.word_end.ensures ∙ c.in-None.is))
