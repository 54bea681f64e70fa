use Rattle.std.proofs.Common.{ap, sym}
use Rattle.first_script.specs.Forms.{word_at}
use Rattle.first_script.proofs.Lines.{word_first, word_last}
use Rattle.first_script.proofs.text.word_at.Goals as goal

pub returns-in-Some : goal.returns-in-Some
returns-in-Some c = rw c.in_ok-text.was (sym (ap word_at (word_first c.in_ok-text.text.now c.in-Some.word.now c.in-Some.rest.now c.in-Some.ensures)))

pub returns-in-None : goal.returns-in-None
returns-in-None c = rw c.in_ok-text.was (sym (ap word_at (word_last c.in_ok-text.text.now c.in-None.ensures)))
