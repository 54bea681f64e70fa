use Rattle.first_script.proofs.Lines.{some_left}
use Rattle.first_script.proofs.text.is_ended.Goals as goal

pub returns-in-Some : goal.returns-in-Some
returns-in-Some c = rw c.in-Some.is (some_left c.in-Some.field-0.now)
