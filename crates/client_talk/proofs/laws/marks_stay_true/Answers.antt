use Rattle.client_talk.proofs.Marking.{begins, hears, sends}
use Rattle.client_talk.proofs.laws.marks_stay_true.Goals as goal

pub returns-clause-begins : goal.returns-clause-begins
returns-clause-begins c = begins

pub returns-clause-hears : goal.returns-clause-hears
returns-clause-hears c = hears c.more_bytes_only_say_more.ensures

pub returns-clause-sends : goal.returns-clause-sends
returns-clause-sends c = sends
