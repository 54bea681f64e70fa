use Rattle.delivery_log.proofs.TimeSteps.{timed_step, timed_later}
use Rattle.delivery_log.proofs.laws.every_event_keeps_the_times.Goals as goal

pub returns-clause-event : goal.returns-clause-event
returns-clause-event c = timed_step

pub returns-clause-later : goal.returns-clause-later
returns-clause-later c = timed_later
