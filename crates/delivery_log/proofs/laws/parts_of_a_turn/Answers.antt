use Rattle.delivery_log.proofs.TimeSteps.{due_after}
use Rattle.delivery_log.proofs.Reading.{reading_unloads, filing_empties, writing_empties}
use Rattle.delivery_log.proofs.Distances.{results_empty}
use Rattle.delivery_log.proofs.laws.parts_of_a_turn.Goals as goal

pub returns-clause-tick : goal.returns-clause-tick
returns-clause-tick c = due_after

pub returns-clause-read : goal.returns-clause-read
returns-clause-read c = reading_unloads

pub returns-clause-file : goal.returns-clause-file
returns-clause-file c = filing_empties

pub returns-clause-results : goal.returns-clause-results
returns-clause-results c = results_empty

pub returns-clause-write : goal.returns-clause-write
returns-clause-write c = writing_empties
