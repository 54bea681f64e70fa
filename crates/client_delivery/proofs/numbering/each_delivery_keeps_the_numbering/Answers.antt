use Rattle.xp_base.proofs.KeyedLemmas.{keyed_finds_lem}
use Rattle.client_delivery.proofs.Numberings.{quiet_numbers, capture_numbers, file_numbers, write_numbers, numbering_waits}
use Rattle.client_delivery.proofs.numbering.each_delivery_keeps_the_numbering.Goals as goal

pub returns-clause-window : goal.returns-clause-window
returns-clause-window c = quiet_numbers (keyed_finds_lem _) c.every_event_keeps_the_numbering.ensures

pub returns-clause-capture : goal.returns-clause-capture
returns-clause-capture c = capture_numbers (keyed_finds_lem _) c.every_event_keeps_the_numbering.ensures c.numbering_waits.ensures

pub returns-clause-write : goal.returns-clause-write
returns-clause-write c = write_numbers (keyed_finds_lem _) c.every_event_keeps_the_numbering.ensures

pub returns-clause-waits : goal.returns-clause-waits
returns-clause-waits c = numbering_waits c.numbering_waits.ensures

pub returns-clause-file : goal.returns-clause-file
returns-clause-file c = file_numbers (keyed_finds_lem _) c.every_event_keeps_the_numbering.ensures
