use Rattle.xp_base.proofs.KeyedLemmas.{keyed_finds_lem}
use Rattle.client_delivery.proofs.Numberings.{attach_numbers, open_numbers}
use Rattle.client_delivery.proofs.numbering.a_window_begins_numbered.Goals as goal

pub returns-clause-attach : goal.returns-clause-attach
returns-clause-attach c = attach_numbers

pub returns-clause-open : goal.returns-clause-open
returns-clause-open c = open_numbers (keyed_finds_lem _)
