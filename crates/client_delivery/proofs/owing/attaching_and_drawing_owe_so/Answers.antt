use Rattle.xp_base.proofs.KeyedLemmas.{keyed_finds_lem}
use Rattle.client_delivery.proofs.Drawing.{attach_owes, capture_owes, file_owes}
use Rattle.client_delivery.proofs.owing.attaching_and_drawing_owe_so.Goals as goal

pub returns-clause-attach : goal.returns-clause-attach
returns-clause-attach c = attach_owes c.points_are_their_tests.ensures.point

pub returns-clause-capture : goal.returns-clause-capture
returns-clause-capture c = capture_owes (keyed_finds_lem _) c.points_are_their_tests.ensures.point c.every_event_changes_owed_as_stated.ensures

pub returns-clause-file : goal.returns-clause-file
returns-clause-file c = file_owes (keyed_finds_lem _) c.points_are_their_tests.ensures.point c.every_event_changes_owed_as_stated.ensures
