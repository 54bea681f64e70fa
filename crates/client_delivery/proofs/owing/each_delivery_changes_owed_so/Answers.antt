use Rattle.xp_base.proofs.KeyedLemmas.{keyed_finds_lem}
use Rattle.client_delivery.proofs.Owings.{quiet_owes_so, whole_write_owes}
use Rattle.client_delivery.proofs.owing.each_delivery_changes_owed_so.Goals as goal

pub returns-clause-window : goal.returns-clause-window
returns-clause-window c = quiet_owes_so (keyed_finds_lem _) c.points_are_their_tests.ensures.point

pub returns-clause-write : goal.returns-clause-write
returns-clause-write c = whole_write_owes (keyed_finds_lem _) c.points_are_their_tests.ensures.point
