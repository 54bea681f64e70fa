use Rattle.xp_base.proofs.KeyedLemmas.{keyed_finds_lem}
use Rattle.client_delivery.proofs.Owings.{paint_owes, open_owes, close_owes, resize_owes, put_owes}
use Rattle.client_delivery.proofs.owing.each_paint_changes_owed_so.Goals as goal

pub returns-clause-paint : goal.returns-clause-paint
returns-clause-paint c = paint_owes (keyed_finds_lem _) c.points_are_their_tests.ensures.point

pub returns-clause-open : goal.returns-clause-open
returns-clause-open c = open_owes (keyed_finds_lem _) c.points_are_their_tests.ensures.point

pub returns-clause-close : goal.returns-clause-close
returns-clause-close c = close_owes (keyed_finds_lem _) c.points_are_their_tests.ensures.point

pub returns-clause-resize : goal.returns-clause-resize
returns-clause-resize c = resize_owes (keyed_finds_lem _) c.points_are_their_tests.ensures.point

pub returns-clause-put : goal.returns-clause-put
returns-clause-put c = put_owes (keyed_finds_lem _) c.points_are_their_tests.ensures.point
