use Rattle.xp_base.proofs.KeyedLemmas.{keyed_finds_lem, keyed_keeps_lem}
use Rattle.client_delivery.proofs.Resizing.{Laws, resize_keeps}
use Rattle.client_delivery.proofs.Painting.{paint_keeps}
use Rattle.client_delivery.proofs.Closing.{close_keeps}
use Rattle.client_delivery.proofs.Opening.{open_keeps}
use Rattle.client_delivery.proofs.Placing.{move_keeps, raise_keeps}
use Rattle.client_delivery.proofs.keeping.each_paint_keeps_what_is_told.Goals as goal

pub returns-clause-place : goal.returns-clause-place
returns-clause-place c = move_keeps (keyed_finds_lem _) c.a_message_has_bytes.ensures

pub returns-clause-top : goal.returns-clause-top
returns-clause-top c = raise_keeps (keyed_finds_lem _) c.a_message_has_bytes.ensures

pub returns-clause-open : goal.returns-clause-open
returns-clause-open c = open_keeps (keyed_finds_lem _) (keyed_finds_lem _) (keyed_keeps_lem _) c.every_event_keeps_the_form.ensures c.a_message_has_bytes.ensures

pub returns-clause-close : goal.returns-clause-close
returns-clause-close c = close_keeps (keyed_finds_lem _) (keyed_finds_lem _) (keyed_keeps_lem _) c.a_message_has_bytes.ensures

pub returns-clause-paint : goal.returns-clause-paint
returns-clause-paint c = paint_keeps (keyed_finds_lem _) (keyed_finds_lem _) (keyed_keeps_lem _) c.every_event_keeps_the_form.ensures c.grids_are_their_numbers.ensures.point

pub returns-clause-resize : goal.returns-clause-resize
returns-clause-resize c = resize_keeps (keyed_finds_lem _) (keyed_finds_lem _) (keyed_keeps_lem _) c.a_message_has_bytes.ensures (record {
  form = c.every_event_keeps_the_form.ensures;
  numbers = c.grids_are_their_numbers.ensures.point;
  have = c.points_are_their_tests.ensures.point;
  alike = c.points_are_their_tests.ensures.alike;
  shows = c.resized_shows.ensures;
  sizes = c.drawn_sizes.ensures;
})
