use Rattle.client_delivery.proofs.Writing.{Laws, write_keeps}
use Rattle.client_delivery.proofs.keeping.each_write_keeps_what_is_told.Goals as goal

pub returns : goal.returns
returns c = write_keeps (record {
  form = c.every_event_keeps_the_form.ensures;
  numbers = c.grids_are_their_numbers.ensures.point;
  blank = c.blank_shows.ensures;
  placed = c.placed_shows.ensures;
  resized = c.resized_shows.ensures;
  sizes = c.drawn_sizes.ensures;
}) c.a_message_follows.ensures c.one_window_changes.ensures c.a_message_has_bytes.ensures
