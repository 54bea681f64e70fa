use Rattle.client_delivery.specs.Delivered.{IsTold}
use Rattle.client_delivery.proofs.Attaching.{attach_tells}
use Rattle.client_delivery.proofs.keeping.a_client_that_attaches_is_told.Goals as goal

pub returns : goal.returns
returns c = attach_tells c.every_event_keeps_the_form.ensures c.a_message_has_bytes.ensures (c.nothing_is_shown_at_first.ensures.show _)
