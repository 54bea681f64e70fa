use Rattle.xp_base.proofs.KeyedLemmas.{keyed_finds_lem, keyed_keeps_lem}
use Rattle.client_delivery.proofs.Capturing.{capture_keeps}
use Rattle.client_delivery.proofs.Filing.{file_keeps}
use Rattle.client_delivery.proofs.keeping.what_is_drawn_keeps_what_is_told.Goals as goal

pub returns-clause-capture : goal.returns-clause-capture
returns-clause-capture c = capture_keeps (keyed_finds_lem _) (keyed_keeps_lem _) c.every_event_keeps_the_form.ensures

pub returns-clause-file : goal.returns-clause-file
returns-clause-file c = file_keeps (keyed_finds_lem _) (keyed_keeps_lem _) c.every_event_keeps_the_form.ensures c.a_message_has_bytes.ensures
