use Rattle.xp_base.proofs.KeyedLemmas.{keyed_finds_lem, keyed_keeps_lem}
use Rattle.client_delivery.proofs.Placing.{answer_keeps}
use Rattle.client_delivery.proofs.Saying.{quiet_keeps}
use Rattle.client_delivery.proofs.keeping.what_a_client_says_keeps_what_is_told.Goals as goal

pub returns-clause-window : goal.returns-clause-window
returns-clause-window c = quiet_keeps (keyed_finds_lem _) (keyed_keeps_lem _) c.every_event_keeps_the_form.ensures

pub returns-clause-ping : goal.returns-clause-ping
returns-clause-ping c = answer_keeps c.a_message_has_bytes.ensures
