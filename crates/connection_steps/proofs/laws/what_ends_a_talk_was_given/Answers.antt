use Rattle.connection_steps.proofs.Hearing.{ends_it}
use Rattle.connection_steps.proofs.laws.what_ends_a_talk_was_given.Goals as goal

pub returns : goal.returns
returns c = ends_it c.what_is_heard_is_what_was_given.ensures.ends
