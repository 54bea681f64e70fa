use Rattle.window_source.proofs.LawsLemmas.{keep_and_owe}
use Rattle.window_source.proofs.laws.calls_keep_the_form_and_what_is_owed.Goals as goal

pub returns : goal.returns
returns c = keep_and_owe c.every_event_keeps_the_form.ensures c.every_event_changes_owed_as_stated.ensures
