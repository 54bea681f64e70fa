use Rattle.std.proofs.Common.{None}
use Rattle.delivery_model.proofs.Runs.{kept_run}
use Rattle.delivery_model.proofs.laws.every_run_keeps_the_form.Goals as goal

pub returns-clause-run : goal.returns-clause-run
returns-clause-run c = kept_run

pub returns-clause-whole : goal.returns-clause-whole
returns-clause-whole c lossy_shows events are = kept_run lossy_shows None events are tt
