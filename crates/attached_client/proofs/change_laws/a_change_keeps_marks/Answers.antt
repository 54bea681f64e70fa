use Rattle.attached_client.proofs.ChangeMarking.{change_marks}
use Rattle.attached_client.proofs.change_laws.a_change_keeps_marks.Goals as goal

pub returns : goal.returns
returns c = change_marks c.keyed_finds.ensures
