use Rattle.client_talk.proofs.Marking.{mapped_is_marked}
use Rattle.client_talk.proofs.laws.a_mapped_window_is_marked.Goals as goal

pub returns : goal.returns
returns c = mapped_is_marked
