use Rattle.packet_kinds.proofs.Windows.{one_window_changes}
use Rattle.packet_kinds.proofs.laws.one_window_changes.Goals as goal

pub returns : goal.returns
returns c = one_window_changes
