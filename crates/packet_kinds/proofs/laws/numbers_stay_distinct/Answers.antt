use Rattle.packet_kinds.proofs.Windows.{numbers_stay_distinct}
use Rattle.packet_kinds.proofs.laws.numbers_stay_distinct.Goals as goal

pub returns : goal.returns
returns c = numbers_stay_distinct
