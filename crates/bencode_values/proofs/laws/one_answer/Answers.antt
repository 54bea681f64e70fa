use Rattle.bencode_values.proofs.Top.{one_true}
use Rattle.bencode_values.proofs.laws.one_answer.Goals as goal

pub returns : goal.returns
returns c = one_true
