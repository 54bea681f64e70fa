use Rattle.bencode_values.proofs.Top.{no_prefix}
use Rattle.bencode_values.proofs.laws.no_spelling_begins_another.Goals as goal

pub returns : goal.returns
returns c = no_prefix
