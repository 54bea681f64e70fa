use Rattle.rgb_encoders.proofs.Vectors.{exact_lanes}
use Rattle.rgb_encoders.proofs.lanes.exact_bytes.Goals as goal

pub returns : goal.returns
returns c = exact_lanes 16 c.args.numbers c.requires.sized c.requires.small
