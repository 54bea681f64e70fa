use Rattle.rgb_encoders.proofs.Vectors.{lossy_fits, lossy_lanes}
use Rattle.rgb_encoders.proofs.lanes.lossy_bytes.Goals as goal

pub overflow_cast-result : goal.overflow_cast-result
overflow_cast-result c = lossy_fits 16 c.args.numbers c.requires.sized c.requires.small

pub returns : goal.returns
returns c = lossy_lanes 16 c.args.numbers c.requires.sized c.requires.small
