use Rattle.rgb_encoders.proofs.Points.{length-decoded}
use Rattle.rgb_encoders.proofs.laws.decoded_length.Goals as goal

pub returns : goal.returns
returns c = length-decoded
