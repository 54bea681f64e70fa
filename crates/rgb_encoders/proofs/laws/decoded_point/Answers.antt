use Rattle.rgb_encoders.proofs.Points.{number_at-decoded}
use Rattle.rgb_encoders.proofs.laws.decoded_point.Goals as goal

pub returns : goal.returns
returns c = number_at-decoded
