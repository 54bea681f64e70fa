use Rattle.rgb_encoders.proofs.Lengths.{length-coded_bytes}
use Rattle.rgb_encoders.proofs.laws.coded_length.Goals as goal

pub returns : goal.returns
returns c = length-coded_bytes
