use Rattle.rgb_encoders.proofs.Shown.{decoded-coded_bytes}
use Rattle.rgb_encoders.proofs.laws.decoded_shows.Goals as goal

pub returns : goal.returns
returns c = decoded-coded_bytes
