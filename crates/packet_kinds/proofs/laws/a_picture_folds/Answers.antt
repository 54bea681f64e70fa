use Rattle.packet_kinds.proofs.Stopping.{picture_folds}
use Rattle.packet_kinds.proofs.laws.a_picture_folds.Goals as goal

pub returns : goal.returns
returns c = picture_folds
