use Rattle.std.proofs.Common.{ap, ◌∙◌, length}
use Rattle.window_model.proofs.Drawings.{length-cropped}
use Rattle.window_model.proofs.window.Win.crop.Goals as goal

pub returns-clause-sized : goal.returns-clause-sized
returns-clause-sized c =
    ap length (c.new.ensures ∙ c.in_ok-crop_rows.ensures) ∙ length-cropped c.self.inside.w c.args.r c.as_slice.result.now
