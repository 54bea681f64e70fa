use Rattle.std.proofs.Common.{length, ap, ◌∙◌}
use Rattle.window_model.proofs.Drawings.{length-noise}
use Rattle.window_model.proofs.desk.Desk.noise.Goals as goal

pub put-requires-clause-sized : goal.put-requires-clause-sized
put-requires-clause-sized c = ap length c.in_ok-pixels.ensures ∙ length-noise c.args.seed c.area.result ∙ c.area.ensures.value
