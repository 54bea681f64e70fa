use Rattle.first_script.specs.Validity.{paint_lines}
use Rattle.xpra_server.proofs.Endings.{causes_as}
use Rattle.xpra_server.proofs.calls.play_script.Goals as goal

pub returns-clause-causes : goal.returns-clause-causes
returns-clause-causes g c =
    causes_as g.B.Bay.tells (paint_lines c.args.script.now) g.B.Bay.connection c.play-shown.result.bay _ c.play-shown.result.ends.items _ c.finished.ensures.bay c.finished.ensures.ends c.play-shown.ensures.causes
