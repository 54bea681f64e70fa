use Rattle.std.proofs.Common.{sym}
use Rattle.paint_script.proofs.Keeping.{fault_plan}
use Rattle.paint_script.proofs.Rounds.{ready_plan, ok_all}
use Rattle.paint_script.specs.Stage.{IsReady}
use Rattle.paint_script.proofs.generation.pause.Goals as goal

pub push-requires-clause-faultless : goal.push-requires-clause-faultless
push-requires-clause-faultless c = sym (fault_plan c.args.reader _)

pub returns-clause-ready : goal.returns-clause-ready
returns-clause-ready c = ok_all IsReady _ c.push.result c.push.ensures (ready_plan c.args.reader _ c.requires)
