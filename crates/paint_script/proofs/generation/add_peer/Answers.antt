use Rattle.paint_script.proofs.Keeping.{fault_join}
use Rattle.paint_script.proofs.Rounds.{begun_order, ok_all}
use Rattle.paint_script.specs.Stage.{IsBegun}
use Rattle.paint_script.proofs.generation.add_peer.Goals as goal

pub push-requires-clause-faultless : goal.push-requires-clause-faultless
push-requires-clause-faultless c = fault_join c.args.reader c.if-lossy.kind c.new-2.result

pub returns-clause-begun : goal.returns-clause-begun
returns-clause-begun c = ok_all (λ more. IsBegun more 0) _ c.push.result c.push.ensures (begun_order c.args.reader _ c.requires)
