use Rattle.client_replay.proofs.ReplayLemmas.{nothing_by}
use Rattle.client_replay.proofs.replay.Replay.new.Goals as goal

pub returns-clause-history : goal.returns-clause-history
returns-clause-history c = nothing_by c.args.limit c.new.result c.new-2.result c.new-3.result.items c.new.ensures.start c.new-2.ensures c.new-3.ensures.items
