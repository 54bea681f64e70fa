use Rattle.std.proofs.Common.{subst}
use Rattle.encode_pool.specs.Passes.{seen}
use Rattle.encode_pool.specs.QueueRule.{IsMoment}
use Rattle.encode_pool.specs.declared.queue_view.QueueView.{QueueView}
use Rattle.encode_pool.proofs.QueueSteps.{merges, learns}
use Rattle.encode_pool.proofs.QueueLessons.{was_pushed}
use Rattle.encode_pool.proofs.job_queue.JobQueue.join.Goals as goal

pub absorb-requires-clause-rule : goal.absorb-requires-clause-rule
absorb-requires-clause-rule c = merges _ _ _ _ c.requires.first c.args.other.live

pub learn_as-requires-clause-rule : goal.learn_as-requires-clause-rule
learn_as-requires-clause-rule c = learns _ _

pub returns-clause-pushed : goal.returns-clause-pushed
returns-clause-pushed c =
    let told = c.learn_as.ensures.rule in
    was_pushed (seen c.args.first.now) (seen c.args.other) told.0 c.requires.first (subst (λ (v : QueueView). IsMoment v told.0) c.absorb.ensures.rule told.1)
