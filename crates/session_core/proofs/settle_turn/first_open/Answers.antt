use Rattle.session_core.proofs.Ended.{none_before}
use Rattle.session_core.proofs.settle_turn.first_open.Goals as goal

pub returns-then-is_some-clause-least : goal.returns-then-is_some-clause-least
returns-then-is_some-clause-least c = λ k low. none_before c.args.clients.now c.loop-place.place k c.loop-place.invariant low
