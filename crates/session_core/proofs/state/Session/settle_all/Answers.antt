use Rattle.std.proofs.Common.{rules}
use Rattle.session_core.proofs.Going.{goes_on}
use Rattle.session_core.proofs.state.Session.settle_all.Goals as goal

pub returns-in-Some-clause-turn : goal.returns-in-Some-clause-turn
returns-in-Some-clause-turn g c =
    goes_on g.B.Bay.provider g.B.Bay.connection g.B.Bay.tells c.args.self.now c.turns.self c.settle_turn.new.self c.settle_turn.ensures.windows c.turns.invariant.ends c.settle_turn.ensures.ends c.turns.invariant.turn c.settle_turn.ensures.turn

pub turns-preserved : goal.turns-preserved
turns-preserved g c = record {
  windows = search (rules);
  ends = search (rules);
  turn = goes_on g.B.Bay.provider g.B.Bay.connection g.B.Bay.tells c.args.self.now c.turns.self c.settle_turn.new.self c.settle_turn.ensures.windows c.turns.invariant.ends c.settle_turn.ensures.ends c.turns.invariant.turn c.settle_turn.ensures.turn;
  short = search (rules);
  asked = search (rules);
  faults = search (rules);
  lulls = search (rules);
}
