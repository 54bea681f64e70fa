use Rattle.session_core.proofs.Going.{goes_accepted, goes_on, keeps_answer}
use Rattle.session_core.proofs.state.Session.settle_turn.Goals as goal

pub returns-in-Conn-clause-turn : goal.returns-in-Conn-clause-turn
returns-in-Conn-clause-turn g c = goes_accepted g.B.Bay.provider g.B.Bay.connection g.B.Bay.tells c.args.self.now c.accept.new.self c.accept.result c.is_painted.ensures.kept.ended c.accept.ensures.others c.accept.ensures.ends c.accept.ensures.answer

pub returns-in-Failed-clause-turn : goal.returns-in-Failed-clause-turn
returns-in-Failed-clause-turn g c = goes_accepted g.B.Bay.provider g.B.Bay.connection g.B.Bay.tells c.args.self.now c.accept.new.self c.accept.result c.is_painted.ensures.kept.ended c.accept.ensures.others c.accept.ensures.ends c.accept.ensures.answer

pub returns-in-NoMemory-clause-turn : goal.returns-in-NoMemory-clause-turn
returns-in-NoMemory-clause-turn g c = goes_accepted g.B.Bay.provider g.B.Bay.connection g.B.Bay.tells c.args.self.now c.accept.new.self c.accept.result c.is_painted.ensures.kept.ended c.accept.ensures.others c.accept.ensures.ends c.accept.ensures.answer

pub returns-in-Some-Short-clause-turn : goal.returns-in-Some-Short-clause-turn
returns-in-Some-Short-clause-turn g c =
    goes_on g.B.Bay.provider g.B.Bay.connection g.B.Bay.tells c.args.self.now c.accept.new.self c.settle_next.new.self c.settle_next.ensures.windows (keeps_answer c.args.self.now.ends c.accept.new.self.ends c.accept.result c.accept.ensures.ends) c.settle_next.ensures.ends
    (goes_accepted g.B.Bay.provider g.B.Bay.connection g.B.Bay.tells c.args.self.now c.accept.new.self c.accept.result c.is_painted.ensures.kept.ended c.accept.ensures.others c.accept.ensures.ends c.accept.ensures.answer) c.settle_next.ensures.turn

pub returns-in-Some-clause-turn : goal.returns-in-Some-clause-turn
returns-in-Some-clause-turn g c =
    goes_on g.B.Bay.provider g.B.Bay.connection g.B.Bay.tells c.args.self.now c.accept.new.self c.settle_next.new.self c.settle_next.ensures.windows (keeps_answer c.args.self.now.ends c.accept.new.self.ends c.accept.result c.accept.ensures.ends) c.settle_next.ensures.ends
    (goes_accepted g.B.Bay.provider g.B.Bay.connection g.B.Bay.tells c.args.self.now c.accept.new.self c.accept.result c.is_painted.ensures.kept.ended c.accept.ensures.others c.accept.ensures.ends c.accept.ensures.answer) c.settle_next.ensures.turn

pub returns-in-None-clause-turn : goal.returns-in-None-clause-turn
returns-in-None-clause-turn g c =
    goes_on g.B.Bay.provider g.B.Bay.connection g.B.Bay.tells c.args.self.now c.accept.new.self c.settle_next.new.self c.settle_next.ensures.windows (keeps_answer c.args.self.now.ends c.accept.new.self.ends c.accept.result c.accept.ensures.ends) c.settle_next.ensures.ends
    (goes_accepted g.B.Bay.provider g.B.Bay.connection g.B.Bay.tells c.args.self.now c.accept.new.self c.accept.result c.is_painted.ensures.kept.ended c.accept.ensures.others c.accept.ensures.ends c.accept.ensures.answer) c.settle_next.ensures.turn

pub returns-in-Some-Short-settle_next-clause-turn : goal.returns-in-Some-Short-settle_next-clause-turn
returns-in-Some-Short-settle_next-clause-turn g c =
    goes_on g.B.Bay.provider g.B.Bay.connection g.B.Bay.tells c.args.self.now c.accept.new.self c.settle_next-in-Full.new.self c.settle_next-in-Full.ensures.windows (keeps_answer c.args.self.now.ends c.accept.new.self.ends c.accept.result c.accept.ensures.ends) c.settle_next-in-Full.ensures.ends
    (goes_accepted g.B.Bay.provider g.B.Bay.connection g.B.Bay.tells c.args.self.now c.accept.new.self c.accept.result c.is_painted.ensures.kept.ended c.accept.ensures.others c.accept.ensures.ends c.accept.ensures.answer) c.settle_next-in-Full.ensures.turn

pub returns-in-Some-settle_next-clause-turn : goal.returns-in-Some-settle_next-clause-turn
returns-in-Some-settle_next-clause-turn g c =
    goes_on g.B.Bay.provider g.B.Bay.connection g.B.Bay.tells c.args.self.now c.accept.new.self c.settle_next-in-Full.new.self c.settle_next-in-Full.ensures.windows (keeps_answer c.args.self.now.ends c.accept.new.self.ends c.accept.result c.accept.ensures.ends) c.settle_next-in-Full.ensures.ends
    (goes_accepted g.B.Bay.provider g.B.Bay.connection g.B.Bay.tells c.args.self.now c.accept.new.self c.accept.result c.is_painted.ensures.kept.ended c.accept.ensures.others c.accept.ensures.ends c.accept.ensures.answer) c.settle_next-in-Full.ensures.turn
