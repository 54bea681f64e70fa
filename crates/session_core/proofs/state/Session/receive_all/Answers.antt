use Rattle.std.proofs.Common.{◌≤◌, ◌∙◌, rules, arith}
use Rattle.session_core.proofs.Acting.{acts_receive, acts_read_out}
use Rattle.session_core.proofs.Calms.{receives_again}
use Rattle.session_core.proofs.Meanings.{breaks_since, drop_since}
use Rattle.session_core.proofs.Stepping.{acts_later, receives_closed, receives_took, receives_near, receives_waited, receives_past}
use Rattle.session_core.proofs.state.Session.receive_all.Goals as goal

pub returns-in-Again-clause-quiet : goal.returns-in-Again-clause-quiet
returns-in-Again-clause-quiet g c = λ same. (receives_again g.B.Bay.connection c.args.c.0 c.reads.self c.receive.new.self c.in-Again.ensures.answer).0 ∙ c.reads.invariant.quiet same

pub returns-in-Again-clause-open : goal.returns-in-Again-clause-open
returns-in-Again-clause-open g c = (receives_waited g.B.Bay.connection c.args.c.0 c.reads.self c.receive.new.self c.reads.invariant.present c.in-Again.ensures.answer).0

pub returns-in-Again-clause-acts : goal.returns-in-Again-clause-acts
returns-in-Again-clause-acts g c = acts_receive g.B.Bay.provider g.B.Bay.connection c.args.c.0 _ c.reads.self c.receive.new.self c.receive.result c.reads.invariant.acts c.receive.ensures.provider c.receive.ensures.others c.receive.ensures.answer

pub unreachable-requires : goal.unreachable-requires
unreachable-requires g c = receives_closed g.B.Bay.connection c.args.c.0 c.reads.self c.receive.new.self c.reads.invariant.present c.in-Closed.ensures.answer

pub returns-in-Ended-clause-acts : goal.returns-in-Ended-clause-acts
returns-in-Ended-clause-acts g c = acts_receive g.B.Bay.provider g.B.Bay.connection c.args.c.0 _ c.reads.self c.receive.new.self c.receive.result c.reads.invariant.acts c.receive.ensures.provider c.receive.ensures.others c.receive.ensures.answer

pub returns-in-NoMemory-clause-acts : goal.returns-in-NoMemory-clause-acts
returns-in-NoMemory-clause-acts g c = acts_receive g.B.Bay.provider g.B.Bay.connection c.args.c.0 _ c.reads.self c.receive.new.self c.receive.result c.reads.invariant.acts c.receive.ensures.provider c.receive.ensures.others c.receive.ensures.answer

pub returns-then-count-left-clause-acts : goal.returns-then-count-left-clause-acts
returns-then-count-left-clause-acts g c = acts_receive g.B.Bay.provider g.B.Bay.connection c.args.c.0 _ c.reads.self c.receive.new.self c.receive.result c.reads.invariant.acts c.receive.ensures.provider c.receive.ensures.others c.receive.ensures.answer

pub returns-then-count-left-clause-means : goal.returns-then-count-left-clause-means
returns-then-count-left-clause-means g c =
    breaks_since c.receive.new.self.lines (g.B.Bay.connection c.args.self.now.bay c.args.c.0) (g.B.Bay.connection c.reads.self.bay c.args.c.0) (g.B.Bay.connection c.receive.new.self.bay c.args.c.0) (acts_later g.B.Bay.provider g.B.Bay.connection c.args.c.0 c.args.self.now c.reads.self c.reads.invariant.acts)
    (receives_past g.B.Bay.connection g.B.Bay.tells c.args.c.0 c.in-Took.count c.reads.left c.reads.self c.receive.new.self c.reads.invariant.present c.in-Took.ensures.answer (omega (arith, c.if-count-left.true)) c.reads.invariant.near
    c.is_painted.ensures.lines c.is_painted.ensures.known)

pub reads-preserved : goal.reads-preserved
reads-preserved g c =
    let low : c.in-Took.count ≤ c.reads.left = omega (arith, c.if-count-left.false) in
    record {
      windows = search (rules);
      present = receives_took g.B.Bay.connection c.args.c.0 c.in-Took.count c.reads.self c.receive.new.self c.reads.invariant.present c.in-Took.ensures.answer;
      near = receives_near g.B.Bay.connection c.args.c.0 c.in-Took.count c.reads.left c.reads.self c.receive.new.self c.reads.invariant.present c.in-Took.ensures.answer low c.reads.invariant.near;
      acts = acts_receive g.B.Bay.provider g.B.Bay.connection c.args.c.0 _ c.reads.self c.receive.new.self c.receive.result c.reads.invariant.acts c.receive.ensures.provider c.receive.ensures.others c.receive.ensures.answer;
      ends = search (rules);
      quiet = search (rules);
      less = search (rules);
      others = search (rules);
      provider = search (rules);
    }

pub returns-in-Again-clause-waiting : goal.returns-in-Again-clause-waiting
returns-in-Again-clause-waiting g c =
    acts_read_out g.B.Bay.provider g.B.Bay.connection c.args.c.0 c.args.self.now c.reads.self c.receive.new.self c.reads.invariant.acts c.receive.ensures.provider c.receive.ensures.others c.in-Again.ensures.answer

pub returns-in-Ended-clause-means : goal.returns-in-Ended-clause-means
returns-in-Ended-clause-means g c =
    drop_since c.receive.new.self.lines (g.B.Bay.connection c.args.self.now.bay c.args.c.0) (g.B.Bay.connection c.reads.self.bay c.args.c.0) (g.B.Bay.connection c.receive.new.self.bay c.args.c.0) c.in-Ended.end (acts_later g.B.Bay.provider g.B.Bay.connection c.args.c.0 c.args.self.now c.reads.self c.reads.invariant.acts) c.in-Ended.ensures.means
