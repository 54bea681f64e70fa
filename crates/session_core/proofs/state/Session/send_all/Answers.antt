use Rattle.std.proofs.Common.{◌≡◌, Err, rules}
use Rattle.session_core.proofs.Acting.{acts_on}
use Rattle.session_core.proofs.Meanings.{drop_since}
use Rattle.session_core.proofs.Stepping.{acts_later, reads_then}
use Rattle.session_core.proofs.state.Session.send_all.Goals as goal

pub returns-in_err-wrote-clause-acts : goal.returns-in_err-wrote-clause-acts
returns-in_err-wrote-clause-acts g c = acts_on g.B.Bay.provider g.B.Bay.connection c.args.c.0 _ c.writes.self c.send_some.new.self c.writes.invariant.acts c.send_some.ensures.acts

pub returns-then-not-wrote-clause-acts : goal.returns-then-not-wrote-clause-acts
returns-then-not-wrote-clause-acts g c = acts_on g.B.Bay.provider g.B.Bay.connection c.args.c.0 _ c.writes.self c.send_some.new.self c.writes.invariant.acts c.send_some.ensures.acts

pub writes-preserved : goal.writes-preserved
writes-preserved g c = record {
  windows = search (rules);
  present = search (rules);
  reads = reads_then g.B.Bay.connection c.args.c.0 c.args.self.now.bay c.writes.self.bay c.send_some.new.self.bay c.writes.invariant.reads c.send_some.ensures.reads;
  acts = acts_on g.B.Bay.provider g.B.Bay.connection c.args.c.0 _ c.writes.self c.send_some.new.self c.writes.invariant.acts c.send_some.ensures.acts;
  ends = search (rules);
  sources = search (rules);
  others = search (rules);
  provider = search (rules);
}

pub returns-in_err-wrote-clause-reads : goal.returns-in_err-wrote-clause-reads
returns-in_err-wrote-clause-reads g c = reads_then g.B.Bay.connection c.args.c.0 c.args.self.now.bay c.writes.self.bay c.send_some.new.self.bay c.writes.invariant.reads c.send_some.ensures.reads

pub returns-then-not-wrote-clause-reads : goal.returns-then-not-wrote-clause-reads
returns-then-not-wrote-clause-reads g c = reads_then g.B.Bay.connection c.args.c.0 c.args.self.now.bay c.writes.self.bay c.send_some.new.self.bay c.writes.invariant.reads c.send_some.ensures.reads

pub returns-in_err-wrote-clause-means : goal.returns-in_err-wrote-clause-means
returns-in_err-wrote-clause-means g c =
    let is : c.from_residual.result ≡ Err c.in_err-wrote.field-0.0 = search (rules) in
    rw (is) (drop_since c.send_some.new.self.lines (g.B.Bay.connection c.args.self.now.bay c.args.c.0) (g.B.Bay.connection c.writes.self.bay c.args.c.0) (g.B.Bay.connection c.send_some.new.self.bay c.args.c.0) c.in_err-wrote.field-0.0 (acts_later g.B.Bay.provider g.B.Bay.connection c.args.c.0 c.args.self.now c.writes.self c.writes.invariant.acts) c.in_err-wrote.ensures.means)
