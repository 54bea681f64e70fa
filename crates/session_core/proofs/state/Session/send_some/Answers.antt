use Rattle.std.proofs.Common.{◌≡◌, inl, inr, refl, ◌∙◌, subst, rules, arith}
use Rattle.xp_base.specs.Counts.{RoseBy}
use Rattle.client_connection.specs.declared.answers.Sent.TheVariants as S
use Rattle.session_core.proofs.Acting.{acts_send}
use Rattle.session_core.proofs.Calms.{sends_sources, sends_idle}
use Rattle.session_core.proofs.Meanings.{drop_since, rose_more}
use Rattle.session_core.proofs.Stepping.{acts_later, sends_closed, sends_stay, reads_then, sends_reads, sends_dry}
use Rattle.session_core.proofs.state.Session.send_some.Goals as goal

pub returns-in-Took-clause-sources : goal.returns-in-Took-clause-sources
returns-in-Took-clause-sources g c = sends_sources g.B.Bay.connection c.args.c.0 65536 c.loop-tried.self c.send.new.self (S.Took c.in-Took.field-0) c.in-Took.ensures.answer refl ∙ c.loop-tried.invariant.sources

pub returns-in-Took-clause-open : goal.returns-in-Took-clause-open
returns-in-Took-clause-open g c = sends_stay g.B.Bay.connection c.args.c.0 65536 c.loop-tried.self c.send.new.self (S.Took c.in-Took.field-0) refl c.loop-tried.invariant.present c.in-Took.ensures.answer

pub returns-in-Took-clause-reads : goal.returns-in-Took-clause-reads
returns-in-Took-clause-reads g c = reads_then g.B.Bay.connection c.args.c.0 c.args.self.now.bay c.loop-tried.self.bay c.send.new.self.bay c.loop-tried.invariant.reads (sends_reads g.B.Bay.connection c.args.c.0 65536 c.loop-tried.self c.send.new.self c.send.result c.send.ensures.answer)

pub returns-in-Took-clause-acts : goal.returns-in-Took-clause-acts
returns-in-Took-clause-acts g c = acts_send g.B.Bay.provider g.B.Bay.connection c.args.c.0 65536 _ c.loop-tried.self c.send.new.self c.send.result (omega arith) c.loop-tried.invariant.acts c.send.ensures.provider c.send.ensures.others c.send.ensures.answer

pub returns-in-Idle-clause-idle : goal.returns-in-Idle-clause-idle
returns-in-Idle-clause-idle g c = λ idle. sends_idle g.B.Bay.connection c.args.c.0 65536 c.loop-tried.self c.send.new.self c.in-Idle.ensures.answer

pub returns-in-Idle-clause-sources : goal.returns-in-Idle-clause-sources
returns-in-Idle-clause-sources g c = sends_sources g.B.Bay.connection c.args.c.0 65536 c.loop-tried.self c.send.new.self S.Idle c.in-Idle.ensures.answer refl ∙ c.loop-tried.invariant.sources

pub returns-in-Idle-clause-open : goal.returns-in-Idle-clause-open
returns-in-Idle-clause-open g c = sends_stay g.B.Bay.connection c.args.c.0 65536 c.loop-tried.self c.send.new.self S.Idle refl c.loop-tried.invariant.present c.in-Idle.ensures.answer

pub returns-in-Idle-clause-reads : goal.returns-in-Idle-clause-reads
returns-in-Idle-clause-reads g c = reads_then g.B.Bay.connection c.args.c.0 c.args.self.now.bay c.loop-tried.self.bay c.send.new.self.bay c.loop-tried.invariant.reads (sends_reads g.B.Bay.connection c.args.c.0 65536 c.loop-tried.self c.send.new.self c.send.result c.send.ensures.answer)

pub returns-in-Idle-clause-acts : goal.returns-in-Idle-clause-acts
returns-in-Idle-clause-acts g c = acts_send g.B.Bay.provider g.B.Bay.connection c.args.c.0 65536 _ c.loop-tried.self c.send.new.self c.send.result (omega arith) c.loop-tried.invariant.acts c.send.ensures.provider c.send.ensures.others c.send.ensures.answer

pub unreachable-requires : goal.unreachable-requires
unreachable-requires g c = sends_closed g.B.Bay.connection c.args.c.0 65536 c.loop-tried.self c.send.new.self c.loop-tried.invariant.present c.in-Closed.ensures.answer

pub returns-in-Ended-clause-reads : goal.returns-in-Ended-clause-reads
returns-in-Ended-clause-reads g c = reads_then g.B.Bay.connection c.args.c.0 c.args.self.now.bay c.loop-tried.self.bay c.send.new.self.bay c.loop-tried.invariant.reads (sends_reads g.B.Bay.connection c.args.c.0 65536 c.loop-tried.self c.send.new.self c.send.result c.send.ensures.answer)

pub returns-in-Ended-clause-acts : goal.returns-in-Ended-clause-acts
returns-in-Ended-clause-acts g c = acts_send g.B.Bay.provider g.B.Bay.connection c.args.c.0 65536 _ c.loop-tried.self c.send.new.self c.send.result (omega arith) c.loop-tried.invariant.acts c.send.ensures.provider c.send.ensures.others c.send.ensures.answer

pub returns-in-NoMemory-clause-reads : goal.returns-in-NoMemory-clause-reads
returns-in-NoMemory-clause-reads g c = reads_then g.B.Bay.connection c.args.c.0 c.args.self.now.bay c.loop-tried.self.bay c.send.new.self.bay c.loop-tried.invariant.reads (sends_reads g.B.Bay.connection c.args.c.0 65536 c.loop-tried.self c.send.new.self c.send.result c.send.ensures.answer)

pub returns-in-NoMemory-clause-acts : goal.returns-in-NoMemory-clause-acts
returns-in-NoMemory-clause-acts g c = acts_send g.B.Bay.provider g.B.Bay.connection c.args.c.0 65536 _ c.loop-tried.self c.send.new.self c.send.result (omega arith) c.loop-tried.invariant.acts c.send.ensures.provider c.send.ensures.others c.send.ensures.answer

pub loop-tried-preserved : goal.loop-tried-preserved
loop-tried-preserved g c =
    let dry = sends_dry g.B.Bay.connection c.args.c.0 65536 c.loop-tried.self c.send.new.self c.loop-tried.invariant.present c.in-Again.ensures.answer in
    record {
      windows = search (rules);
      present = sends_stay g.B.Bay.connection c.args.c.0 65536 c.loop-tried.self c.send.new.self S.Again refl c.loop-tried.invariant.present c.in-Again.ensures.answer;
      dry = rose_more c.loop-tried.tried (g.B.Bay.connection c.args.self.now.bay c.args.c.0).dry (g.B.Bay.connection c.loop-tried.self.bay c.args.c.0).dry (g.B.Bay.connection c.send.new.self.bay c.args.c.0).dry c.loop-tried.invariant.dry dry.0;
      drought = omega (arith, dry.1, c.loop-tried.invariant.drought, c.loop-tried-test.true);
      reads = reads_then g.B.Bay.connection c.args.c.0 c.args.self.now.bay c.loop-tried.self.bay c.send.new.self.bay c.loop-tried.invariant.reads (sends_reads g.B.Bay.connection c.args.c.0 65536 c.loop-tried.self c.send.new.self c.send.result c.send.ensures.answer);
      acts = acts_send g.B.Bay.provider g.B.Bay.connection c.args.c.0 65536 _ c.loop-tried.self c.send.new.self c.send.result (omega arith) c.loop-tried.invariant.acts c.send.ensures.provider c.send.ensures.others c.send.ensures.answer;
      ends = search (rules);
      sources = sends_sources g.B.Bay.connection c.args.c.0 65536 c.loop-tried.self c.send.new.self S.Again c.in-Again.ensures.answer refl ∙ c.loop-tried.invariant.sources;
      waiting = search (rules);
      others = search (rules);
      provider = search (rules);
    }

pub returns-in-Ended-clause-means : goal.returns-in-Ended-clause-means
returns-in-Ended-clause-means g c =
    drop_since c.send.new.self.lines (g.B.Bay.connection c.args.self.now.bay c.args.c.0) (g.B.Bay.connection c.loop-tried.self.bay c.args.c.0) (g.B.Bay.connection c.send.new.self.bay c.args.c.0) c.in-Ended.end (acts_later g.B.Bay.provider g.B.Bay.connection c.args.c.0 c.args.self.now c.loop-tried.self c.loop-tried.invariant.acts) c.in-Ended.ensures.means

pub returns-clause-means : goal.returns-clause-means
returns-clause-means g c =
    let all : c.loop-tried.tried ≡ 1000 = omega (arith, c.loop-tried-test.false, c.loop-tried.auto.tried-end) in
    inr (inr (inl (subst (λ n. RoseBy n (g.B.Bay.connection c.args.self.now.bay c.args.c.0).dry (g.B.Bay.connection c.loop-tried.self.bay c.args.c.0).dry) all c.loop-tried.invariant.dry, omega (arith, all, c.loop-tried.invariant.drought))))
