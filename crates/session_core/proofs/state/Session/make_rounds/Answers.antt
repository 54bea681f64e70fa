use Rattle.std.proofs.Common.{◌≡◌, Err, refl, rules}
use Rattle.session_core.proofs.Acting.{acts_on, acts_waiting}
use Rattle.session_core.proofs.Meanings.{later_same}
use Rattle.session_core.proofs.Settled.{on_ok}
use Rattle.session_core.proofs.Stepping.{acts_later, dropped_rounds, unheard_rounds, waiting_waited}
use Rattle.session_core.proofs.state.Session.make_rounds.Goals as goal

pub returns-in_err-capture_all-clause-acts : goal.returns-in_err-capture_all-clause-acts
returns-in_err-capture_all-clause-acts g c =
    acts_on g.B.Bay.provider g.B.Bay.connection c.args.c.0 _ c.rounds.self c.capture_all.new.self (acts_on g.B.Bay.provider g.B.Bay.connection c.args.c.0 _ c.receive_all.new.self c.rounds.self c.receive_all.ensures.acts c.rounds.invariant.acts) c.capture_all.ensures.acts

pub returns-in_err-send_all-clause-acts : goal.returns-in_err-send_all-clause-acts
returns-in_err-send_all-clause-acts g c =
    let before = acts_on g.B.Bay.provider g.B.Bay.connection c.args.c.0 _ c.receive_all.new.self c.rounds.self c.receive_all.ensures.acts c.rounds.invariant.acts in
    acts_on g.B.Bay.provider g.B.Bay.connection c.args.c.0 _ c.capture_all.new.self c.send_all.new.self (acts_on g.B.Bay.provider g.B.Bay.connection c.args.c.0 _ c.rounds.self c.capture_all.new.self before c.capture_all.ensures.acts) c.send_all.ensures.acts

pub returns-in_err-rest-clause-acts : goal.returns-in_err-rest-clause-acts
returns-in_err-rest-clause-acts g c =
    let before = acts_on g.B.Bay.provider g.B.Bay.connection c.args.c.0 _ c.receive_all.new.self c.rounds.self c.receive_all.ensures.acts c.rounds.invariant.acts in
    let captured = acts_on g.B.Bay.provider g.B.Bay.connection c.args.c.0 _ c.rounds.self c.capture_all.new.self before c.capture_all.ensures.acts in
    let sent = acts_on g.B.Bay.provider g.B.Bay.connection c.args.c.0 _ c.capture_all.new.self c.send_all.new.self captured c.send_all.ensures.acts in
    acts_on g.B.Bay.provider g.B.Bay.connection c.args.c.0 _ c.send_all.new.self c.receive_all-in-rounds.new.self sent c.receive_all-in-rounds.ensures.acts

pub returns-then-rest-left-clause-acts : goal.returns-then-rest-left-clause-acts
returns-then-rest-left-clause-acts g c =
    let before = acts_on g.B.Bay.provider g.B.Bay.connection c.args.c.0 _ c.receive_all.new.self c.rounds.self c.receive_all.ensures.acts c.rounds.invariant.acts in
    let captured = acts_on g.B.Bay.provider g.B.Bay.connection c.args.c.0 _ c.rounds.self c.capture_all.new.self before c.capture_all.ensures.acts in
    let sent = acts_on g.B.Bay.provider g.B.Bay.connection c.args.c.0 _ c.capture_all.new.self c.send_all.new.self captured c.send_all.ensures.acts in
    acts_on g.B.Bay.provider g.B.Bay.connection c.args.c.0 _ c.send_all.new.self c.receive_all-in-rounds.new.self sent c.receive_all-in-rounds.ensures.acts

pub rounds-preserved : goal.rounds-preserved
rounds-preserved g c =
    let captured = acts_on g.B.Bay.provider g.B.Bay.connection c.args.c.0 _ c.rounds.self c.capture_all.new.self c.rounds.invariant.acts c.capture_all.ensures.acts in
    let sent = acts_on g.B.Bay.provider g.B.Bay.connection c.args.c.0 _ c.capture_all.new.self c.send_all.new.self captured c.send_all.ensures.acts in
    record {
      windows = search (rules);
      present = search (rules);
      near = search (rules);
      acts = acts_on g.B.Bay.provider g.B.Bay.connection c.args.c.0 _ c.send_all.new.self c.receive_all-in-rounds.new.self sent c.receive_all-in-rounds.ensures.acts;
      ends = search (rules);
      others = search (rules);
      provider = search (rules);
    }

pub returns-then-rest-left-clause-waiting : goal.returns-then-rest-left-clause-waiting
returns-then-rest-left-clause-waiting g c =
    let before = acts_on g.B.Bay.provider g.B.Bay.connection c.args.c.0 _ c.receive_all.new.self c.rounds.self c.receive_all.ensures.acts c.rounds.invariant.acts in
    let captured = acts_on g.B.Bay.provider g.B.Bay.connection c.args.c.0 _ c.rounds.self c.capture_all.new.self before c.capture_all.ensures.acts in
    let sent = acts_on g.B.Bay.provider g.B.Bay.connection c.args.c.0 _ c.capture_all.new.self c.send_all.new.self captured c.send_all.ensures.acts in
    on_ok c.check_greeted.result (acts_waiting g.B.Bay.provider g.B.Bay.connection c.args.c.0 _ c.send_all.new.self c.receive_all-in-rounds.new.self sent c.in_ok-rest.ensures.waiting)

pub returns-in_err-left-clause-means : goal.returns-in_err-left-clause-means
returns-in_err-left-clause-means g c =
    let is : c.from_residual.result ≡ Err c.in_err-left.field-0.0 = search (rules) in
    rw (is) (dropped_rounds c.receive_all.new.self.lines (g.B.Bay.connection c.args.self.now.bay c.args.c.0) (g.B.Bay.connection c.args.self.now.bay c.args.c.0) (g.B.Bay.connection c.receive_all.new.self.bay c.args.c.0) c.in_err-left.field-0.0 (later_same (g.B.Bay.connection c.args.self.now.bay c.args.c.0) (g.B.Bay.connection c.args.self.now.bay c.args.c.0) refl) c.in_err-left.ensures.means)

pub returns-in_err-send_all-clause-means : goal.returns-in_err-send_all-clause-means
returns-in_err-send_all-clause-means g c =
    let before = acts_on g.B.Bay.provider g.B.Bay.connection c.args.c.0 _ c.receive_all.new.self c.rounds.self c.receive_all.ensures.acts c.rounds.invariant.acts in
    let captured = acts_on g.B.Bay.provider g.B.Bay.connection c.args.c.0 _ c.rounds.self c.capture_all.new.self before c.capture_all.ensures.acts in
    let is : c.from_residual-in_err-send_all.result ≡ Err c.in_err-send_all.field-0.0 = search (rules) in
    rw (is) (dropped_rounds c.send_all.new.self.lines (g.B.Bay.connection c.args.self.now.bay c.args.c.0) (g.B.Bay.connection c.capture_all.new.self.bay c.args.c.0) (g.B.Bay.connection c.send_all.new.self.bay c.args.c.0) c.in_err-send_all.field-0.0 (acts_later g.B.Bay.provider g.B.Bay.connection c.args.c.0 c.args.self.now c.capture_all.new.self captured) c.in_err-send_all.ensures.means)

pub returns-in_err-rest-clause-means : goal.returns-in_err-rest-clause-means
returns-in_err-rest-clause-means g c =
    let before = acts_on g.B.Bay.provider g.B.Bay.connection c.args.c.0 _ c.receive_all.new.self c.rounds.self c.receive_all.ensures.acts c.rounds.invariant.acts in
    let captured = acts_on g.B.Bay.provider g.B.Bay.connection c.args.c.0 _ c.rounds.self c.capture_all.new.self before c.capture_all.ensures.acts in
    let sent = acts_on g.B.Bay.provider g.B.Bay.connection c.args.c.0 _ c.capture_all.new.self c.send_all.new.self captured c.send_all.ensures.acts in
    let is : c.from_residual-in_err-rest.result ≡ Err c.in_err-rest.field-0.0 = search (rules) in
    rw (is) (dropped_rounds c.receive_all-in-rounds.new.self.lines (g.B.Bay.connection c.args.self.now.bay c.args.c.0) (g.B.Bay.connection c.send_all.new.self.bay c.args.c.0) (g.B.Bay.connection c.receive_all-in-rounds.new.self.bay c.args.c.0) c.in_err-rest.field-0.0 (acts_later g.B.Bay.provider g.B.Bay.connection c.args.c.0 c.args.self.now c.send_all.new.self sent) c.in_err-rest.ensures.means)

pub returns-then-rest-left-clause-means : goal.returns-then-rest-left-clause-means
returns-then-rest-left-clause-means g c =
    let before = acts_on g.B.Bay.provider g.B.Bay.connection c.args.c.0 _ c.receive_all.new.self c.rounds.self c.receive_all.ensures.acts c.rounds.invariant.acts in
    let captured = acts_on g.B.Bay.provider g.B.Bay.connection c.args.c.0 _ c.rounds.self c.capture_all.new.self before c.capture_all.ensures.acts in
    let sent = acts_on g.B.Bay.provider g.B.Bay.connection c.args.c.0 _ c.capture_all.new.self c.send_all.new.self captured c.send_all.ensures.acts in
    let waiting = acts_waiting g.B.Bay.provider g.B.Bay.connection c.args.c.0 _ c.send_all.new.self c.receive_all-in-rounds.new.self sent c.in_ok-rest.ensures.waiting in
    unheard_rounds c.receive_all-in-rounds.new.self.lines (g.B.Bay.connection c.args.self.now.bay c.args.c.0) (g.B.Bay.connection c.receive_all-in-rounds.new.self.bay c.args.c.0) c.check_greeted.result c.check_greeted.ensures.unbuilt
    (waiting_waited g.B.Bay.provider g.B.Bay.connection c.args.c.0 c.args.self.now c.receive_all-in-rounds.new.self waiting).1 c.check_greeted.ensures.unheard
