use Rattle.std.proofs.Common.{arith, ◌≡◌, ◌+◌, ◌++◌, ℕ, List, take, drop, refl}
use Rattle.std.proofs.Math.Seq.{take-add}
use Rattle.std.proofs.lemmas.Bool.Decides.{nat_tests}
use Rattle.std.proofs.lemmas.Grind.{common_steps}
use Rattle.link_bay.specs.Writes.{heard_of}
use Rattle.client_replay.specs.Peers.{PeerRecord}
use Rattle.client_replay.proofs.PeerLemmas.{peer_read}
use Rattle.client_replay.proofs.peer.Peer.read.Goals as goal

pub returns-clause-exact : goal.returns-clause-exact
returns-clause-exact c =
    let p : PeerRecord = record {
      kind = c.self.inside.kind;
      said = c.self.inside.said.items;
      left = c.self.inside.left;
      sent = c.self.inside.sent.items;
      given = take c.self.inside.place c.self.inside.said.items;
      heard = heard_of c.self.inside.taken.items;
      counts = c.self.inside.counts;
    } in
    rw (← c.self.view_is) (peer_read p c.self.inside.place c.args.max c.min-count.result c.args.into.now.items c.extend_from_slice.new.self.items refl c.self.invariant.handed
    (grind (arith, common_steps)) (grind (arith, nat_tests, common_steps)) (grind (arith, common_steps)))

pub returns-clause-answer : goal.returns-clause-answer
returns-clause-answer c =
    let bytes : List ℕ = take c.min-count.result (drop c.self.inside.place c.self.inside.said.items) in
    rw (← c.self.view_is) (
      bytes,
      grind (arith, common_steps),
      grind (arith, nat_tests, common_steps),
      grind (arith, common_steps),
      grind (arith, common_steps),
      rw (take-add c.self.inside.place c.min-count.result c.self.inside.said.items) refl,
    )
