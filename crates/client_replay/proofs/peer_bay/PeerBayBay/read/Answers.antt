use Rattle.std.proofs.Common.{◌≡◌, ◌<◌, ◌≤◌, length, subst, sym, refl, ap, arith}
use Rattle.std.specs.Prelude.{slice_get, Some}
use Rattle.link_bay.proofs.Places.{slice_get-set_same, slice_get-set_other, slice_get_here}
use Rattle.client_replay.specs.Peers.{PeerProvider, connection_of}
use Rattle.client_replay.proofs.BayLemmas.{peer_reads}
use Rattle.client_replay.proofs.peer_bay.PeerBayBay.read.Goals as goal

pub returns-clause-exact : goal.returns-clause-exact
returns-clause-exact c =
    let handed : c.args.c.0 < c.self.inside.accepted = subst (λ (b : PeerProvider). c.args.c.0 < b.accepted) (sym c.self.view_is) c.requires.known in
    let known : c.args.c.0 < length c.self.inside.peers.items = omega (arith, handed, c.self.invariant.within) in
    let was : slice_get c.self.inside.peers.items c.args.c.0 ≡ Some c.index_mut-peer.result.now = slice_get_here c.self.inside.peers.items c.args.c.0 c.index_mut-peer.result.now known c.index_mut-peer.ensures.value in
    rw (← c.self.view_is) (c.index_mut-peer.result.now, c.read.new.self, was, c.read.ensures.exact, refl)

pub returns-clause-answer : goal.returns-clause-answer
returns-clause-answer c =
    let handed : c.args.c.0 < c.self.inside.accepted = subst (λ (b : PeerProvider). c.args.c.0 < b.accepted) (sym c.self.view_is) c.requires.known in
    let known : c.args.c.0 < length c.self.inside.peers.items = omega (arith, handed, c.self.invariant.within) in
    rw (← c.self.view_is) (peer_reads _ _ c.index_mut-peer.result.now c.read.new.self c.args.into.now.items c.read.new.into.items c.args.max c.read.result
    (slice_get_here c.self.inside.peers.items c.args.c.0 c.index_mut-peer.result.now known c.index_mut-peer.ensures.value)
    (slice_get-set_same c.self.inside.peers.items c.args.c.0 c.read.new.self known)
    c.read.ensures.answer)

pub returns-clause-others : goal.returns-clause-others
returns-clause-others c = rw (← c.self.view_is) (λ d other. ap connection_of (slice_get-set_other c.self.inside.peers.items c.args.c.0 c.read.new.self d other))
