use Rattle.std.proofs.Common.{ap, ◌∙◌}
use Rattle.std.specs.Prelude.{slice_get}
use Rattle.client_replay.specs.Peers.{connection_of}
use Rattle.client_replay.proofs.BayLemmas.{kept_after, order_stays}
use Rattle.client_replay.proofs.peer_bay.PeerBayBay.order.Goals as goal

pub invariant_of-self-2 : goal.invariant_of-self-2
invariant_of-self-2 c =
    kept_after c.self.inside.peers.items c.follow.new.peers.items c.self.inside.accepted c.args.order.now c.self.invariant c.in_ok-follow.ensures.ok c.follow.ensures.few

pub returns-clause-connections : goal.returns-clause-connections
returns-clause-connections c =
    rw (← c.self.view_is)
    (λ d. ap (λ peers. connection_of (slice_get peers d)) c.in_ok-follow.ensures.ok ∙ order_stays c.self.inside.peers.items c.args.order.now d)
