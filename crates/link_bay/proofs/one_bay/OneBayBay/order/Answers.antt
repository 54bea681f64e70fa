use Rattle.std.proofs.Common.{◌≡◌, ◌++◌, false}
use Rattle.link_bay.specs.ExactPeer.{exact_hello}
use Rattle.link_bay.specs.OneKept.{IsOneBay}
use Rattle.link_bay.proofs.Peers.{kept_at_join}
use Rattle.link_bay.proofs.one_bay.OneBayBay.order.Goals as goal

pub invariant_of-self-then-is_empty : goal.invariant_of-self-then-is_empty
invariant_of-self-then-is_empty c =
    let kept : IsOneBay false c.self.inside.accepted c.self.inside.said.items c.self.inside.place c.self.inside.sent.items c.self.inside.followed c.self.inside.writes.items c.self.inside.waits c.self.inside.unheard =
    rw (← c.if-self.false) c.self.invariant in
    let said : c.extend_from_slice.new.self.items ≡ c.self.inside.said.items ++ exact_hello = c.in_ok-extend_from_slice.ensures.items in
    kept_at_join _ _ _ _ _ _ _ _ _ kept said
