use Rattle.std.proofs.Common.{arith, ap, take, drop, ◌+◌, ◌++◌, ◌∙◌}
use Rattle.link_bay.proofs.ExactPeers.{map_written}
use Rattle.link_bay.proofs.peer.push_map.Goals as goal

pub returns : goal.returns
returns c = map_written c.args.bytes.now.items c.args.content.now c.extend_from_slice.new.self.items c.extend_from_slice-2.new.self.items
    c.extend_from_slice-3.new.self.items c.extend_from_slice-4.new.self.items c.push.new.self.items _ (14 + c.saturating_sub-count.result + 1) c.requires.long (omega arith) (ap (λ n. take n (drop 14 c.args.content.now)) (omega arith))
    c.in_ok-extend_from_slice.ensures.items (c.in_ok-extend_from_slice-2.ensures.items ∙ ap (λ bytes. c.extend_from_slice.new.self.items ++ bytes) c.to_be_bytes.ensures) c.in_ok-extend_from_slice-3.ensures.items c.in_ok-extend_from_slice-4.ensures.items c.in_ok-push.ensures.items
