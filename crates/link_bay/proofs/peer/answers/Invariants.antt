use Rattle.std.proofs.Common.{◌≡◌, ◌≤◌, ◌-◌, length, drop, []}
use Rattle.link_bay.specs.ExactPeer.{nothing_yet, follow}
use Rattle.link_bay.proofs.peer.answers.Given as goal

-- what is said to the bytes that are left goes on behind what was said to the first ones
abbrev pub invariant-packets : goal.invariant-packets
invariant-packets l = record {
  within : l.used ≤ length l.sent;
  goes_on : follow nothing_yet l.sent ≡ follow (record { said = l.bytes.items; rest = [] }) (drop l.used l.sent);
}

abbrev pub decreases-packets : goal.decreases-packets
decreases-packets l = length l.sent - l.used
