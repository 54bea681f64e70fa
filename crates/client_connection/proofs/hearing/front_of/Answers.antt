use Rattle.std.proofs.Common.{arith}
use Rattle.std.specs.Cmp.Lexicographic.{same_text, other_text}
use Rattle.client_connection.proofs.Hearings.{whole_front, part_front, neither_long, neither_short}
use Rattle.client_connection.proofs.hearing.front_of.Goals as goal

pub returns-then-eq-clause-whole : goal.returns-then-eq-clause-whole
returns-then-eq-clause-whole c = λ is. whole_front c.args.bytes.now c.args.packet.now (same_text _ _ c.if-eq.ensures)

pub returns-then-bytes-packet-clause-other : goal.returns-then-bytes-packet-clause-other
returns-then-bytes-packet-clause-other c = λ is. neither_long c.args.bytes.now c.args.packet.now (omega (arith, c.if-bytes-packet.true)) (other_text _ _ c.if-eq.ensures)

pub returns-then-eq-2-clause-part : goal.returns-then-eq-2-clause-part
returns-then-eq-2-clause-part c = λ is. part_front c.args.bytes.now c.args.packet.now (omega (arith, c.if-bytes-packet.false)) (same_text _ _ c.if-eq-2.ensures)

pub returns-clause-other : goal.returns-clause-other
returns-clause-other c = λ is. neither_short c.args.bytes.now c.args.packet.now (omega (arith, c.if-bytes-packet.false)) (other_text _ _ c.if-eq-2.ensures)
