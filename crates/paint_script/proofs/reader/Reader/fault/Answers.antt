use Rattle.std.proofs.Common.{◌∙◌}
use Rattle.paint_script.proofs.Keeping.{fault_paint, fault_order, fault_plan}
use Rattle.paint_script.proofs.reader.Reader.fault.Goals as goal

pub returns-in-Paint : goal.returns-in-Paint
returns-in-Paint c =
    let kept = c.self.inside in
    let p = c.in-Paint.paint in
    let is = fault_paint kept.lines.items kept.windows.items kept.marks.items kept.peers p c.self.invariant c.is_marked-again.ensures.small in
    rw (c.in-Paint.is, ← c.self.view_is) (c.paint_fault.ensures ∙ rw (c.as_slice-in-Paint.ensures.value, c.is_marked-again.ensures.value, c.as_slice.ensures.value) is)

pub returns-in-Peer : goal.returns-in-Peer
returns-in-Peer c =
    let kept = c.self.inside in
    rw (c.in-Peer.is, ← c.self.view_is) (c.peer_fault.ensures ∙ fault_order kept.lines.items kept.windows.items kept.marks.items kept.peers c.in-Peer.order c.self.invariant)

pub returns-in-Plan : goal.returns-in-Plan
returns-in-Plan c = rw c.in-Plan.is (fault_plan c.args.self.now c.in-Plan.field-0)
