use Rattle.std.proofs.Common.{◌∙◌, sym, ap, arith}
use Rattle.paint_script.specs.Faults.{fault_after}
use Rattle.paint_script.proofs.Keeping.{joined_few, pushed_paint, pushed_join, pushed_order, pushed_plan}
use Rattle.paint_script.proofs.reader.Reader.push.Goals as goal
use Rattle.paint_script.proofs.reader.Reader.push.Goals.{in-Paint+in_ok-windows-in-Paint, in-Peer+then-is_join, in-Peer+else-is_join, in-Plan}

pub overflow_add-peers : goal.overflow_add-peers
overflow_add-peers c = omega (arith, joined_few c.self.inside.lines.items, c.self.invariant.peers_are, c.self.inside.lines.ok, c.self.inside.lines.small)

pub invariant_of-result : goal.invariant_of-result
invariant_of-result c =
    let old = c.self.inside in
    let next = c.args.line in
    let kept = c.self.invariant in
    let none = ap (λ lines. fault_after lines next) c.self.view_is ∙ c.requires.faultless in
    rw c.in_ok-push.ensures.items
    (elim c.match-line.branch [
      | in-Paint+in_ok-windows-in-Paint w ↦
          rw (ap (λ v. v.items) w.windows-is, ap (λ v. v.items) w.marks-is, w.peers-is, w.in_ok-windows-in-Paint.ensures, w.mark.ensures)
          (pushed_paint old.lines.items old.windows.items old.marks.items old.peers next w.in-Paint.paint kept c.requires.range none w.in-Paint.is)
      | in-Peer+then-is_join w ↦
          rw (ap (λ v. v.items) w.windows-is, ap (λ v. v.items) w.marks-is, w.peers-is)
          (pushed_join old.lines.items old.windows.items old.marks.items old.peers next w.in-Peer.order kept c.requires.range none w.in-Peer.is (sym w.is_join.ensures ∙ w.if-is_join.true))
      | in-Peer+else-is_join w ↦
          rw (ap (λ v. v.items) w.windows-is, ap (λ v. v.items) w.marks-is, w.peers-is)
          (pushed_order old.lines.items old.windows.items old.marks.items old.peers next w.in-Peer.order kept c.requires.range none w.in-Peer.is (sym w.is_join.ensures ∙ w.if-is_join.false))
      | in-Plan w ↦
          rw (ap (λ v. v.items) w.windows-is, ap (λ v. v.items) w.marks-is, w.peers-is)
          (pushed_plan old.lines.items old.windows.items old.marks.items old.peers next w.in-Plan.field-0 kept c.requires.range w.in-Plan.is)
    ])
