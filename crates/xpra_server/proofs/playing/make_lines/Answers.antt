use Rattle.std.proofs.Common.{◌≡◌, ◌+◌, ◌<◌, suc, length, Some, get_or, sym, ap, ◌∙◌, arith}
use Rattle.std.specs.Prelude.{slice_get}
use Rattle.std.proofs.lemmas.Option.{slice_get-get_or}
use Rattle.link_bay.specs.declared.order.Order.{Order}
use Rattle.first_script.specs.declared.line.Line.{Line}
use Rattle.first_script.specs.declared.line.Line.TheVariants as L
use Rattle.first_script.specs.declared.paint.Paint.{Paint}
use Rattle.session_core.specs.State.{Seen}
use Rattle.session_core.specs.Steps.{after_paint}
use Rattle.xpra_server.proofs.Scripts.{painted_before_paint, painted_before_all, painted_next_paint, painted_next_peer, order_faults, order_lulls, asked_next_paint, asked_more, order_asked}
use Rattle.xp_base.specs.Told.{told_append}
use Rattle.xpra_server.proofs.playing.make_lines.Goals as goal
use Rattle.xpra_server.proofs.playing.make_lines.Goals.{in-Paint+in-Done, in-Peer+else-is_err}

pub unreachable-requires : goal.unreachable-requires
unreachable-requires g c =
    let within : c.loop-line.line-index < length c.args.lines.now = omega arith in
    let p : Paint = c.in-Paint.field-0 in
    let here : slice_get c.args.lines.now c.loop-line.line-index ≡ Some (L.Paint p) =
    slice_get-get_or c.args.lines.now c.loop-line.line-index c.line-item.result within ∙ ap (λ (x : Line). Some x) (sym c.line-item.is ∙ c.in-Paint.is) in
    let more = painted_before_paint c.args.lines.now c.loop-line.line-index p here in
    let all = painted_before_all c.args.lines.now (suc c.loop-line.line-index) in
    let below : c.loop-line.session.place < length c.loop-line.session.lines = omega (arith, more, all, c.loop-line.invariant.place, ap length c.loop-line.invariant.lines) in
    let some : slice_get c.loop-line.session.lines c.loop-line.session.place ≡ Some (get_or c.loop-line.session.lines c.loop-line.session.place p) =
    slice_get-get_or c.loop-line.session.lines c.loop-line.session.place p below in
    let none = c.in-Finished.ensures.answer.0 in cc (some, none)

pub loop-line-preserved : goal.loop-line-preserved
loop-line-preserved g c =
    let within : c.loop-line.line-index < length c.args.lines.now = omega arith in
    let read : slice_get c.args.lines.now c.loop-line.line-index ≡ Some c.line-item.result =
    slice_get-get_or c.args.lines.now c.loop-line.line-index c.line-item.result within ∙ ap (λ (x : Line). Some x) (sym c.line-item.is) in
    elim c.match-line.branch [
      | in-Paint+in-Done w ↦
          let step = w.in-Done.ensures.answer in
          let is : c.match-line.session ≡ after_paint step.0 c.loop-line.session = w.session-is ∙ step.2 in
          let p : Paint = w.in-Paint.field-0 in
          let here : slice_get c.args.lines.now c.loop-line.line-index ≡ Some (L.Paint p) = read ∙ ap (λ (x : Line). Some x) w.in-Paint.is in
          let more = painted_next_paint c.args.lines.now c.loop-line.line-index p here in
          record {
            place = ap (λ (s : Seen g.row.B.Denot). s.place) is ∙ ap (λ n. n + 1) c.loop-line.invariant.place ∙ sym more;
            lines = ap (λ (s : Seen g.row.B.Denot). s.lines) is ∙ c.loop-line.invariant.lines;
            asked = ap (λ (s : Seen g.row.B.Denot). (g.B.Bay.provider s.bay).asked) is ∙ c.loop-line.invariant.asked
                ∙ ap (told_append (g.B.Bay.provider c.args.session.now.bay).asked) (sym (asked_next_paint c.args.lines.now c.loop-line.line-index p here));
            ends = ap (λ (s : Seen g.row.B.Denot). s.ends) is ∙ c.loop-line.invariant.ends;
            lulls = ap (λ (s : Seen g.row.B.Denot). (g.B.Bay.provider s.bay).lulls) is ∙ c.loop-line.invariant.lulls;
            faults = ap (λ (s : Seen g.row.B.Denot). (g.B.Bay.provider s.bay).faults) is ∙ c.loop-line.invariant.faults;
          }
      | in-Peer+else-is_err w ↦
          let is = w.session-is ∙ w.order.ensures.session in
          let order : Order = w.in-Peer.order in
          let here : slice_get c.args.lines.now c.loop-line.line-index ≡ Some (L.Peer order) = read ∙ ap (λ (x : Line). Some x) w.in-Peer.is in
          let same = painted_next_peer c.args.lines.now c.loop-line.line-index order here in
          record {
            place = ap (λ (s : Seen g.row.B.Denot). s.place) is ∙ c.loop-line.invariant.place ∙ sym same;
            lines = ap (λ (s : Seen g.row.B.Denot). s.lines) is ∙ c.loop-line.invariant.lines;
            asked = ap (λ (s : Seen g.row.B.Denot). (g.B.Bay.provider s.bay).asked) w.session-is
                ∙ asked_more (g.B.Bay.provider c.args.session.now.bay).asked _ _ c.args.lines.now c.loop-line.line-index order
                (order_asked _ _ _ w.order.result (sym (w.if-is_err.ensures.value)) w.order.ensures.answer) here c.loop-line.invariant.asked;
            ends = ap (λ (s : Seen g.row.B.Denot). s.ends) is ∙ c.loop-line.invariant.ends;
            lulls = ap (λ (s : Seen g.row.B.Denot). (g.B.Bay.provider s.bay).lulls) w.session-is
                ∙ order_lulls _ _ _ _ w.order.ensures.answer ∙ c.loop-line.invariant.lulls;
            faults = ap (λ (s : Seen g.row.B.Denot). (g.B.Bay.provider s.bay).faults) w.session-is
                ∙ order_faults _ _ _ _ w.order.ensures.answer ∙ c.loop-line.invariant.faults;
          }
    ]
