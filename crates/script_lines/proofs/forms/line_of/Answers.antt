use Rattle.std.proofs.Common.{◌≡◌, ◌∙◌, ℕ, List, [], ◌∷◌, Ok, Err, refl, sym, ap}
use Rattle.std.proofs.lemmas.Result.{err_from_is_err_and}
use Rattle.script_lines.specs.Text.{words_of}
use Rattle.script_lines.specs.Arguments.{Number, Uuid, nth_word, number_at}
use Rattle.script_lines.specs.Places.{no_value}
use Rattle.script_lines.specs.declared.line.Line.TheVariants as lines
use Rattle.script_lines.specs.declared.kinds.Kind.TheVariants as kind
use Rattle.script_lines.specs.Forms.{paint_arguments, paint_line, peer_arguments, peer_order, plan_arguments, plan_line, line_of}
use Rattle.script_lines.proofs.FormsLemmas.{made, not_made, gives_made, gives_not}
use Rattle.script_lines.proofs.forms.line_of.Goals as goal

pub returns-in_err-paint_line-in-Paint : goal.returns-in_err-paint_line-in-Paint
returns-in_err-paint_line-in-Paint c =
    let p = err_from_is_err_and c.from_residual.result c.from_residual.ensures.1 in
    rw (c.in-Paint.is, p.1, p.2) (sym (not_made (paint_arguments c.in-Paint.kind) (paint_line c.in-Paint.kind) (line_of (kind.Paint c.in-Paint.kind)) (words_of c.args.words.now) c.in_err-paint_line-in-Paint.field-0.0 c.paint_line.result c.paint_line.ensures c.in_err-paint_line-in-Paint.was))

pub returns-in_ok-paint_line-in-Paint : goal.returns-in_ok-paint_line-in-Paint
returns-in_ok-paint_line-in-Paint c = rw c.in-Paint.is (sym (made (paint_arguments c.in-Paint.kind) (paint_line c.in-Paint.kind) lines.Paint (line_of (kind.Paint c.in-Paint.kind)) (words_of c.args.words.now) c.in_ok-paint_line-in-Paint.field-0 c.paint_line.result (λ words. refl) c.paint_line.ensures c.in_ok-paint_line-in-Paint.was))

pub returns-in_err-peer_line-in-Peer : goal.returns-in_err-peer_line-in-Peer
returns-in_err-peer_line-in-Peer c =
    let p = err_from_is_err_and c.from_residual-in_err-peer_line-in-Peer.result c.from_residual-in_err-peer_line-in-Peer.ensures.1 in
    rw (c.in-Peer.is, p.1, p.2) (gives_not (peer_arguments c.in-Peer.kind) (peer_order c.in-Peer.kind) (line_of (kind.Peer c.in-Peer.kind)) (words_of c.args.words.now) c.in_err-peer_line-in-Peer.field-0.0 c.peer_line.result c.peer_line.ensures c.in_err-peer_line-in-Peer.was)

pub returns-in_ok-peer_line-in-Peer : goal.returns-in_ok-peer_line-in-Peer
returns-in_ok-peer_line-in-Peer c = rw c.in-Peer.is (gives_made (peer_arguments c.in-Peer.kind) (peer_order c.in-Peer.kind) lines.Peer (line_of (kind.Peer c.in-Peer.kind)) (words_of c.args.words.now) c.in_ok-peer_line-in-Peer.field-0 c.peer_line.result (λ words. refl) c.peer_line.ensures c.in_ok-peer_line-in-Peer.was)

pub returns-in_err-plan_line-in-Plan : goal.returns-in_err-plan_line-in-Plan
returns-in_err-plan_line-in-Plan c =
    let p = err_from_is_err_and c.from_residual-in_err-plan_line-in-Plan.result c.from_residual-in_err-plan_line-in-Plan.ensures.1 in
    rw (c.in-Plan.is, p.1, p.2) (sym (not_made (plan_arguments c.in-Plan.kind) (plan_line c.in-Plan.kind) (line_of (kind.Plan c.in-Plan.kind)) (words_of c.args.words.now) c.in_err-plan_line-in-Plan.field-0.0 c.plan_line.result c.plan_line.ensures c.in_err-plan_line-in-Plan.was))

pub returns-in_ok-plan_line-in-Plan : goal.returns-in_ok-plan_line-in-Plan
returns-in_ok-plan_line-in-Plan c = rw c.in-Plan.is (sym (made (plan_arguments c.in-Plan.kind) (plan_line c.in-Plan.kind) lines.Plan (line_of (kind.Plan c.in-Plan.kind)) (words_of c.args.words.now) c.in_ok-plan_line-in-Plan.field-0 c.plan_line.result (λ words. refl) c.plan_line.ensures c.in_ok-plan_line-in-Plan.was))
