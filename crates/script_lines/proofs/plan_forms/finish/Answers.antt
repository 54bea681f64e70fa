use Rattle.std.proofs.Common.{◌≡◌, ◌∙◌, ℕ, List, [], ◌∷◌, Ok, Err, refl, sym, ap}
use Rattle.std.proofs.lemmas.Result.{err_from_is_err_and}
use Rattle.script_lines.specs.declared.plan.PlanLine.TheVariants as lines
use Rattle.script_lines.specs.declared.kinds.PlanKind.TheVariants as kind
use Rattle.script_lines.specs.Text.{words_of}
use Rattle.script_lines.specs.Arguments.{Number, number_of, number_at, read}
use Rattle.script_lines.specs.Places.{first}
use Rattle.script_lines.specs.Forms.{plan_line}
use Rattle.script_lines.proofs.PlacesLemmas.{read_one}
use Rattle.script_lines.proofs.FormsLemmas.{made, not_made}
use Rattle.script_lines.proofs.plan_forms.finish.Goals as goal

pub returns-in_err-j : goal.returns-in_err-j
returns-in_err-j c =
    let job = Number 1 9999999999 in
    let whole : c.only.result ≡ read (job ∷ []) (number_at 0) (words_of c.args.words.now) =
    read_one job number_of (words_of c.args.words.now) (words_of c.next.result.1.now) c.long_of.result c.only.result (c.long_of.ensures.value ∙ ap (first job number_of) c.next.ensures.word) c.next.ensures.rest c.only.ensures in
    let p = err_from_is_err_and c.from_residual.result c.from_residual.ensures.1 in
    p.1 ∙ ap Err p.2 ∙ not_made (job ∷ []) (number_at 0) (plan_line kind.Finish) (words_of c.args.words.now) c.in_err-j.field-0.0 c.only.result whole c.in_err-j.was

pub returns : goal.returns
returns c =
    let job = Number 1 9999999999 in
    let whole : c.only.result ≡ read (job ∷ []) (number_at 0) (words_of c.args.words.now) =
    read_one job number_of (words_of c.args.words.now) (words_of c.next.result.1.now) c.long_of.result c.only.result (c.long_of.ensures.value ∙ ap (first job number_of) c.next.ensures.word) c.next.ensures.rest c.only.ensures in
    made (job ∷ []) (number_at 0) lines.Finish (plan_line kind.Finish) (words_of c.args.words.now) c.in_ok-j.j c.only.result (λ words. refl) whole c.in_ok-j.was
