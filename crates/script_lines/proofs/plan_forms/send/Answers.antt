use Rattle.std.proofs.Common.{◌≡◌, ◌∙◌, ℕ, List, [], ◌∷◌, Ok, Err, sym, ap}
use Rattle.std.proofs.lemmas.Result.{err_from_is_err_and}
use Rattle.script_lines.specs.declared.plan.PlanLine.TheVariants as lines
use Rattle.script_lines.specs.declared.kinds.PlanKind.TheVariants as kind
use Rattle.script_lines.specs.Text.{words_of}
use Rattle.script_lines.specs.Arguments.{Number, Place, Colour, Hex, nth_word, number_of, place_of, colour_of, read}
use Rattle.script_lines.specs.Forms.{wid, point, side, client, plan_line, plan_form}
use Rattle.script_lines.proofs.PlacesLemmas.{read_one, read_next, read_ok, read_err}
use Rattle.script_lines.proofs.plan_forms.send.Goals as goal

pub returns-in_err-k : goal.returns-in_err-k
returns-in_err-k c =
    let whole : c.both.result ≡ read (client ∷ (Number 1 16777216) ∷ []) (λ (words : List (List ℕ)). (number_of (nth_word 0 words), number_of (nth_word 1 words))) (words_of c.args.words.now) =
    read_next client number_of ((Number 1 16777216) ∷ []) (λ (words : List (List ℕ)). number_of (nth_word 0 words)) (words_of c.args.words.now) (words_of c.client_in-k.result.1.now) c.client_in-k.result.0 c.only.result c.both.result c.client_in-k.ensures.value c.client_in-k.ensures.rest
    (read_one (Number 1 16777216) number_of (words_of c.client_in-k.result.1.now) (words_of c.number_in-max.result.1.now) c.number_in-max.result.0 c.only.result c.number_in-max.ensures.value c.number_in-max.ensures.rest c.only.ensures)
    c.both.ensures in
    let p = err_from_is_err_and c.from_residual.result c.from_residual.ensures.1 in
    p.1 ∙ ap Err p.2 ∙ sym (read_err (client ∷ (Number 1 16777216) ∷ []) (λ (words : List (List ℕ)). (number_of (nth_word 0 words), number_of (nth_word 1 words))) (plan_line kind.Send) (words_of c.args.words.now) c.in_err-k.field-0.0 (sym whole ∙ c.in_err-k.was))

pub returns : goal.returns
returns c =
    let whole : c.both.result ≡ read (client ∷ (Number 1 16777216) ∷ []) (λ (words : List (List ℕ)). (number_of (nth_word 0 words), number_of (nth_word 1 words))) (words_of c.args.words.now) =
    read_next client number_of ((Number 1 16777216) ∷ []) (λ (words : List (List ℕ)). number_of (nth_word 0 words)) (words_of c.args.words.now) (words_of c.client_in-k.result.1.now) c.client_in-k.result.0 c.only.result c.both.result c.client_in-k.ensures.value c.client_in-k.ensures.rest
    (read_one (Number 1 16777216) number_of (words_of c.client_in-k.result.1.now) (words_of c.number_in-max.result.1.now) c.number_in-max.result.0 c.only.result c.number_in-max.ensures.value c.number_in-max.ensures.rest c.only.ensures)
    c.both.ensures in
    let is = read_ok (client ∷ (Number 1 16777216) ∷ []) (λ (words : List (List ℕ)). (number_of (nth_word 0 words), number_of (nth_word 1 words))) (plan_line kind.Send) (words_of c.args.words.now) (c.in_ok-k.k, c.in_ok-k.max) (sym whole ∙ c.in_ok-k.was) in
    sym (is.0 ∙ ap (λ (p : ℕ × ℕ). Ok (lines.Send p.0 p.1)) is.1)
