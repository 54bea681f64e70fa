use Rattle.std.proofs.Common.{◌≡◌, ◌∙◌, ℕ, List, [], ◌∷◌, Ok, Err, refl, sym, ap}
use Rattle.std.proofs.lemmas.Result.{err_from_is_err_and}
use Rattle.script_lines.specs.Text.{words_of}
use Rattle.script_lines.specs.Arguments.{Number, Uuid, nth_word, number_at}
use Rattle.script_lines.specs.Places.{no_value}
use Rattle.script_lines.specs.declared.plan.PlanLine.TheVariants as lines
use Rattle.script_lines.specs.declared.kinds.PlanKind.TheVariants as kind
use Rattle.script_lines.specs.Forms.{client, wid, plan_line}
use Rattle.script_lines.proofs.FormsLemmas.{made, not_made}
use Rattle.script_lines.proofs.plan_forms.plan_line.Goals as goal

pub returns-in_err-none-in-Accept : goal.returns-in_err-none-in-Accept
returns-in_err-none-in-Accept c =
    let p = err_from_is_err_and c.from_residual.result c.from_residual.ensures.1 in
    rw c.in-Accept.is (p.1 ∙ ap Err p.2 ∙ not_made [] no_value (plan_line kind.Accept) (words_of c.args.words.now) c.in_err-none-in-Accept.field-0.0 c.none.result c.none.ensures c.in_err-none-in-Accept.was)

pub returns-in_ok-none-in-Accept : goal.returns-in_ok-none-in-Accept
returns-in_ok-none-in-Accept c = rw c.in-Accept.is (made [] no_value (λ (u : Unit {0}). lines.Accept) (plan_line kind.Accept) (words_of c.args.words.now) c.in_ok-none-in-Accept.field-0 c.none.result (λ words. refl) c.none.ensures c.in_ok-none-in-Accept.was)

pub returns-in_err-k-in-Read : goal.returns-in_err-k-in-Read
returns-in_err-k-in-Read c =
    let p = err_from_is_err_and c.from_residual-in_err-k-in-Read.result c.from_residual-in_err-k-in-Read.ensures.1 in
    rw c.in-Read.is (p.1 ∙ ap Err p.2 ∙ not_made (Number 0 99999 ∷ []) (number_at 0) (plan_line kind.Read) (words_of c.args.words.now) c.in_err-k-in-Read.field-0.0 c.one_number.result c.one_number.ensures c.in_err-k-in-Read.was)

pub returns-in_ok-k-in-Read : goal.returns-in_ok-k-in-Read
returns-in_ok-k-in-Read c = rw c.in-Read.is (made (Number 0 99999 ∷ []) (number_at 0) lines.Read (plan_line kind.Read) (words_of c.args.words.now) c.in_ok-k-in-Read.k c.one_number.result (λ words. refl) c.one_number.ensures c.in_ok-k-in-Read.was)

pub returns-in_err-k-in-Capture : goal.returns-in_err-k-in-Capture
returns-in_err-k-in-Capture c =
    let p = err_from_is_err_and c.from_residual-in_err-k-in-Capture.result c.from_residual-in_err-k-in-Capture.ensures.1 in
    rw c.in-Capture.is (p.1 ∙ ap Err p.2 ∙ not_made (client ∷ wid ∷ []) (λ (words : List (List ℕ)). (number_at 0 words, number_at 1 words)) (plan_line kind.Capture) (words_of c.args.words.now) c.in_err-k-in-Capture.field-0.0 c.client_and_window.result c.client_and_window.ensures c.in_err-k-in-Capture.was)

pub returns-in_ok-k-in-Capture : goal.returns-in_ok-k-in-Capture
returns-in_ok-k-in-Capture c = rw c.in-Capture.is (made (client ∷ wid ∷ []) (λ (words : List (List ℕ)). (number_at 0 words, number_at 1 words)) (λ (p : ℕ × ℕ). lines.Capture p.0 p.1) (plan_line kind.Capture) (words_of c.args.words.now) (c.in_ok-k-in-Capture.k, c.in_ok-k-in-Capture.wid) c.client_and_window.result (λ words. refl) c.client_and_window.ensures c.in_ok-k-in-Capture.was)

pub returns-in_err-none-in-Take : goal.returns-in_err-none-in-Take
returns-in_err-none-in-Take c =
    let p = err_from_is_err_and c.from_residual-in_err-none-in-Take.result c.from_residual-in_err-none-in-Take.ensures.1 in
    rw c.in-Take.is (p.1 ∙ ap Err p.2 ∙ not_made [] no_value (plan_line kind.Take) (words_of c.args.words.now) c.in_err-none-in-Take.field-0.0 c.none-in-Take.result c.none-in-Take.ensures c.in_err-none-in-Take.was)

pub returns-in_ok-none-in-Take : goal.returns-in_ok-none-in-Take
returns-in_ok-none-in-Take c = rw c.in-Take.is (made [] no_value (λ (u : Unit {0}). lines.Take) (plan_line kind.Take) (words_of c.args.words.now) c.in_ok-none-in-Take.field-0 c.none-in-Take.result (λ words. refl) c.none-in-Take.ensures c.in_ok-none-in-Take.was)

pub returns-in_err-k-in-Owed : goal.returns-in_err-k-in-Owed
returns-in_err-k-in-Owed c =
    let p = err_from_is_err_and c.from_residual-in_err-k-in-Owed.result c.from_residual-in_err-k-in-Owed.ensures.1 in
    rw c.in-Owed.is (p.1 ∙ ap Err p.2 ∙ not_made (client ∷ wid ∷ []) (λ (words : List (List ℕ)). (number_at 0 words, number_at 1 words)) (plan_line kind.Owed) (words_of c.args.words.now) c.in_err-k-in-Owed.field-0.0 c.client_and_window-in-Owed.result c.client_and_window-in-Owed.ensures c.in_err-k-in-Owed.was)

pub returns-in_ok-k-in-Owed : goal.returns-in_ok-k-in-Owed
returns-in_ok-k-in-Owed c = rw c.in-Owed.is (made (client ∷ wid ∷ []) (λ (words : List (List ℕ)). (number_at 0 words, number_at 1 words)) (λ (p : ℕ × ℕ). lines.Owed p.0 p.1) (plan_line kind.Owed) (words_of c.args.words.now) (c.in_ok-k-in-Owed.k, c.in_ok-k-in-Owed.wid) c.client_and_window-in-Owed.result (λ words. refl) c.client_and_window-in-Owed.ensures c.in_ok-k-in-Owed.was)

pub returns-in_err-ms-in-Wait : goal.returns-in_err-ms-in-Wait
returns-in_err-ms-in-Wait c =
    let p = err_from_is_err_and c.from_residual-in_err-ms-in-Wait.result c.from_residual-in_err-ms-in-Wait.ensures.1 in
    rw c.in-Wait.is (p.1 ∙ ap Err p.2 ∙ not_made (Number 0 1000000 ∷ []) (number_at 0) (plan_line kind.Wait) (words_of c.args.words.now) c.in_err-ms-in-Wait.field-0.0 c.one_number-in-Wait.result c.one_number-in-Wait.ensures c.in_err-ms-in-Wait.was)

pub returns-in_ok-ms-in-Wait : goal.returns-in_ok-ms-in-Wait
returns-in_ok-ms-in-Wait c = rw c.in-Wait.is (made (Number 0 1000000 ∷ []) (number_at 0) lines.Wait (plan_line kind.Wait) (words_of c.args.words.now) c.in_ok-ms-in-Wait.ms c.one_number-in-Wait.result (λ words. refl) c.one_number-in-Wait.ensures c.in_ok-ms-in-Wait.was)

pub returns-in_err-none-in-Turn : goal.returns-in_err-none-in-Turn
returns-in_err-none-in-Turn c =
    let p = err_from_is_err_and c.from_residual-in_err-none-in-Turn.result c.from_residual-in_err-none-in-Turn.ensures.1 in
    rw c.in-Turn.is (p.1 ∙ ap Err p.2 ∙ not_made [] no_value (plan_line kind.Turn) (words_of c.args.words.now) c.in_err-none-in-Turn.field-0.0 c.none-in-Turn.result c.none-in-Turn.ensures c.in_err-none-in-Turn.was)

pub returns-in_ok-none-in-Turn : goal.returns-in_ok-none-in-Turn
returns-in_ok-none-in-Turn c = rw c.in-Turn.is (made [] no_value (λ (u : Unit {0}). lines.Turn) (plan_line kind.Turn) (words_of c.args.words.now) c.in_ok-none-in-Turn.field-0 c.none-in-Turn.result (λ words. refl) c.none-in-Turn.ensures c.in_ok-none-in-Turn.was)
