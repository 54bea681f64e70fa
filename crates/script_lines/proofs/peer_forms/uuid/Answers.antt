use Rattle.std.proofs.Common.{◌≡◌, ◌∙◌, ℕ, List, [], ◌∷◌, Ok, Err, sym, ap, rules}
use Rattle.std.specs.Option.{option_copied}
use Rattle.std.proofs.lemmas.Result.{err_from_is_err_and}
use Rattle.script_lines.specs.Text.{words_of}
use Rattle.script_lines.specs.Arguments.{Uuid, nth_word, read}
use Rattle.script_lines.specs.Places.{first, nothing}
use Rattle.script_lines.proofs.PlacesLemmas.{read_one, read_ok, first_is}
use Rattle.script_lines.proofs.FormsLemmas.{not_made}
use Rattle.script_lines.proofs.peer_forms.uuid.Goals as goal

pub returns-in_err-only : goal.returns-in_err-only
returns-in_err-only c =
    let ws = words_of c.args.words.now in
    let whole : c.only.result ≡ read (Uuid ∷ []) (λ words. nothing (nth_word 0 words)) ws =
    read_one Uuid nothing ws (words_of c.next.result.1.now) c.name_of.result c.only.result (c.name_of.ensures ∙ ap (first Uuid nothing) c.next.ensures.word) c.next.ensures.rest c.only.ensures in
    let p = err_from_is_err_and c.from_residual.result c.from_residual.ensures.1 in
    rw (p.1, p.2) (sym (not_made (Uuid ∷ []) (λ words. nothing (nth_word 0 words)) (nth_word 0) ws c.in_err-only.field-0.0 c.only.result whole c.in_err-only.was))

pub returns : goal.returns
returns c =
    let ws = words_of c.args.words.now in
    let whole : c.only.result ≡ read (Uuid ∷ []) (λ words. nothing (nth_word 0 words)) ws =
    read_one Uuid nothing ws (words_of c.next.result.1.now) c.name_of.result c.only.result (c.name_of.ensures ∙ ap (first Uuid nothing) c.next.ensures.word) c.next.ensures.rest c.only.ensures in
    let is = read_ok (Uuid ∷ []) (λ words. nothing (nth_word 0 words)) (nth_word 0) ws c.in_ok-only.field-0 (sym whole ∙ c.in_ok-only.was) in
    let word = first_is ws c.in-Some.name.now (sym c.next.ensures.word ∙ ap option_copied c.in-Some.is) in
    let copied : c.in_ok-to_vec.field-0.items ≡ c.in-Some.name.now = search rules in
    is.0 ∙ ap (λ (name : List ℕ). Ok name) (word ∙ sym copied ∙ sym c.new.ensures)
