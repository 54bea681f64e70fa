use Rattle.std.proofs.Common.{◌≡◌, ◌∙◌, ℕ, List, [], ◌∷◌, Ok, Err, sym, ap, to_z, of_z, w32, rules}
use Rattle.std.proofs.lemmas.Int.{to_z-of_z}
use Rattle.std.specs.Prelude.{ℤ}
use Rattle.std.proofs.lemmas.Result.{err_from_is_err_and}
use Rattle.script_lines.specs.declared.paint.Paint.TheVariants as lines
use Rattle.script_lines.specs.declared.kinds.PaintKind.TheVariants as kind
use Rattle.script_lines.specs.Text.{words_of}
use Rattle.script_lines.specs.Arguments.{Number, Place, Colour, Hex, nth_word, number_of, place_of, colour_of, read}
use Rattle.script_lines.specs.Forms.{wid, point, side, client, paint_line, paint_form}
use Rattle.script_lines.proofs.PlacesLemmas.{read_one, read_next, read_ok, read_err}
use Rattle.script_lines.proofs.paint_forms.place.Goals as goal

pub returns-in_err-wid : goal.returns-in_err-wid
returns-in_err-wid c =
    let whole : c.both-2.result ≡ read (wid ∷ Place ∷ Place ∷ []) (λ (words : List (List ℕ)). (number_of (nth_word 0 words), (place_of (nth_word 1 words), place_of (nth_word 2 words)))) (words_of c.args.words.now) =
    read_next wid number_of (Place ∷ Place ∷ []) (λ (words : List (List ℕ)). (place_of (nth_word 0 words), place_of (nth_word 1 words))) (words_of c.args.words.now) (words_of c.wid_in-wid.result.1.now) c.wid_in-wid.result.0 c.both.result c.both-2.result c.wid_in-wid.ensures.value c.wid_in-wid.ensures.rest
    (read_next Place place_of (Place ∷ []) (λ (words : List (List ℕ)). place_of (nth_word 0 words)) (words_of c.wid_in-wid.result.1.now) (words_of c.place_in-x.result.1.now) c.place_in-x.result.0 c.only.result c.both.result c.place_in-x.ensures.value c.place_in-x.ensures.rest
    (read_one Place place_of (words_of c.place_in-x.result.1.now) (words_of c.place_in-y.result.1.now) c.place_in-y.result.0 c.only.result c.place_in-y.ensures.value c.place_in-y.ensures.rest c.only.ensures)
    c.both.ensures)
    c.both-2.ensures in
    let p = err_from_is_err_and c.from_residual.result c.from_residual.ensures.1 in
    p.1 ∙ ap Err p.2 ∙ sym (read_err (wid ∷ Place ∷ Place ∷ []) (λ (words : List (List ℕ)). (number_of (nth_word 0 words), (place_of (nth_word 1 words), place_of (nth_word 2 words)))) (paint_line kind.Move) (words_of c.args.words.now) c.in_err-wid.field-0.0 (sym whole ∙ c.in_err-wid.was))

pub returns : goal.returns
returns c =
    let whole : c.both-2.result ≡ read (wid ∷ Place ∷ Place ∷ []) (λ (words : List (List ℕ)). (number_of (nth_word 0 words), (place_of (nth_word 1 words), place_of (nth_word 2 words)))) (words_of c.args.words.now) =
    read_next wid number_of (Place ∷ Place ∷ []) (λ (words : List (List ℕ)). (place_of (nth_word 0 words), place_of (nth_word 1 words))) (words_of c.args.words.now) (words_of c.wid_in-wid.result.1.now) c.wid_in-wid.result.0 c.both.result c.both-2.result c.wid_in-wid.ensures.value c.wid_in-wid.ensures.rest
    (read_next Place place_of (Place ∷ []) (λ (words : List (List ℕ)). place_of (nth_word 0 words)) (words_of c.wid_in-wid.result.1.now) (words_of c.place_in-x.result.1.now) c.place_in-x.result.0 c.only.result c.both.result c.place_in-x.ensures.value c.place_in-x.ensures.rest
    (read_one Place place_of (words_of c.place_in-x.result.1.now) (words_of c.place_in-y.result.1.now) c.place_in-y.result.0 c.only.result c.place_in-y.ensures.value c.place_in-y.ensures.rest c.only.ensures)
    c.both.ensures)
    c.both-2.ensures in
    let is = read_ok (wid ∷ Place ∷ Place ∷ []) (λ (words : List (List ℕ)). (number_of (nth_word 0 words), (place_of (nth_word 1 words), place_of (nth_word 2 words)))) (paint_line kind.Move) (words_of c.args.words.now) (c.in_ok-wid.wid, (c.in_ok-wid.x, c.in_ok-wid.y)) (sym whole ∙ c.in_ok-wid.was) in
    let across : to_z w32 (of_z w32 c.in_ok-wid.x) ≡ c.in_ok-wid.x = to_z-of_z w32 c.in_ok-wid.x (search rules) in
    let down : to_z w32 (of_z w32 c.in_ok-wid.y) ≡ c.in_ok-wid.y = to_z-of_z w32 c.in_ok-wid.y (search rules) in
    ap (λ (x : ℤ). Ok (lines.Move c.in_ok-wid.wid x (to_z w32 (of_z w32 c.in_ok-wid.y)))) across ∙ ap (λ (y : ℤ). Ok (lines.Move c.in_ok-wid.wid c.in_ok-wid.x y)) down ∙ sym (is.0 ∙ ap (λ (p : ℕ × (ℤ × ℤ)). Ok (lines.Move p.0 p.1.0 p.1.1)) is.1)
