use Rattle.std.proofs.Common.{◌≡◌, ◌∙◌, ℕ, List, [], ◌∷◌, Ok, Err, sym, ap}
use Rattle.std.proofs.lemmas.Result.{err_from_is_err_and}
use Rattle.script_lines.specs.declared.paint.Paint.TheVariants as lines
use Rattle.script_lines.specs.declared.kinds.PaintKind.TheVariants as kind
use Rattle.script_lines.specs.Text.{words_of}
use Rattle.script_lines.specs.Arguments.{Number, Place, Colour, Hex, nth_word, number_of, place_of, colour_of, read}
use Rattle.script_lines.specs.Forms.{wid, point, side, client, paint_line, paint_form}
use Rattle.script_lines.proofs.PlacesLemmas.{read_one, read_next, read_ok, read_err}
use Rattle.script_lines.proofs.paint_forms.copy.Goals as goal

pub returns-in_err-wid : goal.returns-in_err-wid
returns-in_err-wid c =
    let whole : c.both-5.result ≡ read (wid ∷ point ∷ point ∷ side ∷ side ∷ point ∷ point ∷ []) (λ (words : List (List ℕ)). (number_of (nth_word 0 words), (number_of (nth_word 1 words), (number_of (nth_word 2 words), (number_of (nth_word 3 words), (number_of (nth_word 4 words), (number_of (nth_word 5 words), number_of (nth_word 6 words)))))))) (words_of c.args.words.now) =
    read_next wid number_of (point ∷ point ∷ side ∷ side ∷ point ∷ point ∷ []) (λ (words : List (List ℕ)). (number_of (nth_word 0 words), (number_of (nth_word 1 words), (number_of (nth_word 2 words), (number_of (nth_word 3 words), (number_of (nth_word 4 words), number_of (nth_word 5 words))))))) (words_of c.args.words.now) (words_of c.wid_in-wid.result.1.now) c.wid_in-wid.result.0 c.both-4.result c.both-5.result c.wid_in-wid.ensures.value c.wid_in-wid.ensures.rest
    (read_next point number_of (point ∷ side ∷ side ∷ point ∷ point ∷ []) (λ (words : List (List ℕ)). (number_of (nth_word 0 words), (number_of (nth_word 1 words), (number_of (nth_word 2 words), (number_of (nth_word 3 words), number_of (nth_word 4 words)))))) (words_of c.wid_in-wid.result.1.now) (words_of c.point_in-x.result.1.now) c.point_in-x.result.0 c.both-3.result c.both-4.result c.point_in-x.ensures.value c.point_in-x.ensures.rest
    (read_next point number_of (side ∷ side ∷ point ∷ point ∷ []) (λ (words : List (List ℕ)). (number_of (nth_word 0 words), (number_of (nth_word 1 words), (number_of (nth_word 2 words), number_of (nth_word 3 words))))) (words_of c.point_in-x.result.1.now) (words_of c.point_in-y.result.1.now) c.point_in-y.result.0 c.both-sides.result c.both-3.result c.point_in-y.ensures.value c.point_in-y.ensures.rest
    (read_next side number_of (side ∷ point ∷ point ∷ []) (λ (words : List (List ℕ)). (number_of (nth_word 0 words), (number_of (nth_word 1 words), number_of (nth_word 2 words)))) (words_of c.point_in-y.result.1.now) (words_of c.side_in-w.result.1.now) c.side_in-w.result.0 c.both-2.result c.both-sides.result c.side_in-w.ensures.value c.side_in-w.ensures.rest
    (read_next side number_of (point ∷ point ∷ []) (λ (words : List (List ℕ)). (number_of (nth_word 0 words), number_of (nth_word 1 words))) (words_of c.side_in-w.result.1.now) (words_of c.side_in-h.result.1.now) c.side_in-h.result.0 c.both.result c.both-2.result c.side_in-h.ensures.value c.side_in-h.ensures.rest
    (read_next point number_of (point ∷ []) (λ (words : List (List ℕ)). number_of (nth_word 0 words)) (words_of c.side_in-h.result.1.now) (words_of c.point_in-tx.result.1.now) c.point_in-tx.result.0 c.only.result c.both.result c.point_in-tx.ensures.value c.point_in-tx.ensures.rest
    (read_one point number_of (words_of c.point_in-tx.result.1.now) (words_of c.point_in-ty.result.1.now) c.point_in-ty.result.0 c.only.result c.point_in-ty.ensures.value c.point_in-ty.ensures.rest c.only.ensures)
    c.both.ensures)
    c.both-2.ensures)
    c.both-sides.ensures)
    c.both-3.ensures)
    c.both-4.ensures)
    c.both-5.ensures in
    let p = err_from_is_err_and c.from_residual.result c.from_residual.ensures.1 in
    p.1 ∙ ap Err p.2 ∙ sym (read_err (wid ∷ point ∷ point ∷ side ∷ side ∷ point ∷ point ∷ []) (λ (words : List (List ℕ)). (number_of (nth_word 0 words), (number_of (nth_word 1 words), (number_of (nth_word 2 words), (number_of (nth_word 3 words), (number_of (nth_word 4 words), (number_of (nth_word 5 words), number_of (nth_word 6 words)))))))) (paint_line kind.Copy) (words_of c.args.words.now) c.in_err-wid.field-0.0 (sym whole ∙ c.in_err-wid.was))

pub returns : goal.returns
returns c =
    let whole : c.both-5.result ≡ read (wid ∷ point ∷ point ∷ side ∷ side ∷ point ∷ point ∷ []) (λ (words : List (List ℕ)). (number_of (nth_word 0 words), (number_of (nth_word 1 words), (number_of (nth_word 2 words), (number_of (nth_word 3 words), (number_of (nth_word 4 words), (number_of (nth_word 5 words), number_of (nth_word 6 words)))))))) (words_of c.args.words.now) =
    read_next wid number_of (point ∷ point ∷ side ∷ side ∷ point ∷ point ∷ []) (λ (words : List (List ℕ)). (number_of (nth_word 0 words), (number_of (nth_word 1 words), (number_of (nth_word 2 words), (number_of (nth_word 3 words), (number_of (nth_word 4 words), number_of (nth_word 5 words))))))) (words_of c.args.words.now) (words_of c.wid_in-wid.result.1.now) c.wid_in-wid.result.0 c.both-4.result c.both-5.result c.wid_in-wid.ensures.value c.wid_in-wid.ensures.rest
    (read_next point number_of (point ∷ side ∷ side ∷ point ∷ point ∷ []) (λ (words : List (List ℕ)). (number_of (nth_word 0 words), (number_of (nth_word 1 words), (number_of (nth_word 2 words), (number_of (nth_word 3 words), number_of (nth_word 4 words)))))) (words_of c.wid_in-wid.result.1.now) (words_of c.point_in-x.result.1.now) c.point_in-x.result.0 c.both-3.result c.both-4.result c.point_in-x.ensures.value c.point_in-x.ensures.rest
    (read_next point number_of (side ∷ side ∷ point ∷ point ∷ []) (λ (words : List (List ℕ)). (number_of (nth_word 0 words), (number_of (nth_word 1 words), (number_of (nth_word 2 words), number_of (nth_word 3 words))))) (words_of c.point_in-x.result.1.now) (words_of c.point_in-y.result.1.now) c.point_in-y.result.0 c.both-sides.result c.both-3.result c.point_in-y.ensures.value c.point_in-y.ensures.rest
    (read_next side number_of (side ∷ point ∷ point ∷ []) (λ (words : List (List ℕ)). (number_of (nth_word 0 words), (number_of (nth_word 1 words), number_of (nth_word 2 words)))) (words_of c.point_in-y.result.1.now) (words_of c.side_in-w.result.1.now) c.side_in-w.result.0 c.both-2.result c.both-sides.result c.side_in-w.ensures.value c.side_in-w.ensures.rest
    (read_next side number_of (point ∷ point ∷ []) (λ (words : List (List ℕ)). (number_of (nth_word 0 words), number_of (nth_word 1 words))) (words_of c.side_in-w.result.1.now) (words_of c.side_in-h.result.1.now) c.side_in-h.result.0 c.both.result c.both-2.result c.side_in-h.ensures.value c.side_in-h.ensures.rest
    (read_next point number_of (point ∷ []) (λ (words : List (List ℕ)). number_of (nth_word 0 words)) (words_of c.side_in-h.result.1.now) (words_of c.point_in-tx.result.1.now) c.point_in-tx.result.0 c.only.result c.both.result c.point_in-tx.ensures.value c.point_in-tx.ensures.rest
    (read_one point number_of (words_of c.point_in-tx.result.1.now) (words_of c.point_in-ty.result.1.now) c.point_in-ty.result.0 c.only.result c.point_in-ty.ensures.value c.point_in-ty.ensures.rest c.only.ensures)
    c.both.ensures)
    c.both-2.ensures)
    c.both-sides.ensures)
    c.both-3.ensures)
    c.both-4.ensures)
    c.both-5.ensures in
    let is = read_ok (wid ∷ point ∷ point ∷ side ∷ side ∷ point ∷ point ∷ []) (λ (words : List (List ℕ)). (number_of (nth_word 0 words), (number_of (nth_word 1 words), (number_of (nth_word 2 words), (number_of (nth_word 3 words), (number_of (nth_word 4 words), (number_of (nth_word 5 words), number_of (nth_word 6 words)))))))) (paint_line kind.Copy) (words_of c.args.words.now) (c.in_ok-wid.wid, (c.in_ok-wid.x, (c.in_ok-wid.y, (c.in_ok-wid.w, (c.in_ok-wid.h, (c.in_ok-wid.tx, c.in_ok-wid.ty)))))) (sym whole ∙ c.in_ok-wid.was) in
    sym (is.0 ∙ ap (λ (p : ℕ × (ℕ × (ℕ × (ℕ × (ℕ × (ℕ × ℕ)))))). Ok (lines.Copy p.0 p.1.0 p.1.1.0 p.1.1.1.0 p.1.1.1.1.0 p.1.1.1.1.1.0 p.1.1.1.1.1.1)) is.1)
