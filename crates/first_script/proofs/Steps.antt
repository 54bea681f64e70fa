-- A script, line by line.
use Rattle.std.proofs.Common.{◌≡◌, ℕ, ◌+◌, ◌<◌, ◌≤◌, Bool, true, false, ◌||◌, not, Option, Some, None, Ok, Err, List, [], ◌∷◌, ◌++◌, length, take, get_or, cond, refl, sym, ap, ◌∙◌}
use Rattle.std.specs.Option.{option_or}
use Rattle.std.specs.List.{list_any}
use Rattle.std.proofs.lemmas.Bool.{le-leb}
use Rattle.std.proofs.lemmas.List.Folds.{list_any-append}
use Rattle.std.proofs.lemmas.List.{take_more, append-nil}
use Rattle.link_bay.specs.declared.order.Order.{Order}
use Rattle.first_script.specs.declared.paint.Paint.{Paint}
use Rattle.first_script.specs.declared.line.Line.TheVariants as line
use Rattle.first_script.specs.Validity.{paint_lines, peer_orders}
use Rattle.first_script.specs.declared.opening.Opening.{Opening}
use Rattle.first_script.specs.declared.line.Line.{Line}
use Rattle.first_script.specs.declared.fault.ReadError.{ReadError}
use Rattle.first_script.specs.declared.fault.ReadError.TheVariants as error
use Rattle.first_script.specs.Text.{lines_of}
use Rattle.first_script.specs.Forms.{line_of}
use Rattle.first_script.specs.Reading.{opening_of, opening_in, is_peer, may_follow, allowed, next_line, Fails, script_after, script_of}

pub next_none : (before : List Line) (text : List ℕ) → line_of text ≡ None → next_line before text ≡ Err (length before + 1)
unfolding next_line
next_none before text none = ap (allowed before) none

pub next_refused : (before : List Line) (text : List ℕ) (line : Line) → line_of text ≡ Some line → may_follow before line ≡ false → next_line before text ≡ Err (length before + 1)
unfolding next_line
next_refused before text line is not = ap (allowed before) is ∙ ap (λ b. cond b (Ok line) (Err (length before + 1))) not

pub next_taken : (before : List Line) (text : List ℕ) (line : Line) → line_of text ≡ Some line → may_follow before line ≡ true → next_line before text ≡ Ok line
unfolding next_line
next_taken before text line is may = ap (allowed before) is ∙ ap (λ b. cond b (Ok line) (Err (length before + 1))) may

pub or_none : (o : Option Opening) → option_or o None ≡ o
or_none None = refl
or_none (Some x) = refl

or_assoc : (a b c : Option Opening) → option_or a (option_or b c) ≡ option_or (option_or a b) c
or_assoc None b c = refl
or_assoc (Some x) b c = refl

pub opening_push : (lines : List Line) (line : Line) → opening_in (lines ++ line ∷ []) ≡ option_or (opening_in lines) (opening_of line)
opening_push [] line = or_none (opening_of line)
opening_push (first ∷ lines) line = ap (option_or (opening_of first)) (opening_push lines line) ∙ or_assoc (opening_of first) (opening_in lines) (opening_of line)

or_false : (b : Bool) → (b || false) ≡ b
or_false true = refl
or_false false = refl

pub peer_push : (lines : List Line) (line : Line) → list_any is_peer (lines ++ line ∷ []) ≡ (list_any is_peer lines || is_peer line)
peer_push lines line = list_any-append is_peer lines (line ∷ []) ∙ ap (λ b. list_any is_peer lines || b) (or_false (is_peer line))

-- ---- the loop over the lines of a text

pub script_fails : (e : ReadError) (before : List Line) (text : List ℕ) (texts : List (List ℕ)) → Fails e (next_line before text) → Fails e (script_after before (text ∷ texts))
unfolding script_after
script_fails error.Memory before text texts fails = tt
script_fails (error.Line number) before text texts fails = rw fails refl

pub script_more : (before : List Line) (text : List ℕ) (texts : List (List ℕ)) (next : Line) → next_line before text ≡ Ok next
    → script_after before (text ∷ texts) ≡ script_after (before ++ next ∷ []) texts
unfolding script_after
script_more before text texts next taken = rw taken refl

pub script_ends : (before : List Line) → script_after before [] ≡ Ok before
unfolding script_after
script_ends before = refl

pub script_whole : (text : List ℕ) → length text ≤ 65536 → script_of text ≡ script_after [] (lines_of text)
unfolding script_of
script_whole text short = ap (λ b. cond b (script_after [] (lines_of text)) (Err 0)) (le-leb (length text) 65536 short)

-- ---- paint lines, one after the other

pub paint_lines-append : (lines more : List Line) → paint_lines (lines ++ more) ≡ paint_lines lines ++ paint_lines more
paint_lines-append [] more = refl
paint_lines-append (line.Paint paint ∷ lines) more = ap (λ paints. paint ∷ paints) (paint_lines-append lines more)
paint_lines-append (line.Peer order ∷ lines) more = paint_lines-append lines more

pub peer_orders-append : (lines more : List Line) → peer_orders (lines ++ more) ≡ peer_orders lines ++ peer_orders more
peer_orders-append [] more = refl
peer_orders-append (line.Paint paint ∷ lines) more = peer_orders-append lines more
peer_orders-append (line.Peer order ∷ lines) more = ap (λ orders. order ∷ orders) (peer_orders-append lines more)

pub paints_more : (lines : List Line) (i : ℕ) (line : Line) → i < length lines → line ≡ get_or lines i line
    → paint_lines (take (i + 1) lines) ≡ paint_lines (take i lines) ++ paint_lines (line ∷ [])
paints_more lines i line within here =
    ap paint_lines (take_more lines i line within ∙ ap (λ l. take i lines ++ l ∷ []) (sym here)) ∙ paint_lines-append (take i lines) (line ∷ [])

pub paint_more : (lines : List Line) (i : ℕ) (next : Line) (p : Paint) → i < length lines → next ≡ get_or lines i next → next ≡ line.Paint p
    → paint_lines (take i lines) ++ p ∷ [] ≡ paint_lines (take (i + 1) lines)
paint_more lines i next p within here is = sym (paints_more lines i next within here ∙ ap (λ (l : Line). paint_lines (take i lines) ++ paint_lines (l ∷ [])) is)

pub peer_more : (lines : List Line) (i : ℕ) (next : Line) (order : Order) → i < length lines → next ≡ get_or lines i next → next ≡ line.Peer order
    → paint_lines (take i lines) ≡ paint_lines (take (i + 1) lines)
peer_more lines i next order within here is =
    sym (paints_more lines i next within here ∙ ap (λ (l : Line). paint_lines (take i lines) ++ paint_lines (l ∷ [])) is ∙ append-nil (paint_lines (take i lines)))
