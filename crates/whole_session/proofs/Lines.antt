-- A paint line, as the change that it is to each connection.
use Rattle.std.proofs.Common.{◌≡◌, ℕ, zero, suc, ◌+◌, ◌<◌, true, false, Some, List, length, [], ◌∷◌, ◌++◌, take, refl, sym, ap, ◌∙◌, subst, arith}
use Rattle.std.specs.Prelude.{slice_get, Result, Ok, Err, OnOk, OnErr, is_err}
use Rattle.std.proofs.lemmas.Option.{slice_get_within}
use Rattle.window_model.specs.Desktop.{Window, IsDesktop, has_window}
use Rattle.script_lines.specs.declared.paint.Paint.{Paint}
use Rattle.paint_script.specs.Painting.{painted, desk_at}
use Rattle.paint_script.specs.Validity.{IsPaintOn, has_opened}
use Rattle.paint_script.specs.Laws.{DeskAtNext, OpenedNumbers, ValidDesks}
use Rattle.attached_client.specs.Desktops.{NumbersChange}
use Rattle.line_changes.specs.Laws.{LineChanges, LineOpens}
use Rattle.session_steps.specs.Seen.{Known, Seen}
use Rattle.session_steps.specs.Laws.{PaintKeeps, PaintFits}
use Rattle.session_steps.specs.Steady.{Stepping}
use Rattle.session_state.specs.Painting.{LineFits, PaintsLine}
use Rattle.whole_session.specs.Session.{SessionSeen, IsSession}
use Rattle.whole_session.specs.Painting.{PaintsNext}

take_suc : {A : Type 0} (xs : List A) (n : ℕ) (x : A) → slice_get xs n ≡ Some x → take (suc n) xs ≡ take n xs ++ x ∷ []
take_suc [] n x is = absurd (cc is)
take_suc (y ∷ xs) zero x is = ap (λ z. z ∷ []) (let same : y ≡ x = cc is in same)
take_suc (y ∷ xs) (suc n) x is = ap (λ ys. y ∷ ys) (take_suc xs n x is)

take_more : {A : Type 0} (xs : List A) (n : ℕ) (x : A) → slice_get xs n ≡ Some x → take (n + 1) xs ≡ take n xs ++ x ∷ []
take_more xs n x is = ap (λ m. take m xs) (let same : n + 1 ≡ suc n = omega arith in same) ∙ take_suc xs n x is

pub where_ok : {T E P : Type 0} (r : Result T E) → OnOk r P → is_err r ≡ false → P
where_ok (Ok x) on is = on
where_ok (Err e) on is = absurd (cc is)

pub where_err : {T E P : Type 0} (r : Result T E) → OnErr r P → is_err r ≡ true → P
where_err (Ok x) on is = absurd (cc is)
where_err (Err e) on is = on

module _ {B : Type 0} (known : Known B) (changes : LineChanges) (lines : List Paint) (place : ℕ) (s : Seen B) (is : IsSession known lines place s) (line : Paint) (next : slice_get lines place ≡ Some line) where
  pub valid_here : IsPaintOn s.desk line
  valid_here = subst (λ (d : List Window). IsPaintOn d line) (sym is.desk) ((is.valid).valid place line next)

  pub fits_here : PaintFits B → LineFits line s
  fits_here fits change is_change =
      fits known Stepping (has_opened (take place lines)) change (painted s.desk line) s (changes s.desk line change (is.steady).desktop valid_here is_change) is.steady

  pub painted_on : LineOpens → PaintKeeps B → OpenedNumbers → DeskAtNext → ValidDesks → (new : Seen B) → PaintsLine line s new → IsSession known lines (place + 1) new
  painted_on line_opens keeps numbers desk_next desks new paints =
      let at_next : painted s.desk line ≡ desk_at lines (place + 1) = ap (λ (d : List Window). painted d line) is.desk ∙ sym (desk_next lines place line next) in
      let deltas = changes s.desk line paints.0 (is.steady).desktop valid_here paints.1 in
      record {
        valid = is.valid;
        placed = let low = slice_get_within lines place line next in omega (arith, low);
        desk = ap (λ (t : Seen B). t.desk) (paints.2).rest ∙ at_next;
        steady = keeps known (has_opened (take place lines)) (has_opened (take (place + 1) lines)) paints.0 (painted s.desk line) s new
            (subst IsDesktop (sym at_next) (desks.desktop lines (place + 1) is.valid))
            (λ k has. numbers.windows lines (place + 1) k (subst (λ (d : List Window). has_window d k ≡ true) at_next has))
            deltas
            (subst (λ (ls : List Paint). NumbersChange paints.0 (has_opened (take place lines)) (has_opened ls)) (sym (take_more lines place line next))
            (line_opens (take place lines) line s.desk paints.0 (λ k opening. (is.valid).once place line next k opening) paints.1))
            paints.2 is.steady;
      }

  -- the step, as it is seen
  pub paints_next : (old : SessionSeen B) → record { lines = lines; place = place; seen = s } ≡ old → (new : Seen B) (then : ℕ) → then ≡ place + 1 → PaintsLine line s new → PaintsNext old (record { lines = lines; place = then; seen = new })
  paints_next old seen new then more paints = subst (λ (o : SessionSeen B). PaintsNext o (record { lines = lines; place = then; seen = new })) seen
      (record { line = line; next = next; paints = paints; lines = refl; place = more })

  -- there was a line, and no memory for it
  pub short_here : (old : SessionSeen B) → record { lines = lines; place = place; seen = s } ≡ old → (new : Seen B) → new ≡ s → (old.place < length old.lines) × (record { lines = lines; place = place; seen = new } ≡ old)
  short_here old seen new same = (
    subst (λ (o : SessionSeen B). o.place < length o.lines) seen (slice_get_within lines place line next),
    ap (λ (t : Seen B). record { lines = lines; place = place; seen = t }) same ∙ seen,
  )
