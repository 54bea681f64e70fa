-- The numbers that lines opened.
use Rattle.std.proofs.Common.{◌≡◌, ℕ, Bool, true, false, Some, None, List, [], ◌∷◌, ◌++◌, eqb, refl, sym, ap, ◌∙◌, subst, arith}
use Rattle.std.specs.Prelude.{Option, IsSomeAnd, ◌||◌}
use Rattle.std.specs.List.{list_any}
use Rattle.std.proofs.lemmas.Bool.Decides.{nat_tests}
use Rattle.std.proofs.lemmas.List.Folds.{list_any-append}
use Rattle.window_model.specs.Desktop.{Window, find_window}
use Rattle.script_lines.specs.declared.paint.Paint.{Paint}
use Rattle.script_lines.specs.declared.paint.Paint.TheVariants.{Open, Close, Fill, Copy, Noise, Resize, Move, Raise}
use Rattle.paint_script.specs.Validity.{opens, has_opened}
use Rattle.attached_client.specs.declared.change.Change.{Change}
use Rattle.attached_client.specs.declared.change.Change.TheVariants as C
use Rattle.attached_client.specs.Desktops.{NumbersChange, SameNumbers}
use Rattle.line_changes.specs.Changes.{IsChangeOf, geometry}
use Rattle.line_changes.specs.Laws.{LineOpens}

or_false : (b : Bool) → (b || false) ≡ b
or_false true = refl
or_false false = refl

or_true : (b : Bool) → (b || true) ≡ true
or_true true = refl
or_true false = refl

first_false : (a b : Bool) → (a || b) ≡ false → a ≡ false
first_false true b none = absurd (cc none)
first_false false b none = refl

same_number : (n : ℕ) → eqb n n ≡ true
same_number n = grind (arith, nat_tests)

one_more : (lines : List Paint) (line : Paint) (k : ℕ) → has_opened (lines ++ line ∷ []) k ≡ (has_opened lines k || opens k line)
unfolding has_opened
one_more lines line k = list_any-append (opens k) lines (line ∷ []) ∙ ap (λ b. list_any (opens k) lines || b) (or_false (opens k line))

opens_none : (lines : List Paint) (line : Paint) → ((k : ℕ) → opens k line ≡ false) → SameNumbers (has_opened lines) (has_opened (lines ++ line ∷ []))
opens_none lines line none = λ k. one_more lines line k ∙ ap (λ b. has_opened lines k || b) (none k) ∙ or_false (has_opened lines k)

moved_so : (o : Option Window) (change : Change) (of_window : Window → Change) (P : Change → Type 0) → IsSomeAnd o (λ window. change ≡ of_window window) → ((window : Window) → P (of_window window)) → P change
moved_so None change of_window P is each = absurd is
moved_so (Some window) change of_window P is each = subst P (sym is) (each window)

pub line_opens : LineOpens
line_opens lines line desk change once is = go line once is
  where
    at : Paint → Change → Type 0
    at line c = NumbersChange c (has_opened lines) (has_opened (lines ++ line ∷ []))

    go : (line : Paint) → ((k : ℕ) → opens k line ≡ true → has_opened lines k ≡ false) → IsChangeOf desk line change → at line change
    go (Open wid x y w h) once is = subst (at (Open wid x y w h)) (sym is) (record {
      before = once wid (same_number wid);
      after = one_more lines (Open wid x y w h) wid ∙ ap (λ b. has_opened lines wid || b) (same_number wid) ∙ or_true (has_opened lines wid);
      more = λ j none. first_false (has_opened lines j) (opens j (Open wid x y w h)) (sym (one_more lines (Open wid x y w h) j) ∙ none);
    })
    go (Close wid) once is = subst (at (Close wid)) (sym is) (opens_none lines (Close wid) (λ k. refl))
    go (Fill wid x y w h c) once is = subst (at (Fill wid x y w h c)) (sym is) (opens_none lines (Fill wid x y w h c) (λ k. refl))
    go (Copy wid x y w h tx ty) once is = subst (at (Copy wid x y w h tx ty)) (sym is) (opens_none lines (Copy wid x y w h tx ty) (λ k. refl))
    go (Noise wid x y w h seed) once is = subst (at (Noise wid x y w h seed)) (sym is) (opens_none lines (Noise wid x y w h seed) (λ k. refl))
    go (Resize wid w h) once is = moved_so (find_window desk wid) change (λ window. C.Resized (geometry wid window.x window.y w h)) (at (Resize wid w h)) is (λ window. opens_none lines (Resize wid w h) (λ k. refl))
    go (Move wid x y) once is = moved_so (find_window desk wid) change (λ window. C.Moved (geometry wid x y window.w window.h)) (at (Move wid x y)) is (λ window. opens_none lines (Move wid x y) (λ k. refl))
    go (Raise wid) once is = subst (at (Raise wid)) (sym is) (opens_none lines (Raise wid) (λ k. refl))
