-- Lines with no fault are valid.
use Rattle.std.proofs.Common.{◌≡◌, inl, inr, ℕ, zero, suc, ◌+◌, ◌*◌, ◌<◌, ◌≤◌, Bool, true, false, ◌&&◌, not, Option, Some, None, List, [], ◌∷◌, ◌++◌, length, take, get_or, cond, eqb, leb, refl, sym, ap, ◌∙◌, arith, subst}
use Rattle.std.specs.Prelude.{ℤ, IsSomeAnd, All}
use Rattle.std.specs.Option.{option_map}
use Rattle.std.specs.List.{slice_get}
use Rattle.std.proofs.lemmas.Bool.{cases_lt, and_parts, leb-true, ltb-false, eqb-true}
use Rattle.std.proofs.lemmas.Option.{slice_get_within, slice_get-get_or, same_Some}
use Rattle.std.proofs.lemmas.List.{length_push, append-nil, take_at, take_more, take-append-le}
use Rattle.std.proofs.lemmas.Grind.{common_steps}
use Rattle.xp_base.specs.Points.{IsRectangle, LiesIn}
use Rattle.window_model.specs.Desktop.{Window, IsWindow, IsDesktop, IsSide, IsPlace, IsInWindow, find_window, has_window}
use Rattle.window_model.specs.Laws.{EffectsKeep}
use Rattle.script_lines.specs.declared.why.Why.TheVariants as why
use Rattle.script_lines.specs.declared.paint.Paint.{Paint}
use Rattle.script_lines.specs.declared.paint.Paint.TheVariants.{Open, Close, Fill, Copy, Noise, Resize, Move, Raise}
use Rattle.script_lines.specs.declared.line.Line.{Line}
use Rattle.script_lines.specs.declared.line.Line.TheVariants as line
use Rattle.script_lines.specs.Ranges.{IsLine, IsPaint, IsBox, IsBetween}
use Rattle.script_lines.specs.Ranges.{IsPlace as IsPlaceNumber}
use Rattle.paint_script.specs.declared.opening.Opening.{Opening}
use Rattle.paint_script.specs.Painting.{rectangle, painted, painted_by, desk_at, last_desk}
use Rattle.paint_script.specs.Validity.{IsPaintOn, ArePaints, opens, has_opened, paint_lines, peer_orders}
use Rattle.paint_script.specs.Faults.{opening_of, open_windows, find_open, is_open, holds, lacks_window, reopens, leaves_window, is_one_too_many, is_too_large, pixels_of, with_resized, paint_fault, fault_after, windows_after, IsScript}
use Rattle.paint_script.specs.Laws.{ScriptPaints}
use Rattle.paint_script.proofs.Openings.{find_open-of, is_open-of, length-open_windows, pixels_of-open_windows, open_windows-painted, windows_opened}
use Rattle.paint_script.proofs.Desks.{desk_at_end_lem, valid_desks_lem}

-- ---- lists

slice_get_front : {A : Type 0} (xs : List A) (x : A) (k : ℕ) → k < length xs → slice_get (xs ++ x ∷ []) k ≡ slice_get xs k
slice_get_front [] x k within = absurd (omega arith)
slice_get_front (y ∷ xs) x zero within = refl
slice_get_front (y ∷ xs) x (suc k) within = slice_get_front xs x k (omega arith)

slice_get_last : {A : Type 0} (xs : List A) (x : A) → slice_get (xs ++ x ∷ []) (length xs) ≡ Some x
slice_get_last [] x = refl
slice_get_last (y ∷ xs) x = slice_get_last xs x

-- what holds at each place, of what is before it, holds of one more
each_push : {A : Type 0} (P : List A → A → Type 0) (xs : List A) (x : A) → ((place : ℕ) (y : A) → slice_get xs place ≡ Some y → P (take place xs) y)
    → P xs x → (place : ℕ) (y : A) → slice_get (xs ++ x ∷ []) place ≡ Some y → P (take place (xs ++ x ∷ [])) y
each_push P xs x each one place y here =
    elim (cases_lt place (length xs)) [
      | inl within ↦
          let front = take-append-le place xs (x ∷ []) (omega arith) in
          subst (λ before. P before y) (sym front) (each place y (sym (slice_get_front xs x place within) ∙ here))
      | inr past ↦
          let last : place ≡ length xs = omega (arith, slice_get_within (xs ++ x ∷ []) place y here, length_push xs x) in
          let is : x ≡ y = same_Some x y (sym (slice_get_last xs x) ∙ ap (slice_get (xs ++ x ∷ [])) (sym last) ∙ here) in
          let front : take place (xs ++ x ∷ []) ≡ xs = take_at xs (x ∷ []) place (sym last) in
          subst (P (take place (xs ++ x ∷ []))) is (subst (λ before. P before x) (sym front) one)
    ]

take-past : (lines : List Line) (count : ℕ) → length lines ≤ count → take count lines ≡ lines
take-past lines count whole = grind (arith, common_steps)

-- ---- paint lines and orders, one after the other

pub paint_lines-append : (lines more : List Line) → paint_lines (lines ++ more) ≡ paint_lines lines ++ paint_lines more
paint_lines-append [] more = refl
paint_lines-append (line.Paint paint ∷ lines) more = ap (λ paints. paint ∷ paints) (paint_lines-append lines more)
paint_lines-append (line.Peer order ∷ lines) more = paint_lines-append lines more
paint_lines-append (line.Plan plan ∷ lines) more = paint_lines-append lines more

pub peer_orders-append : (lines more : List Line) → peer_orders (lines ++ more) ≡ peer_orders lines ++ peer_orders more
peer_orders-append [] more = refl
peer_orders-append (line.Paint paint ∷ lines) more = peer_orders-append lines more
peer_orders-append (line.Peer order ∷ lines) more = ap (λ orders. order ∷ orders) (peer_orders-append lines more)
peer_orders-append (line.Plan plan ∷ lines) more = peer_orders-append lines more

pub paints_more : (lines : List Line) (i : ℕ) (next : Line) → i < length lines → next ≡ get_or lines i next
    → paint_lines (take (i + 1) lines) ≡ paint_lines (take i lines) ++ paint_lines (next ∷ [])
paints_more lines i next within here =
    ap paint_lines (take_more lines i next within ∙ ap (λ l. take i lines ++ l ∷ []) (sym here)) ∙ paint_lines-append (take i lines) (next ∷ [])

-- ---- a line without a fault has what it needs

pub record IsFaultless (windows : List Opening) (again : Bool) (p : Paint) : Type 0 where
  pub there : lacks_window windows p ≡ false
  pub new : again ≡ false
  pub inside : leaves_window windows p ≡ false
  pub few : is_one_too_many windows p ≡ false
  pub small : is_too_large windows p ≡ false

choices : (a b c d e : Bool) → cond a (Some why.NoWindow) (cond b (Some why.Reused) (cond c (Some why.Outside) (cond d (Some why.Windows) (cond e (Some why.Pixels) None)))) ≡ None
    → (a ≡ false) × (b ≡ false) × (c ≡ false) × (d ≡ false) × (e ≡ false)
choices true b c d e is = absurd cc
choices false true c d e is = absurd cc
choices false false true d e is = absurd cc
choices false false false true e is = absurd cc
choices false false false false true is = absurd cc
choices false false false false false is = (refl, refl, refl, refl, refl)

pub faultless : (windows : List Opening) (again : Bool) (p : Paint) → paint_fault windows again p ≡ None → IsFaultless windows again p
faultless windows again p none =
    let parts = choices (lacks_window windows p) again (leaves_window windows p) (is_one_too_many windows p) (is_too_large windows p) none in
    record { there = parts.0; new = parts.1; inside = parts.2; few = parts.3; small = parts.4 }

not_false : (b : Bool) → not b ≡ false → b ≡ true
not_false true e = refl
not_false false e = absurd cc

is_there : (desk : List Window) (wid : ℕ) → not (is_open (open_windows desk) wid) ≡ false → has_window desk wid ≡ true
is_there desk wid e = sym (is_open-of desk wid) ∙ not_false (is_open (open_windows desk) wid) e

held : (o : Option Window) (x y w h : ℕ) → holds (option_map opening_of o) x y w h ≡ true → IsSomeAnd o (λ window. LiesIn window.w window.h (rectangle x y w h))
held None x y w h e = absurd cc
held (Some window) x y w h e =
    let parts = and_parts (leb (x + w) window.w) (leb (y + h) window.h) e in
    record { across = leb-true (x + w) window.w parts.0; down = leb-true (y + h) window.h parts.1 }

is_inside : (desk : List Window) (wid x y w h : ℕ) → holds (find_open (open_windows desk) wid) x y w h ≡ true → IsInWindow desk wid (rectangle x y w h)
is_inside desk wid x y w h e = held (find_window desk wid) x y w h (ap (λ o. holds o x y w h) (sym (find_open-of desk wid)) ∙ e)

found_first : (P : Window → Type 0) (b : Bool) (first : Window) (rest : Option Window) (window : Window) → P first → (rest ≡ Some window → P window)
    → cond b (Some first) rest ≡ Some window → P window
found_first P true first rest window one later e = subst P (same_Some first window e) one
found_first P false first rest window one later e = later e

found_all : (P : Window → Type 0) (desk : List Window) (wid : ℕ) (window : Window) → All P desk → find_window desk wid ≡ Some window → P window
found_all P [] wid window all e = absurd cc
found_all P (first ∷ desk) wid window all e =
    found_first P (eqb first.wid wid) first (find_window desk wid) window (all 0 first (omega arith)) (found_all P desk wid window (λ k d within. all (suc k) d (omega arith))) e

-- what lies in a window of a desktop is a rectangle
some_rectangle : (o : Option Window) (x y w h : ℕ) → 1 ≤ w → 1 ≤ h → IsSomeAnd o (λ window. LiesIn window.w window.h (rectangle x y w h)) → ((window : Window) → o ≡ Some window → IsWindow window)
    → IsRectangle (rectangle x y w h)
some_rectangle None x y w h wide high inside is = absurd inside
some_rectangle (Some window) x y w h wide high inside is =
    let kept = is window refl in
    record { wide = wide; high = high; across = omega (arith, inside.across, kept.wide.most); down = omega (arith, inside.down, kept.high.most) }

a_rectangle : (desk : List Window) (wid x y w h : ℕ) → IsDesktop desk → IsBox wid x y w h → IsInWindow desk wid (rectangle x y w h) → IsRectangle (rectangle x y w h)
a_rectangle desk wid x y w h is box inside =
    some_rectangle (find_window desk wid) x y w h box.wide.least box.high.least inside (λ window e. found_all IsWindow desk wid window is.windows e)

a_side : (n : ℕ) → IsBetween 1 4096 n → IsSide n
a_side n is = record { some = is.least; most = is.most }

a_place : (n : ℤ) → IsPlaceNumber n → IsPlace n
a_place n is = record { least = is.least; most = is.most }

-- a paint line without a fault has what it needs on the desktop that it meets
pub paint_on : (before : List Paint) (p : Paint) → IsDesktop (last_desk before) → IsPaint p → IsFaultless (open_windows (last_desk before)) (reopens before p) p
    → IsPaintOn (last_desk before) p
paint_on before (Open wid x y w h) is in_range ok = record {
  first = in_range.0.least;
  last = omega (arith, in_range.0.most);
  new = sym (is_open-of (last_desk before) wid) ∙ windows_opened before wid ok.new;
  across = a_place x in_range.1;
  down = a_place y in_range.2;
  wide = a_side w in_range.3;
  high = a_side h in_range.4;
  windows = omega (arith, length-open_windows (last_desk before), ltb-false 32 (length (open_windows (last_desk before)) + 1) ok.few);
  pixels = omega (arith, pixels_of-open_windows (last_desk before), ltb-false 4194304 (pixels_of (open_windows (last_desk before)) + w * h) ok.small);
}
paint_on before (Close wid) is in_range ok = is_there (last_desk before) wid ok.there
paint_on before (Fill wid x y w h c) is in_range ok =
    let inside = is_inside (last_desk before) wid x y w h (not_false (holds (find_open (open_windows (last_desk before)) wid) x y w h) ok.inside) in
    record { some = a_rectangle (last_desk before) wid x y w h is in_range.0 inside; inside = inside; coloured = in_range.1 }
paint_on before (Copy wid x y w h tx ty) is in_range ok =
    let o = find_open (open_windows (last_desk before)) wid in
    let parts = and_parts (holds o x y w h) (holds o tx ty w h) (not_false (holds o x y w h && holds o tx ty w h) ok.inside) in
    let inside = is_inside (last_desk before) wid x y w h parts.0 in
    record { some = a_rectangle (last_desk before) wid x y w h is in_range.0 inside; inside = inside; target = is_inside (last_desk before) wid tx ty w h parts.1 }
paint_on before (Noise wid x y w h seed) is in_range ok =
    let inside = is_inside (last_desk before) wid x y w h (not_false (holds (find_open (open_windows (last_desk before)) wid) x y w h) ok.inside) in
    record { some = a_rectangle (last_desk before) wid x y w h is in_range.0 inside; inside = inside; seeded = in_range.1 }
paint_on before (Resize wid w h) is in_range ok = record {
  there = is_there (last_desk before) wid ok.there;
  wide = a_side w in_range.1;
  high = a_side h in_range.2;
  pixels = omega (
    arith,
    pixels_of-open_windows (painted (last_desk before) (Resize wid w h)),
    ap pixels_of (open_windows-painted (last_desk before) (Resize wid w h)),
    ltb-false 4194304 (pixels_of (with_resized (open_windows (last_desk before)) wid w h)) ok.small,
  );
}
paint_on before (Move wid x y) is in_range ok = record { there = is_there (last_desk before) wid ok.there; across = a_place x in_range.1; down = a_place y in_range.2 }
paint_on before (Raise wid) is in_range ok = is_there (last_desk before) wid ok.there

-- it opens no number again
pub opens_once : (before : List Paint) (p : Paint) → reopens before p ≡ false → (k : ℕ) → opens k p ≡ true → has_opened before k ≡ false
opens_once before (Open wid x y w h) new k here = ap (has_opened before) (sym (eqb-true wid k here)) ∙ new
opens_once before (Close wid) new k here = absurd cc
opens_once before (Fill wid x y w h c) new k here = absurd cc
opens_once before (Copy wid x y w h tx ty) new k here = absurd cc
opens_once before (Noise wid x y w h seed) new k here = absurd cc
opens_once before (Resize wid w h) new k here = absurd cc
opens_once before (Move wid x y) new k here = absurd cc
opens_once before (Raise wid) new k here = absurd cc

-- ---- valid paint lines and one more

pub ArePaints-push : (lines : List Paint) (p : Paint) → ArePaints lines → IsPaintOn (last_desk lines) p → ((k : ℕ) → opens k p ≡ true → has_opened lines k ≡ false) → ArePaints (lines ++ p ∷ [])
unfolding desk_at last_desk
ArePaints-push lines p are on new = record {
  valid = λ place next here. valid_push place next here;
  once = each_push (λ before next. (k : ℕ) → opens k next ≡ true → has_opened before k ≡ false) lines p are.once new;
}
  where
    valid_push : (place : ℕ) (next : Paint) → slice_get (lines ++ p ∷ []) place ≡ Some next → IsPaintOn (painted_by [] (take place (lines ++ p ∷ []))) next
    valid_push = each_push (λ before next. IsPaintOn (painted_by [] before) next) lines p are.valid on

-- the desktop that valid lines make
pub last_is : EffectsKeep → (lines : List Paint) → ArePaints lines → IsDesktop (last_desk lines)
last_is keep lines are = subst IsDesktop (desk_at_end_lem lines (length lines) (omega arith)) ((valid_desks_lem keep).desktop lines (length lines) are)

ArePaints-none : ArePaints []
ArePaints-none = record { valid = λ place next here. absurd cc; once = λ place next here. absurd cc }

valid_push : EffectsKeep → (before : List Line) (next : Line) → ArePaints (paint_lines before) → IsLine next → fault_after before next ≡ None → ArePaints (paint_lines (before ++ next ∷ []))
unfolding fault_after
valid_push keep before (line.Paint p) are in_range none =
    let ok = faultless (windows_after before) (reopens (paint_lines before) p) p none in
    subst ArePaints (sym (paint_lines-append before (line.Paint p ∷ [])))
    (ArePaints-push (paint_lines before) p are (paint_on (paint_lines before) p (last_is keep (paint_lines before) are) in_range ok) (opens_once (paint_lines before) p ok.new))
valid_push keep before (line.Peer order) are in_range none = subst ArePaints (sym (paint_lines-append before (line.Peer order ∷ []) ∙ append-nil (paint_lines before))) are
valid_push keep before (line.Plan plan) are in_range none = subst ArePaints (sym (paint_lines-append before (line.Plan plan ∷ []) ∙ append-nil (paint_lines before))) are

some_line : Line
some_line = line.Paint (Close 0)

valid_front : EffectsKeep → (lines : List Line) → IsScript lines → (count : ℕ) → ArePaints (paint_lines (take count lines))
valid_front keep lines is zero = ArePaints-none
valid_front keep lines is (suc count) =
    elim (cases_lt count (length lines)) [
      | inl within ↦
          let next = get_or lines count some_line in
          let here : slice_get lines count ≡ Some next = slice_get-get_or lines count some_line within in
          let more : take (count + 1) lines ≡ take count lines ++ next ∷ [] = take_more lines count some_line within in
          let add : count + 1 ≡ suc count = omega arith in
          subst (λ n. ArePaints (paint_lines (take n lines))) add
          (subst (λ ls. ArePaints (paint_lines ls)) (sym more) (valid_push keep (take count lines) next (valid_front keep lines is count) (is.ranges count next here) (is.faultless count next here)))
      | inr past ↦ subst (λ ls. ArePaints (paint_lines ls)) (take-past lines count past ∙ sym (take-past lines (suc count) (omega arith))) (valid_front keep lines is count)
    ]

pub script_paints_lem : EffectsKeep → ScriptPaints
script_paints_lem keep lines is = subst (λ ls. ArePaints (paint_lines ls)) (take-past lines (length lines) (omega arith)) (valid_front keep lines is (length lines))

-- ---- a script and one more line

pub IsScript-push : (lines : List Line) (next : Line) → IsScript lines → IsLine next → fault_after lines next ≡ None → IsScript (lines ++ next ∷ [])
IsScript-push lines next is in_range none = record {
  ranges = each_push (λ before l. IsLine l) lines next is.ranges in_range;
  faultless = each_push (λ before l. fault_after before l ≡ None) lines next is.faultless none;
}

pub IsScript-none : IsScript []
IsScript-none = record { ranges = λ place next here. absurd cc; faultless = λ place next here. absurd cc }

-- ---- the paint lines of the first lines

pub paint_more : (lines : List Line) (i : ℕ) (next : Line) (p : Paint) → i < length lines → next ≡ get_or lines i next → next ≡ line.Paint p
    → paint_lines (take i lines) ++ p ∷ [] ≡ paint_lines (take (i + 1) lines)
paint_more lines i next p within here is = sym (paints_more lines i next within here ∙ ap (λ (l : Line). paint_lines (take i lines) ++ paint_lines (l ∷ [])) is)

pub none_more : (lines : List Line) (i : ℕ) (next : Line) → i < length lines → next ≡ get_or lines i next → paint_lines (next ∷ []) ≡ [] → paint_lines (take i lines) ≡ paint_lines (take (i + 1) lines)
none_more lines i next within here none =
    sym (paints_more lines i next within here ∙ ap (λ ps. paint_lines (take i lines) ++ ps) none ∙ append-nil (paint_lines (take i lines)))
