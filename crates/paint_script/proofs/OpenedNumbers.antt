-- Which numbers lines have opened, and what a line needs on the desktop that it meets.
use Rattle.std.proofs.Common.{◌≡◌, ℕ, zero, suc, ◌≤◌, ◌<◌, Bool, true, false, ◌||◌, Option, Some, None, List, [], ◌∷◌, take, refl, sym, ap, ◌∙◌, arith}
use Rattle.std.specs.Prelude.{is_some, slice_get, IsSomeAnd}
use Rattle.std.specs.List.{list_any}
use Rattle.xp_base.specs.Points.{Rectangle, LiesIn}
use Rattle.window_model.specs.Desktop.{Window, IsInWindow, has_window, find_window}
use Rattle.script_lines.specs.declared.paint.Paint.{Paint}
use Rattle.script_lines.specs.declared.paint.Paint.TheVariants.{Open, Close, Fill, Copy, Noise, Resize, Move, Raise}
use Rattle.paint_script.specs.Painting.{rectangle, desk_at, last_desk}
use Rattle.paint_script.specs.Validity.{IsPaintOn, ArePaints, opens, has_opened}
use Rattle.paint_script.specs.Laws.{named_window, PaintNeeds, IsOpenedBefore, OpenedNumbers}
use Rattle.paint_script.proofs.Openings.{is_open-of, windows_opened, has_opened-push}
use Rattle.paint_script.proofs.Desks.{take-whole, take-next}

-- ---- what a line needs

some_found : (r : Rectangle) (o : Option Window) → IsSomeAnd o (λ window. LiesIn window.w window.h r) → is_some o ≡ true
some_found r None holds = absurd holds
some_found r (Some window) holds = refl

window_found : (desk : List Window) (wid : ℕ) (r : Rectangle) → IsInWindow desk wid r → has_window desk wid ≡ true
window_found desk wid r inside = some_found r (find_window desk wid) inside

same_number : (desk : List Window) (named wid : ℕ) → has_window desk named ≡ true → Some named ≡ Some wid → has_window desk wid ≡ true
same_number desk named wid there e = let same : named ≡ wid = cc in ap (has_window desk) (sym same) ∙ there

window_there : (desk : List Window) (line : Paint) (wid : ℕ) → IsPaintOn desk line → named_window line ≡ Some wid → has_window desk wid ≡ true
window_there desk (Open named x y w h) wid on e = absurd cc
window_there desk (Close named) wid on e = same_number desk named wid on e
window_there desk (Fill named x y w h c) wid on e = same_number desk named wid (window_found desk named (rectangle x y w h) on.inside) e
window_there desk (Copy named x y w h tx ty) wid on e = same_number desk named wid (window_found desk named (rectangle x y w h) on.inside) e
window_there desk (Noise named x y w h seed) wid on e = same_number desk named wid (window_found desk named (rectangle x y w h) on.inside) e
window_there desk (Resize named w h) wid on e = same_number desk named wid on.there e
window_there desk (Move named x y) wid on e = same_number desk named wid on.there e
window_there desk (Raise named) wid on e = same_number desk named wid on e

pub paint_needs_lem : PaintNeeds
paint_needs_lem = record {
  opening = λ desk wid x y w h on. on;
  closing = λ desk wid on. on;
  filling = λ desk wid x y w h c on. on;
  copying = λ desk wid x y w h tx ty on. on;
  noising = λ desk wid x y w h seed on. on;
  resizing = λ desk wid w h on. on;
  moving = λ desk wid x y on. on;
  raising = λ desk wid on. on;
  there = window_there;
}

-- ---- which numbers were opened

later_line : (line : Paint) (lines : List Paint) (count k : ℕ) → IsOpenedBefore lines count k → IsOpenedBefore (line ∷ lines) (suc count) k
later_line line lines count k found =
    record { place = suc found.place; line = found.line; before = omega (arith, found.before); there = found.there; opening = found.opening }

-- the first of the lines, or one of those after it
found_in : (line : Paint) (lines : List Paint) (count k : ℕ) (b : Bool) → opens k line ≡ b → (list_any (opens k) (take count lines) ≡ true → IsOpenedBefore lines count k)
    → (b || list_any (opens k) (take count lines)) ≡ true → IsOpenedBefore (line ∷ lines) (suc count) k
found_in line lines count k true is later e = record { place = 0; line = line; before = omega arith; there = refl; opening = is }
found_in line lines count k false is later e = later_line line lines count k (later e)

found_line : (lines : List Paint) (count k : ℕ) → list_any (opens k) (take count lines) ≡ true → IsOpenedBefore lines count k
found_line [] zero k e = absurd cc
found_line [] (suc count) k e = absurd cc
found_line (line ∷ lines) zero k e = absurd cc
found_line (line ∷ lines) (suc count) k e = found_in line lines count k (opens k line) refl (found_line lines count k) e

or_right : (a b : Bool) → b ≡ true → (a || b) ≡ true
or_right true b so = refl
or_right false b so = so

line_found : (lines : List Paint) (count k place : ℕ) (line : Paint) → place < count → slice_get lines place ≡ Some line → opens k line ≡ true → list_any (opens k) (take count lines) ≡ true
line_found [] count k place line before there opening = absurd cc
line_found (first ∷ lines) zero k place line before there opening = absurd (omega (arith, before))
line_found (first ∷ lines) (suc count) k zero line before there opening =
    let same : first ≡ line = cc in
    ap (λ b. b || list_any (opens k) (take count lines)) (ap (opens k) same ∙ opening)
line_found (first ∷ lines) (suc count) k (suc place) line before there opening =
    or_right (opens k first) (list_any (opens k) (take count lines)) (line_found lines count k place line (omega (arith, before)) there opening)

pub opened_by : (lines : List Paint) (count k : ℕ) → has_opened (take count lines) k ≡ true → IsOpenedBefore lines count k
unfolding has_opened
opened_by lines count k e = found_line lines count k e

pub opened_from : (lines : List Paint) (count k : ℕ) → IsOpenedBefore lines count k → has_opened (take count lines) k ≡ true
unfolding has_opened
opened_from lines count k found = line_found lines count k found.place found.line found.before found.there found.opening

pub stays_opened : (lines : List Paint) (count more k : ℕ) → count ≤ more → has_opened (take count lines) k ≡ true → has_opened (take more lines) k ≡ true
stays_opened lines count more k few e =
    let found = opened_by lines count k e in
    opened_from lines more k (record { place = found.place; line = found.line; before = omega (arith, few, found.before); there = found.there; opening = found.opening })

not_again : (opening was : Bool) → was ≡ true → (opening ≡ true → was ≡ false) → opening ≡ false
not_again false was so once = refl
not_again true was so once = let never : true ≡ false = sym so ∙ once refl in absurd cc

opens_later : (lines : List Paint) (count place : ℕ) (line : Paint) (k : ℕ) → ArePaints lines → has_opened (take count lines) k ≡ true → count ≤ place
    → slice_get lines place ≡ Some line → opens k line ≡ false
opens_later lines count place line k are e few there =
    not_again (opens k line) (has_opened (take place lines) k) (stays_opened lines count place k few e) (are.once place line there k)

-- a window that stands was opened
stands_opened : (was stands : Bool) → (was ≡ false → stands ≡ false) → stands ≡ true → was ≡ true
stands_opened true stands none there = refl
stands_opened false stands none there = let never : true ≡ false = sym there ∙ none refl in absurd cc

window_opened : (lines : List Paint) (count k : ℕ) → has_window (desk_at lines count) k ≡ true → has_opened (take count lines) k ≡ true
unfolding desk_at last_desk
window_opened lines count k there =
    stands_opened (has_opened (take count lines) k) (has_window (last_desk (take count lines)) k)
    (λ none. sym (is_open-of (last_desk (take count lines)) k) ∙ windows_opened (take count lines) k none) there

none_opened : (lines : List Paint) (k : ℕ) → has_opened (take 0 lines) k ≡ false
unfolding has_opened
none_opened lines k = refl

pub opened_numbers_lem : OpenedNumbers
opened_numbers_lem = record {
  start = none_opened;
  next = λ lines place line k there. ap (λ (ls : List Paint). has_opened ls k) (take-next lines place line there) ∙ has_opened-push (take place lines) line k;
  whole = λ lines count k past. ap (λ (ls : List Paint). has_opened ls k) (take-whole lines count past);
  has_line = opened_by;
  has_number = opened_from;
  kept = stays_opened;
  once = λ lines place line k are there opening. are.once place line there k opening;
  later = opens_later;
  windows = window_opened;
}
