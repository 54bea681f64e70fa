-- The windows of a desktop by their numbers and sizes.
use Rattle.std.proofs.Common.{◌≡◌, ℕ, ◌+◌, ◌*◌, ◌≤◌, Bool, true, false, ◌||◌, not, Option, Some, None, List, [], ◌∷◌, ◌++◌, length, map, cond, eqb, refl, sym, ap, ◌∙◌, arith}
use Rattle.std.specs.Prelude.{ℤ, is_some}
use Rattle.std.specs.Option.{option_map}
use Rattle.std.specs.List.{list_any}
use Rattle.std.proofs.lemmas.Bool.{eqb-true, ltb-false}
use Rattle.std.proofs.lemmas.List.{map_push, length-map, length_push}
use Rattle.std.proofs.lemmas.List.Folds.{list_any-append}
use Rattle.std.proofs.lemmas.List.Sums.{sum_by-cons, sum_by_push}
use Rattle.xp_base.specs.Keyed.{keyed_push, keyed_push_some}
use Rattle.window_model.specs.Desktop.{Window, find_window, has_window, changed_window, fresh_window, filled_window, copied_window, placed_window, moved_window, resized_window, without_window, raised, opened}
use Rattle.window_model.specs.Generator.{noise}
use Rattle.xp_base.specs.Points.{area}
use Rattle.script_lines.specs.declared.paint.Paint.{Paint}
use Rattle.script_lines.specs.declared.paint.Paint.TheVariants.{Open, Close, Fill, Copy, Noise, Resize, Move, Raise}
use Rattle.paint_script.specs.declared.opening.Opening.{Opening}
use Rattle.paint_script.specs.Painting.{rectangle, painted, painted_by, last_desk}
use Rattle.paint_script.specs.Validity.{pixel_count, opens, has_opened}
use Rattle.paint_script.specs.Faults.{opening_of, open_windows, find_open, is_open, pixels_of, with_size, with_resized, is_one_too_many, is_too_large}
use Rattle.paint_script.specs.Kept.{without, raised_last, windows_with}

-- ---- what is found, and how much there is

pub find_open-of : (desk : List Window) (k : ℕ) → find_open (open_windows desk) k ≡ option_map opening_of (find_window desk k)
unfolding open_windows
find_open-of [] k = refl
find_open-of (window ∷ desk) k =
    elim (eqb window.wid k) as (λ b. cond b (Some (opening_of window)) (find_open (map opening_of desk) k) ≡ option_map opening_of (cond b (Some window) (find_window desk k))) [
      | true ↦ refl
      | false ↦ find_open-of desk k
    ]

some_mapped : (o : Option Window) → is_some (option_map opening_of o) ≡ is_some o
some_mapped None = refl
some_mapped (Some window) = refl

pub is_open-of : (desk : List Window) (k : ℕ) → is_open (open_windows desk) k ≡ has_window desk k
is_open-of desk k = ap is_some (find_open-of desk k) ∙ some_mapped (find_window desk k)

pub length-open_windows : (desk : List Window) → length (open_windows desk) ≡ length desk
unfolding open_windows
length-open_windows desk = length-map desk opening_of

pub pixels_of-open_windows : (desk : List Window) → pixels_of (open_windows desk) ≡ pixel_count desk
unfolding open_windows
pixels_of-open_windows [] = refl
pixels_of-open_windows (window ∷ desk) =
    let one : Opening → ℕ = λ (o : Opening). o.w * o.h in
    let two : Window → ℕ = λ (v : Window). v.w * v.h in
    sum_by-cons one (opening_of window) (map opening_of desk) ∙ ap (λ n. window.w * window.h + n) (pixels_of-open_windows desk) ∙ sym (sum_by-cons two window desk)

-- ---- after a line

same_sizes : (change : Window → Window) (wid : ℕ) → ((window : Window) → opening_of (change window) ≡ opening_of window)
    → (desk : List Window) → open_windows (changed_window desk wid change) ≡ open_windows desk
unfolding open_windows
same_sizes change wid same [] = refl
same_sizes change wid same (window ∷ desk) =
    let one : (b : Bool) → opening_of (cond b (change window) window) ≡ opening_of window =
    λ b. elim b as (λ v. opening_of (cond v (change window) window) ≡ opening_of window) [ true ↦ same window | false ↦ refl ] in
    ap (λ o. o ∷ map opening_of (changed_window desk wid change)) (one (eqb window.wid wid)) ∙ ap (λ os. opening_of window ∷ os) (same_sizes change wid same desk)

other_sizes : (wid w h : ℕ) (desk : List Window) → open_windows (changed_window desk wid (resized_window w h)) ≡ with_resized (open_windows desk) wid w h
unfolding open_windows
other_sizes wid w h [] = refl
other_sizes wid w h (window ∷ desk) =
    let one : (b : Bool) → opening_of (cond b (resized_window w h window) window) ≡ cond b (with_size w h (opening_of window)) (opening_of window) =
    λ b. elim b as (λ v. opening_of (cond v (resized_window w h window) window) ≡ cond v (with_size w h (opening_of window)) (opening_of window)) [ true ↦ refl | false ↦ refl ] in
    ap (λ o. o ∷ map opening_of (changed_window desk wid (resized_window w h))) (one (eqb window.wid wid))
    ∙ ap (λ os. cond (eqb window.wid wid) (with_size w h (opening_of window)) (opening_of window) ∷ os) (other_sizes wid w h desk)

open_windows-without : (desk : List Window) (wid : ℕ) → open_windows (without_window desk wid) ≡ without (open_windows desk) wid
unfolding open_windows
open_windows-without [] wid = refl
open_windows-without (window ∷ desk) wid =
    elim (eqb window.wid wid) as (λ b. map opening_of (cond (not b) (window ∷ without_window desk wid) (without_window desk wid)) ≡ cond (not b) (opening_of window ∷ without (map opening_of desk) wid) (without (map opening_of desk) wid)) [
      | true ↦ open_windows-without desk wid
      | false ↦ ap (λ os. opening_of window ∷ os) (open_windows-without desk wid)
    ]

open_windows-push_some : (desk : List Window) (o : Option Window) → open_windows (keyed_push_some desk o) ≡ keyed_push_some (open_windows desk) (option_map opening_of o)
unfolding open_windows
open_windows-push_some desk None = refl
open_windows-push_some desk (Some window) = map_push opening_of desk window

open_windows-raised : (desk : List Window) (wid : ℕ) → open_windows (raised desk wid) ≡ raised_last (open_windows desk) wid
open_windows-raised desk wid =
    open_windows-push_some (without_window desk wid) (find_window desk wid)
    ∙ ap (λ (os : List Opening). keyed_push_some os (option_map opening_of (find_window desk wid))) (open_windows-without desk wid)
    ∙ ap (keyed_push_some (without (open_windows desk) wid)) (sym (find_open-of desk wid))

open_windows-opened : (desk : List Window) (wid : ℕ) (x y : ℤ) (w h : ℕ) → open_windows (opened desk wid x y w h) ≡ keyed_push (open_windows desk) (record { wid = wid; w = w; h = h })
unfolding open_windows
open_windows-opened desk wid x y w h = map_push opening_of desk (fresh_window wid x y w h)

pub open_windows-painted : (desk : List Window) (p : Paint) → open_windows (painted desk p) ≡ windows_with (open_windows desk) p
open_windows-painted desk (Open wid x y w h) = open_windows-opened desk wid x y w h
open_windows-painted desk (Close wid) = open_windows-without desk wid
open_windows-painted desk (Fill wid x y w h c) = same_sizes (filled_window (rectangle x y w h) c) wid (λ window. refl) desk
open_windows-painted desk (Copy wid x y w h tx ty) = same_sizes (copied_window (rectangle x y w h) tx ty) wid (λ window. refl) desk
open_windows-painted desk (Noise wid x y w h seed) = same_sizes (placed_window (rectangle x y w h) (noise seed (area (rectangle x y w h)))) wid (λ window. refl) desk
open_windows-painted desk (Resize wid w h) = other_sizes wid w h desk
open_windows-painted desk (Move wid x y) = same_sizes (moved_window x y) wid (λ window. refl) desk
open_windows-painted desk (Raise wid) = open_windows-raised desk wid

-- ---- a window is open only where a line opened it

is_open-cons : (o : Opening) (windows : List Opening) (k : ℕ) → is_open (o ∷ windows) k ≡ (eqb o.wid k || is_open windows k)
is_open-cons o windows k =
    elim (eqb o.wid k) as (λ b. is_some (cond b (Some o) (find_open windows k)) ≡ (b || is_open windows k)) [ true ↦ refl | false ↦ refl ]

or_assoc : (a b c : Bool) → (a || (b || c)) ≡ ((a || b) || c)
or_assoc true b c = refl
or_assoc false b c = refl

or_false : (b : Bool) → (b || false) ≡ b
or_false true = refl
or_false false = refl

or_right : (b : Bool) → (b || true) ≡ true
or_right true = refl
or_right false = refl

or_left : (a b : Bool) → a ≡ true → (a || b) ≡ true
or_left a b so = ap (λ v. v || b) so

pub is_open-push : (windows : List Opening) (o : Opening) (k : ℕ) → is_open (keyed_push windows o) k ≡ (is_open windows k || eqb o.wid k)
is_open-push [] o k = is_open-cons o [] k ∙ or_false (eqb o.wid k)
is_open-push (first ∷ windows) o k =
    is_open-cons first (keyed_push windows o) k ∙ ap (λ b. eqb first.wid k || b) (is_open-push windows o k) ∙ or_assoc (eqb first.wid k) (is_open windows k) (eqb o.wid k)
    ∙ ap (λ b. b || eqb o.wid k) (sym (is_open-cons first windows k))

pub is_open-resized : (windows : List Opening) (wid w h k : ℕ) → is_open (with_resized windows wid w h) k ≡ is_open windows k
is_open-resized [] wid w h k = refl
is_open-resized (o ∷ windows) wid w h k =
    let one : (b : Bool) → (cond b (with_size w h o) o).wid ≡ o.wid = λ b. elim b as (λ v. (cond v (with_size w h o) o).wid ≡ o.wid) [ true ↦ refl | false ↦ refl ] in
    is_open-cons (cond (eqb o.wid wid) (with_size w h o) o) (with_resized windows wid w h) k ∙ ap (λ n. eqb n k || is_open (with_resized windows wid w h) k) (one (eqb o.wid wid))
    ∙ ap (λ b. eqb o.wid k || b) (is_open-resized windows wid w h k) ∙ sym (is_open-cons o windows k)

is_open-without : (windows : List Opening) (wid k : ℕ) → is_open (without windows wid) k ≡ true → is_open windows k ≡ true
is_open-without [] wid k e = e
is_open-without (o ∷ windows) wid k e =
    elim (eqb o.wid wid) as (λ b. is_open (cond (not b) (o ∷ without windows wid) (without windows wid)) k ≡ true → is_open (o ∷ windows) k ≡ true) [
      | true ↦ λ e. is_open-cons o windows k ∙ ap (λ b. eqb o.wid k || b) (is_open-without windows wid k e) ∙ or_right (eqb o.wid k)
      | false ↦ λ e.
          let later : (a b c : Bool) → (a || b) ≡ true → (b ≡ true → c ≡ true) → (a || c) ≡ true =
          λ a b c. elim a as (λ v. (v || b) ≡ true → (b ≡ true → c ≡ true) → (v || c) ≡ true) [ true ↦ λ _ _. refl | false ↦ λ f g. g f ] in
          is_open-cons o windows k ∙ later (eqb o.wid k) (is_open (without windows wid) k) (is_open windows k) (sym (is_open-cons o (without windows wid) k) ∙ e) (is_open-without windows wid k)
    ] e

found_open : (windows : List Opening) (k : ℕ) (o : Opening) → find_open windows k ≡ Some o → is_open windows k ≡ true
found_open windows k o e = ap is_some e

found_here : (b : Bool) (first : Opening) (rest : Option Opening) (k : ℕ) (o : Opening) → eqb first.wid k ≡ b → (rest ≡ Some o → eqb o.wid k ≡ true)
    → cond b (Some first) rest ≡ Some o → eqb o.wid k ≡ true
found_here true first rest k o is later e = let same : first ≡ o = cc in ap (λ (p : Opening). eqb p.wid k) (sym same) ∙ is
found_here false first rest k o is later e = later e

found_wid : (windows : List Opening) (k : ℕ) (o : Opening) → find_open windows k ≡ Some o → eqb o.wid k ≡ true
found_wid [] k o e = absurd cc
found_wid (first ∷ windows) k o e = found_here (eqb first.wid k) first (find_open windows k) k o refl (found_wid windows k o) e

number_found : (windows : List Opening) (wid k : ℕ) (o : Opening) → find_open windows wid ≡ Some o → (b : Bool) → is_open (without windows wid) k ≡ b
    → (b || eqb o.wid k) ≡ true → is_open windows k ≡ true
number_found windows wid k o is true here e = is_open-without windows wid k here
number_found windows wid k o is false here e =
    let number : wid ≡ k = sym (eqb-true o.wid wid (found_wid windows wid o is)) ∙ eqb-true o.wid k e in
    ap (is_open windows) (sym number) ∙ found_open windows wid o is

raised_found : (windows : List Opening) (wid k : ℕ) (o : Option Opening) → find_open windows wid ≡ o → is_open (keyed_push_some (without windows wid) o) k ≡ true → is_open windows k ≡ true
raised_found windows wid k None is e = is_open-without windows wid k e
raised_found windows wid k (Some o) is e =
    number_found windows wid k o is (is_open (without windows wid) k) refl (sym (is_open-push (without windows wid) o k) ∙ e)

is_open-raised : (windows : List Opening) (wid k : ℕ) → is_open (raised_last windows wid) k ≡ true → is_open windows k ≡ true
is_open-raised windows wid k e = raised_found windows wid k (find_open windows wid) refl e

pub opened_with : (windows : List Opening) (p : Paint) (k : ℕ) → is_open (windows_with windows p) k ≡ true → (is_open windows k || opens k p) ≡ true
opened_with windows (Open wid x y w h) k e = sym (is_open-push windows (record { wid = wid; w = w; h = h }) k) ∙ e
opened_with windows (Close wid) k e = or_left (is_open windows k) false (is_open-without windows wid k e)
opened_with windows (Fill wid x y w h c) k e = or_left (is_open windows k) false e
opened_with windows (Copy wid x y w h tx ty) k e = or_left (is_open windows k) false e
opened_with windows (Noise wid x y w h seed) k e = or_left (is_open windows k) false e
opened_with windows (Resize wid w h) k e = or_left (is_open windows k) false (sym (is_open-resized windows wid w h k) ∙ e)
opened_with windows (Move wid x y) k e = or_left (is_open windows k) false e
opened_with windows (Raise wid) k e = or_left (is_open windows k) false (is_open-raised windows wid k e)

either : (was now later : Bool) (after : Bool) → (after ≡ true → (was || now) ≡ true) → (after || later) ≡ true → (was || (now || later)) ≡ true
either was now later true one e = or_assoc was now later ∙ or_left (was || now) later (one refl)
either was now later false one e = ap (λ b. was || (now || b)) e ∙ ap (λ b. was || b) (or_right now) ∙ or_right was

opened_before : (lines : List Paint) (desk : List Window) (k : ℕ) → is_open (open_windows (painted_by desk lines)) k ≡ true → (is_open (open_windows desk) k || has_opened lines k) ≡ true
unfolding has_opened
opened_before [] desk k e = or_left (is_open (open_windows desk) k) false e
opened_before (p ∷ lines) desk k e =
    either (is_open (open_windows desk) k) (opens k p) (list_any (opens k) lines) (is_open (open_windows (painted desk p)) k)
    (λ stands. opened_with (open_windows desk) p k (ap (λ (ws : List Opening). is_open ws k) (sym (open_windows-painted desk p)) ∙ stands))
    (opened_before lines (painted desk p) k e)

none_open : (b r : Bool) → (b ≡ true → r ≡ true) → r ≡ false → b ≡ false
none_open true r one none = sym (one refl) ∙ none
none_open false r one none = refl

empty_desk : (r : Bool) (k : ℕ) → (is_open (open_windows []) k || r) ≡ true → r ≡ true
unfolding open_windows
empty_desk r k e = e

-- a window is there only where one of the lines opened it
pub windows_opened : (lines : List Paint) (k : ℕ) → has_opened lines k ≡ false → is_open (open_windows (last_desk lines)) k ≡ false
unfolding last_desk
windows_opened lines k none =
    none_open (is_open (open_windows (painted_by [] lines)) k) (has_opened lines k) (λ stands. empty_desk (has_opened lines k) k (opened_before lines [] k stands)) none

pub has_opened-push : (lines : List Paint) (p : Paint) (k : ℕ) → has_opened (lines ++ p ∷ []) k ≡ (has_opened lines k || opens k p)
unfolding has_opened
has_opened-push lines p k = list_any-append (opens k) lines (p ∷ []) ∙ ap (λ b. list_any (opens k) lines || b) (or_false (opens k p))

-- ---- how much there is after a line

few_removed : (windows : List Opening) (wid : ℕ) → length (without windows wid) ≤ length windows
few_removed [] wid = omega arith
few_removed (o ∷ windows) wid =
    elim (eqb o.wid wid) as (λ b. length (cond (not b) (o ∷ without windows wid) (without windows wid)) ≤ length (o ∷ windows)) [
      | true ↦ omega (arith, few_removed windows wid)
      | false ↦ omega (arith, few_removed windows wid)
    ]

abbrev pub area_of : Opening → ℕ
area_of o = o.w * o.h

small_removed : (windows : List Opening) (wid : ℕ) → pixels_of (without windows wid) ≤ pixels_of windows
small_removed [] wid = omega arith
small_removed (o ∷ windows) wid =
    elim (eqb o.wid wid) as (λ b. pixels_of (cond (not b) (o ∷ without windows wid) (without windows wid)) ≤ pixels_of (o ∷ windows)) [
      | true ↦ omega (arith, small_removed windows wid, sum_by-cons area_of o windows)
      | false ↦ omega (arith, small_removed windows wid, sum_by-cons area_of o windows, sum_by-cons area_of o (without windows wid))
    ]

pub record IsLess (windows : List Opening) (wid : ℕ) (o : Opening) : Type 0 where
  pub count : length (without windows wid) + 1 ≤ length windows
  pub pixels : pixels_of (without windows wid) + o.w * o.h ≤ pixels_of windows

less_here : (windows : List Opening) (wid : ℕ) (first o : Opening) (b : Bool) → eqb first.wid wid ≡ b → (find_open windows wid ≡ Some o → IsLess windows wid o)
    → cond b (Some first) (find_open windows wid) ≡ Some o
    → (length (cond (not b) (first ∷ without windows wid) (without windows wid)) + 1 ≤ length (first ∷ windows))
    × (pixels_of (cond (not b) (first ∷ without windows wid) (without windows wid)) + o.w * o.h ≤ pixels_of (first ∷ windows))
less_here windows wid first o true is later e =
    let same : first ≡ o = cc in
    let area : first.w * first.h ≡ o.w * o.h = ap area_of same in
    (omega (arith, few_removed windows wid), omega (arith, area, small_removed windows wid, sum_by-cons area_of first windows))
less_here windows wid first o false is later e =
    let rest = later e in
    (omega (arith, rest.count), omega (arith, rest.pixels, sum_by-cons area_of first windows, sum_by-cons area_of first (without windows wid)))

less_found : (windows : List Opening) (wid : ℕ) (o : Opening) → find_open windows wid ≡ Some o → IsLess windows wid o
less_found [] wid o e = absurd cc
less_found (first ∷ windows) wid o e =
    let parts = less_here windows wid first o (eqb first.wid wid) refl (less_found windows wid o) e in
    record { count = parts.0; pixels = parts.1 }

pub raised_less : (windows : List Opening) (wid : ℕ) (o : Option Opening) → find_open windows wid ≡ o
    → (length (keyed_push_some (without windows wid) o) ≤ length windows) × (pixels_of (keyed_push_some (without windows wid) o) ≤ pixels_of windows)
raised_less windows wid None is = (few_removed windows wid, small_removed windows wid)
raised_less windows wid (Some o) is =
    let less = less_found windows wid o is in
    (omega (arith, less.count, length_push (without windows wid) o), omega (arith, less.pixels, sum_by_push area_of (without windows wid) o))

-- only `open` makes more windows, and only `open` and `resize` more pixels
pub few_with : (windows : List Opening) (p : Paint) → length windows ≤ 32 → is_one_too_many windows p ≡ false → length (windows_with windows p) ≤ 32
few_with windows (Open wid x y w h) few room = omega (arith, length_push windows (record { wid = wid; w = w; h = h }), ltb-false 32 (length windows + 1) room)
few_with windows (Close wid) few room = omega (arith, few_removed windows wid)
few_with windows (Fill wid x y w h c) few room = few
few_with windows (Copy wid x y w h tx ty) few room = few
few_with windows (Noise wid x y w h seed) few room = few
few_with windows (Resize wid w h) few room = omega (arith, length-map windows (λ (o : Opening). cond (eqb o.wid wid) (with_size w h o) o))
few_with windows (Move wid x y) few room = few
few_with windows (Raise wid) few room = omega (arith, (raised_less windows wid (find_open windows wid) refl).0)

pub small_with : (windows : List Opening) (p : Paint) → pixels_of windows ≤ 4194304 → is_too_large windows p ≡ false → pixels_of (windows_with windows p) ≤ 4194304
small_with windows (Open wid x y w h) few room =
    omega (arith, sum_by_push area_of windows (record { wid = wid; w = w; h = h }), ltb-false 4194304 (pixels_of windows + w * h) room)
small_with windows (Close wid) few room = omega (arith, small_removed windows wid)
small_with windows (Fill wid x y w h c) few room = few
small_with windows (Copy wid x y w h tx ty) few room = few
small_with windows (Noise wid x y w h seed) few room = few
small_with windows (Resize wid w h) few room = ltb-false 4194304 (pixels_of (with_resized windows wid w h)) room
small_with windows (Move wid x y) few room = few
small_with windows (Raise wid) few room = omega (arith, (raised_less windows wid (find_open windows wid) refl).1)
