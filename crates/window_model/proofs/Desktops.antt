-- Windows found, opened, changed, closed and raised on a desktop: a list keyed by the windows' numbers.
use Rattle.std.proofs.Common.{◌≡◌, ◌≢◌, inl, inr, ℕ, ◌+◌, ◌<◌, ◌≤◌, true, false, Option, Some, None, List, [], ◌∷◌, ◌++◌, length, get_or, set, take, drop, eqb, refl, sym, ap, ◌∙◌, arith, subst}
use Rattle.std.specs.Prelude.{position, IsSomeAnd, is_some, not}
use Rattle.std.specs.Option.{option_map}
use Rattle.std.specs.List.{slice_get}
use Rattle.std.proofs.lemmas.Bool.{cases_eq}
use Rattle.std.proofs.lemmas.Option.{none-some, slice_get-get_or}
use Rattle.std.proofs.lemmas.List.{length-set, get_or-set_same, get_or-set_other, get_or_default}
use Rattle.std.proofs.lemmas.List.Elements.{All-push, All-set, All-filter}
use Rattle.std.proofs.lemmas.List.Quantifiers.{position-Some}
use Rattle.xp_base.specs.Points.{Rectangle, LiesIn}
use Rattle.xp_base.proofs.KeyedLemmas as K
use Rattle.window_model.specs.Drawing.{put_at, cropped}
use Rattle.window_model.specs.Desktop.{Window, IsWindow, IsDesktop, IsInWindow, find_window, has_window, changed_window, fresh_window, without_window, raised, placed_window, placed_on, copied_window, copied_on, cropped_from}
use Rattle.window_model.specs.Laws.{OpenedFinds, ChangedFinds, RemovedFinds, RaisedFinds, NumbersKept, EffectsKeep}
use Rattle.window_model.proofs.Drawings.{All-noise}
use Rattle.window_model.proofs.Windows.{IsWindow-filled, IsWindow-placed, IsWindow-copied, IsWindow-moved, IsWindow-resized}

-- the key
abbrev pub number : Window → ℕ
number window = window.wid

pub opened_finds_lem : OpenedFinds
opened_finds_lem desk wid x y w h k new = K.find-pushed number desk (fresh_window wid x y w h) k new

pub changed_finds_lem : ChangedFinds
changed_finds_lem desk wid change k keeps = K.find-changed number desk wid change k keeps

pub removed_finds_lem : RemovedFinds
removed_finds_lem desk wid k = K.find-removed number desk wid k

pub raised_finds_lem : RaisedFinds
raised_finds_lem desk wid k = K.find-moved number desk wid k

-- each window's number differs from one that no window has
pub apart_from_missing : (desk : List Window) (wid : ℕ) → has_window desk wid ≡ false → (k : ℕ) (d : Window) → k < length desk → (get_or desk k d).wid ≢ wid
apart_from_missing desk wid missing k d within = K.apart_from_missing number desk wid missing k d within

pub IsDesktop-opened : (desk : List Window) (window : Window) → IsDesktop desk → has_window desk window.wid ≡ false → IsWindow window → IsDesktop (desk ++ window ∷ [])
IsDesktop-opened desk window is missing new =
    record { windows = All-push IsWindow desk window is.windows new; distinct = K.distinct-pushed number desk window is.distinct missing }

-- a change keeps a desktop where it keeps numbers and windows
pub IsDesktop-changed : (desk : List Window) (wid : ℕ) (change : Window → Window) → ((window : Window) → (change window).wid ≡ window.wid)
    → ((window : Window) → IsWindow window → IsWindow (change window)) → IsDesktop desk → IsDesktop (changed_window desk wid change)
IsDesktop-changed desk wid change keeps is_kept is =
    record { windows = K.all-changed number IsWindow desk wid change is_kept is.windows; distinct = K.distinct-changed number desk wid change keeps is.distinct }

pub IsDesktop-without : (desk : List Window) (wid : ℕ) → IsDesktop desk → IsDesktop (without_window desk wid)
IsDesktop-without desk wid is =
    record { windows = All-filter (λ window. not (eqb window.wid wid)) IsWindow desk is.windows; distinct = K.distinct-removed number desk wid is.distinct }

pub IsDesktop-raised : (desk : List Window) (wid : ℕ) → IsDesktop desk → IsDesktop (raised desk wid)
IsDesktop-raised desk wid is = record { windows = K.all-moved number IsWindow desk wid is.windows; distinct = K.distinct-moved number desk wid is.distinct }

pub numbers_kept_lem : NumbersKept
numbers_kept_lem = record {
  opening = λ desk wid x y w h. K.keys-pushed number desk (fresh_window wid x y w h);
  changing = K.keys-changed number;
  removing = K.keys-removed number;
  raising = K.keys-moved number;
}

pub effects_keep_lem : EffectsKeep
effects_keep_lem = record {
  opening = λ desk wid x y w h is missing new. IsDesktop-opened desk (fresh_window wid x y w h) is missing new;
  filling = λ desk wid r colour is small. IsDesktop-changed desk wid _ (λ _. refl) (λ window h. IsWindow-filled window r colour small h) is;
  placing = λ desk wid r numbers is small. IsDesktop-changed desk wid _ (λ _. refl) (λ window h. IsWindow-placed window r numbers small h) is;
  removing = λ desk wid is. IsDesktop-without desk wid is;
  raising = λ desk wid is. IsDesktop-raised desk wid is;
  moving = λ desk wid x y is across down. IsDesktop-changed desk wid _ (λ _. refl) (λ window h. IsWindow-moved window x y across down h) is;
  resizing = λ desk wid w h is wide high. IsDesktop-changed desk wid _ (λ _. refl) (λ window is. IsWindow-resized window w h wide high is) is;
  copying = λ desk wid r x y is. IsDesktop-changed desk wid _ (λ _. refl) (λ window h. IsWindow-copied window r x y h) is;
  noising = λ desk wid r seed is. IsDesktop-changed desk wid _ (λ _. refl) (λ window h. IsWindow-placed window r _ (All-noise seed _) h) is;
}

-- a write at the place of the window with that number is its change
pub changed_in_place : (desk : List Window) (wid i : ℕ) (change : Window → Window) (d : Window) → IsDesktop desk
    → position (λ window. eqb window.wid wid) desk ≡ Some i → set desk i (change (get_or desk i d)) ≡ changed_window desk wid change
changed_in_place desk wid i change d is found = K.changed_in_place number desk wid i change d is.distinct found

-- the window at that place is the one found
pub found_in_place : (desk : List Window) (wid i : ℕ) → position (λ window. eqb window.wid wid) desk ≡ Some i → find_window desk wid ≡ slice_get desk i
found_in_place desk wid i found = K.found_in_place number desk wid i found

pub missing_in_place : (desk : List Window) (wid : ℕ) → position (λ window. eqb window.wid wid) desk ≡ None → find_window desk wid ≡ None
missing_in_place desk wid found = K.missing_in_place number desk wid found

-- the rectangle lies in the window at that place
pub inside_in_place : (desk : List Window) (wid i : ℕ) (r : Rectangle) (d : Window) → position (λ window. eqb window.wid wid) desk ≡ Some i
    → IsInWindow desk wid r → LiesIn (get_or desk i d).w (get_or desk i d).h r
inside_in_place desk wid i r d found inside =
    let within = (position-Some (λ window. eqb window.wid wid) desk i d found).0 in
    let P : Option Window → Type 0 = λ o. IsSomeAnd o (λ window. LiesIn window.w window.h r) in
    subst P (found_in_place desk wid i found ∙ slice_get-get_or desk i d within) inside

-- a window with a rectangle in it is there
pub absent_in_place : (desk : List Window) (wid : ℕ) (r : Rectangle) → position (λ window. eqb window.wid wid) desk ≡ None → IsInWindow desk wid r → ⊥
absent_in_place desk wid r absent inside =
    let P : Option Window → Type 0 = λ o. IsSomeAnd o (λ window. LiesIn window.w window.h r) in
    subst P (missing_in_place desk wid absent) inside

-- a window that is there has a place
pub present_in_place : (desk : List Window) (wid : ℕ) → position (λ window. eqb window.wid wid) desk ≡ None → has_window desk wid ≡ true → ⊥
present_in_place desk wid absent there = let none : has_window desk wid ≡ false = ap is_some (missing_in_place desk wid absent) in absurd (cc)

-- a window put in the place of another with its number
pub IsDesktop-set : (desk : List Window) (i : ℕ) (new d : Window) → i < length desk → IsDesktop desk → IsWindow new → new.wid ≡ (get_or desk i d).wid → IsDesktop (set desk i new)
IsDesktop-set desk i new d within is kept same =
    let number_at : (k : ℕ) (e : Window) → k < length desk → (get_or (set desk i new) k e).wid ≡ (get_or desk k e).wid =
    λ k e there. elim (cases_eq k i) [
      | inl here ↦
          let P : ℕ → Type 0 = λ z. (get_or (set desk i new) z e).wid ≡ (get_or desk z e).wid in
          subst P (sym here)
          (ap (λ (z : Window). z.wid) (get_or-set_same desk i new e within) ∙ same ∙ ap (λ (z : Window). z.wid) (get_or_default desk i d e within))
      | inr other ↦ ap (λ (z : Window). z.wid) (get_or-set_other desk i k new e other)
    ] in
    record {
      windows = All-set IsWindow desk i new kept is.windows;
      distinct = λ j k e before there.
          let below : k < length desk = omega (arith, length-set desk i new) in
          λ equal. is.distinct j k e before below (sym (number_at j e (omega arith)) ∙ equal ∙ number_at k e below);
    }

-- what stays where the window at that place is taken away
pub without_in_place : (desk : List Window) (wid i : ℕ) → IsDesktop desk → position (λ window. eqb window.wid wid) desk ≡ Some i
    → take i desk ++ drop (i + 1) desk ≡ without_window desk wid
without_in_place desk wid i is found = K.removed_in_place number desk wid i is.distinct found

-- and put at the end
pub raised_in_place : (desk : List Window) (wid i : ℕ) (d : Window) → IsDesktop desk → position (λ window. eqb window.wid wid) desk ≡ Some i
    → (take i desk ++ drop (i + 1) desk) ++ get_or desk i d ∷ [] ≡ raised desk wid
raised_in_place desk wid i d is found = K.moved_in_place number desk wid i d is.distinct found

copied_found : (desk : List Window) (wid : ℕ) (r : Rectangle) (x y : ℕ) (numbers : List ℕ) (o : Option Window) → IsDesktop desk → find_window desk wid ≡ o
    → option_map (λ window. cropped window.w r window.pixels) o ≡ Some numbers → placed_on desk wid (put_at x y r) numbers ≡ copied_on desk wid r x y
copied_found desk wid r x y numbers None is found e = absurd (none-some numbers e)
copied_found desk wid r x y numbers (Some window) is found e =
    let same : numbers ≡ cropped window.w r window.pixels = cc in
    K.alike-changed number desk wid window (placed_window (put_at x y r) numbers) (copied_window r x y) is.distinct found
    (ap (λ ns. placed_window (put_at x y r) ns window) same)

-- the numbers that were cropped, put at another place, are the copy
pub copied_by : (desk : List Window) (wid : ℕ) (r : Rectangle) (x y : ℕ) (numbers : List ℕ) → IsDesktop desk
    → cropped_from desk wid r ≡ Some numbers → placed_on desk wid (put_at x y r) numbers ≡ copied_on desk wid r x y
copied_by desk wid r x y numbers is e = copied_found desk wid r x y numbers (find_window desk wid) is refl e

fits_found : (desk : List Window) (wid : ℕ) (r : Rectangle) (o : Option Window) → IsDesktop desk → find_window desk wid ≡ o
    → IsSomeAnd o (λ window. LiesIn window.w window.h r) → (r.x + r.w ≤ 4096) × (r.y + r.h ≤ 4096)
fits_found desk wid r None is found inside = absurd inside
fits_found desk wid r (Some window) is found inside =
    let kept = K.all-found number IsWindow desk wid window is.windows found in
    (omega (arith, inside.across, kept.wide.most), omega (arith, inside.down, kept.high.most))

-- a rectangle in a window lies in 4,096 by 4,096
pub fits_in_window : (desk : List Window) (wid : ℕ) (r : Rectangle) → IsDesktop desk → IsInWindow desk wid r → (r.x + r.w ≤ 4096) × (r.y + r.h ≤ 4096)
fits_in_window desk wid r is inside = fits_found desk wid r (find_window desk wid) is refl inside
