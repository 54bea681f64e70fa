-- Effects on a window that is not there.
use Rattle.std.proofs.Common.{◌≡◌, ℕ, Bool, true, false, List, [], ◌∷◌, cond, eqb, refl, sym, ap, ◌∙◌}
use Rattle.std.specs.Prelude.{Option, Some, None, not, is_some}
use Rattle.xp_base.specs.Keyed.{keyed_push_some}
use Rattle.window_model.specs.Desktop.{Window, find_window, has_window, changed_window, without_window, raised}

missing_first : (b : Bool) (window : Window) (o : Option Window) → is_some (cond b (Some window) o) ≡ false → (b ≡ false) × (is_some o ≡ false)
missing_first true window o e = absurd (cc)
missing_first false window o e = (refl, e)

pub missing_changed : (windows : List Window) (wid : ℕ) (change : Window → Window) → has_window windows wid ≡ false → changed_window windows wid change ≡ windows
missing_changed [] wid change e = refl
missing_changed (window ∷ windows) wid change e =
    let parts = missing_first (eqb window.wid wid) window (find_window windows wid) e in
    ap (λ b. cond b (change window) window ∷ changed_window windows wid change) parts.0 ∙ ap (λ rest. window ∷ rest) (missing_changed windows wid change parts.1)

pub missing_without : (windows : List Window) (wid : ℕ) → has_window windows wid ≡ false → without_window windows wid ≡ windows
missing_without [] wid e = refl
missing_without (window ∷ windows) wid e =
    let parts = missing_first (eqb window.wid wid) window (find_window windows wid) e in
    ap (λ b. cond (not b) (window ∷ without_window windows wid) (without_window windows wid)) parts.0 ∙ ap (λ rest. window ∷ rest) (missing_without windows wid parts.1)

none_is : (o : Option Window) → is_some o ≡ false → o ≡ None
none_is None e = refl
none_is (Some window) e = absurd (cc)

pub missing_raised : (windows : List Window) (wid : ℕ) → has_window windows wid ≡ false → raised windows wid ≡ windows
missing_raised windows wid e = ap (keyed_push_some (without_window windows wid)) (none_is (find_window windows wid) e) ∙ missing_without windows wid e

-- a change that changes nothing
pub same_changed : (windows : List Window) (wid : ℕ) → changed_window windows wid (λ window. window) ≡ windows
same_changed [] wid = refl
same_changed (window ∷ windows) wid = ap (λ first. first ∷ changed_window windows wid (λ w. w)) (either (eqb window.wid wid)) ∙ ap (λ rest. window ∷ rest) (same_changed windows wid) where
  either : (b : Bool) → cond b window window ≡ window
  either true = refl
  either false = refl
