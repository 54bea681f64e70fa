-- What messages leave of the windows' numbers, places and sizes, where they had those of the desktop.
use Rattle.std.proofs.Common.{◌≡◌, ◌≢◌, ℕ, Bool, true, false, List, [], ◌∷◌, ◌++◌, Option, Some, None, map, cond, eqb, refl, sym, ap, ◌∙◌, subst}
use Rattle.std.specs.Prelude.{ℤ, is_some, not, filter, find, AllPairs}
use Rattle.std.specs.Option.{option_map, option_and_then}
use Rattle.std.proofs.lemmas.Bool.{cond-true, cond-false}
use Rattle.std.proofs.lemmas.List.{map-append, append_assoc, append-nil}
use Rattle.xp_base.specs.Keyed.{keyed_find, has_key, keyed_change, keyed_remove, keyed_push_some, keyed_last}
use Rattle.xp_base.specs.declared.coding.Coding.{Coding}
use Rattle.window_model.specs.Desktop.{Window, find_window, has_window, fresh_window, changed_window, opened, without_window, raised, moved_on, moved_window, resized_on, resized_window}
use Rattle.window_model.specs.Geometry.{Geometry, geometry_of}
use Rattle.bencode_values.specs.declared.value.Value.{Value}
use Rattle.packet_kinds.specs.declared.to_client.ToClient.{ToClient}
use Rattle.packet_kinds.specs.declared.to_client.ToClient.TheVariants as T
use Rattle.packet_kinds.specs.Effects.{effect, holds_pixels}
use Rattle.client_delivery.specs.Delivered.{effects, layout, IsLaidOut}

abbrev pub number_of : Geometry → ℕ
number_of g = g.wid

found_layout : (xs : List Window) (k : ℕ) → option_map geometry_of (find_window xs k) ≡ keyed_find number_of (layout xs) k
found_layout [] k = refl
found_layout (x ∷ xs) k = go (eqb x.wid k) (found_layout xs k)
  where
    go : (b : Bool) → option_map geometry_of (find_window xs k) ≡ keyed_find number_of (layout xs) k
        → option_map geometry_of (cond b (Some x) (find_window xs k)) ≡ cond b (Some (geometry_of x)) (keyed_find number_of (layout xs) k)
    go true later = refl
    go false later = later

some_mapped : {A B : Type 0} (f : A → B) (o : Option A) → is_some (option_map f o) ≡ is_some o
some_mapped f None = refl
some_mapped f (Some a) = refl

pub has_layout : (xs ys : List Window) (k : ℕ) → layout xs ≡ layout ys → has_window xs k ≡ has_window ys k
has_layout xs ys k same =
    sym (some_mapped geometry_of (find_window xs k)) ∙ ap is_some (found_layout xs k ∙ ap (λ (gs : List Geometry). keyed_find number_of gs k) same ∙ sym (found_layout ys k))
    ∙ some_mapped geometry_of (find_window ys k)

without_layout : (xs : List Window) (k : ℕ) → layout (without_window xs k) ≡ keyed_remove number_of (layout xs) k
without_layout [] k = refl
without_layout (x ∷ xs) k = go (eqb x.wid k) (without_layout xs k)
  where
    go : (b : Bool) → layout (without_window xs k) ≡ keyed_remove number_of (layout xs) k
        → layout (cond (not b) (x ∷ without_window xs k) (without_window xs k)) ≡ cond (not b) (geometry_of x ∷ keyed_remove number_of (layout xs) k) (keyed_remove number_of (layout xs) k)
    go true later = later
    go false later = ap (λ (gs : List Geometry). geometry_of x ∷ gs) later

changed_layout : (f : Window → Window) (g : Geometry → Geometry) → ((w : Window) → geometry_of (f w) ≡ g (geometry_of w)) → (xs : List Window) (k : ℕ)
    → layout (changed_window xs k f) ≡ keyed_change number_of (layout xs) k g
changed_layout f g each [] k = refl
changed_layout f g each (x ∷ xs) k = ap (λ (gs : List Geometry). geometry_of (cond (eqb x.wid k) (f x) x) ∷ gs) (changed_layout f g each xs k) ∙ go (eqb x.wid k)
  where
    go : (b : Bool) → geometry_of (cond b (f x) x) ∷ keyed_change number_of (layout xs) k g ≡ cond b (g (geometry_of x)) (geometry_of x) ∷ keyed_change number_of (layout xs) k g
    go true = ap (λ (h : Geometry). h ∷ keyed_change number_of (layout xs) k g) (each x)
    go false = refl

-- a change that leaves number, place and size
pub same_layout : (f : Window → Window) → ((w : Window) → geometry_of (f w) ≡ geometry_of w) → (xs : List Window) (k : ℕ) → layout (changed_window xs k f) ≡ layout xs
same_layout f each xs k = changed_layout f (λ g. g) each xs k ∙ none (layout xs)
  where
    one : (b : Bool) (g : Geometry) → cond b g g ≡ g
    one true g = refl
    one false g = refl

    none : (gs : List Geometry) → keyed_change number_of gs k (λ g. g) ≡ gs
    none [] = refl
    none (g ∷ gs) = ap (λ (hs : List Geometry). cond (eqb g.wid k) g g ∷ hs) (none gs) ∙ ap (λ (h : Geometry). h ∷ gs) (one (eqb g.wid k) g)

pushed_layout : (xs : List Window) (o : Option Window) → layout (keyed_push_some xs o) ≡ keyed_push_some (layout xs) (option_map geometry_of o)
pushed_layout xs None = refl
pushed_layout xs (Some w) = map-append geometry_of xs (w ∷ [])

raised_layout : (xs : List Window) (k : ℕ) → layout (raised xs k) ≡ keyed_last number_of (layout xs) k
raised_layout xs k =
    pushed_layout (without_window xs k) (find_window xs k)
    ∙ ap (λ (gs : List Geometry). keyed_push_some gs (option_map geometry_of (find_window xs k))) (without_layout xs k)
    ∙ ap (keyed_push_some (keyed_remove number_of (layout xs) k)) (found_layout xs k)

-- windows laid out as the desktop are laid out as it is then, once the message is shown
abbrev pub AfterSame : List Window → List Window → ToClient → Type 0
AfterSame desk desk' m = (after : List Window) → layout after ≡ layout desk → (after' : List Window) × (effect after m ≡ Some after') × (layout after' ≡ layout desk')

pub opens_same : (desk : List Window) (wid : ℕ) (x y : ℤ) (w h : ℕ) → has_window desk wid ≡ false → AfterSame desk (opened desk wid x y w h) (T.NewWindow wid x y w h)
opens_same desk wid x y w h missing = λ after same. (
  opened after wid x y w h,
  ap (λ (ws : List Window). Some ws) (cond-false (has_window after wid) after (opened after wid x y w h) (has_layout after desk wid same ∙ missing)),
  map-append geometry_of after (fresh_window wid x y w h ∷ []) ∙ ap (λ (gs : List Geometry). gs ++ geometry_of (fresh_window wid x y w h) ∷ []) same ∙ sym (map-append geometry_of desk (fresh_window wid x y w h ∷ [])),
)

pub closes_same : (desk : List Window) (k : ℕ) → AfterSame desk (without_window desk k) (T.LostWindow k)
closes_same desk k = λ after same. (without_window after k, refl, without_layout after k ∙ ap (λ (gs : List Geometry). keyed_remove number_of gs k) same ∙ sym (without_layout desk k))

pub resizes_same : (desk : List Window) (k w h : ℕ) → AfterSame desk (resized_on desk k w h) (T.WindowResized k w h)
resizes_same desk k w h = λ after same. (resized_on after k w h, refl, each after ∙ ap (λ (gs : List Geometry). keyed_change number_of gs k size) same ∙ sym (each desk))
  where
    size : Geometry → Geometry
    size g = record g { w = w; h = h }

    each : (xs : List Window) → layout (resized_on xs k w h) ≡ keyed_change number_of (layout xs) k size
    each xs = changed_layout (resized_window w h) size (λ w. refl) xs k

pub moves_same : (desk : List Window) (k : ℕ) (x y : ℤ) (w h : ℕ) → AfterSame desk (moved_on desk k x y) (T.WindowMoveResize k x y w h)
moves_same desk k x y w h = λ after same. (moved_on after k x y, refl, each after ∙ ap (λ (gs : List Geometry). keyed_change number_of gs k place) same ∙ sym (each desk))
  where
    place : Geometry → Geometry
    place g = record g { x = x; y = y }

    each : (xs : List Window) → layout (moved_on xs k x y) ≡ keyed_change number_of (layout xs) k place
    each xs = changed_layout (moved_window x y) place (λ w. refl) xs k

pub raises_same : (desk : List Window) (k : ℕ) → AfterSame desk (raised desk k) (T.RaiseWindow k)
raises_same desk k = λ after same. (raised after k, refl, raised_layout after k ∙ ap (λ (gs : List Geometry). keyed_last number_of gs k) same ∙ sym (raised_layout desk k))

pub answers_same : (desk : List Window) (t : ℤ) → AfterSame desk desk (T.PingEcho t)
answers_same desk t = λ after same. (after, refl, same)

pub hello_same : (desk : List Window) (caps : Option Value) → AfterSame desk desk (T.Hello caps)
hello_same desk caps = λ after same. (after, refl, same)

pub draws_same : (desk : List Window) (wid x y w h : ℕ) (coding : Coding) (bytes : List ℕ) (sequence : ℤ) (stride : ℕ) → holds_pixels coding w h stride bytes ≡ true
    → AfterSame desk desk (T.Draw wid x y w h coding bytes sequence stride)
draws_same desk wid x y w h coding bytes sequence stride holds = λ after same. (_, cond-true (holds_pixels coding w h stride bytes) _ None holds, same_layout _ (λ w. refl) after wid ∙ same)

-- messages one after another
then_effects : (ms ns : List ToClient) (o : Option (List Window)) → ((ws : List Window) → effects (ms ++ ns) ws ≡ option_and_then (effects ns) (effects ms ws))
    → option_and_then (effects (ms ++ ns)) o ≡ option_and_then (effects ns) (option_and_then (effects ms) o)
then_effects ms ns None later = refl
then_effects ms ns (Some ws) later = later ws

pub effects_append : (ms ns : List ToClient) (windows : List Window) → effects (ms ++ ns) windows ≡ option_and_then (effects ns) (effects ms windows)
effects_append [] ns windows = refl
effects_append (m ∷ ms) ns windows = then_effects ms ns (effect windows m) (effects_append ms ns)

pub laid_push : (desk desk' windows : List Window) (ms : List ToClient) (m : ToClient) → AfterSame desk desk' m → IsLaidOut desk windows ms → IsLaidOut desk' windows (ms ++ m ∷ [])
laid_push desk desk' windows ms m same laid =
    let next = same laid.after laid.laid in
    record {
      after = next.0;
      shown = effects_append ms (m ∷ []) windows ∙ ap (option_and_then (effects (m ∷ []))) laid.shown ∙ ap (option_and_then (effects [])) next.1;
      laid = next.2;
    }

-- the first message has its effect, and the others theirs behind it
pub laid_first : (desk windows : List Window) (m : ToClient) (ms : List ToClient) → IsLaidOut desk windows (m ∷ ms) → (next : List Window) × (effect windows m ≡ Some next) × IsLaidOut desk next ms
laid_first desk windows m ms laid = go (effect windows m) refl laid.shown
  where
    go : (o : Option (List Window)) → effect windows m ≡ o → option_and_then (effects ms) o ≡ Some laid.after → (next : List Window) × (effect windows m ≡ Some next) × IsLaidOut desk next ms
    go None is shown = absurd (cc shown)
    go (Some next) is shown = (next, is, record { after = laid.after; shown = shown; laid = laid.laid })
