-- The window of one number, after each packet.
use Rattle.std.proofs.Common.{◌≡◌, inl, inr, ℕ, Bool, true, false, Option, Some, None, List, [], ◌∷◌, ◌++◌, cond, eqb, refl, sym, ap, subst, ◌∙◌, arith}
use Rattle.std.specs.Prelude.{ℤ}
use Rattle.std.specs.Option.{option_map, is_some}
use Rattle.std.proofs.lemmas.Bool.{cases_eq}
use Rattle.std.proofs.lemmas.Bool.Decides.{nat_tests}
use Rattle.xp_base.specs.KeyedLaws.{KeyedKeeps}
use Rattle.xp_base.proofs.KeyedLemmas.{keyed_keeps_lem}
use Rattle.xp_base.specs.declared.coding.Coding.{Coding}
use Rattle.bencode_values.specs.declared.value.Value.{Value}
use Rattle.window_model.specs.Desktop.{Window, find_window, has_window, fresh_window, opened, changed_window, moved_window, resized_window}
use Rattle.window_model.proofs.Desktops.{changed_finds_lem, opened_finds_lem, removed_finds_lem, raised_finds_lem}
use Rattle.rgb_encoders.specs.Decoded.{decoded}
use Rattle.packet_kinds.specs.declared.to_client.ToClient.{ToClient}
use Rattle.packet_kinds.specs.declared.to_client.ToClient.TheVariants as T
use Rattle.packet_kinds.specs.Effects.{effect, effect_on, drawn_window, holds_pixels}
use Rattle.packet_kinds.specs.Laws.{OneWindowChanges, AreDistinct, NumbersStayDistinct}

pub same_after : {A : Type 0} (a b : A) → Some a ≡ Some b → a ≡ b
same_after a b e = cc

present_on : (k wid : ℕ) (x y : ℤ) (w h : ℕ) (o : Option Window) → (k ≡ wid → is_some o ≡ true) → o ≡ effect_on k o (T.NewWindow wid x y w h)
present_on k wid x y w h None there = elim (cases_eq k wid) [ inl same ↦ absurd (let e : false ≡ true = there same in cc) | inr other ↦ grind (arith, nat_tests, other) ]
present_on k wid x y w h (Some window) there = refl

absent_on : (k wid : ℕ) (x y : ℤ) (w h : ℕ) (o : Option Window) → (k ≡ wid → is_some o ≡ false)
    → cond (eqb k wid) (Some (fresh_window wid x y w h)) o ≡ effect_on k o (T.NewWindow wid x y w h)
absent_on k wid x y w h None missing = refl
absent_on k wid x y w h (Some window) missing = elim (cases_eq k wid) [ inl same ↦ absurd (let e : true ≡ false = missing same in cc) | inr other ↦ grind (arith, nat_tests, other) ]

find-new : (windows : List Window) (wid : ℕ) (x y : ℤ) (w h k : ℕ) (there : Bool) → has_window windows wid ≡ there
    → find_window (cond there windows (opened windows wid x y w h)) k ≡ effect_on k (find_window windows k) (T.NewWindow wid x y w h)
find-new windows wid x y w h k true e = present_on k wid x y w h (find_window windows k) (λ same. ap (has_window windows) same ∙ e)
find-new windows wid x y w h k false e =
    opened_finds_lem windows wid x y w h k e ∙ absent_on k wid x y w h (find_window windows k) (λ same. ap (has_window windows) same ∙ e)

lost_on : (k wid : ℕ) (o : Option Window) → cond (eqb k wid) None o ≡ effect_on k o (T.LostWindow wid)
lost_on k wid None = elim (eqb k wid) as (λ b. ◌≡◌ {A = Option Window} (cond b None None) None) [ true ↦ refl | false ↦ refl ]
lost_on k wid (Some window) = refl

-- a window that is changed, or not
abbrev changed_on : Bool → (Window → Window) → Option Window → Option Window
changed_on b change None = None
changed_on b change (Some window) = Some (cond b (change window) window)

changed_is : (b : Bool) (change : Window → Window) (o : Option Window) → cond b (option_map change o) o ≡ changed_on b change o
changed_is true change None = refl
changed_is false change None = refl
changed_is true change (Some window) = refl
changed_is false change (Some window) = refl

find-change : (windows : List Window) (wid k : ℕ) (change : Window → Window) → ((window : Window) → (change window).wid ≡ window.wid)
    → find_window (changed_window windows wid change) k ≡ changed_on (eqb k wid) change (find_window windows k)
find-change windows wid k change keeps = changed_finds_lem windows wid change k keeps ∙ changed_is (eqb k wid) change (find_window windows k)

resized_on : (k wid w h : ℕ) (o : Option Window) → changed_on (eqb k wid) (resized_window w h) o ≡ effect_on k o (T.WindowResized wid w h)
resized_on k wid w h None = refl
resized_on k wid w h (Some window) = refl

moved_on : (k wid : ℕ) (x y : ℤ) (w h : ℕ) (o : Option Window) → changed_on (eqb k wid) (moved_window x y) o ≡ effect_on k o (T.WindowMoveResize wid x y w h)
moved_on k wid x y w h None = refl
moved_on k wid x y w h (Some window) = refl

module _ (wid x y w h : ℕ) (coding : Coding) (bytes : List ℕ) (sequence : ℤ) (stride : ℕ) where
  abbrev pub draws : Window → Window
  draws = drawn_window (record { x = x; y = y; w = w; h = h }) (decoded coding w h stride bytes)

  drawn_on : (k : ℕ) (o : Option Window) → changed_on (eqb k wid) draws o ≡ effect_on k o (T.Draw wid x y w h coding bytes sequence stride)
  drawn_on k None = refl
  drawn_on k (Some window) = refl

  -- where a draw has an effect, its bytes fit, and it is drawn
  drawn_by : (windows after : List Window) (fits : Bool) → cond fits (Some (changed_window windows wid draws)) None ≡ Some after → changed_window windows wid draws ≡ after
  drawn_by windows after true e = same_after _ _ e
  drawn_by windows after false e = absurd (cc)

  pub drawn_after : (windows after : List Window) → effect windows (T.Draw wid x y w h coding bytes sequence stride) ≡ Some after → changed_window windows wid draws ≡ after
  drawn_after windows after e = drawn_by windows after (holds_pixels coding w h stride bytes) e

-- a packet on no window
abbrev OnNone : ToClient → Type 0
OnNone m = (k : ℕ) (o : Option Window) → o ≡ effect_on k o m

hello_on_none : (caps : Option Value) → OnNone (T.Hello caps)
hello_on_none caps k None = refl
hello_on_none caps k (Some window) = refl

echo_on_none : (t : ℤ) → OnNone (T.PingEcho t)
echo_on_none t k None = refl
echo_on_none t k (Some window) = refl

disconnect_on_none : (reason : Option Value) → OnNone (T.Disconnect reason)
disconnect_on_none reason k None = refl
disconnect_on_none reason k (Some window) = refl

other_on_none : OnNone T.Other
other_on_none k None = refl
other_on_none k (Some window) = refl

raise_on_none : (wid : ℕ) → OnNone (T.RaiseWindow wid)
raise_on_none wid k None = refl
raise_on_none wid k (Some window) = refl

-- found in what the effect is, it is found after
found : (a after : List Window) (k : ℕ) (o : Option Window) → Some a ≡ Some after → find_window a k ≡ o → find_window after k ≡ o
found a after k o e h = ap (λ windows. find_window windows k) (sym (same_after a after e)) ∙ h

pub one_window_changes : OneWindowChanges
one_window_changes windows after (T.Hello caps) k e = found windows after k _ e (hello_on_none caps k (find_window windows k))
one_window_changes windows after (T.NewWindow wid x y w h) k e = found _ after k _ e (find-new windows wid x y w h k (has_window windows wid) refl)
one_window_changes windows after (T.LostWindow wid) k e = found _ after k _ e (removed_finds_lem windows wid k ∙ lost_on k wid (find_window windows k))
one_window_changes windows after (T.WindowResized wid w h) k e =
    found _ after k _ e (find-change windows wid k (resized_window w h) (λ _. refl) ∙ resized_on k wid w h (find_window windows k))
one_window_changes windows after (T.WindowMoveResize wid x y w h) k e =
    found _ after k _ e (find-change windows wid k (moved_window x y) (λ _. refl) ∙ moved_on k wid x y w h (find_window windows k))
one_window_changes windows after (T.RaiseWindow wid) k e =
    found _ after k _ e (raised_finds_lem windows wid k ∙ raise_on_none wid k (find_window windows k))
one_window_changes windows after (T.Draw wid x y w h coding bytes sequence stride) k e =
    found _ after k _ (ap Some (drawn_after wid x y w h coding bytes sequence stride windows after e))
    (find-change windows wid k (draws wid x y w h coding bytes sequence stride) (λ _. refl) ∙ drawn_on wid x y w h coding bytes sequence stride k (find_window windows k))
one_window_changes windows after (T.PingEcho t) k e = found windows after k _ e (echo_on_none t k (find_window windows k))
one_window_changes windows after (T.Disconnect reason) k e = found windows after k _ e (disconnect_on_none reason k (find_window windows k))
one_window_changes windows after T.Other k e = found windows after k _ e (other_on_none k (find_window windows k))

abbrev kept : KeyedKeeps Window
kept = keyed_keeps_lem Window

abbrev number : Window → ℕ
number window = window.wid

distinct-new : (windows : List Window) (new : Window) (there : Bool) → has_window windows new.wid ≡ there → AreDistinct windows → AreDistinct (cond there windows (windows ++ new ∷ []))
distinct-new windows new true e apart = apart
distinct-new windows new false e apart = kept.pushed number windows new apart e

pub numbers_stay_distinct : NumbersStayDistinct
numbers_stay_distinct windows after (T.Hello caps) apart e = subst AreDistinct (same_after _ after e) apart
numbers_stay_distinct windows after (T.NewWindow wid x y w h) apart e =
    subst AreDistinct (same_after _ after e) (distinct-new windows (fresh_window wid x y w h) (has_window windows wid) refl apart)
numbers_stay_distinct windows after (T.LostWindow wid) apart e = subst AreDistinct (same_after _ after e) (kept.removed number windows wid apart)
numbers_stay_distinct windows after (T.WindowResized wid w h) apart e = subst AreDistinct (same_after _ after e) (kept.changed number windows wid (resized_window w h) (λ _. refl) apart)
numbers_stay_distinct windows after (T.WindowMoveResize wid x y w h) apart e = subst AreDistinct (same_after _ after e) (kept.changed number windows wid (moved_window x y) (λ _. refl) apart)
numbers_stay_distinct windows after (T.RaiseWindow wid) apart e = subst AreDistinct (same_after _ after e) (kept.moved number windows wid apart)
numbers_stay_distinct windows after (T.Draw wid x y w h coding bytes sequence stride) apart e =
    subst AreDistinct (drawn_after wid x y w h coding bytes sequence stride windows after e)
    (kept.changed number windows wid (draws wid x y w h coding bytes sequence stride) (λ _. refl) apart)
numbers_stay_distinct windows after (T.PingEcho t) apart e = subst AreDistinct (same_after _ after e) apart
numbers_stay_distinct windows after (T.Disconnect reason) apart e = subst AreDistinct (same_after _ after e) apart
numbers_stay_distinct windows after T.Other apart e = subst AreDistinct (same_after _ after e) apart
