-- What a draw does to a desktop.
use Rattle.std.proofs.Common.{◌≡◌, ◌⊎◌, ℕ, ◌*◌, true, false, List, length, take, cond, eqb, refl, sym, ap, subst, ◌∙◌}
use Rattle.std.specs.Prelude.{ℤ, Option, Some, None, Result, Ok, Err, OnOk, is_some}
use Rattle.std.specs.List.{All, position_or_len}
use Rattle.std.proofs.lemmas.List.Folds.{find_at}
use Rattle.std.proofs.lemmas.Option.{get_or_from_slice_get, slice_get_within}
use Rattle.xp_base.specs.declared.coding.Coding.{Coding}
use Rattle.xp_base.specs.Points.{Rectangle, clip}
use Rattle.xp_base.specs.Keyed.{HasDistinctKeys}
use Rattle.xp_base.proofs.KeyedLemmas.{keyed_finds_lem}
use Rattle.rgb_encoders.specs.Decoded.{decoded, HoldsPixels}
use Rattle.window_model.specs.Desktop.{Window, IsWindow, IsDesktop, find_window, changed_window, placed_window, placed_on}
use Rattle.packet_kinds.specs.declared.to_client.ToClient.{ToClient}
use Rattle.packet_kinds.specs.declared.to_client.ToClient.TheVariants as T
use Rattle.packet_kinds.specs.Effects.{effect, drawn_window, holds_pixels}
use Rattle.packet_kinds.specs.Replies.{has_effect}
use Rattle.client_replay.specs.Clipping.{IsUnseen, IsSeen}
use Rattle.client_replay.proofs.Clips.{clipped_placed, unseen_placed}
use Rattle.client_replay.proofs.Missing.{missing_changed, same_changed}

pub on_ok : {A E : Type 0} (P Q : Type 0) → (P → Q) → (r : Result A E) → OnOk r P → OnOk r Q
on_ok P Q next (Ok a) h = next h
on_ok P Q next (Err e) h = tt

pub draw_effect : (windows after : List Window) (m : ToClient) (wid x y w h : ℕ) (coding : Coding) (bytes : List ℕ) (sequence : ℤ) (stride : ℕ) (r : Rectangle) (given : List ℕ)
    → m ≡ T.Draw wid x y w h coding bytes sequence stride → has_effect m ≡ true → r ≡ record { x = x; y = y; w = w; h = h } → given ≡ bytes
    → after ≡ changed_window windows wid (drawn_window r (decoded coding r.w r.h stride given)) → effect windows m ≡ Some after
draw_effect windows after m wid x y w h coding bytes sequence stride r given is has rect same drawn =
    let holds : holds_pixels coding w h stride bytes ≡ true = sym (ap has_effect is) ∙ has in
    ap (effect windows) is
    ∙ ap (λ b. cond b (Some (changed_window windows wid (drawn_window (record { x = x; y = y; w = w; h = h }) (decoded coding w h stride bytes)))) None) holds
    ∙ ap (λ (q : Rectangle). Some (changed_window windows wid (drawn_window q (decoded coding q.w q.h stride bytes)))) (sym rect)
    ∙ ap (λ b. Some (changed_window windows wid (drawn_window r (decoded coding r.w r.h stride b)))) (sym same)
    ∙ ap Some (sym drawn)

-- the window that is found is one of the desktop's
found_is : (windows : List Window) (wid : ℕ) (window : Window) → All IsWindow windows → find_window windows wid ≡ Some window → IsWindow window
found_is windows wid window all e =
    let place = position_or_len (λ w. eqb w.wid wid) windows in
    let at = sym (find_at (λ w. eqb w.wid wid) windows) ∙ e in
    subst IsWindow (get_or_from_slice_get windows place window window at) (all place window (slice_get_within windows place window at))

module _ (desk : List Window) (wid : ℕ) (r : Rectangle) (coding : Coding) (stride : ℕ) (bytes : List ℕ) (is : IsDesktop desk) (holds : HoldsPixels coding r.w r.h stride bytes) where
  abbrev draws : Window → Window
  draws = drawn_window r (decoded coding r.w r.h stride bytes)

  -- two changes that make the same of the window
  alike : (window : Window) (one two : Window → Window) → find_window desk wid ≡ Some window → one window ≡ two window → changed_window desk wid one ≡ changed_window desk wid two
  alike window one two found same = (keyed_finds_lem Window).alike (λ w. w.wid) desk wid window one two is.distinct found same

  unseen_by : (o : Option Window) → find_window desk wid ≡ o → IsUnseen desk wid r → changed_window desk wid draws ≡ desk
  unseen_by None found unseen = missing_changed desk wid draws (ap is_some found)
  unseen_by (Some window) found unseen =
      let sized = (found_is desk wid window is.windows found).sized in
      alike window draws (λ w. w) found (ap (λ pixels. record window { pixels = pixels }) (unseen_placed coding window.w window.h stride r bytes window.pixels sized holds (unseen window found)))
      ∙ same_changed desk wid

  pub unseen_draw : IsUnseen desk wid r → changed_window desk wid draws ≡ desk
  unseen_draw unseen = unseen_by (find_window desk wid) refl unseen

  pub seen_draw : (part : Rectangle) (numbers : List ℕ) → IsSeen desk wid r part → numbers ≡ decoded coding part.w part.h stride (take (stride * part.h) bytes)
      → placed_on desk wid part numbers ≡ changed_window desk wid draws
  seen_draw part numbers seen decoded_part =
      let window = seen.0 in
      let sized = (found_is desk wid window is.windows seen.1).sized in
      let part_is : part ≡ clip window.w window.h r = seen.2 in
      let front : Rectangle → List ℕ = λ c. decoded coding c.w c.h stride (take (stride * c.h) bytes) in
      ap (λ n. placed_on desk wid part n) decoded_part
      ∙ ap (λ c. placed_on desk wid c (front c)) part_is
      ∙ alike window (placed_window (clip window.w window.h r) (front (clip window.w window.h r))) draws seen.1
      (ap (λ pixels. record window { pixels = pixels }) (clipped_placed coding window.w window.h stride r bytes window.pixels sized holds))
