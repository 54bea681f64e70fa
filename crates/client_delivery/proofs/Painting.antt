-- A window has other pixels in a rectangle.
use Rattle.std.proofs.Common.{◌≡◌, ◌⊎◌, inl, inr, ℕ, ◌*◌, Bool, true, false, List, [], Option, Some, None, length, cond, eqb, refl, sym, ap, ◌∙◌, subst}
use Rattle.std.specs.Prelude.{is_some}
use Rattle.std.specs.Option.{option_map}
use Rattle.std.specs.List.{AllByRecursion}
use Rattle.std.proofs.lemmas.Bool.{eqb-true, false≢true}
use Rattle.xp_base.specs.Points.{Rectangle, is_in, is_within}
use Rattle.xp_base.specs.KeyedLaws.{KeyedFinds, KeyedKeeps}
use Rattle.window_model.specs.Desktop.{Window, find_window, has_window, changed_window}
use Rattle.delivery_model.specs.Grids.{Grid, number}
use Rattle.delivery_model.specs.Window.{Window as Delivery, Packet}
use Rattle.delivery_model.specs.Events.{Paint, damaged, painted}
use Rattle.delivery_model.specs.Kept.{IsKept}
use Rattle.delivery_model.specs.Laws.{EventsKeepTheForm, GridNumbers}
use Rattle.window_source.specs.Source.{SourceSeen, window_of, after}
use Rattle.window_source.specs.Waiting.{Waiting, waits_on, ReliefLies, lossy_shows}
use Rattle.client_delivery.specs.Attached.{source_key, find_source, grid_of}
use Rattle.client_delivery.specs.Delivered.{delivery, layout, AreOfOneSize, IsDelivered, IsLaidOut, IsTold}
use Rattle.client_delivery.specs.Steps.{changes_source}
use Rattle.client_delivery.specs.Keeping.{IsPainted, PaintKeeps}
use Rattle.client_delivery.proofs.Alike.{IsAlike, kept_alike}
use Rattle.client_delivery.proofs.Grids.{some_same, pixels_grid, painted_numbers}
use Rattle.client_delivery.proofs.Layouts.{same_layout}
use Rattle.client_delivery.proofs.Parts.{Was, changed_cases, some_there}
use Rattle.client_delivery.proofs.Saying.{source_changed}

-- the model's window with the desktop's new pixels
damaged_kept : EventsKeepTheForm → GridNumbers → (r : Rectangle) (now : ℕ) (s : SourceSeen) (old new : List ℕ) (client : Option Grid) (packets : List Packet)
    → ((x y : ℕ) → is_within s.wide s.high x y ≡ true → is_in r x y ≡ false → number (pixels_grid s.wide s.high new) x y ≡ number (pixels_grid s.wide s.high old) x y)
    → IsKept (window_of s old client packets) → IsKept (window_of (after (damaged r now) s) new client packets)
damaged_kept form numbers r now s old new client packets outside kept = kept_alike model _ alike made
  where
    model : Delivery
    model = damaged r now (record (window_of s old client packets) { desk = painted r new (pixels_grid s.wide s.high old) })

    made : IsKept model
    made = form lossy_shows (Some (window_of s old client packets)) (Paint r new now) tt kept

    alike : IsAlike model (window_of (after (damaged r now) s) new client packets)
    alike = record {
      wide = refl;
      high = refl;
      sizes = refl;
      jobs = made.jobs;
      packets = made.packets;
      pending = made.pending;
      lossy = made.lossy;
      points = λ x y within. rw (painted_numbers numbers r s.wide s.high old new x y within (outside x y within)) refl;
    }

module _ (source_finds : KeyedFinds SourceSeen) (window_finds : KeyedFinds Window) (keeps : KeyedKeeps SourceSeen) (form : EventsKeepTheForm) (numbers : GridNumbers) where
  pub paint_keeps : PaintKeeps
  paint_keeps desk were_opened r window window' now a sent desktop there paint told =
      subst (λ (ds : List Window). IsTold ds were_opened (changes_source k (damaged r now) a) sent) (sym desk_is) (record {
        windows = told.windows;
        waiting = told.waiting;
        bytes = told.bytes;
        delivered = record {
          laid = record { after = d.laid.after; shown = d.laid.shown; laid = d.laid.laid ∙ sym (same_layout repainted (λ w. refl) desk k) };
          distinct = keeps.changed source_key a.sources k (after (damaged r now)) (λ s. refl) d.distinct;
          sized = λ j. subst (λ (o : Option Window). AreOfOneSize o (find_source (changes_source k (damaged r now) a).sources j)) (sym (window_at j))
              (subst (AreOfOneSize (cond (eqb j k) (option_map repainted (find_window desk j)) (find_window desk j))) (sym (source_at j)) (sizes (eqb j k) (find_window desk j) (find_source a.sources j) (d.sized j)));
          kept = λ j v s left found. kept j v s (changed_cases repainted (eqb j k) (find_window desk j) v (sym (window_at j) ∙ left)) (changed_cases (after (damaged r now)) (eqb j k) (find_source a.sources j) s (sym (source_at j) ∙ found));
          lies = λ j s found. lies j s (changed_cases (after (damaged r now)) (eqb j k) (find_source a.sources j) s (sym (source_at j) ∙ found));
          absent = d.absent;
          begun = λ j left. d.begun j (was_there j left);
          stays = λ j left. d.stays j (was_there j left);
        };
      })
    where
      k : ℕ
      k = window.wid

      d : IsDelivered desk were_opened a.sources told.windows told.waiting
      d = told.delivered

      repainted : Window → Window
      repainted w = record w { pixels = window'.pixels }

      desk_is : changed_window desk k (λ w. window') ≡ changed_window desk k repainted
      desk_is = window_finds.alike (λ (w : Window). w.wid) desk k window (λ w. window') repainted desktop.distinct there paint.same

      window_at : (j : ℕ) → find_window (changed_window desk k repainted) j ≡ cond (eqb j k) (option_map repainted (find_window desk j)) (find_window desk j)
      window_at j = window_finds.changed (λ (w : Window). w.wid) desk k repainted j (λ w. refl)

      source_at : (j : ℕ) → find_source (changes_source k (damaged r now) a).sources j ≡ cond (eqb j k) (option_map (after (damaged r now)) (find_source a.sources j)) (find_source a.sources j)
      source_at j = source_finds.changed source_key a.sources k (after (damaged r now)) j (λ s. refl)

      sizes : (b : Bool) (o : Option Window) (s : Option SourceSeen) → AreOfOneSize o s → AreOfOneSize (cond b (option_map repainted o) o) (cond b (option_map (after (damaged r now)) s) s)
      sizes false o s size = size
      sizes true None None size = size
      sizes true None (Some s) size = size
      sizes true (Some w) None size = size
      sizes true (Some w) (Some s) size = size

      one : (s : SourceSeen) → find_source a.sources k ≡ Some s → IsKept (delivery (repainted window) told.windows told.waiting (after (damaged r now) s))
      one s found =
          damaged_kept form numbers r now s window.pixels window'.pixels (option_map grid_of (find_window told.windows k)) (waits_on s.wide s.high k told.waiting) outside (d.kept k window s there found)
        where
          size : (s.wide ≡ window.w) × (s.high ≡ window.h)
          size = subst (AreOfOneSize (Some window)) found (subst (λ (o : Option Window). AreOfOneSize o (find_source a.sources k)) there (d.sized k))

          inside : (x y : ℕ) → is_within s.wide s.high x y ≡ true → is_within window.w window.h x y ≡ true
          inside x y within = subst (λ w. is_within w window.h x y ≡ true) size.0 (subst (λ h. is_within s.wide h x y ≡ true) size.1 within)

          outside : (x y : ℕ) → is_within s.wide s.high x y ≡ true → is_in r x y ≡ false → number (pixels_grid s.wide s.high window'.pixels) x y ≡ number (pixels_grid s.wide s.high window.pixels) x y
          outside x y within free =
              subst (λ w. number (pixels_grid w s.high window'.pixels) x y ≡ number (pixels_grid w s.high window.pixels) x y) (sym size.0)
              (subst (λ h. number (pixels_grid window.w h window'.pixels) x y ≡ number (pixels_grid window.w h window.pixels) x y) (sym size.1)
              (sym (ap (λ (w : Window). number (grid_of w) x y) paint.same) ∙ paint.outside x y (inside x y within) free))

      kept : (j : ℕ) (v : Window) (s : SourceSeen) → Was k repainted j (find_window desk j) v → Was k (after (damaged r now)) j (find_source a.sources j) s → IsKept (delivery v told.windows told.waiting s)
      kept j v s (inl here) (inl found) =
          let at : j ≡ k = eqb-true j k here.0 in
          let is : here.1.0 ≡ window = some_same _ _ (sym here.1.1 ∙ ap (find_window desk) at ∙ there) in
          subst (λ (u : Window). IsKept (delivery u told.windows told.waiting s)) (ap repainted (sym is) ∙ here.1.2)
          (subst (λ (t : SourceSeen). IsKept (delivery (repainted window) told.windows told.waiting t)) found.1.2 (one found.1.0 (sym (ap (find_source a.sources) at) ∙ found.1.1)))
      kept j v s (inl here) (inr other) = absurd (false≢true (sym other.0 ∙ here.0))
      kept j v s (inr other) (inl found) = absurd (false≢true (sym other.0 ∙ found.0))
      kept j v s (inr other) (inr same) = d.kept j v s other.1 same.1

      lies : (j : ℕ) (s : SourceSeen) → Was k (after (damaged r now)) j (find_source a.sources j) s → AllByRecursion (ReliefLies s.wide s.high j) told.waiting
      lies j s (inl here) = subst (λ (t : SourceSeen). AllByRecursion (ReliefLies t.wide t.high j) told.waiting) here.1.2 (d.lies j here.1.0 here.1.1)
      lies j s (inr other) = d.lies j s other.1

      was_there : (j : ℕ) → has_window (changed_window desk k repainted) j ≡ true → has_window desk j ≡ true
      was_there j left = go (eqb j k) (find_window desk j) (sym (ap is_some (window_at j)) ∙ left)
        where
          go : (b : Bool) (o : Option Window) → is_some (cond b (option_map repainted o) o) ≡ true → is_some o ≡ true
          go false o some = some
          go true None some = some
          go true (Some w) some = refl
