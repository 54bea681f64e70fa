-- A capture and a result leave what is owed, and a client that attaches is owed the whole desktop.
use Rattle.std.proofs.Common.{◌≡◌, ◌≢◌, ◌⊎◌, inl, inr, ℕ, Bool, true, false, ◌&&◌, ◌||◌, List, [], ◌∷◌, ◌++◌, Option, Some, None, map, cond, eqb, refl, sym, ap, ◌∙◌, subst}
use Rattle.std.specs.Prelude.{is_some, AllPairs}
use Rattle.std.specs.Option.{option_map}
use Rattle.std.specs.List.{AllByRecursion}
use Rattle.std.proofs.lemmas.Bool.{eqb-true}
use Rattle.std.proofs.lemmas.List.Folds.{list_any-append}
use Rattle.delivery_model.specs.Kept.{IsKept}
use Rattle.delivery_model.specs.Plans.{IsCaptureOf}
use Rattle.delivery_model.specs.Refusals.{is_busy}
use Rattle.client_delivery.specs.Numbered.{numbered_on}
use Rattle.std.proofs.lemmas.List.{map-append, append-nil}
use Rattle.xp_base.specs.Captures.{Captured}
use Rattle.xp_base.specs.Keyed.{keyed_change}
use Rattle.xp_base.specs.KeyedLaws.{KeyedFinds}
use Rattle.xp_base.specs.Points.{Rectangle, is_within}
use Rattle.rect_regions.specs.PointSets.{has as has_point}
use Rattle.window_model.specs.Desktop.{Window, IsDesktop, find_window, has_window}
use Rattle.delivery_model.specs.Grids.{Grid, has}
use Rattle.delivery_model.specs.Window.{Packet, Window as Delivery}
use Rattle.delivery_model.specs.Events.{Capture, File, Planned, captured, filed, jobs_relieve}
use Rattle.delivery_model.specs.Owed.{is_owed, owes as model_owes}
use Rattle.delivery_model.specs.Laws.{EventsChangeOwed, PointsHave}
use Rattle.client_outbox.specs.Outgoing.{Outgoing}
use Rattle.client_outbox.specs.Reliefs.{is_named, draws_in, relieve}
use Rattle.window_source.specs.Source.{SourceSeen, window_of, source_of}
use Rattle.window_source.specs.Waiting.{Queued, Waiting, Carries, waits_on, lossy_shows}
use Rattle.client_delivery.specs.Attached.{AttachedSeen, source_key, find_source, grid_of, started_source}
use Rattle.client_delivery.specs.Delivered.{packets_of, delivery, AreOfOneSize, IsTold}
use Rattle.client_delivery.specs.Owed.{source_owes, owes_in, owes}
use Rattle.client_delivery.specs.Owing.{on_desk, AttachOwes, CaptureOwes, FileOwes}
use Rattle.client_delivery.specs.Steps.{Attaches, Captures, Files}
use Rattle.client_delivery.proofs.Attaching.{found_started, none_found, head_apart, tail_apart}
use Rattle.client_delivery.proofs.Capturing.{planned_then, busy_same, same_test}
use Rattle.client_delivery.proofs.Filing.{window_number}
use Rattle.client_delivery.proofs.Numberings.{constant_found, own_alone}
use Rattle.client_delivery.proofs.Owings.{all_begins, or_false}
use Rattle.client_delivery.proofs.Grids.{some_same}
use Rattle.client_delivery.proofs.Parts.{waits_append}
use Rattle.client_delivery.proofs.Queues.{all_append}
use Rattle.client_delivery.proofs.Relieves.{relieves_same}

within_of : Option Window → ℕ → ℕ → Bool
within_of None x y = false
within_of (Some w) x y = is_within w.w w.h x y

none_there : (desk : List Window) (k x y : ℕ) → has_window desk k ≡ false → on_desk desk k x y ≡ false
none_there [] k x y none = refl
none_there (w ∷ desk) k x y none = go (eqb w.wid k) none (none_there desk k x y)
  where
    go : (b : Bool) → is_some (cond b (Some w) (find_window desk k)) ≡ false → (has_window desk k ≡ false → on_desk desk k x y ≡ false) → ((b && is_within w.w w.h x y) || on_desk desk k x y) ≡ false
    go true none later = absurd (cc none)
    go false none later = later none

-- of windows with numbers of their own the one that is found has the point
found_within : (desk : List Window) (k x y : ℕ) → AllPairs (λ (v w : Window). v.wid ≢ w.wid) desk → within_of (find_window desk k) x y ≡ on_desk desk k x y
unfolding within_of
found_within [] k x y apart = refl
found_within (w ∷ desk) k x y apart = go (eqb w.wid k) refl (found_within desk k x y (tail_apart w desk apart))
  where
    or_false : (b : Bool) → (b || false) ≡ b
    or_false true = refl
    or_false false = refl

    go : (b : Bool) → eqb w.wid k ≡ b → within_of (find_window desk k) x y ≡ on_desk desk k x y → within_of (cond b (Some w) (find_window desk k)) x y ≡ ((b && is_within w.w w.h x y) || on_desk desk k x y)
    go true same later =
        sym (or_false (is_within w.w w.h x y))
        ∙ ap (λ b. is_within w.w w.h x y || b) (sym (none_there desk k x y (subst (λ i. has_window desk i ≡ false) (eqb-true w.wid k same) (none_found w.wid desk (head_apart w desk apart)))))
    go false other later = later

module _ (have : PointsHave) where
  pub attach_owes : AttachOwes
  unfolding within_of
  attach_owes desk conn now a k x y desktop attaches =
      ap (λ (ss : List SourceSeen). owes_in (find_source ss k) a.out.packets x y) attaches.sources
      ∙ ap (λ (o : Option SourceSeen). owes_in o a.out.packets x y) (found_started conn now desk k) ∙ one (find_window desk k) ∙ found_within desk k x y desktop.distinct
    where
      one : (o : Option Window) → owes_in (option_map (started_source conn now) o) a.out.packets x y ≡ within_of o x y
      one None = refl
      one (Some w) =
          ap (λ b. is_within w.w w.h x y && ((b || false) || (relieve has_point w.wid a.out.packets x y || has (started_source conn now w).lossy x y))) (have w.w w.h (λ i j. true) x y)
          ∙ all_begins (is_within w.w w.h x y) (relieve has_point w.wid a.out.packets x y) (has (started_source conn now w).lossy x y)

  -- what the model says of a window, as a source and packets say it
  model_says : (s : SourceSeen) (numbers : List ℕ) (client : Option Grid) (ws : List Waiting) (packets : List Queued) (x y : ℕ) → packets_of ws ≡ packets → AllByRecursion Carries ws
      → source_owes s packets x y ≡ model_owes (Some (window_of s numbers client (waits_on s.wide s.high s.wid ws))) x y
  model_says s numbers client ws packets x y same carried = go (is_within s.wide s.high x y) refl
    where
      rest : Bool → Bool
      rest r = (has s.pending x y || jobs_relieve s.jobs x y) || (r || has s.lossy x y)

      go : (b : Bool) → is_within s.wide s.high x y ≡ b → source_owes s packets x y ≡ model_owes (Some (window_of s numbers client (waits_on s.wide s.high s.wid ws))) x y
      go true within = ap (λ r. is_within s.wide s.high x y && ((has s.pending x y || jobs_relieve s.jobs x y) || (r || has s.lossy x y)))
          (sym (relieves_same have s.wide s.high s.wid x y within ws carried ∙ ap (λ (ps : List Queued). relieve has_point s.wid ps x y) same))
      go false outside = rw outside refl

-- draws of another window relieve nothing of this one
none_drawn : (k wid x y : ℕ) (ws : List Waiting) → eqb k wid ≡ false → AllByRecursion (λ (w : Waiting). w.packet.wid ≡ Some wid) ws → relieve has_point k (packets_of ws) x y ≡ false
none_drawn k wid x y [] other own = refl
none_drawn k wid x y (w ∷ ws) other own =
    ap (λ (o : Option ℕ). (is_named o k && has_point w.packet.relief x y) || relieve has_point k (packets_of ws) x y) own.0
    ∙ ap (λ b. (b && has_point w.packet.relief x y) || relieve has_point k (packets_of ws) x y) (same_test wid k ∙ other)
    ∙ none_drawn k wid x y ws other own.1

module _ (finds : KeyedFinds SourceSeen) (have : PointsHave) (owing : EventsChangeOwed) where
  -- a source that is found has a window
  window_there : (o : Option Window) (s : SourceSeen) → AreOfOneSize o (Some s) → (w : Window) × (o ≡ Some w)
  window_there None s size = absurd size
  window_there (Some w) s size = (w, refl)

  pub capture_owes : CaptureOwes
  capture_owes desk were_opened window plan first a a' sent k x y there captures told =
      ap (λ (ss : List SourceSeen). owes_in (find_source ss k) a'.out.packets x y) captures.sources
      ∙ ap (λ (o : Outgoing (List Rectangle)). owes_in (find_source (keyed_change source_key a.sources window.wid f) k) o.packets x y) captures.out
      ∙ ap (λ (o : Option SourceSeen). owes_in o a.out.packets x y) (finds.changed source_key a.sources window.wid f k (λ s. refl)) ∙ go (eqb k window.wid) refl (find_source a.sources k) refl
    where
      f : SourceSeen → SourceSeen
      f s = source_of s.conn s.wid (captured plan first (window_of s window.pixels None []))

      one : (s : SourceSeen) → find_source a.sources window.wid ≡ Some s → source_owes (f s) a.out.packets x y ≡ source_owes s a.out.packets x y
      one s found =
          model_says have (f s) window.pixels client told.waiting a.out.packets x y told.bytes.packets told.bytes.carried
          ∙ owing lossy_shows (Capture plan first) (window_of s window.pixels client (waits_on s.wide s.high s.wid told.waiting)) planned kept x y
          ∙ sym (model_says have s window.pixels client told.waiting a.out.packets x y told.bytes.packets told.bytes.carried)
        where
          number_is : s.wid ≡ window.wid
          number_is = finds.found source_key a.sources window.wid s found

          client : Option Grid
          client = option_map grid_of (find_window told.windows window.wid)

          kept : IsKept (window_of s window.pixels client (waits_on s.wide s.high s.wid told.waiting))
          kept = subst (λ i. IsKept (window_of s window.pixels client (waits_on s.wide s.high i told.waiting))) (sym number_is) (told.delivered.kept window.wid window s there found)

          planned : IsCaptureOf (window_of s window.pixels client (waits_on s.wide s.high s.wid told.waiting)) plan
          planned = planned_then s plan window.pixels client (waits_on s.wide s.high s.wid told.waiting) (numbered_on window.wid a.out.packets)
              (busy_same s.wide s.high s.wid told.waiting told.bytes.carried ∙ ap (λ (ps : List Queued). is_busy (numbered_on s.wid ps)) told.bytes.packets ∙ ap (λ i. is_busy (numbered_on i a.out.packets)) number_is)
              (subst (λ (t : SourceSeen). IsCaptureOf (window_of t window.pixels None (numbered_on window.wid a.out.packets)) plan) (some_same _ _ (sym captures.found ∙ found)) captures.planned)

      go : (b : Bool) → eqb k window.wid ≡ b → (o : Option SourceSeen) → find_source a.sources k ≡ o → owes_in (cond b (option_map f o) o) a.out.packets x y ≡ owes_in (find_source a.sources k) a.out.packets x y
      go false is o found = ap (λ (p : Option SourceSeen). owes_in p a.out.packets x y) (sym found)
      go true is None found = ap (λ (p : Option SourceSeen). owes_in p a.out.packets x y) (sym found)
      go true is (Some s) found = one s (ap (find_source a.sources) (sym (eqb-true k window.wid is)) ∙ found) ∙ ap (λ (p : Option SourceSeen). owes_in p a.out.packets x y) (sym found)

  pub file_owes : FileOwes
  file_owes desk were_opened wid number capture now a a' sent k x y files told =
      ap (λ (ss : List SourceSeen). owes_in (find_source ss k) a'.out.packets x y) files.sources
      ∙ ap (λ (o : Option SourceSeen). owes_in o a'.out.packets x y) (constant_found s1 wid number_is a.sources k) ∙ go (eqb k wid) refl (find_source a.sources k) refl
    where
      s0 : SourceSeen
      s0 = files.source

      s1 : SourceSeen
      s1 = files.source'

      old_number : s0.wid ≡ wid
      old_number = finds.found source_key a.sources wid s0 files.found

      number_is : s1.wid ≡ wid
      number_is = files.wid_stays ∙ old_number

      window : (w : Window) × (find_window desk wid ≡ Some w)
      window = window_there (find_window desk wid) s0 (subst (AreOfOneSize (find_window desk wid)) files.found (told.delivered.sized wid))

      packets_then : packets_of (told.waiting ++ files.drawn) ≡ a'.out.packets
      packets_then =
          map-append (λ (w : Waiting). w.packet) told.waiting files.drawn ∙ ap (λ (ps : List Queued). ps ++ packets_of files.drawn) told.bytes.packets
          ∙ sym (ap (λ (o : Outgoing (List Rectangle)). o.packets) files.put)

      client : Option Grid
      client = option_map grid_of (find_window told.windows wid)

      kept : IsKept (window_of s0 window.0.pixels client (waits_on s0.wide s0.high wid told.waiting))
      kept = subst (λ i. IsKept (window_of s0 window.0.pixels (option_map grid_of (find_window told.windows i)) (waits_on s0.wide s0.high i told.waiting))) (window_number desk wid window.0 window.1)
          (told.delivered.kept wid window.0 s0 window.1 files.found)

      one : source_owes s1 a'.out.packets x y ≡ source_owes s0 a.out.packets x y
      one =
          model_says have s1 window.0.pixels client (told.waiting ++ files.drawn) a'.out.packets x y packets_then (all_append Carries told.waiting files.drawn told.bytes.carried files.carried)
          ∙ ap (λ i. model_owes (Some (window_of s1 window.0.pixels client (waits_on s1.wide s1.high i (told.waiting ++ files.drawn)))) x y) number_is
          ∙ ap (λ v. model_owes (Some (window_of s1 window.0.pixels client (waits_on v s1.high wid (told.waiting ++ files.drawn)))) x y) files.wide_stays
          ∙ ap (λ v. model_owes (Some (window_of s1 window.0.pixels client (waits_on s0.wide v wid (told.waiting ++ files.drawn)))) x y) files.high_stays
          ∙ ap (λ (ps : List Packet). model_owes (Some (window_of s1 window.0.pixels client ps)) x y) (waits_append s0.wide s0.high wid told.waiting files.drawn)
          ∙ ap (λ (w : Delivery). model_owes (Some w) x y) (files.event window.0.pixels client (waits_on s0.wide s0.high wid told.waiting))
          ∙ owing lossy_shows (File number capture now) (window_of s0 window.0.pixels client (waits_on s0.wide s0.high wid told.waiting)) tt kept x y
          ∙ ap (λ i. model_owes (Some (window_of s0 window.0.pixels client (waits_on s0.wide s0.high i told.waiting))) x y) (sym old_number)
          ∙ sym (model_says have s0 window.0.pixels client told.waiting a.out.packets x y told.bytes.packets told.bytes.carried)

      others : (s : SourceSeen) → eqb k wid ≡ false → s.wid ≡ k → source_owes s a'.out.packets x y ≡ source_owes s a.out.packets x y
      others s other is =
          ap (λ b. is_within s.wide s.high x y && ((has s.pending x y || jobs_relieve s.jobs x y) || (b || has s.lossy x y)))
          (ap (λ (o : Outgoing (List Rectangle)). relieve has_point s.wid o.packets x y) files.put
          ∙ list_any-append (λ (p : Queued). draws_in s.wid p && has_point p.relief x y) a.out.packets (packets_of files.drawn)
          ∙ ap (λ b. relieve has_point s.wid a.out.packets x y || b) (none_drawn s.wid wid x y files.drawn (ap (λ i. eqb i wid) is ∙ other) files.own)
          ∙ or_false (relieve has_point s.wid a.out.packets x y))

      go : (b : Bool) → eqb k wid ≡ b → (o : Option SourceSeen) → find_source a.sources k ≡ o → owes_in (cond b (option_map (λ s. s1) o) o) a'.out.packets x y ≡ owes_in (find_source a.sources k) a.out.packets x y
      go true is None found = ap (λ (p : Option SourceSeen). owes_in p a.out.packets x y) (sym found)
      go true is (Some s) found =
          one ∙ ap (λ (p : Option SourceSeen). owes_in p a.out.packets x y) (sym files.found ∙ ap (find_source a.sources) (sym (eqb-true k wid is)))
      go false is None found = ap (λ (p : Option SourceSeen). owes_in p a.out.packets x y) (sym found)
      go false is (Some s) found = others s is (finds.found source_key a.sources k s found) ∙ ap (λ (p : Option SourceSeen). owes_in p a.out.packets x y) (sym found)
