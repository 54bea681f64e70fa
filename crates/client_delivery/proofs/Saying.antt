-- What a client says of one window.
use Rattle.std.proofs.Common.{◌≡◌, ◌⊎◌, inl, inr, ℕ, Bool, true, false, List, [], ◌∷◌, ◌++◌, Option, Some, None, map, cond, eqb, refl, sym, ap, ◌∙◌, subst}
use Rattle.std.specs.Prelude.{ℤ}
use Rattle.std.specs.Option.{option_map}
use Rattle.std.specs.List.{AllByRecursion}
use Rattle.std.proofs.lemmas.List.{map-append}
use Rattle.xp_base.specs.Points.{Rectangle}
use Rattle.xp_base.specs.Keyed.{keyed_find, keyed_change}
use Rattle.xp_base.specs.KeyedLaws.{KeyedFinds, KeyedKeeps}
use Rattle.window_model.specs.Desktop.{Window, find_window}
use Rattle.delivery_model.specs.Grids.{Grid}
use Rattle.delivery_model.specs.Window.{Window as Delivery, Packet, Sent}
use Rattle.delivery_model.specs.Events.{Event, MapWindow, UnmapWindow, Recall, Acknowledge, BufferRefresh, changed, acknowledged_as, rect_sent}
use Rattle.delivery_model.specs.Kept.{IsKept}
use Rattle.delivery_model.specs.Laws.{EventsKeepTheForm}
use Rattle.window_source.specs.Source.{SourceSeen, window_of, source_of, alone, after}
use Rattle.window_source.specs.Waiting.{Waiting, waits_on, ReliefLies, lossy_shows}
use Rattle.client_delivery.specs.Attached.{source_key, find_source, grid_of}
use Rattle.client_delivery.specs.Delivered.{messages_of, IsLaidOut, concerns, loses, delivery, AreOfOneSize, IsDelivered, IsTold}
use Rattle.client_delivery.specs.Steps.{Quiet, Mapping, Unmapping, GivingBack, Acknowledging, Refreshing, quiet, changes_source, PutsAlone, structure}
use Rattle.client_delivery.specs.Keeping.{QuietKeeps}
use Rattle.client_delivery.proofs.Parts.{changed_cases, sized_changed}
use Rattle.std.proofs.lemmas.Bool.{eqb-true}

-- the model's event
event_of : Quiet → Event
event_of Mapping = MapWindow
event_of (Unmapping now) = UnmapWindow now
event_of (GivingBack now) = Recall now
event_of (Acknowledging number negative now) = Acknowledge number negative now
event_of (Refreshing now) = BufferRefresh now

quiet_kept : EventsKeepTheForm → (q : Quiet) (w : Delivery) → IsKept w → IsKept (quiet q w)
quiet_kept keeps Mapping w kept = keeps lossy_shows (Some w) MapWindow tt kept
quiet_kept keeps (Unmapping now) w kept = keeps lossy_shows (Some w) (UnmapWindow now) tt kept
quiet_kept keeps (GivingBack now) w kept = keeps lossy_shows (Some w) (Recall now) tt kept
quiet_kept keeps (Acknowledging number negative now) w kept = keeps lossy_shows (Some w) (Acknowledge number negative now) tt kept
quiet_kept keeps (Refreshing now) w kept = keeps lossy_shows (Some w) (BufferRefresh now) tt kept

-- it asks for no pixels and no packets, and leaves them
abbrev pub IsParted : (Delivery → Delivery) → SourceSeen → Type 0
IsParted event s = (numbers : List ℕ) (client : Option Grid) (packets : List Packet) → window_of (after event s) numbers client packets ≡ event (window_of s numbers client packets)

unmapped_parted : (s : SourceSeen) (now : ℕ) (b : Bool) → s.mapped ≡ b → IsParted (quiet (Unmapping now)) s
unmapped_parted s now true is = λ numbers client packets. rw is refl
unmapped_parted s now false is = λ numbers client packets. rw is refl

acknowledged_parted : (s : SourceSeen) (number now : ℕ) (negative : Bool) (r : Option Rectangle) → rect_sent s.unacknowledged number ≡ r → IsParted (quiet (Acknowledging number negative now)) s
acknowledged_parted s number now negative None is = λ numbers client packets. rw is refl
acknowledged_parted s number now true (Some r) is = λ numbers client packets. rw is refl
acknowledged_parted s number now false (Some r) is = λ numbers client packets. rw is refl

pub quiet_parted : (q : Quiet) (s : SourceSeen) → IsParted (quiet q) s
quiet_parted Mapping s = λ numbers client packets. refl
quiet_parted (Unmapping now) s = unmapped_parted s now s.mapped refl
quiet_parted (GivingBack now) s = λ numbers client packets. refl
quiet_parted (Acknowledging number negative now) s = acknowledged_parted s number now negative (rect_sent s.unacknowledged number) refl
quiet_parted (Refreshing now) s = λ numbers client packets. refl

unmapped_sized : (s : SourceSeen) (now : ℕ) (b : Bool) → s.mapped ≡ b → ((after (quiet (Unmapping now)) s).wide ≡ s.wide) × ((after (quiet (Unmapping now)) s).high ≡ s.high)
unmapped_sized s now true is = rw is (refl, refl)
unmapped_sized s now false is = rw is (refl, refl)

acknowledged_sized : (s : SourceSeen) (number now : ℕ) (negative : Bool) (r : Option Rectangle) → rect_sent s.unacknowledged number ≡ r
    → ((after (quiet (Acknowledging number negative now)) s).wide ≡ s.wide) × ((after (quiet (Acknowledging number negative now)) s).high ≡ s.high)
acknowledged_sized s number now negative None is = rw is (refl, refl)
acknowledged_sized s number now true (Some r) is = rw is (refl, refl)
acknowledged_sized s number now false (Some r) is = rw is (refl, refl)

pub quiet_sized : (q : Quiet) (s : SourceSeen) → ((after (quiet q) s).wide ≡ s.wide) × ((after (quiet q) s).high ≡ s.high)
quiet_sized Mapping s = (refl, refl)
quiet_sized (Unmapping now) s = unmapped_sized s now s.mapped refl
quiet_sized (GivingBack now) s = (refl, refl)
quiet_sized (Acknowledging number negative now) s = acknowledged_sized s number now negative (rect_sent s.unacknowledged number) refl
quiet_sized (Refreshing now) s = (refl, refl)

-- A source that changes alone, and keeps its window's form whatever the pixels, the client and the packets are.
pub source_changed : KeyedFinds SourceSeen → KeyedKeeps SourceSeen → (desk : List Window) (were_opened : ℕ → Bool) (k : ℕ) (f : SourceSeen → SourceSeen) (sources : List SourceSeen) (windows : List Window) (waiting : List Waiting)
    → ((s : SourceSeen) → (f s).wid ≡ s.wid) → ((s : SourceSeen) → ((f s).wide ≡ s.wide) × ((f s).high ≡ s.high))
    → ((window : Window) (s : SourceSeen) → find_window desk k ≡ Some window → find_source sources k ≡ Some s → IsKept (delivery window windows waiting s) → IsKept (delivery window windows waiting (f s)))
    → IsDelivered desk were_opened sources windows waiting → IsDelivered desk were_opened (keyed_change source_key sources k f) windows waiting
source_changed finds keeps desk were_opened k f sources windows waiting same_key same_size same_form d = record {
  laid = d.laid;
  distinct = keeps.changed source_key sources k f same_key d.distinct;
  sized = λ j. subst (AreOfOneSize (find_window desk j)) (sym (found j)) (sized_changed f same_size (find_window desk j) (eqb j k) (find_source sources j) (d.sized j));
  kept = λ j window s there is. kept j window s there (changed_cases f (eqb j k) (find_source sources j) s (sym (found j) ∙ is));
  lies = λ j s is. lies j s (changed_cases f (eqb j k) (find_source sources j) s (sym (found j) ∙ is));
  absent = d.absent;
  begun = d.begun;
  stays = d.stays;
}
  where
    found : (j : ℕ) → find_source (keyed_change source_key sources k f) j ≡ cond (eqb j k) (option_map f (find_source sources j)) (find_source sources j)
    found j = finds.changed source_key sources k f j same_key

    kept : (j : ℕ) (window : Window) (s : SourceSeen) → find_window desk j ≡ Some window
        → ((eqb j k ≡ true) × ((old : SourceSeen) × (find_source sources j ≡ Some old) × (f old ≡ s))) ⊎ ((eqb j k ≡ false) × (find_source sources j ≡ Some s)) → IsKept (delivery window windows waiting s)
    kept j window s there (inl here) =
        let at = eqb-true j k here.0 in
        subst (λ (t : SourceSeen). IsKept (delivery window windows waiting t)) here.1.2
        (same_form window here.1.0 (ap (find_window desk) (sym at) ∙ there) (ap (find_source sources) (sym at) ∙ here.1.1) (d.kept j window here.1.0 there here.1.1))
    kept j window s there (inr elsewhere) = d.kept j window s there elsewhere.1

    lies : (j : ℕ) (s : SourceSeen) → ((eqb j k ≡ true) × ((old : SourceSeen) × (find_source sources j ≡ Some old) × (f old ≡ s))) ⊎ ((eqb j k ≡ false) × (find_source sources j ≡ Some s))
        → AllByRecursion (ReliefLies s.wide s.high j) waiting
    lies j s (inl here) =
        subst (λ (t : SourceSeen). AllByRecursion (ReliefLies t.wide t.high j) waiting) here.1.2
        (subst (λ wide. AllByRecursion (ReliefLies wide (f here.1.0).high j) waiting) (sym (same_size here.1.0).0)
        (subst (λ high. AllByRecursion (ReliefLies here.1.0.wide high j) waiting) (sym (same_size here.1.0).1) (d.lies j here.1.0 here.1.1)))
    lies j s (inr elsewhere) = d.lies j s elsewhere.1

pub quiet_keeps : KeyedFinds SourceSeen → KeyedKeeps SourceSeen → EventsKeepTheForm → QuietKeeps
quiet_keeps finds keeps form desk were_opened k q a sent told = record {
  windows = told.windows;
  waiting = told.waiting;
  bytes = told.bytes;
  delivered = source_changed finds keeps desk were_opened k (after (quiet q)) a.sources told.windows told.waiting (λ s. refl) (quiet_sized q)
      (λ window s there is kept. still window s kept) told.delivered;
}
  where
    shown_of : Window → Option Grid
    shown_of window = option_map grid_of (find_window told.windows window.wid)

    still : (window : Window) (s : SourceSeen) → IsKept (delivery window told.windows told.waiting s) → IsKept (delivery window told.windows told.waiting (after (quiet q) s))
    still window s kept =
        subst (λ wide. IsKept (window_of (after (quiet q) s) window.pixels (shown_of window) (waits_on wide (after (quiet q) s).high window.wid told.waiting))) (sym (quiet_sized q s).0)
        (subst (λ high. IsKept (window_of (after (quiet q) s) window.pixels (shown_of window) (waits_on s.wide high window.wid told.waiting))) (sym (quiet_sized q s).1)
        (subst IsKept (sym (quiet_parted q s window.pixels (shown_of window) (waits_on s.wide s.high window.wid told.waiting))) (quiet_kept form q _ kept)))
