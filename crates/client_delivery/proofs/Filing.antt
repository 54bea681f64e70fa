-- A result is filed.
use Rattle.std.proofs.Common.{◌≡◌, ◌⊎◌, inl, inr, ℕ, Bool, true, false, List, [], ◌∷◌, ◌++◌, Option, Some, None, map, cond, eqb, refl, sym, ap, ◌∙◌, subst}
use Rattle.std.specs.Option.{option_map}
use Rattle.std.specs.List.{AllByRecursion}
use Rattle.std.proofs.lemmas.Bool.{eqb-true, eqb-false}
use Rattle.std.proofs.lemmas.List.{map-append, append-nil, append_assoc}
use Rattle.xp_base.specs.Captures.{Captured}
use Rattle.xp_base.specs.Keyed.{keyed_change}
use Rattle.xp_base.specs.KeyedLaws.{KeyedFinds, KeyedKeeps}
use Rattle.window_model.specs.Desktop.{Window, find_window, has_window}
use Rattle.delivery_model.specs.Grids.{Grid}
use Rattle.delivery_model.specs.Window.{Packet}
use Rattle.delivery_model.specs.Events.{File, filed}
use Rattle.delivery_model.specs.Kept.{IsKept}
use Rattle.delivery_model.specs.Laws.{EventsKeepTheForm}
use Rattle.packet_kinds.specs.declared.to_client.ToClient.{ToClient}
use Rattle.packet_kinds.specs.declared.to_client.ToClient.TheVariants as T
use Rattle.packet_kinds.specs.Laws.{MessageHasBytes}
use Rattle.client_outbox.specs.declared.draw.Draw.{Draw}
use Rattle.window_source.specs.Source.{SourceSeen, window_of}
use Rattle.window_source.specs.Waiting.{Queued, Waiting, IsDraw, Carries, says_to, waits_on, ReliefLies, lossy_shows}
use Rattle.client_delivery.specs.Attached.{source_key, find_source, grid_of}
use Rattle.client_delivery.specs.Delivered.{messages_of, IsLaidOut, concerns, loses, delivery, AreOfOneSize, IsOnItsWay, IsDelivered, IsTold}
use Rattle.client_delivery.specs.Steps.{Files}
use Rattle.client_delivery.specs.Keeping.{FileKeeps}
use Rattle.client_delivery.proofs.Grids.{some_same}
use Rattle.client_delivery.proofs.Layouts.{AfterSame, laid_push, draws_same}
use Rattle.client_delivery.proofs.Queues.{put_more, all_append}
use Rattle.client_delivery.proofs.Parts.{Was, waits_append, waits_for_nothing, changed_cases, sized_changed, source_there, some_there, other_number, named_elsewhere}

-- a draw leaves numbers, places and sizes
draw_same : (desk : List Window) (k : ℕ) (w : Waiting) → w.packet.wid ≡ Some k → Carries w → AfterSame desk desk w.message × (loses k w.message ≡ false)
draw_same desk k w named carries = go w.packet.wid w.packet.draw w.message named carries.draw
  where
    go : (wid : Option ℕ) (draw : Option Draw) (m : ToClient) → wid ≡ Some k → IsDraw wid draw w.pixels m → AfterSame desk desk m × (loses k m ≡ false)
    go None draw m named is = absurd (cc named)
    go (Some j) None m named is = absurd is
    go (Some j) (Some d) (T.Hello caps) named is = absurd is
    go (Some j) (Some d) (T.NewWindow wid x y w h) named is = absurd is
    go (Some j) (Some d) (T.LostWindow wid) named is = absurd is
    go (Some j) (Some d) (T.WindowResized wid w h) named is = absurd is
    go (Some j) (Some d) (T.WindowMoveResize wid x y w h) named is = absurd is
    go (Some j) (Some d) (T.RaiseWindow wid) named is = absurd is
    go (Some j) (Some d) (T.Draw wid x y w h coding bytes sequence stride) named is = (draws_same desk wid x y w h coding bytes sequence stride is.5, refl)
    go (Some j) (Some d) (T.PingEcho t) named is = absurd is
    go (Some j) (Some d) (T.Disconnect reason) named is = absurd is
    go (Some j) (Some d) T.Other named is = absurd is

-- so do several
laid_draws : (desk windows : List Window) (k : ℕ) (ms : List ToClient) (ws : List Waiting) → AllByRecursion Carries ws → AllByRecursion (λ (w : Waiting). w.packet.wid ≡ Some k) ws
    → IsLaidOut desk windows ms → IsLaidOut desk windows (ms ++ messages_of ws)
laid_draws desk windows k ms [] carried own laid = subst (IsLaidOut desk windows) (sym (append-nil ms)) laid
laid_draws desk windows k ms (w ∷ ws) carried own laid =
    subst (IsLaidOut desk windows) (append_assoc ms (w.message ∷ []) (messages_of ws))
    (laid_draws desk windows k (ms ++ w.message ∷ []) ws carried.1 own.1 (laid_push desk desk windows ms w.message (draw_same desk k w own.0 carried.0).0 laid))

none_concerned : (j k : ℕ) (ws : List Waiting) → eqb j k ≡ false → AllByRecursion Carries ws → AllByRecursion (λ (w : Waiting). w.packet.wid ≡ Some k) ws → AllByRecursion (λ (w : Waiting). concerns j w.message ≡ false) ws
none_concerned j k [] other carried own = tt
none_concerned j k (w ∷ ws) other carried own = (named_elsewhere j k w carried.0 own.0 other, none_concerned j k ws other carried.1 own.1)

none_lost : (desk : List Window) (j k : ℕ) (ws : List Waiting) → AllByRecursion Carries ws → AllByRecursion (λ (w : Waiting). w.packet.wid ≡ Some k) ws → AllByRecursion (λ (w : Waiting). loses j w.message ≡ false) ws
none_lost desk j k [] carried own = tt
none_lost desk j k (w ∷ ws) carried own = (one w.packet.wid w.packet.draw w.message own.0 carried.0.draw, none_lost desk j k ws carried.1 own.1)
  where
    one : (wid : Option ℕ) (draw : Option Draw) (m : ToClient) → wid ≡ Some k → IsDraw wid draw w.pixels m → loses j m ≡ false
    one None draw m named is = absurd (cc named)
    one (Some i) None m named is = absurd is
    one (Some i) (Some d) (T.Hello caps) named is = refl
    one (Some i) (Some d) (T.NewWindow wid x y w h) named is = refl
    one (Some i) (Some d) (T.LostWindow wid) named is = absurd is
    one (Some i) (Some d) (T.WindowResized wid w h) named is = refl
    one (Some i) (Some d) (T.WindowMoveResize wid x y w h) named is = refl
    one (Some i) (Some d) (T.RaiseWindow wid) named is = refl
    one (Some i) (Some d) (T.Draw wid x y w h coding bytes sequence stride) named is = refl
    one (Some i) (Some d) (T.PingEcho t) named is = refl
    one (Some i) (Some d) (T.Disconnect reason) named is = refl
    one (Some i) (Some d) T.Other named is = refl

lies_elsewhere : (wide high j k : ℕ) (ws : List Waiting) → eqb j k ≡ false → AllByRecursion (λ (w : Waiting). w.packet.wid ≡ Some k) ws → AllByRecursion (ReliefLies wide high j) ws
lies_elsewhere wide high j k [] other own = tt
lies_elsewhere wide high j k (w ∷ ws) other own = (λ named. absurd (not_both j k other (some_same _ _ (sym named ∙ own.0))), lies_elsewhere wide high j k ws other own.1)
  where
    not_both : (a b : ℕ) → eqb a b ≡ false → a ≡ b → ⊥
    not_both a b differs is = eqb-false a b differs is

pub window_number : (desk : List Window) (j : ℕ) (window : Window) → find_window desk j ≡ Some window → window.wid ≡ j
window_number [] j window found = absurd (cc found)
window_number (w ∷ desk) j window found = go (eqb w.wid j) refl found (window_number desk j window)
  where
    go : (b : Bool) → eqb w.wid j ≡ b → cond b (Some w) (find_window desk j) ≡ Some window → (find_window desk j ≡ Some window → window.wid ≡ j) → window.wid ≡ j
    go true is found later = ap (λ (u : Window). u.wid) (sym (some_same _ _ found)) ∙ eqb-true w.wid j is
    go false is found later = later found

module _ (finds : KeyedFinds SourceSeen) (keeps : KeyedKeeps SourceSeen) (form : EventsKeepTheForm) (sized : MessageHasBytes) where
  pub file_keeps : FileKeeps
  file_keeps desk were_opened k number capture now a a' sent files told =
      subst (λ (sources : List SourceSeen). IsTold desk were_opened (record a' { sources = sources }) sent) (sym (files.sources ∙ sources_are)) (record {
        windows = told.windows;
        waiting = told.waiting ++ files.drawn;
        bytes = subst (λ (o : _). IsOnItsWay o sent told.windows (told.waiting ++ files.drawn)) (sym files.put) (put_more sized a.out sent told.windows told.waiting files.drawn files.carried told.bytes);
        delivered = record {
          laid = subst (IsLaidOut desk told.windows) (sym (map-append (λ (u : Waiting). u.message) told.waiting files.drawn)) (laid_draws desk told.windows k (messages_of told.waiting) files.drawn files.carried files.own d.laid);
          distinct = keeps.changed source_key a.sources k f (λ s. refl) d.distinct;
          sized = λ j. subst (AreOfOneSize (find_window desk j)) (sym (source_at j)) (sized_changed f (λ s. (refl, refl)) (find_window desk j) (eqb j k) (find_source a.sources j) (d.sized j));
          kept = λ j window s there found. kept j window s there (changed_cases f (eqb j k) (find_source a.sources j) s (sym (source_at j) ∙ found));
          lies = λ j s found. lies j s (changed_cases f (eqb j k) (find_source a.sources j) s (sym (source_at j) ∙ found));
          absent = λ j none. (
            (d.absent j none).0,
            all_append (λ (u : Waiting). concerns j u.message ≡ false) told.waiting files.drawn (d.absent j none).1
                (none_concerned j k files.drawn (other_number were_opened j k none opened) files.carried files.own),
          );
          begun = d.begun;
          stays = λ j there. all_append (λ (u : Waiting). loses j u.message ≡ false) told.waiting files.drawn (d.stays j there) (none_lost desk j k files.drawn files.carried files.own);
        };
      })
    where
      s0 : SourceSeen
      s0 = files.source

      s1 : SourceSeen
      s1 = files.source'

      d : IsDelivered desk were_opened a.sources told.windows told.waiting
      d = told.delivered

      f : SourceSeen → SourceSeen
      f s = record s1 { wid = s.wid; wide = s.wide; high = s.high }

      same : s1 ≡ f s0
      same = λ i. record s1 { wid = files.wid_stays i; wide = files.wide_stays i; high = files.high_stays i }

      sources_are : keyed_change source_key a.sources k (λ s. s1) ≡ keyed_change source_key a.sources k f
      sources_are = finds.alike source_key a.sources k s0 (λ s. s1) f d.distinct files.found same

      opened : were_opened k ≡ true
      opened = d.begun k (sym (source_there (find_window desk k) (find_source a.sources k) (d.sized k)) ∙ some_there (find_source a.sources k) s0 files.found)

      source_at : (j : ℕ) → find_source (keyed_change source_key a.sources k f) j ≡ cond (eqb j k) (option_map f (find_source a.sources j)) (find_source a.sources j)
      source_at j = finds.changed source_key a.sources k f j (λ s. refl)

      event : (window : Window) → find_window desk k ≡ Some window → window.wid ≡ k → IsKept (delivery window told.windows (told.waiting ++ files.drawn) (f s0))
      event window there at =
          subst (λ (s : SourceSeen). IsKept (window_of s window.pixels shown_of (waits_on s0.wide s0.high window.wid (told.waiting ++ files.drawn)))) same
          (subst (λ i. IsKept (window_of s1 window.pixels shown_of (waits_on s0.wide s0.high i (told.waiting ++ files.drawn)))) (sym at)
          (subst (λ (ps : List Packet). IsKept (window_of s1 window.pixels shown_of ps)) (sym (waits_append s0.wide s0.high k told.waiting files.drawn))
          (subst IsKept (sym (files.event window.pixels shown_of (waits_on s0.wide s0.high k told.waiting)))
          (form lossy_shows (Some (window_of s0 window.pixels shown_of (waits_on s0.wide s0.high k told.waiting))) (File number capture now) tt
          (subst (λ i. IsKept (window_of s0 window.pixels shown_of (waits_on s0.wide s0.high i told.waiting))) at (d.kept k window s0 there files.found))))))
        where
          shown_of : Option Grid
          shown_of = option_map grid_of (find_window told.windows window.wid)

      kept : (j : ℕ) (window : Window) (s : SourceSeen) → find_window desk j ≡ Some window → Was k f j (find_source a.sources j) s → IsKept (delivery window told.windows (told.waiting ++ files.drawn) s)
      kept j window s there (inl here) =
          let at : j ≡ k = eqb-true j k here.0 in
          let is : s0 ≡ here.1.0 = some_same _ _ (sym files.found ∙ sym (ap (find_source a.sources) at) ∙ here.1.1) in
          subst (λ (t : SourceSeen). IsKept (delivery window told.windows (told.waiting ++ files.drawn) t)) (ap f is ∙ here.1.2)
          (event window (ap (find_window desk) (sym at) ∙ there) (window_number desk j window there ∙ at))
      kept j window s there (inr other) =
          let elsewhere : eqb window.wid k ≡ false = ap (λ i. eqb i k) (window_number desk j window there) ∙ other.0 in
          subst (λ (ps : List Packet). IsKept (window_of s window.pixels (option_map grid_of (find_window told.windows window.wid)) ps))
          (sym (waits_append s.wide s.high window.wid told.waiting files.drawn
          ∙ ap (λ (ps : List Packet). waits_on s.wide s.high window.wid told.waiting ++ ps) (waits_for_nothing s.wide s.high window.wid files.drawn (none_concerned window.wid k files.drawn elsewhere files.carried files.own))
          ∙ append-nil (waits_on s.wide s.high window.wid told.waiting)))
          (d.kept j window s there other.1)

      lies : (j : ℕ) (s : SourceSeen) → Was k f j (find_source a.sources j) s → AllByRecursion (ReliefLies s.wide s.high j) (told.waiting ++ files.drawn)
      lies j s (inl here) =
          let at : j ≡ k = eqb-true j k here.0 in
          let is : s0 ≡ here.1.0 = some_same _ _ (sym files.found ∙ sym (ap (find_source a.sources) at) ∙ here.1.1) in
          subst (λ (t : SourceSeen). AllByRecursion (ReliefLies t.wide t.high j) (told.waiting ++ files.drawn)) (ap f is ∙ here.1.2)
          (all_append (ReliefLies s0.wide s0.high j) told.waiting files.drawn (d.lies j s0 (ap (find_source a.sources) at ∙ files.found)) (subst (λ i. AllByRecursion (ReliefLies s0.wide s0.high i) files.drawn) (sym at) files.lies))
      lies j s (inr other) = all_append (ReliefLies s.wide s.high j) told.waiting files.drawn (d.lies j s other.1) (lies_elsewhere s.wide s.high j k files.drawn other.0 files.own)
