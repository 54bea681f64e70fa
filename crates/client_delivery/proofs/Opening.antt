-- A window is opened.
use Rattle.std.proofs.Common.{◌≡◌, ◌≢◌, ◌⊎◌, inl, inr, ℕ, Bool, true, false, List, [], ◌∷◌, ◌++◌, Option, Some, None, map, cond, eqb, refl, sym, ap, ◌∙◌, subst}
use Rattle.std.specs.Prelude.{ℤ, is_some}
use Rattle.std.specs.Option.{option_map}
use Rattle.std.specs.List.{AllByRecursion}
use Rattle.std.proofs.lemmas.List.{map-append}
use Rattle.std.proofs.lemmas.Bool.{eqb-true, cond-true, cond-false, false≢true}
use Rattle.xp_base.specs.KeyedLaws.{KeyedFinds, KeyedKeeps}
use Rattle.window_model.specs.Desktop.{Window, find_window, has_window, fresh_window, opened}
use Rattle.delivery_model.specs.Window.{Packet, NewWindow}
use Rattle.delivery_model.specs.Events.{Start, started}
use Rattle.delivery_model.specs.Kept.{IsKept}
use Rattle.delivery_model.specs.Laws.{EventsKeepTheForm}
use Rattle.packet_kinds.specs.declared.to_client.ToClient.{ToClient}
use Rattle.packet_kinds.specs.declared.to_client.ToClient.TheVariants as T
use Rattle.packet_kinds.specs.Laws.{MessageHasBytes}
use Rattle.window_source.specs.Source.{SourceSeen, window_of}
use Rattle.window_source.specs.Waiting.{Waiting, Carries, says_to, waits_on, ReliefLies, lossy_shows}
use Rattle.client_delivery.specs.Attached.{source_key, find_source, grid_of, started_source}
use Rattle.client_delivery.specs.Delivered.{messages_of, IsLaidOut, concerns, loses, delivery, AreOfOneSize, IsDelivered, IsTold}
use Rattle.client_delivery.specs.Steps.{Opens, structure}
use Rattle.client_delivery.specs.Keeping.{OpenKeeps}
use Rattle.client_delivery.proofs.Layouts.{laid_push, opens_same}
use Rattle.client_delivery.proofs.Queues.{put_one, all_append, all_weaker}
use Rattle.client_delivery.proofs.Parts.{waits_append, waits_same, waits_for_nothing, source_there, structure_lies, some_there, own, named_concerns, loses_concerns}

-- an item was there, or is the new one
pub pushed_cases : {A : Type 0} (b : Bool) (new : A) (o : Option A) (a : A) → cond b (Some new) o ≡ Some a → ((b ≡ true) × (new ≡ a)) ⊎ ((b ≡ false) × (o ≡ Some a))
pushed_cases true new o a is = inl (refl, cc is)
pushed_cases false new o a is = inr (refl, is)

-- a window as it is announced has the model's form
pub started_kept : EventsKeepTheForm → (conn now : ℕ) (window : Window) → IsKept (window_of (started_source conn now window) window.pixels None (NewWindow window.w window.h ∷ []))
started_kept form conn now window = form lossy_shows None (Start (grid_of window) now) tt tt

-- what waits relieves nothing of a window that nothing is on
pub unconcerned_lies : (wide high k : ℕ) (ws : List Waiting) → AllByRecursion Carries ws → AllByRecursion (λ (w : Waiting). concerns k w.message ≡ false) ws → AllByRecursion (ReliefLies wide high k) ws
unconcerned_lies wide high k [] carried none = tt
unconcerned_lies wide high k (w ∷ ws) carried none = (λ named. absurd (false≢true (sym none.0 ∙ named_concerns k w carried.0 named)), unconcerned_lies wide high k ws carried.1 none.1)

module _ (source_finds : KeyedFinds SourceSeen) (window_finds : KeyedFinds Window) (keeps : KeyedKeeps SourceSeen) (form : EventsKeepTheForm) (sized : MessageHasBytes) where
  pub open_keeps : OpenKeeps
  open_keeps desk old new wid x y w h conn now a a' sent is first opens told =
      subst (λ (sources : List SourceSeen). IsTold (opened desk wid x y w h) new (record a' { sources = sources }) sent) (sym opens.sources) (record {
        windows = told.windows;
        waiting = told.waiting ++ v ∷ [];
        bytes = put_one sized m a.out a'.out sent told.windows told.waiting opens.put told.bytes;
        delivered = record {
          laid = subst (IsLaidOut (opened desk wid x y w h) told.windows) (sym (map-append (λ (u : Waiting). u.message) told.waiting (v ∷ [])))
              (laid_push desk (opened desk wid x y w h) told.windows (messages_of told.waiting) m (opens_same desk wid x y w h missing) d.laid);
          distinct = keeps.pushed source_key a.sources source d.distinct no_source;
          sized = λ j. subst (λ (o : Option Window). AreOfOneSize o (find_source (a.sources ++ source ∷ []) j)) (sym (window_at j))
              (subst (λ (o : Option SourceSeen). AreOfOneSize (cond (eqb j wid) (Some window) (find_window desk j)) o) (sym (source_at j)) (sizes j (eqb j wid)));
          kept = λ j window' s there found. kept j window' s (pushed_cases (eqb j wid) window (find_window desk j) window' (sym (window_at j) ∙ there)) (pushed_cases (eqb j wid) source (find_source a.sources j) s (sym (source_at j) ∙ found));
          lies = λ j s found. all_append (ReliefLies s.wide s.high j) told.waiting (v ∷ []) (lies j s (pushed_cases (eqb j wid) source (find_source a.sources j) s (sym (source_at j) ∙ found)))
              (structure_lies s.wide s.high j opens.put.packet m refl opens.put.carries, tt);
          absent = λ j none. ((d.absent j (first.more j none)).0, all_append (λ (u : Waiting). concerns j u.message ≡ false) told.waiting (v ∷ []) (d.absent j (first.more j none)).1 (not_new j none, tt));
          begun = λ j there. begun j (new j) refl there;
          stays = λ j there. all_append (λ (u : Waiting). loses j u.message ≡ false) told.waiting (v ∷ []) (stays j (eqb j wid) refl (sym (ap is_some (window_at j)) ∙ there)) (refl, tt);
        };
      })
    where
      window : Window
      window = fresh_window wid x y w h

      source : SourceSeen
      source = started_source conn now window

      m : ToClient
      m = T.NewWindow wid x y w h

      v : Waiting
      v = structure opens.put.packet m

      d : IsDelivered desk old a.sources told.windows told.waiting
      d = told.delivered

      missing : has_window desk wid ≡ false
      missing = go (has_window desk wid) refl
        where
          go : (b : Bool) → has_window desk wid ≡ b → has_window desk wid ≡ false
          go false none = none
          go true there = absurd (false≢true (sym first.before ∙ d.begun wid there))

      no_source : is_some (find_source a.sources wid) ≡ false
      no_source = source_there (find_window desk wid) (find_source a.sources wid) (d.sized wid) ∙ missing

      window_at : (j : ℕ) → find_window (opened desk wid x y w h) j ≡ cond (eqb j wid) (Some window) (find_window desk j)
      window_at j = window_finds.pushed (λ (u : Window). u.wid) desk window j missing

      source_at : (j : ℕ) → find_source (a.sources ++ source ∷ []) j ≡ cond (eqb j wid) (Some source) (find_source a.sources j)
      source_at j = source_finds.pushed source_key a.sources source j no_source

      sizes : (j : ℕ) (b : Bool) → AreOfOneSize (cond b (Some window) (find_window desk j)) (cond b (Some source) (find_source a.sources j))
      sizes j true = (refl, refl)
      sizes j false = d.sized j

      fresh_waits : (wide high : ℕ) → waits_on wide high wid (told.waiting ++ v ∷ []) ≡ NewWindow w h ∷ []
      fresh_waits wide high =
          waits_append wide high wid told.waiting (v ∷ [])
          ∙ ap (λ (ps : List Packet). ps ++ (cond (eqb wid wid) (NewWindow w h ∷ []) [] ++ [])) (waits_for_nothing wide high wid told.waiting (d.absent wid first.before).1)
          ∙ ap (λ b. cond b (NewWindow w h ∷ []) [] ++ []) (own wid)

      kept : (j : ℕ) (window' : Window) (s : SourceSeen) → ((eqb j wid ≡ true) × (window ≡ window')) ⊎ ((eqb j wid ≡ false) × (find_window desk j ≡ Some window'))
          → ((eqb j wid ≡ true) × (source ≡ s)) ⊎ ((eqb j wid ≡ false) × (find_source a.sources j ≡ Some s)) → IsKept (delivery window' told.windows (told.waiting ++ v ∷ []) s)
      kept j window' s (inl here) (inl new) =
          subst (λ (u : Window). IsKept (delivery u told.windows (told.waiting ++ v ∷ []) s)) here.1
          (subst (λ (t : SourceSeen). IsKept (delivery window told.windows (told.waiting ++ v ∷ []) t)) new.1
          (subst (λ (ps : List Packet). IsKept (window_of source window.pixels (option_map grid_of (find_window told.windows wid)) ps)) (sym (fresh_waits w h))
          (subst (λ (o : Option Window). IsKept (window_of source window.pixels (option_map grid_of o) (NewWindow w h ∷ []))) (sym (d.absent wid first.before).0) (started_kept form conn now window))))
      kept j window' s (inl here) (inr old) = absurd (false≢true (sym old.0 ∙ here.0))
      kept j window' s (inr there) (inl new) = absurd (false≢true (sym there.0 ∙ new.0))
      kept j window' s (inr there) (inr old) =
          subst (λ (ps : List Packet). IsKept (window_of s window'.pixels (option_map grid_of (find_window told.windows window'.wid)) ps))
          (sym (waits_same s.wide s.high window'.wid told.waiting v (cond-false (eqb window'.wid wid) (NewWindow w h ∷ []) [] (ap (λ k. eqb k wid) (window_finds.found (λ (u : Window). u.wid) desk j window' there.1) ∙ there.0))))
          (d.kept j window' s there.1 old.1)

      lies : (j : ℕ) (s : SourceSeen) → ((eqb j wid ≡ true) × (source ≡ s)) ⊎ ((eqb j wid ≡ false) × (find_source a.sources j ≡ Some s)) → AllByRecursion (ReliefLies s.wide s.high j) told.waiting
      lies j s (inl here) = unconcerned_lies s.wide s.high j told.waiting told.bytes.carried
          (subst (λ k. AllByRecursion (λ (u : Waiting). concerns k u.message ≡ false) told.waiting) (sym (eqb-true j wid here.0)) (d.absent wid first.before).1)
      lies j s (inr there) = d.lies j s there.1

      not_new : (j : ℕ) → new j ≡ false → eqb j wid ≡ false
      not_new j none = go (eqb j wid) refl
        where
          go : (b : Bool) → eqb j wid ≡ b → eqb j wid ≡ false
          go false other = other
          go true same = absurd (false≢true (sym none ∙ ap new (eqb-true j wid same) ∙ first.after))

      begun : (j : ℕ) (b : Bool) → new j ≡ b → has_window (opened desk wid x y w h) j ≡ true → b ≡ true
      begun j true is there = refl
      begun j false is there =
          let old_there : has_window desk j ≡ true = sym (ap is_some (window_at j ∙ cond-false (eqb j wid) (Some window) (find_window desk j) (not_new j is))) ∙ there in
          absurd (false≢true (sym (first.more j is) ∙ d.begun j old_there))

      stays : (j : ℕ) (b : Bool) → eqb j wid ≡ b → is_some (cond (eqb j wid) (Some window) (find_window desk j)) ≡ true → AllByRecursion (λ (u : Waiting). loses j u.message ≡ false) told.waiting
      stays j true is there = all_weaker _ _ (λ (u : Waiting) none. loses_concerns j u.message none) told.waiting
          (subst (λ k. AllByRecursion (λ (u : Waiting). concerns k u.message ≡ false) told.waiting) (sym (eqb-true j wid is)) (d.absent wid first.before).1)
      stays j false is there = d.stays j (sym (ap is_some (cond-false (eqb j wid) (Some window) (find_window desk j) is)) ∙ there)
