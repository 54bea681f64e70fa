-- Messages that are nothing to the model: a window has another place, or is on top.
use Rattle.std.proofs.Common.{◌≡◌, ◌⊎◌, inl, inr, ℕ, Bool, true, false, List, [], ◌∷◌, ◌++◌, Option, Some, None, map, cond, eqb, refl, sym, ap, ◌∙◌, subst}
use Rattle.std.specs.Prelude.{ℤ, is_some}
use Rattle.std.specs.Option.{option_map}
use Rattle.std.specs.List.{AllByRecursion}
use Rattle.std.proofs.lemmas.List.{map-append}
use Rattle.std.proofs.lemmas.Bool.{eqb-true}
use Rattle.xp_base.specs.KeyedLaws.{KeyedFinds}
use Rattle.window_model.specs.Desktop.{Window, find_window, has_window, moved_on, moved_window, raised}
use Rattle.window_model.specs.Geometry.{Geometry, geometry_of}
use Rattle.delivery_model.specs.Window.{Packet}
use Rattle.delivery_model.specs.Kept.{IsKept}
use Rattle.packet_kinds.specs.declared.to_client.ToClient.{ToClient}
use Rattle.packet_kinds.specs.declared.to_client.ToClient.TheVariants as T
use Rattle.packet_kinds.specs.Laws.{MessageHasBytes}
use Rattle.window_source.specs.Source.{SourceSeen, window_of}
use Rattle.window_source.specs.Waiting.{Waiting, says_to, waits_on, ReliefLies}
use Rattle.client_delivery.specs.Attached.{source_key, find_source, grid_of}
use Rattle.client_delivery.specs.Delivered.{messages_of, IsLaidOut, concerns, loses, is_draw, delivery, AreOfOneSize, IsDelivered, IsTold}
use Rattle.client_delivery.specs.Steps.{PutsAlone, structure}
use Rattle.client_delivery.specs.Keeping.{AnswerKeeps, MoveKeeps, RaiseKeeps}
use Rattle.client_delivery.proofs.Layouts.{AfterSame, laid_push, answers_same, moves_same, raises_same}
use Rattle.client_delivery.proofs.Queues.{put_one, all_append}
use Rattle.client_delivery.proofs.Parts.{waits_same, changed_cases, sized_alike, structure_lies, other_number, some_there}

-- a window with the pixels and the number of one that was there
abbrev pub WasThere : List Window → ℕ → Window → Type 0
WasThere desk j window' = (window : Window) × (find_window desk j ≡ Some window) × (window.pixels ≡ window'.pixels) × (window.wid ≡ window'.wid)

-- a message that is nothing to the model, and what becomes of the desktop meanwhile
pub record IsNothing (desk desk' : List Window) (were_opened : ℕ → Bool) (m : ToClient) : Type 0 where
  pub plain : is_draw m ≡ false
  pub same : AfterSame desk desk' m
  pub nothing : (wide high j : ℕ) (w : Waiting) → says_to wide high j w m ≡ []
  pub was : (j : ℕ) (window' : Window) → find_window desk' j ≡ Some window' → WasThere desk j window'
  pub sizes : (j : ℕ) (s : Option SourceSeen) → AreOfOneSize (find_window desk j) s → AreOfOneSize (find_window desk' j) s
  pub others : (j : ℕ) → were_opened j ≡ false → concerns j m ≡ false
  pub keeps : (j : ℕ) → loses j m ≡ false

pub nothing_keeps : MessageHasBytes → (desk desk' : List Window) (were_opened : ℕ → Bool) (m : ToClient) (a a' : _) (sent : List ℕ) → IsNothing desk desk' were_opened m → PutsAlone m a a'
    → IsTold desk were_opened a sent → IsTold desk' were_opened a' sent
nothing_keeps sized desk desk' were_opened m a a' sent is put told =
    subst (λ (sources : List SourceSeen). IsTold desk' were_opened (record a' { sources = sources }) sent) (sym put.sources) (record {
      windows = told.windows;
      waiting = told.waiting ++ w ∷ [];
      bytes = put_one sized m a.out a'.out sent told.windows told.waiting put.put told.bytes;
      delivered = record {
        laid = subst (IsLaidOut desk' told.windows) (sym (map-append (λ (v : Waiting). v.message) told.waiting (w ∷ []))) (laid_push desk desk' told.windows (messages_of told.waiting) m is.same d.laid);
        distinct = d.distinct;
        sized = λ j. is.sizes j (find_source a.sources j) (d.sized j);
        kept = λ j window' s there found. kept j window' s found (is.was j window' there);
        lies = λ j s found. all_append (ReliefLies s.wide s.high j) told.waiting (w ∷ []) (d.lies j s found) (structure_lies s.wide s.high j put.put.packet m is.plain put.put.carries, tt);
        absent = λ j none. ((d.absent j none).0, all_append (λ (v : Waiting). concerns j v.message ≡ false) told.waiting (w ∷ []) (d.absent j none).1 (is.others j none, tt));
        begun = λ j there. d.begun j (was_there j there);
        stays = λ j there. all_append (λ (v : Waiting). loses j v.message ≡ false) told.waiting (w ∷ []) (d.stays j (was_there j there)) (is.keeps j, tt);
      };
    })
  where
    w : Waiting
    w = structure put.put.packet m

    d : IsDelivered desk were_opened a.sources told.windows told.waiting
    d = told.delivered

    kept : (j : ℕ) (window' : Window) (s : SourceSeen) → find_source a.sources j ≡ Some s → WasThere desk j window' → IsKept (delivery window' told.windows (told.waiting ++ w ∷ []) s)
    kept j window' s found was =
        subst (λ (ps : List Packet). IsKept (window_of s window'.pixels (option_map grid_of (find_window told.windows window'.wid)) ps)) (sym (waits_same s.wide s.high window'.wid told.waiting w (is.nothing s.wide s.high window'.wid w)))
        (subst (λ (pixels : List ℕ). IsKept (window_of s pixels (option_map grid_of (find_window told.windows window'.wid)) (waits_on s.wide s.high window'.wid told.waiting))) was.2
        (subst (λ wid. IsKept (window_of s was.0.pixels (option_map grid_of (find_window told.windows wid)) (waits_on s.wide s.high wid told.waiting))) was.3 (d.kept j was.0 s was.1 found)))

    was_there : (j : ℕ) → has_window desk' j ≡ true → has_window desk j ≡ true
    was_there j there = go (find_window desk' j) refl there
      where
        go : (o : Option Window) → find_window desk' j ≡ o → is_some o ≡ true → has_window desk j ≡ true
        go None is_none none = absurd (cc none)
        go (Some window') found some = let was = is.was j window' found in some_there (find_window desk j) was.0 was.1

-- an answer to a ping
pub answer_keeps : MessageHasBytes → AnswerKeeps
answer_keeps sized desk were_opened t a a' sent put told = nothing_keeps sized desk desk were_opened (T.PingEcho t) a a' sent (record {
  plain = refl;
  same = answers_same desk t;
  nothing = λ wide high j w. refl;
  was = λ j window there. (window, there, refl, refl);
  sizes = λ j s sized. sized;
  others = λ j none. refl;
  keeps = λ j. refl;
}) put told

opened_window : (desk : List Window) (were_opened : ℕ → Bool) (window : Window) → ((k : ℕ) → has_window desk k ≡ true → were_opened k ≡ true) → find_window desk window.wid ≡ Some window → were_opened window.wid ≡ true
opened_window desk were_opened window begun there = begun window.wid (some_there (find_window desk window.wid) window there)

-- another place
pub move_keeps : KeyedFinds Window → MessageHasBytes → MoveKeeps
move_keeps finds sized desk were_opened window x y a a' sent desktop there put told = nothing_keeps sized desk (moved_on desk window.wid x y) were_opened (T.WindowMoveResize window.wid x y window.w window.h) a a' sent (record {
  plain = refl;
  same = moves_same desk window.wid x y window.w window.h;
  nothing = λ wide high j w. refl;
  was = λ j window' found. moved j window' (changed_cases (moved_window x y) (eqb j window.wid) (find_window desk j) window' (sym (found_at j) ∙ found));
  sizes = λ j s size. subst (λ (o : Option Window). AreOfOneSize o s) (sym (found_at j)) (sizes (eqb j window.wid) (find_window desk j) s size);
  others = λ j none. other_number were_opened j window.wid none (opened_window desk were_opened window told.delivered.begun there);
  keeps = λ j. refl;
}) put told
  where
    found_at : (j : ℕ) → find_window (moved_on desk window.wid x y) j ≡ cond (eqb j window.wid) (option_map (moved_window x y) (find_window desk j)) (find_window desk j)
    found_at j = finds.changed (λ (w : Window). w.wid) desk window.wid (moved_window x y) j (λ w. refl)

    moved : (j : ℕ) (window' : Window) → ((eqb j window.wid ≡ true) × ((old : Window) × (find_window desk j ≡ Some old) × (moved_window x y old ≡ window'))) ⊎ ((eqb j window.wid ≡ false) × (find_window desk j ≡ Some window'))
        → WasThere desk j window'
    moved j window' (inl here) = (here.1.0, here.1.1, ap (λ (w : Window). w.pixels) here.1.2, ap (λ (w : Window). w.wid) here.1.2)
    moved j window' (inr elsewhere) = (window', elsewhere.1, refl, refl)

    sizes : (b : Bool) (o : Option Window) (s : Option SourceSeen) → AreOfOneSize o s → AreOfOneSize (cond b (option_map (moved_window x y) o) o) s
    sizes false o s size = size
    sizes true None s size = size
    sizes true (Some w) None size = size
    sizes true (Some w) (Some s) size = size

-- on top
pub raise_keeps : KeyedFinds Window → MessageHasBytes → RaiseKeeps
raise_keeps finds sized desk were_opened window a a' sent desktop there put told = nothing_keeps sized desk (raised desk window.wid) were_opened (T.RaiseWindow window.wid) a a' sent (record {
  plain = refl;
  same = raises_same desk window.wid;
  nothing = λ wide high j w. refl;
  was = λ j window' found. (window', sym (found_at j) ∙ found, refl, refl);
  sizes = λ j s size. subst (λ (o : Option Window). AreOfOneSize o s) (sym (found_at j)) size;
  others = λ j none. other_number were_opened j window.wid none (opened_window desk were_opened window told.delivered.begun there);
  keeps = λ j. refl;
}) put told
  where
    found_at : (j : ℕ) → find_window (raised desk window.wid) j ≡ find_window desk j
    found_at j = finds.moved (λ (w : Window). w.wid) desk window.wid j
