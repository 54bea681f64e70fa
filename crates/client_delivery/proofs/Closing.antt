-- A window is closed.
use Rattle.std.proofs.Common.{◌≡◌, ◌⊎◌, inl, inr, ℕ, Bool, true, false, List, [], ◌∷◌, ◌++◌, Option, Some, None, map, cond, eqb, refl, sym, ap, ◌∙◌, subst}
use Rattle.std.specs.Prelude.{ℤ, is_some}
use Rattle.std.specs.Option.{option_map}
use Rattle.std.specs.List.{AllByRecursion}
use Rattle.std.proofs.lemmas.List.{map-append}
use Rattle.std.proofs.lemmas.Bool.{cond-true, cond-false, false≢true}
use Rattle.xp_base.specs.Points.{Rectangle}
use Rattle.xp_base.specs.Keyed.{keyed_remove}
use Rattle.xp_base.specs.KeyedLaws.{KeyedFinds, KeyedKeeps}
use Rattle.rect_regions.specs.PointSets.{has}
use Rattle.window_model.specs.Desktop.{Window, find_window, has_window, without_window}
use Rattle.delivery_model.specs.Window.{Packet}
use Rattle.delivery_model.specs.Kept.{IsKept}
use Rattle.packet_kinds.specs.declared.to_client.ToClient.{ToClient}
use Rattle.packet_kinds.specs.declared.to_client.ToClient.TheVariants as T
use Rattle.packet_kinds.specs.Laws.{MessageHasBytes}
use Rattle.client_outbox.specs.Reliefs.{Emptied, ReliefsChange}
use Rattle.window_source.specs.Source.{SourceSeen, window_of}
use Rattle.window_source.specs.Waiting.{Queued, Waiting, waits_on, ReliefLies}
use Rattle.client_delivery.specs.Attached.{source_key, find_source, grid_of}
use Rattle.client_delivery.specs.Delivered.{messages_of, packets_of, IsLaidOut, concerns, loses, delivery, AreOfOneSize, IsDelivered, IsTold}
use Rattle.client_delivery.specs.Steps.{Closes, structure}
use Rattle.client_delivery.specs.Keeping.{CloseKeeps}
use Rattle.client_delivery.proofs.Layouts.{laid_push, closes_same}
use Rattle.client_delivery.proofs.Queues.{put_one, all_append}
use Rattle.client_delivery.proofs.Parts.{waits_same, structure_lies, some_there, other_number}
use Rattle.client_delivery.proofs.Relieving.{Relieved, repacked, relieved, messages_then, all_messages, same_way, waits_elsewhere, lies_elsewhere}

-- an item that is left was there, and has another key
left_cases : {A : Type 0} (b : Bool) (o : Option A) (a : A) → cond b None o ≡ Some a → (b ≡ false) × (o ≡ Some a)
left_cases true o a is = absurd (cc is)
left_cases false o a is = (refl, is)

module _ (source_finds : KeyedFinds SourceSeen) (window_finds : KeyedFinds Window) (keeps : KeyedKeeps SourceSeen) (sized : MessageHasBytes) where
  pub close_keeps : CloseKeeps
  close_keeps desk were_opened window a a' sent desktop there closes told =
      subst (λ (sources : List SourceSeen). IsTold (without_window desk k) were_opened (record a' { sources = sources }) sent) (sym closes.sources) (record {
        windows = told.windows;
        waiting = vs ++ v ∷ [];
        bytes = put_one sized (T.LostWindow k) closes.between a'.out sent told.windows vs closes.put
            (same_way (Emptied has) k a.out closes.between sent told.windows told.waiting closes.taken closes.reliefs told.bytes);
        delivered = record {
          laid = subst (IsLaidOut (without_window desk k) told.windows) (sym (map-append (λ (u : Waiting). u.message) vs (v ∷ [])))
              (laid_push desk (without_window desk k) told.windows (messages_of vs) (T.LostWindow k) (closes_same desk k)
              (subst (IsLaidOut desk told.windows) (sym (messages_then (Emptied has) k told.waiting vs change)) d.laid));
          distinct = keeps.removed source_key a.sources k d.distinct;
          sized = λ j. subst (λ (o : Option Window). AreOfOneSize o (find_source (keyed_remove source_key a.sources k) j)) (sym (window_at j))
              (subst (AreOfOneSize (cond (eqb j k) None (find_window desk j))) (sym (source_at j)) (sizes j (eqb j k)));
          kept = λ j window' s left found. kept j window' s (left_cases (eqb j k) (find_window desk j) window' (sym (window_at j) ∙ left)) (left_cases (eqb j k) (find_source a.sources j) s (sym (source_at j) ∙ found));
          lies = λ j s found. all_append (ReliefLies s.wide s.high j) vs (v ∷ []) (lies j s (left_cases (eqb j k) (find_source a.sources j) s (sym (source_at j) ∙ found)))
              (structure_lies s.wide s.high j closes.put.packet (T.LostWindow k) refl closes.put.carries, tt);
          absent = λ j none. (
            (d.absent j none).0,
            all_append (λ (u : Waiting). concerns j u.message ≡ false) vs (v ∷ [])
                (all_messages (Emptied has) k (λ m. concerns j m ≡ false) told.waiting vs change (d.absent j none).1) (other_number were_opened j k none opened, tt),
          );
          begun = λ j left. d.begun j (was_there j (eqb j k) left).1;
          stays = λ j left. let was = was_there j (eqb j k) left in
              all_append (λ (u : Waiting). loses j u.message ≡ false) vs (v ∷ []) (all_messages (Emptied has) k (λ m. loses j m ≡ false) told.waiting vs change (d.stays j was.1)) (was.0, tt);
        };
      })
    where
      k : ℕ
      k = window.wid

      d : IsDelivered desk were_opened a.sources told.windows told.waiting
      d = told.delivered

      vs : List Waiting
      vs = repacked told.waiting closes.between.packets

      v : Waiting
      v = structure closes.put.packet (T.LostWindow k)

      change : Relieved (Emptied has) k told.waiting vs
      change = relieved (Emptied has) k told.waiting closes.between.packets
          (subst (λ (ps : List Queued). ReliefsChange (Emptied has) k ps closes.between.packets) (sym told.bytes.packets) closes.reliefs)

      opened : were_opened k ≡ true
      opened = d.begun k (some_there (find_window desk k) window there)

      window_at : (j : ℕ) → find_window (without_window desk k) j ≡ cond (eqb j k) None (find_window desk j)
      window_at j = window_finds.removed (λ (u : Window). u.wid) desk k j

      source_at : (j : ℕ) → find_source (keyed_remove source_key a.sources k) j ≡ cond (eqb j k) None (find_source a.sources j)
      source_at j = source_finds.removed source_key a.sources k j

      sizes : (j : ℕ) (b : Bool) → AreOfOneSize (cond b None (find_window desk j)) (cond b None (find_source a.sources j))
      sizes j true = tt
      sizes j false = d.sized j

      kept : (j : ℕ) (window' : Window) (s : SourceSeen) → (eqb j k ≡ false) × (find_window desk j ≡ Some window') → (eqb j k ≡ false) × (find_source a.sources j ≡ Some s)
          → IsKept (delivery window' told.windows (vs ++ v ∷ []) s)
      kept j window' s left found =
          let at : window'.wid ≡ j = window_finds.found (λ (u : Window). u.wid) desk j window' left.1 in
          let other : eqb window'.wid k ≡ false = ap (λ i. eqb i k) at ∙ left.0 in
          subst (λ (ps : List Packet). IsKept (window_of s window'.pixels (option_map grid_of (find_window told.windows window'.wid)) ps))
          (sym (waits_same s.wide s.high window'.wid vs v refl ∙ waits_elsewhere (Emptied has) k s.wide s.high window'.wid told.waiting vs other change told.bytes.carried))
          (d.kept j window' s left.1 found.1)

      lies : (j : ℕ) (s : SourceSeen) → (eqb j k ≡ false) × (find_source a.sources j ≡ Some s) → AllByRecursion (ReliefLies s.wide s.high j) vs
      lies j s found = lies_elsewhere (Emptied has) k s.wide s.high j told.waiting vs found.0 change (d.lies j s found.1)

      was_there : (j : ℕ) (b : Bool) → has_window (without_window desk k) j ≡ true → (eqb j k ≡ false) × (has_window desk j ≡ true)
      was_there j b left = go (find_window (without_window desk k) j) refl left
        where
          go : (o : Option Window) → find_window (without_window desk k) j ≡ o → is_some o ≡ true → (eqb j k ≡ false) × (has_window desk j ≡ true)
          go None is none = absurd (cc none)
          go (Some window') is some = let was = left_cases (eqb j k) (find_window desk j) window' (sym (window_at j) ∙ is) in (was.0, some_there (find_window desk j) window' was.1)
