-- Each step keeps the numbers of an attached client's jobs and draws in order.
use Rattle.std.proofs.Common.{◌≡◌, ◌⊎◌, inl, inr, ℕ, ◌+◌, ◌≤◌, ◌<◌, Bool, true, false, List, [], ◌∷◌, ◌++◌, Option, Some, None, map, length, ltb, drop, cond, eqb, refl, sym, ap, ◌∙◌, subst, arith}
use Rattle.std.specs.Option.{option_map}
use Rattle.std.specs.List.{AllByRecursion, flat_map}
use Rattle.std.specs.Prelude.{is_some}
use Rattle.std.proofs.lemmas.Bool.{eqb-true, false≢true, cond-true, cond-false, cases_lt}
use Rattle.std.proofs.lemmas.Bool.Decides.{nat_tests}
use Rattle.std.proofs.lemmas.List.{append-nil, map-append}
use Rattle.std.proofs.lemmas.Grind.{flat_map-append}
use Rattle.xp_base.specs.Keyed.{keyed_change}
use Rattle.xp_base.specs.KeyedLaws.{KeyedFinds}
use Rattle.xp_base.specs.Points.{Rectangle}
use Rattle.rect_regions.specs.PointSets.{has}
use Rattle.delivery_model.specs.Grids.{Grid}
use Rattle.delivery_model.specs.Window.{Packet, NewWindow, WindowResized, Draws, Draw as Drawn, Window as Delivery}
use Rattle.delivery_model.specs.Events.{MapWindow, UnmapWindow, Recall, Acknowledge, BufferRefresh, Capture, File, Write, Planned, captured, damaged, resized}
use Rattle.delivery_model.specs.Invariant.{draws_of}
use Rattle.delivery_model.specs.Numbers.{IsNumbered, Rise}
use Rattle.delivery_model.specs.Laws.{EventsKeepNumbering, NumberingWaits as ModelWaits}
use Rattle.packet_kinds.specs.declared.to_client.ToClient.{ToClient}
use Rattle.packet_kinds.specs.declared.to_client.ToClient.TheVariants as T
use Rattle.client_outbox.specs.declared.draw.Draw.{Draw}
use Rattle.client_outbox.specs.Outgoing.{Outgoing}
use Rattle.client_outbox.specs.Reliefs.{is_named, draws_in, PacketChanges, ReliefsChange, Emptied, ClippedTo}
use Rattle.client_outbox.specs.Sending.{moved_on}
use Rattle.window_source.specs.Source.{SourceSeen, window_of, source_of, after}
use Rattle.window_source.specs.Waiting.{Queued, Waiting, IsDraw, Carries, draws_as, says_to, waits_on, lossy_shows}
use Rattle.window_model.specs.Desktop.{Window, find_window}
use Rattle.client_delivery.proofs.Attaching.{found_started, all_announced}
use Rattle.client_delivery.proofs.Opening.{pushed_cases}
use Rattle.client_delivery.specs.Attached.{AttachedSeen, source_key, find_source, started_source}
use Rattle.client_delivery.specs.Delivered.{packets_of, messages_of, is_draw}
use Rattle.client_delivery.specs.Numbered.{numbered, numbered_on, AreNumbered}
use Rattle.client_delivery.specs.Steps.{structure, Puts, announces, Attaches, Quiet, Mapping, Unmapping, GivingBack, Acknowledging, Refreshing, quiet, changes_source, Opens, Closes, Resizes, PutsAlone, Captures, Files, writes}
use Rattle.client_delivery.specs.Numbering.{AttachNumbers, QuietNumbers, PaintNumbers, OpenNumbers, CloseNumbers, ResizeNumbers, PutNumbers, CaptureNumbers, FileNumbers, WriteNumbers, NumberingWaits}
use Rattle.client_delivery.proofs.Grids.{some_same}
use Rattle.client_delivery.proofs.Parts.{Was, changed_cases, unnamed}
use Rattle.client_delivery.proofs.Saying.{quiet_parted}
use Rattle.client_delivery.proofs.Capturing.{same_test}

numbered_append : (k : ℕ) (xs ys : List Queued) → numbered_on k (xs ++ ys) ≡ numbered_on k xs ++ numbered_on k ys
numbered_append k xs ys = flat_map-append (λ (p : Queued). cond (draws_in k p) (numbered p.draw) []) xs ys

-- what is no draw has no number
plain_number : (k : ℕ) (p : Queued) (m : ToClient) → is_draw m ≡ false → Carries (structure p m) → numbered_on k (p ∷ []) ≡ []
plain_number k p m plain carries = ap (λ (o : Option ℕ). cond (is_named o k) (numbered p.draw) [] ++ []) (unnamed p.wid p.draw [] m plain carries.draw)

put_numbers : (k : ℕ) (o o' : Outgoing (List Rectangle)) (m : ToClient) → is_draw m ≡ false → Puts m o o' → numbered_on k o'.packets ≡ numbered_on k o.packets
put_numbers k o o' m plain put =
    ap (λ (q : Outgoing (List Rectangle)). numbered_on k q.packets) put.put
    ∙ numbered_append k o.packets (put.packet ∷ [])
    ∙ ap (λ (ps : List Packet). numbered_on k o.packets ++ ps) (plain_number k put.packet m plain put.carries)
    ∙ append-nil (numbered_on k o.packets)

-- other reliefs are no other numbers
relief_numbers : (Becomes : List Rectangle → List Rectangle → Type 0) (j k : ℕ) (old new : List Queued) → ReliefsChange Becomes j old new → numbered_on k new ≡ numbered_on k old
relief_numbers Becomes j k [] [] change = refl
relief_numbers Becomes j k [] (q ∷ new) change = absurd change
relief_numbers Becomes j k (p ∷ old) [] change = absurd change
relief_numbers Becomes j k (p ∷ old) (q ∷ new) change =
    ap (λ (r : Queued). cond (draws_in k r) (numbered r.draw) [] ++ numbered_on k new) change.0.kept
    ∙ ap (λ (ps : List Packet). cond (draws_in k p) (numbered p.draw) [] ++ ps) (relief_numbers Becomes j k old new change.1)

-- the numbering asks for neither pixels nor what the client shows
repainted : (next : ℕ) (s : SourceSeen) (one two : List ℕ) (client client' : Option Grid) (packets : List Packet) → IsNumbered next (window_of s one client packets) → IsNumbered next (window_of s two client' packets)
repainted next s one two client client' packets n = record { jobs = n.jobs; waiting = n.waiting; unacknowledged = n.unacknowledged; room = n.room }

same_packets : (next : ℕ) (a a' : AttachedSeen) → a'.sources ≡ a.sources → ((k : ℕ) → numbered_on k a'.out.packets ≡ numbered_on k a.out.packets) → AreNumbered next a → AreNumbered next a'
same_packets next a a' sources packets numbered = λ k s found.
    subst (λ (ps : List Packet). IsNumbered next (window_of s [] None ps)) (sym (packets k)) (numbered k s (ap (λ (ss : List SourceSeen). find_source ss k) (sym sources) ∙ found))

module _ (finds : KeyedFinds SourceSeen) where
  -- one source changes, and the packets have the numbers that they had
  one_changes : (next k : ℕ) (f : SourceSeen → SourceSeen) (a a' : AttachedSeen) → ((s : SourceSeen) → (f s).wid ≡ s.wid) → a'.sources ≡ keyed_change source_key a.sources k f
      → ((j : ℕ) → numbered_on j a'.out.packets ≡ numbered_on j a.out.packets)
      → ((s : SourceSeen) → find_source a.sources k ≡ Some s → IsNumbered next (window_of s [] None (numbered_on k a.out.packets)) → IsNumbered next (window_of (f s) [] None (numbered_on k a.out.packets)))
      → AreNumbered next a → AreNumbered next a'
  one_changes next k f a a' key sources packets one numbered = λ j s found.
      subst (λ (ps : List Packet). IsNumbered next (window_of s [] None ps)) (sym (packets j))
      (go j s (changed_cases f (eqb j k) (find_source a.sources j) s (sym (at j) ∙ ap (λ (ss : List SourceSeen). find_source ss j) (sym sources) ∙ found)))
    where
      at : (j : ℕ) → find_source (keyed_change source_key a.sources k f) j ≡ cond (eqb j k) (option_map f (find_source a.sources j)) (find_source a.sources j)
      at j = finds.changed source_key a.sources k f j key

      go : (j : ℕ) (s : SourceSeen) → Was k f j (find_source a.sources j) s → IsNumbered next (window_of s [] None (numbered_on j a.out.packets))
      go j s (inl here) =
          let there : find_source a.sources k ≡ Some here.1.0 = ap (find_source a.sources) (sym (eqb-true j k here.0)) ∙ here.1.1 in
          subst (λ (t : SourceSeen). IsNumbered next (window_of t [] None (numbered_on j a.out.packets))) here.1.2
          (subst (λ i. IsNumbered next (window_of (f here.1.0) [] None (numbered_on i a.out.packets))) (sym (eqb-true j k here.0)) (one here.1.0 there (numbered k here.1.0 there)))
      go j s (inr other) = numbered j s other.1

  pub quiet_numbers : EventsKeepNumbering → QuietNumbers
  quiet_numbers keeps next k q a some numbered = one_changes next k (after (quiet q)) a (changes_source k (quiet q) a) (λ s. refl) refl (λ j. refl)
      (λ s found n. subst (IsNumbered next) (sym (quiet_parted q s [] None (numbered_on k a.out.packets))) (go q (window_of s [] None (numbered_on k a.out.packets)) n)) numbered
    where
      go : (q : Quiet) (w : Delivery) → IsNumbered next w → IsNumbered next (quiet q w)
      go Mapping w n = keeps lossy_shows next (Some w) MapWindow some tt n
      go (Unmapping now) w n = keeps lossy_shows next (Some w) (UnmapWindow now) some tt n
      go (GivingBack now) w n = keeps lossy_shows next (Some w) (Recall now) some tt n
      go (Acknowledging number negative now) w n = keeps lossy_shows next (Some w) (Acknowledge number negative now) some tt n
      go (Refreshing now) w n = keeps lossy_shows next (Some w) (BufferRefresh now) some tt n

  pub paint_numbers : PaintNumbers
  paint_numbers next k r now a some numbered = one_changes next k (after (damaged r now)) a (changes_source k (damaged r now) a) (λ s. refl) refl (λ j. refl)
      (λ s found n. record { jobs = n.jobs; waiting = n.waiting; unacknowledged = n.unacknowledged; room = n.room }) numbered

  pub close_numbers : CloseNumbers
  close_numbers next k a a' closes numbered = λ j s found.
      subst (λ (ps : List Packet). IsNumbered next (window_of s [] None ps))
      (sym (put_numbers j closes.between a'.out (T.LostWindow k) refl closes.put ∙ relief_numbers (Emptied has) k j a.out.packets closes.between.packets closes.reliefs))
      (numbered j s (there j (eqb j k) s (sym (finds.removed source_key a.sources k j) ∙ ap (λ (ss : List SourceSeen). find_source ss j) (sym closes.sources) ∙ found)))
    where
      there : (j : ℕ) (b : Bool) (s : SourceSeen) → cond b None (find_source a.sources j) ≡ Some s → find_source a.sources j ≡ Some s
      there j true s is = absurd (cc is)
      there j false s is = is

  pub resize_numbers : ResizeNumbers
  resize_numbers next k w h now a a' some resizes numbered = one_changes next k (after (resized w h now)) a a' (λ s. refl) resizes.sources
      (λ j. put_numbers j resizes.between a'.out (T.WindowResized k w h) refl resizes.put ∙ relief_numbers (ClippedTo has w h) k j a.out.packets resizes.between.packets resizes.reliefs)
      (λ s found n. let room = n.room in record { jobs = omega arith; waiting = n.waiting; unacknowledged = n.unacknowledged; room = omega (arith, room) }) numbered

  pub capture_numbers : EventsKeepNumbering → ModelWaits → CaptureNumbers
  capture_numbers keeps waits next window plan first a a' some later captures numbered =
      one_changes (first + length plan) window.wid f a a' (λ s. refl) captures.sources (λ j. ap (λ (o : Outgoing (List Rectangle)). numbered_on j o.packets) captures.out) one
      (λ j s found. waits next (first + length plan) (window_of s [] None (numbered_on j a.out.packets)) (omega (arith, later)) (numbered j s found))
    where
      f : SourceSeen → SourceSeen
      f s = source_of s.conn s.wid (captured plan first (window_of s window.pixels None []))

      one : (s : SourceSeen) → find_source a.sources window.wid ≡ Some s → IsNumbered (first + length plan) (window_of s [] None (numbered_on window.wid a.out.packets))
          → IsNumbered (first + length plan) (window_of (f s) [] None (numbered_on window.wid a.out.packets))
      one s found n =
          repainted (first + length plan) (f s) window.pixels [] None None (numbered_on window.wid a.out.packets)
          (keeps lossy_shows next (Some (window_of s window.pixels None (numbered_on window.wid a.out.packets))) (Capture plan first) some later
          (repainted next s [] window.pixels None None (numbered_on window.wid a.out.packets) (numbered window.wid s found)))

  pub write_numbers : EventsKeepNumbering → WriteNumbers
  write_numbers keeps next n a some are = λ k s found. go k s a.out.packets (are k s found)
    where
      dropped : (k : ℕ) (s : SourceSeen) (p : Queued) (ps : List Packet) (b : Bool) (d : Option Draw) → IsNumbered next (window_of s [] None (cond b (numbered d) [] ++ ps)) → IsNumbered next (window_of s [] None ps)
      dropped k s p ps true None n = n
      dropped k s p ps false d n = n
      dropped k s p ps true (Some d) n = repainted next s [] [] _ None ps (keeps lossy_shows next (Some (window_of s [] None (numbered (Some d) ++ ps))) (Write true) some tt n)

      go : (k : ℕ) (s : SourceSeen) (packets : List Queued) → IsNumbered next (window_of s [] None (numbered_on k packets)) → IsNumbered next (window_of s [] None (numbered_on k (moved_on packets a.out.taken n).packets))
      go k s [] n' = n'
      go k s (p ∷ packets) n' = test (ltb (a.out.taken + n) (length p.bytes))
        where
          test : (b : Bool) → IsNumbered next (window_of s [] None (numbered_on k (cond b (record { packets = p ∷ packets; taken = a.out.taken + n }) (let o : Outgoing (List Rectangle) = record { packets = packets; taken = 0 } in o)).packets))
          test true = n'
          test false = dropped k s p (numbered_on k packets) (draws_in k p) p.draw n'

-- a window of which no draw waits, as it begins
begins_numbered : (next conn now : ℕ) (window : Window) → 1 ≤ next → IsNumbered next (window_of (started_source conn now window) [] None [])
begins_numbered next conn now window some = record { jobs = omega arith; waiting = omega arith; unacknowledged = omega arith; room = omega (arith, some) }

started_numbers : (next conn now : ℕ) (o : Option Window) (s : SourceSeen) → 1 ≤ next → option_map (started_source conn now) o ≡ Some s → IsNumbered next (window_of s [] None [])
started_numbers next conn now None s some is = absurd (cc is)
started_numbers next conn now (Some window) s some is = subst (λ (t : SourceSeen). IsNumbered next (window_of t [] None [])) (some_same _ _ is) (begins_numbered next conn now window some)

no_numbers : (k : ℕ) (ws : List Waiting) → AllByRecursion Carries ws → AllByRecursion (λ (w : Waiting). is_draw w.message ≡ false) ws → numbered_on k (packets_of ws) ≡ []
no_numbers k [] carried plain = refl
no_numbers k (w ∷ ws) carried plain =
    ap (λ (o : Option ℕ). cond (is_named o k) (numbered w.packet.draw) [] ++ numbered_on k (packets_of ws)) (unnamed w.packet.wid w.packet.draw w.pixels w.message plain.0 carried.0.draw)
    ∙ no_numbers k ws carried.1 plain.1

pub attach_numbers : AttachNumbers
attach_numbers desk conn now next a some attaches = λ k s found.
    subst (λ (ps : List Packet). IsNumbered next (window_of s [] None ps)) (sym (ap (numbered_on k) (sym attaches.packets) ∙ none k attaches.waiting attaches.carried attaches.messages))
    (started_numbers next conn now (find_window desk k) s some (sym (found_started conn now desk k) ∙ ap (λ (ss : List SourceSeen). find_source ss k) (sym attaches.sources) ∙ found))
  where
    none : (k : ℕ) (ws : List Waiting) → AllByRecursion Carries ws → messages_of ws ≡ T.Hello attaches.hello ∷ map announces desk → numbered_on k (packets_of ws) ≡ []
    none k [] carried is = refl
    none k (h ∷ ws) carried is = no_numbers k (h ∷ ws) carried (
      ap is_draw (let first : h.message ≡ T.Hello attaches.hello = cc is in first),
      all_announced (λ m. is_draw m ≡ false) desk ws (let later : messages_of ws ≡ map announces desk = cc is in later) (λ w there. refl) desk (λ i there. there),
    )

nothing_drawn : (k : ℕ) (packets : List Queued) → AllByRecursion (λ (p : Queued). draws_in k p ≡ false) packets → numbered_on k packets ≡ []
nothing_drawn k [] none = refl
nothing_drawn k (p ∷ packets) none = ap (λ b. cond b (numbered p.draw) [] ++ numbered_on k packets) none.0 ∙ nothing_drawn k packets none.1

pub open_numbers : KeyedFinds SourceSeen → OpenNumbers
open_numbers finds next window conn now a a' some missing none opens are = λ k s found.
    subst (λ (ps : List Packet). IsNumbered next (window_of s [] None ps)) (sym (put_numbers k a.out a'.out (announces window) refl opens.put))
    (go k s (pushed_cases (eqb k window.wid) (started_source conn now window) (find_source a.sources k) s
    (sym (finds.pushed source_key a.sources (started_source conn now window) k (ap is_some missing)) ∙ ap (λ (ss : List SourceSeen). find_source ss k) (sym opens.sources) ∙ found)))
  where
    go : (k : ℕ) (s : SourceSeen) → ((eqb k window.wid ≡ true) × (started_source conn now window ≡ s)) ⊎ ((eqb k window.wid ≡ false) × (find_source a.sources k ≡ Some s))
        → IsNumbered next (window_of s [] None (numbered_on k a.out.packets))
    go k s (inl new) =
        subst (λ (t : SourceSeen). IsNumbered next (window_of t [] None (numbered_on k a.out.packets))) new.1
        (subst (λ (ps : List Packet). IsNumbered next (window_of (started_source conn now window) [] None ps)) (sym (ap (λ i. numbered_on i a.out.packets) (eqb-true k window.wid new.0) ∙ nothing_drawn window.wid a.out.packets none))
        (begins_numbered next conn now window some))
    go k s (inr old) = are k s old.1

-- the numbers of a window's draws, by their messages and by their packets
draws_append : (xs ys : List Packet) → draws_of (xs ++ ys) ≡ draws_of xs ++ draws_of ys
draws_append [] ys = refl
draws_append (NewWindow w h ∷ xs) ys = draws_append xs ys
draws_append (WindowResized w h ∷ xs) ys = draws_append xs ys
draws_append (Draws d ∷ xs) ys = ap (λ (ds : List Drawn). d ∷ ds) (draws_append xs ys)

numbers_append : (xs ys : List Packet) → map (λ (d : Drawn). d.sequence) (draws_of (xs ++ ys)) ≡ map (λ (d : Drawn). d.sequence) (draws_of xs) ++ map (λ (d : Drawn). d.sequence) (draws_of ys)
numbers_append xs ys = ap (map (λ (d : Drawn). d.sequence)) (draws_append xs ys) ∙ map-append (λ (d : Drawn). d.sequence) (draws_of xs) (draws_of ys)

plain_numbers : (k : ℕ) (w : Waiting) (m : ToClient) (ps : List Packet) → is_draw m ≡ false → draws_of ps ≡ [] → IsDraw w.packet.wid w.packet.draw w.pixels m
    → map (λ (d : Drawn). d.sequence) (draws_of ps) ≡ map (λ (d : Drawn). d.sequence) (draws_of (cond (draws_in k w.packet) (numbered w.packet.draw) []))
plain_numbers k w m ps plain none is =
    ap (map (λ (d : Drawn). d.sequence)) none
    ∙ ap (λ (o : Option ℕ). map (λ (d : Drawn). d.sequence) (draws_of (cond (is_named o k) (numbered w.packet.draw) []))) (sym (unnamed w.packet.wid w.packet.draw w.pixels m plain is))

one_number : (wide high k : ℕ) (w : Waiting) (m : ToClient) → IsDraw w.packet.wid w.packet.draw w.pixels m
    → map (λ (d : Drawn). d.sequence) (draws_of (says_to wide high k w m)) ≡ map (λ (d : Drawn). d.sequence) (draws_of (cond (draws_in k w.packet) (numbered w.packet.draw) []))
one_number wide high k w (T.Hello caps) is = plain_numbers k w (T.Hello caps) [] refl refl is
one_number wide high k w (T.NewWindow wid x y w' h') is = plain_numbers k w (T.NewWindow wid x y w' h') (cond (eqb k wid) (NewWindow w' h' ∷ []) []) refl (go (eqb k wid)) is
  where
    go : (b : Bool) → draws_of (cond b (NewWindow w' h' ∷ []) []) ≡ []
    go true = refl
    go false = refl
one_number wide high k w (T.LostWindow wid) is = plain_numbers k w (T.LostWindow wid) [] refl refl is
one_number wide high k w (T.WindowResized wid w' h') is = plain_numbers k w (T.WindowResized wid w' h') (cond (eqb k wid) (WindowResized w' h' ∷ []) []) refl (go (eqb k wid)) is
  where
    go : (b : Bool) → draws_of (cond b (WindowResized w' h' ∷ []) []) ≡ []
    go true = refl
    go false = refl
one_number wide high k w (T.WindowMoveResize wid x y w' h') is = plain_numbers k w (T.WindowMoveResize wid x y w' h') [] refl refl is
one_number wide high k w (T.RaiseWindow wid) is = plain_numbers k w (T.RaiseWindow wid) [] refl refl is
one_number wide high k w (T.Draw wid x y w' h' coding bytes sequence stride) is = go w.packet.wid w.packet.draw is
  where
    cases : (b : Bool) (d : Draw) → map (λ (d : Drawn). d.sequence) (draws_of (cond b (draws_as wide high (Some d) w) [])) ≡ map (λ (d : Drawn). d.sequence) (draws_of (cond b (numbered (Some d)) []))
    cases true d = refl
    cases false d = refl

    go : (o : Option ℕ) (d : Option Draw) → IsDraw o d w.pixels (T.Draw wid x y w' h' coding bytes sequence stride)
        → map (λ (d : Drawn). d.sequence) (draws_of (cond (eqb k wid) (draws_as wide high d w) [])) ≡ map (λ (d : Drawn). d.sequence) (draws_of (cond (is_named o k) (numbered d) []))
    go None None is = absurd is
    go None (Some d) is = absurd is
    go (Some j) None is = absurd is
    go (Some j) (Some d) is =
        cases (eqb k wid) d ∙ ap (λ b. map (λ (d : Drawn). d.sequence) (draws_of (cond b (numbered (Some d)) []))) (same_test k wid ∙ ap (λ i. eqb i k) (sym is.0))
one_number wide high k w (T.PingEcho t) is = plain_numbers k w (T.PingEcho t) [] refl refl is
one_number wide high k w (T.Disconnect reason) is = plain_numbers k w (T.Disconnect reason) [] refl refl is
one_number wide high k w T.Other is = plain_numbers k w T.Other [] refl refl is

same_numbers : (wide high k : ℕ) (ws : List Waiting) → AllByRecursion Carries ws
    → map (λ (d : Drawn). d.sequence) (draws_of (waits_on wide high k ws)) ≡ map (λ (d : Drawn). d.sequence) (draws_of (numbered_on k (packets_of ws)))
same_numbers wide high k [] carried = refl
same_numbers wide high k (w ∷ ws) carried =
    numbers_append (says_to wide high k w w.message) (waits_on wide high k ws)
    ∙ ap (λ (ns : List ℕ). ns ++ map (λ (d : Drawn). d.sequence) (draws_of (waits_on wide high k ws))) (one_number wide high k w w.message carried.0.draw)
    ∙ ap (λ (ns : List ℕ). map (λ (d : Drawn). d.sequence) (draws_of (cond (draws_in k w.packet) (numbered w.packet.draw) [])) ++ ns) (same_numbers wide high k ws carried.1)
    ∙ sym (numbers_append (cond (draws_in k w.packet) (numbered w.packet.draw) []) (numbered_on k (packets_of ws)))

pub own_alone : (j k : ℕ) (ws : List Waiting) → eqb j k ≡ false → AllByRecursion (λ (w : Waiting). w.packet.wid ≡ Some k) ws → numbered_on j (packets_of ws) ≡ []
own_alone j k [] other own = refl
own_alone j k (w ∷ ws) other own =
    ap (λ (o : Option ℕ). cond (is_named o j) (numbered w.packet.draw) [] ++ numbered_on j (packets_of ws)) own.0
    ∙ ap (λ b. cond b (numbered w.packet.draw) [] ++ numbered_on j (packets_of ws)) (same_test k j ∙ other)
    ∙ own_alone j k ws other own.1

-- one item in the place of that with its key
pub constant_found : (new : SourceSeen) (k : ℕ) → new.wid ≡ k → (xs : List SourceSeen) (j : ℕ) → find_source (keyed_change source_key xs k (λ s. new)) j ≡ cond (eqb j k) (option_map (λ s. new) (find_source xs j)) (find_source xs j)
constant_found new k is [] j = none (eqb j k)
  where
    nobody : Option SourceSeen
    nobody = None

    none : (b : Bool) → nobody ≡ cond b nobody nobody
    none true = refl
    none false = refl
constant_found new k is (x ∷ xs) j = go (eqb x.wid k) refl (eqb j k) refl (constant_found new k is xs j)
  where
    go : (b : Bool) → eqb x.wid k ≡ b → (c : Bool) → eqb j k ≡ c → find_source (keyed_change source_key xs k (λ s. new)) j ≡ cond (eqb j k) (option_map (λ s. new) (find_source xs j)) (find_source xs j)
        → cond (eqb (source_key (cond b new x)) j) (Some (cond b new x)) (find_source (keyed_change source_key xs k (λ s. new)) j)
        ≡ cond c (option_map (λ s. new) (cond (eqb x.wid j) (Some x) (find_source xs j))) (cond (eqb x.wid j) (Some x) (find_source xs j))
    go true here true same later =
        let first : eqb new.wid j ≡ true = grind (arith, nat_tests, is, same) in
        let old : eqb x.wid j ≡ true = grind (arith, nat_tests, here, same) in
        rw (first, old) refl
    go true here false other later =
        let first : eqb new.wid j ≡ false = grind (arith, nat_tests, is, other) in
        let old : eqb x.wid j ≡ false = grind (arith, nat_tests, here, other) in
        rw (first, old) (later ∙ cond-false (eqb j k) _ _ other)
    go false here true same later =
        let old : eqb x.wid j ≡ false = grind (arith, nat_tests, here, same) in
        rw old (later ∙ cond-true (eqb j k) _ _ same)
    go false here false other later = ap (λ (o : Option SourceSeen). cond (eqb x.wid j) (Some x) o) (later ∙ cond-false (eqb j k) _ _ other)

pub file_numbers : KeyedFinds SourceSeen → EventsKeepNumbering → FileNumbers
file_numbers finds keeps next k number capture now a a' some files are = λ j s found.
    subst (λ (ps : List Packet). IsNumbered next (window_of s [] None ps)) (sym (all j))
    (go j s (changed_cases (λ t. s1) (eqb j k) (find_source a.sources j) s (sym (constant_found s1 k number_is a.sources j) ∙ ap (λ (ss : List SourceSeen). find_source ss j) (sym files.sources) ∙ found)))
  where
    s0 : SourceSeen
    s0 = files.source

    s1 : SourceSeen
    s1 = files.source'

    number_is : s1.wid ≡ k
    number_is = files.wid_stays ∙ finds.found source_key a.sources k s0 files.found

    all : (j : ℕ) → numbered_on j a'.out.packets ≡ numbered_on j a.out.packets ++ numbered_on j (packets_of files.drawn)
    all j = ap (λ (o : Outgoing (List Rectangle)). numbered_on j o.packets) files.put ∙ numbered_append j a.out.packets (packets_of files.drawn)

    waiting : List Packet
    waiting = waits_on s0.wide s0.high k files.drawn

    made : IsNumbered next (window_of s1 [] None (numbered_on k a.out.packets ++ waiting))
    made = subst (IsNumbered next) (sym (files.event [] None (numbered_on k a.out.packets)))
        (keeps lossy_shows next (Some (window_of s0 [] None (numbered_on k a.out.packets))) (File number capture now) some tt (are k s0 files.found))

    same : map (λ (d : Drawn). d.sequence) (draws_of (numbered_on k a.out.packets ++ waiting)) ≡ map (λ (d : Drawn). d.sequence) (draws_of (numbered_on k a.out.packets ++ numbered_on k (packets_of files.drawn)))
    same =
        numbers_append (numbered_on k a.out.packets) waiting
        ∙ ap (λ (ns : List ℕ). map (λ (d : Drawn). d.sequence) (draws_of (numbered_on k a.out.packets)) ++ ns) (same_numbers s0.wide s0.high k files.drawn files.carried)
        ∙ sym (numbers_append (numbered_on k a.out.packets) (numbered_on k (packets_of files.drawn)))

    here_made : IsNumbered next (window_of s1 [] None (numbered_on k a.out.packets ++ numbered_on k (packets_of files.drawn)))
    here_made = record { jobs = made.jobs; waiting = subst (Rise 0 s1.next_sequence) same made.waiting; unacknowledged = made.unacknowledged; room = made.room }

    go : (j : ℕ) (s : SourceSeen) → Was k (λ t. s1) j (find_source a.sources j) s → IsNumbered next (window_of s [] None (numbered_on j a.out.packets ++ numbered_on j (packets_of files.drawn)))
    go j s (inl here) =
        subst (λ (t : SourceSeen). IsNumbered next (window_of t [] None (numbered_on j a.out.packets ++ numbered_on j (packets_of files.drawn)))) here.1.2
        (subst (λ i. IsNumbered next (window_of s1 [] None (numbered_on i a.out.packets ++ numbered_on i (packets_of files.drawn)))) (sym (eqb-true j k here.0)) here_made)
    go j s (inr other) =
        subst (λ (ps : List Packet). IsNumbered next (window_of s [] None ps)) (sym (ap (λ (ps : List Packet). numbered_on j a.out.packets ++ ps) (own_alone j k files.drawn other.0 files.own) ∙ append-nil (numbered_on j a.out.packets)))
        (are j s other.1)

pub alone_numbers : PutNumbers
alone_numbers next m a a' plain puts numbered = same_packets next a a' puts.sources (λ k. put_numbers k a.out a'.out m plain puts.put) numbered

pub numbering_waits : ModelWaits → NumberingWaits
numbering_waits waits next later a low numbered = λ k s found. waits next later (window_of s [] None (numbered_on k a.out.packets)) low (numbered k s found)
