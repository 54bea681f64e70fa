-- A window has another size.
use Rattle.std.proofs.Common.{◌≡◌, ◌⊎◌, inl, inr, ℕ, ◌*◌, ◌≤◌, Bool, true, false, ◌&&◌, List, [], ◌∷◌, ◌++◌, Option, Some, None, map, length, cond, eqb, refl, sym, ap, ◌∙◌, subst}
use Rattle.std.specs.Prelude.{is_some}
use Rattle.std.specs.Option.{option_map}
use Rattle.std.specs.List.{AllByRecursion}
use Rattle.std.proofs.lemmas.Bool.{eqb-true, false≢true, cond-true, cond-false}
use Rattle.std.proofs.lemmas.List.{map-append}
use Rattle.xp_base.specs.Points.{Rectangle, is_within, survives}
use Rattle.xp_base.specs.Keyed.{keyed_change}
use Rattle.xp_base.specs.KeyedLaws.{KeyedFinds, KeyedKeeps}
use Rattle.rect_regions.specs.PointSets.{has as has_point, shared}
use Rattle.window_model.specs.Desktop.{Window, IsWindow, find_window, has_window, resized_window, resized_on}
use Rattle.window_model.specs.Drawing.{resized as resized_pixels}
use Rattle.window_model.specs.Laws.{ResizedShows, DrawnSizes}
use Rattle.delivery_model.specs.Grids.{Grid, points, has, number}
use Rattle.delivery_model.specs.Window.{Window as Delivery, Packet, NewWindow, WindowResized, Draws}
use Rattle.delivery_model.specs.Events.{Resize, resized, with_relief}
use Rattle.delivery_model.specs.Kept.{IsKept}
use Rattle.delivery_model.specs.Laws.{EventsKeepTheForm, GridNumbers, PointsHave, PointsAreAlike}
use Rattle.packet_kinds.specs.declared.to_client.ToClient.{ToClient}
use Rattle.packet_kinds.specs.declared.to_client.ToClient.TheVariants as T
use Rattle.packet_kinds.specs.Laws.{MessageHasBytes}
use Rattle.client_outbox.specs.declared.draw.Draw.{Draw}
use Rattle.client_outbox.specs.Reliefs.{is_named, draws_in, ClippedTo, PacketChanges, ReliefsChange}
use Rattle.window_source.specs.Source.{SourceSeen, window_of, after}
use Rattle.window_source.specs.Waiting.{Queued, Waiting, IsDraw, Carries, draws_as, says_to, waits_on, ReliefLies, lossy_shows}
use Rattle.client_delivery.specs.Attached.{source_key, find_source, grid_of}
use Rattle.client_delivery.specs.Delivered.{messages_of, packets_of, concerns, loses, delivery, AreOfOneSize, IsDelivered, IsLaidOut, IsTold}
use Rattle.client_delivery.specs.Steps.{Resizes, structure}
use Rattle.client_delivery.specs.Keeping.{ResizeKeeps}
use Rattle.client_delivery.proofs.Alike.{IsAlike, kept_alike}
use Rattle.client_delivery.proofs.Grids.{some_same, pixels_grid, resized_numbers}
use Rattle.client_delivery.proofs.Layouts.{laid_push, resizes_same}
use Rattle.client_delivery.proofs.Queues.{put_one, all_append}
use Rattle.client_delivery.proofs.Parts.{waits_append, waits_same, Was, changed_cases, some_there, structure_lies, other_number, own, says_nothing, found_window}
use Rattle.client_delivery.proofs.Relieving.{Relieved, repacked, relieved, messages_then, all_messages, same_way, waits_elsewhere, lies_elsewhere}

-- the laws of the model and of the desktop that this stands on
pub record Laws : Type 0 where
  pub form : EventsKeepTheForm
  pub numbers : GridNumbers
  pub have : PointsHave
  pub alike : PointsAreAlike
  pub shows : ResizedShows
  pub sizes : DrawnSizes

-- a relief that is clipped to the new size is what survives of it, where it lay in the old one
clipped_point : (in_old in_new was now : Bool) → in_new ≡ true → (was ≡ true → in_old ≡ true) → now ≡ (was && in_new) → now ≡ ((in_old && was) && (in_old && in_new))
clipped_point true true true now new lies is = is
clipped_point true true false now new lies is = is
clipped_point false true true now new lies is = absurd (false≢true (lies refl))
clipped_point false true false now new lies is = is
clipped_point true false was now new lies is = absurd (false≢true new)
clipped_point false false was now new lies is = absurd (false≢true new)

both_right : (a b : Bool) → (a && b) ≡ true → b ≡ true
both_right true b is = is
both_right false b is = absurd (false≢true is)

module _ (laws : Laws) (k w0 h0 w h : ℕ) where
  Clips : List Rectangle → List Rectangle → Type 0
  Clips = ClippedTo has_point w h

  relief_then : (old new : List Rectangle) → ((x y : ℕ) → has_point old x y ≡ true → is_within w0 h0 x y ≡ true) → ClippedTo has_point w h old new
      → points w h (has_point new) ≡ points w h (λ x y. has (points w0 h0 (has_point old)) x y && survives w0 h0 w h x y)
  relief_then old new lies clipped = laws.alike w h (has_point new) (λ x y. has (points w0 h0 (has_point old)) x y && survives w0 h0 w h x y)
      (λ x y within. clipped_point (is_within w0 h0 x y) (is_within w h x y) (has_point old x y) (has_point new x y) within (lies x y) (clipped x y)
      ∙ ap (λ b. b && survives w0 h0 w h x y) (sym (laws.have w0 h0 (has_point old) x y)))

  -- a draw of the window, before and after
  draws_then : (d : Option Draw) (ws : Waiting) (q : Queued) → ((x y : ℕ) → has_point ws.packet.relief x y ≡ true → is_within w0 h0 x y ≡ true) → ClippedTo has_point w h ws.packet.relief q.relief
      → draws_as w h d (record ws { packet = q }) ≡ map (with_relief w h (survives w0 h0 w h)) (draws_as w0 h0 d ws)
  draws_then None ws q lies clipped = refl
  draws_then (Some d) ws q lies clipped = ap (λ (r : _). Draws (record { sequence = d.sequence; capture = record { rect = d.rect; coding = d.coding; pixels = ws.pixels }; relief = r }) ∷ []) (relief_then ws.packet.relief q.relief lies clipped)

  none_then : (m : ToClient) (ws : Waiting) (q : Queued) → concerns k m ≡ false → says_to w h k (record ws { packet = q }) m ≡ map (with_relief w h (survives w0 h0 w h)) (says_to w0 h0 k ws m)
  none_then m ws q other = says_nothing w h k (record ws { packet = q }) m other ∙ ap (map (with_relief w h (survives w0 h0 w h))) (sym (says_nothing w0 h0 k ws m other))

  -- a packet on the window, before and after: what is no draw stays
  says_then : (m : ToClient) (ws : Waiting) (q : Queued) → IsDraw ws.packet.wid ws.packet.draw ws.pixels m → ReliefLies w0 h0 k ws → PacketChanges (ClippedTo has_point w h) k ws.packet q
      → says_to w h k (record ws { packet = q }) m ≡ map (with_relief w h (survives w0 h0 w h)) (says_to w0 h0 k ws m)
  says_then (T.Hello caps) ws q is lies change = refl
  says_then (T.NewWindow wid x y w' h') ws q is lies change = go (eqb k wid)
    where
      go : (b : Bool) → cond b (NewWindow w' h' ∷ []) [] ≡ map (with_relief w h (survives w0 h0 w h)) (cond b (NewWindow w' h' ∷ []) [])
      go true = refl
      go false = refl
  says_then (T.LostWindow wid) ws q is lies change = refl
  says_then (T.WindowResized wid w' h') ws q is lies change = go (eqb k wid)
    where
      go : (b : Bool) → cond b (WindowResized w' h' ∷ []) [] ≡ map (with_relief w h (survives w0 h0 w h)) (cond b (WindowResized w' h' ∷ []) [])
      go true = refl
      go false = refl
  says_then (T.WindowMoveResize wid x y w' h') ws q is lies change = refl
  says_then (T.RaiseWindow wid) ws q is lies change = refl
  says_then (T.Draw wid x y w' h' coding bytes sequence stride) ws q is lies change = go (eqb k wid) refl
    where
      named : (o : Option ℕ) (d : Option Draw) → IsDraw o d ws.pixels (T.Draw wid x y w' h' coding bytes sequence stride) → o ≡ Some wid
      named None None is = absurd is
      named None (Some d) is = absurd is
      named (Some j) None is = absurd is
      named (Some j) (Some d) is = ap (λ n. Some n) is.0

      go : (b : Bool) → eqb k wid ≡ b → cond (eqb k wid) (draws_as w h q.draw (record ws { packet = q })) [] ≡ map (with_relief w h (survives w0 h0 w h)) (cond (eqb k wid) (draws_as w0 h0 ws.packet.draw ws) [])
      go false other = none_then (T.Draw wid x y w' h' coding bytes sequence stride) ws q other
      go true here =
          let on : ws.packet.wid ≡ Some k = named ws.packet.wid ws.packet.draw is ∙ ap (λ n. Some n) (sym (eqb-true k wid here)) in
          let drawn : draws_in k ws.packet ≡ true = ap (λ (o : Option ℕ). is_named o k) on ∙ own k in
          cond-true (eqb k wid) (draws_as w h q.draw (record ws { packet = q })) [] here
          ∙ ap (λ (p : Queued). draws_as w h p.draw (record ws { packet = q })) change.kept
          ∙ draws_then ws.packet.draw ws q (lies on) (change.changed drawn)
          ∙ ap (map (with_relief w h (survives w0 h0 w h))) (sym (cond-true (eqb k wid) (draws_as w0 h0 ws.packet.draw ws) [] here))
  says_then (T.PingEcho t) ws q is lies change = refl
  says_then (T.Disconnect reason) ws q is lies change = refl
  says_then T.Other ws q is lies change = refl

  pub waits_clipped : (ws vs : List Waiting) → Relieved (ClippedTo has_point w h) k ws vs → AllByRecursion Carries ws → AllByRecursion (ReliefLies w0 h0 k) ws
      → waits_on w h k vs ≡ map (with_relief w h (survives w0 h0 w h)) (waits_on w0 h0 k ws)
  waits_clipped [] [] change carried lies = refl
  waits_clipped [] (v ∷ vs) change carried lies = absurd change
  waits_clipped (u ∷ ws) [] change carried lies = absurd change
  waits_clipped (u ∷ ws) (v ∷ vs) change carried lies =
      ap (λ (x : Waiting). says_to w h k x x.message ++ waits_on w h k vs) change.0.0
      ∙ ap (λ (ps : List Packet). ps ++ waits_on w h k vs) (says_then u.message u v.packet carried.0.draw lies.0 change.0.1)
      ∙ ap (λ (ps : List Packet). map (with_relief w h (survives w0 h0 w h)) (says_to w0 h0 k u u.message) ++ ps) (waits_clipped ws vs change.1 carried.1 lies.1)
      ∙ sym (map-append (with_relief w h (survives w0 h0 w h)) (says_to w0 h0 k u u.message) (waits_on w0 h0 k ws))

  -- the reliefs of the window's draws lie in the new size
  pub lies_clipped : (ws vs : List Waiting) → Relieved (ClippedTo has_point w h) k ws vs → AllByRecursion (ReliefLies w h k) vs
  lies_clipped [] [] change = tt
  lies_clipped [] (v ∷ vs) change = absurd change
  lies_clipped (u ∷ ws) [] change = absurd change
  lies_clipped (u ∷ ws) (v ∷ vs) change = (one, lies_clipped ws vs change.1)
    where
      one : ReliefLies w h k v
      one = λ named x y has.
          let was : u.packet.wid ≡ Some k = sym (ap (λ (q : Queued). q.wid) change.0.1.kept) ∙ named in
          let clipped = change.0.1.changed (ap (λ (o : Option ℕ). is_named o k) was ∙ own k) in
          both_right (has_point u.packet.relief x y) (is_within w h x y) (sym (clipped x y) ∙ has)

-- the model's window after the resize
resized_kept : (laws : Laws) (k w h now : ℕ) (s : SourceSeen) (pixels : List ℕ) (client : Option Grid) (ws vs : List Waiting) (v : Waiting) → length pixels ≡ s.wide * s.high
    → Relieved (ClippedTo has_point w h) k ws vs → AllByRecursion Carries ws → AllByRecursion (ReliefLies s.wide s.high k) ws → says_to w h k v v.message ≡ WindowResized w h ∷ []
    → IsKept (window_of s pixels client (waits_on s.wide s.high k ws)) → IsKept (window_of (after (resized w h now) s) (resized_pixels s.wide s.high w h pixels) client (waits_on w h k (vs ++ v ∷ [])))
resized_kept laws k w h now s pixels client ws vs v sized change carried lies says kept =
    subst (λ (ps : List Packet). IsKept (window_of (after (resized w h now) s) (resized_pixels s.wide s.high w h pixels) client ps)) (sym packets) (kept_alike model _ alike made)
  where
    kept_points : ℕ → ℕ → Bool
    kept_points = survives s.wide s.high w h

    old : List Packet
    old = waits_on s.wide s.high k ws

    new : List Packet
    new = map (with_relief w h kept_points) old ++ WindowResized w h ∷ []

    packets : waits_on w h k (vs ++ v ∷ []) ≡ new
    packets =
        waits_append w h k vs (v ∷ [])
        ∙ ap (λ (ps : List Packet). ps ++ (says_to w h k v v.message ++ [])) (waits_clipped laws k s.wide s.high w h ws vs change carried lies)
        ∙ ap (λ (ps : List Packet). map (with_relief w h kept_points) old ++ (ps ++ [])) says

    model : Delivery
    model = resized w h now (window_of s pixels client old)

    form : EventsKeepTheForm
    form = laws.form

    made : IsKept model
    made = form lossy_shows (Some (window_of s pixels client old)) (Resize w h now) tt kept

    alike : IsAlike model (window_of (after (resized w h now) s) (resized_pixels s.wide s.high w h pixels) client new)
    alike = record {
      wide = refl;
      high = refl;
      sizes = refl;
      jobs = made.jobs;
      packets = made.packets;
      pending = made.pending;
      lossy = made.lossy;
      points = λ x y within. rw (resized_numbers laws.shows laws.numbers s.wide s.high w h pixels x y sized (laws.sizes.resizing s.wide s.high w h pixels) within) refl;
    }

module _ (source_finds : KeyedFinds SourceSeen) (window_finds : KeyedFinds Window) (keeps : KeyedKeeps SourceSeen) (sized : MessageHasBytes) (laws : Laws) where
  pub resize_keeps : ResizeKeeps
  resize_keeps desk were_opened window w h now a a' sent desktop there some_w few_w some_h few_h resizes told =
      subst (λ (sources : List SourceSeen). IsTold (resized_on desk k w h) were_opened (record a' { sources = sources }) sent) (sym resizes.sources) (record {
        windows = told.windows;
        waiting = vs ++ v ∷ [];
        bytes = put_one sized m resizes.between a'.out sent told.windows vs resizes.put (same_way (ClippedTo has_point w h) k a.out resizes.between sent told.windows told.waiting resizes.taken resizes.reliefs told.bytes);
        delivered = record {
          laid = subst (IsLaidOut (resized_on desk k w h) told.windows) (sym (map-append (λ (u : Waiting). u.message) vs (v ∷ [])))
              (laid_push desk (resized_on desk k w h) told.windows (messages_of vs) m (resizes_same desk k w h)
              (subst (IsLaidOut desk told.windows) (sym (messages_then (ClippedTo has_point w h) k told.waiting vs change)) d.laid));
          distinct = keeps.changed source_key a.sources k size (λ s. refl) d.distinct;
          sized = λ j. subst (λ (o : Option Window). AreOfOneSize o (find_source sources j)) (sym (window_at j))
              (subst (AreOfOneSize (cond (eqb j k) (option_map (resized_window w h) (find_window desk j)) (find_window desk j))) (sym (source_at j)) (sizes (eqb j k) (find_window desk j) (find_source a.sources j) (d.sized j)));
          kept = λ j u s left found. kept j u s (changed_cases (resized_window w h) (eqb j k) (find_window desk j) u (sym (window_at j) ∙ left)) (changed_cases size (eqb j k) (find_source a.sources j) s (sym (source_at j) ∙ found));
          lies = λ j s found. all_append (ReliefLies s.wide s.high j) vs (v ∷ []) (lies j s (changed_cases size (eqb j k) (find_source a.sources j) s (sym (source_at j) ∙ found)))
              (structure_lies s.wide s.high j resizes.put.packet m refl resizes.put.carries, tt);
          absent = λ j none. (
            (d.absent j none).0,
            all_append (λ (u : Waiting). concerns j u.message ≡ false) vs (v ∷ [])
                (all_messages (ClippedTo has_point w h) k (λ n. concerns j n ≡ false) told.waiting vs change (d.absent j none).1) (other_number were_opened j k none opened, tt),
          );
          begun = λ j left. d.begun j (was_there j left);
          stays = λ j left. all_append (λ (u : Waiting). loses j u.message ≡ false) vs (v ∷ []) (all_messages (ClippedTo has_point w h) k (λ n. loses j n ≡ false) told.waiting vs change (d.stays j (was_there j left))) (refl, tt);
        };
      })
    where
      k : ℕ
      k = window.wid

      m : ToClient
      m = T.WindowResized k w h

      size : SourceSeen → SourceSeen
      size = after (resized w h now)

      sources : List SourceSeen
      sources = keyed_change source_key a.sources k size

      d : IsDelivered desk were_opened a.sources told.windows told.waiting
      d = told.delivered

      vs : List Waiting
      vs = repacked told.waiting resizes.between.packets

      v : Waiting
      v = structure resizes.put.packet m

      change : Relieved (ClippedTo has_point w h) k told.waiting vs
      change = relieved (ClippedTo has_point w h) k told.waiting resizes.between.packets
          (subst (λ (ps : List Queued). ReliefsChange (ClippedTo has_point w h) k ps resizes.between.packets) (sym told.bytes.packets) resizes.reliefs)

      opened : were_opened k ≡ true
      opened = d.begun k (some_there (find_window desk k) window there)

      window_at : (j : ℕ) → find_window (resized_on desk k w h) j ≡ cond (eqb j k) (option_map (resized_window w h) (find_window desk j)) (find_window desk j)
      window_at j = window_finds.changed (λ (u : Window). u.wid) desk k (resized_window w h) j (λ u. refl)

      source_at : (j : ℕ) → find_source sources j ≡ cond (eqb j k) (option_map size (find_source a.sources j)) (find_source a.sources j)
      source_at j = source_finds.changed source_key a.sources k size j (λ s. refl)

      sizes : (b : Bool) (o : Option Window) (s : Option SourceSeen) → AreOfOneSize o s → AreOfOneSize (cond b (option_map (resized_window w h) o) o) (cond b (option_map size s) s)
      sizes false o s same = same
      sizes true None None same = same
      sizes true None (Some s) same = same
      sizes true (Some u) None same = same
      sizes true (Some u) (Some s) same = (refl, refl)

      says : says_to w h k v v.message ≡ WindowResized w h ∷ []
      says = cond-true (eqb k k) (WindowResized w h ∷ []) [] (own k)

      one : (s : SourceSeen) → find_source a.sources k ≡ Some s → IsKept (delivery (resized_window w h window) told.windows (vs ++ v ∷ []) (size s))
      one s found =
          subst (λ (pixels : List ℕ). IsKept (window_of (size s) pixels (option_map grid_of (find_window told.windows k)) (waits_on w h k (vs ++ v ∷ [])))) same_pixels
          (resized_kept laws k w h now s window.pixels (option_map grid_of (find_window told.windows k)) told.waiting vs v full change told.bytes.carried (d.lies k s found) says (d.kept k window s there found))
        where
          same : (s.wide ≡ window.w) × (s.high ≡ window.h)
          same = subst (AreOfOneSize (Some window)) found (subst (λ (o : Option Window). AreOfOneSize o (find_source a.sources k)) there (d.sized k))

          full : length window.pixels ≡ s.wide * s.high
          full = rw (same.0, same.1) (found_window desk k window desktop.windows there).sized

          same_pixels : resized_pixels s.wide s.high w h window.pixels ≡ (resized_window w h window).pixels
          same_pixels = rw (same.0, same.1) refl

      kept : (j : ℕ) (u : Window) (s : SourceSeen) → Was k (resized_window w h) j (find_window desk j) u → Was k size j (find_source a.sources j) s → IsKept (delivery u told.windows (vs ++ v ∷ []) s)
      kept j u s (inl here) (inl found) =
          let at : j ≡ k = eqb-true j k here.0 in
          let is : here.1.0 ≡ window = some_same _ _ (sym here.1.1 ∙ ap (find_window desk) at ∙ there) in
          subst (λ (x : Window). IsKept (delivery x told.windows (vs ++ v ∷ []) s)) (ap (resized_window w h) (sym is) ∙ here.1.2)
          (subst (λ (t : SourceSeen). IsKept (delivery (resized_window w h window) told.windows (vs ++ v ∷ []) t)) found.1.2 (one found.1.0 (sym (ap (find_source a.sources) at) ∙ found.1.1)))
      kept j u s (inl here) (inr other) = absurd (false≢true (sym other.0 ∙ here.0))
      kept j u s (inr other) (inl found) = absurd (false≢true (sym other.0 ∙ found.0))
      kept j u s (inr other) (inr same) =
          let at : u.wid ≡ j = window_finds.found (λ (x : Window). x.wid) desk j u other.1 in
          let elsewhere : eqb u.wid k ≡ false = ap (λ i. eqb i k) at ∙ other.0 in
          subst (λ (ps : List Packet). IsKept (window_of s u.pixels (option_map grid_of (find_window told.windows u.wid)) ps))
          (sym (waits_same s.wide s.high u.wid vs v (cond-false (eqb u.wid k) (WindowResized w h ∷ []) [] elsewhere)
          ∙ waits_elsewhere (ClippedTo has_point w h) k s.wide s.high u.wid told.waiting vs elsewhere change told.bytes.carried))
          (d.kept j u s other.1 same.1)

      lies : (j : ℕ) (s : SourceSeen) → Was k size j (find_source a.sources j) s → AllByRecursion (ReliefLies s.wide s.high j) vs
      lies j s (inl here) =
          subst (λ (t : SourceSeen). AllByRecursion (ReliefLies t.wide t.high j) vs) here.1.2
          (subst (λ i. AllByRecursion (ReliefLies w h i) vs) (sym (eqb-true j k here.0)) (lies_clipped laws k s.wide s.high w h told.waiting vs change))
      lies j s (inr other) = lies_elsewhere (ClippedTo has_point w h) k s.wide s.high j told.waiting vs other.0 change (d.lies j s other.1)

      was_there : (j : ℕ) → has_window (resized_on desk k w h) j ≡ true → has_window desk j ≡ true
      was_there j left = go (eqb j k) (find_window desk j) (sym (ap is_some (window_at j)) ∙ left)
        where
          go : (b : Bool) (o : Option Window) → is_some (cond b (option_map (resized_window w h) o) o) ≡ true → is_some o ≡ true
          go false o some = some
          go true None some = some
          go true (Some u) some = refl
