-- What each step of one client keeps: each pixel in which its picture differs from the desktop is owed.
use Rattle.std.proofs.Common.{◌≡◌, ◌⊎◌, inl, inr, ℕ, zero, suc, ◌+◌, ◌*◌, ◌^◌, ◌<◌, ◌≤◌, Bool, true, false, List, [], ◌∷◌, ◌++◌, Option, Some, None, length, map, set, take, drop, cond, eqb, refl, sym, ap, ◌∙◌, subst, arith}
use Rattle.std.specs.Prelude.{All, position, slice_get, is_some}
use Rattle.std.specs.Option.{option_map}
use Rattle.std.proofs.lemmas.Bool.{cases_Bool, eqb-true, false≢true, cond-true, cond-false}
use Rattle.std.proofs.lemmas.List.{append_assoc, append-nil, length-replicate}
use Rattle.std.proofs.lemmas.List.Elements.{All-nil, All-push, All-map, All-weaker, All-set, All-head, All-tail}
use Rattle.std.proofs.Math.Seq.{take-add, take-nil, take-length}
use Rattle.xp_base.specs.Points.{Rectangle}
use Rattle.window_model.specs.Desktop.{Window, IsWindow, IsDesktop, find_window, has_window, filled_on, filled_window, fresh_window, changed_window}
use Rattle.window_model.proofs.Drawings.{length-placed, length-blank}
use Rattle.window_model.proofs.Desktops.{changed_finds_lem, numbers_kept_lem}
use Rattle.rgb_encoders.specs.Decoded.{decoded}
use Rattle.delivery_model.specs.Kept.{IsKept}
use Rattle.packet_kinds.specs.declared.to_client.ToClient.{ToClient}
use Rattle.packet_kinds.specs.declared.to_client.ToClient.TheVariants as T
use Rattle.packet_kinds.specs.Effects.{effect, effect_on, drawn_window, holds_pixels}
use Rattle.packet_kinds.specs.Written.{Show}
use Rattle.packet_kinds.proofs.Following.{nothing_shows, message_follows, message_has_bytes}
use Rattle.packet_kinds.proofs.Windows.{one_window_changes}
use Rattle.client_connection.specs.PointSets.{PointSet, IsPointSet, whole_set, with_rectangle, marked_from}
use Rattle.client_connection.specs.declared.packet.Packet.{Packet}
use Rattle.client_connection.specs.declared.source.Source.{Source}
use Rattle.client_connection.specs.Wire.{client_limit, geometry_of, draws_whole}
use Rattle.client_connection.specs.Clients.{ClientSeen, fresh_client, front_size, front_rest, captured, damaged, damaged_source, window_draw, IsTaken}
use Rattle.xp_base.specs.declared.coding.Coding.TheVariants.{Exact}
use Rattle.rgb_encoders.specs.PixelBytes.{coded_bytes}
use Rattle.client_connection.specs.Delivery.{waits_as, waiting_on, find_source, delivery}
use Rattle.client_connection.specs.Told.{CarryAll, IsOfFirstPath, layout, front_bytes, IsDelivered, IsTold}
use Rattle.client_connection.proofs.Deliveries.{delivery_filled, delivery_captured, delivery_written, IsSized}
use Rattle.client_connection.proofs.Sources.{some_same, found_one, wid_at, numbers-set, find_source-map, numbers-map, find_source-set, find_source-at}
use Rattle.client_connection.proofs.Waitings.{carry_push, waiting_push, effects_push, effects_first, absent_first}
use Rattle.client_connection.proofs.Sendings.{taken_push, draw_some}
use Rattle.client_connection.proofs.Carried.{draws_message, draw_holds, draw_shows}

-- nothing was sent to a connection that was just accepted
pub told_fresh : (desk : List Window) → IsTold desk fresh_client []
told_fresh desk = record {
  done = [];
  windows = [];
  messages = [];
  sent_is = refl;
  show = nothing_shows client_limit;
  sized = All-nil _;
  carried = tt;
  part = refl;
  empty = λ none. refl;
  unattached = λ none. refl;
  unspoken = λ none. refl;
  delivered = λ greeted. absurd (false≢true greeted);
}

-- what was taken of the front, and so many bytes more
more_taken : (taken n most : ℕ) (bytes : List ℕ) → n ≤ most → take taken bytes ++ take n (take most (drop taken bytes)) ≡ take (taken + n) bytes
more_taken taken n most bytes low = ap (λ bs. take taken bytes ++ bs) (take_take n most (drop taken bytes) low) ∙ sym (take-add taken n bytes)
  where
    take_take : (n most : ℕ) (xs : List ℕ) → n ≤ most → take n (take most xs) ≡ take n xs
    take_take zero most xs low = refl
    take_take (suc n) zero xs low = absurd (omega (arith, low))
    take_take (suc n) (suc most) [] low = refl
    take_take (suc n) (suc most) (x ∷ xs) low = ap (λ ys. x ∷ ys) (take_take n most xs (omega (arith, low)))

-- so many bytes of the first packet were taken, and not all
pub told_part : (desk : List Window) (c : ClientSeen) (sent : List ℕ) (n most : ℕ) → n ≤ most → c.taken + n < front_size c.packets → IsTold desk c sent
    → IsTold desk (record c { taken = c.taken + n }) (sent ++ take n (take most (front_rest c.packets c.taken)))
told_part desk c sent n most low short told = record {
  done = told.done;
  windows = told.windows;
  messages = told.messages;
  sent_is = ap (λ s. s ++ take n (take most (front_rest c.packets c.taken))) told.sent_is ∙ append_assoc told.done (take c.taken (front_bytes c.packets)) _
      ∙ ap (λ s. told.done ++ s) (go c.packets);
  show = told.show;
  sized = told.sized;
  carried = told.carried;
  part = still_part c.packets short;
  empty = told.empty;
  unattached = told.unattached;
  unspoken = told.unspoken;
  delivered = told.delivered;
}
  where
    still_part : (packets : List Packet) → c.taken + n < front_size packets → IsTaken packets (c.taken + n)
    still_part [] short = absurd (omega (arith, short))
    still_part (p ∷ packets) short = short

    go : (packets : List Packet) → take c.taken (front_bytes packets) ++ take n (take most (front_rest packets c.taken)) ≡ take (c.taken + n) (front_bytes packets)
    go [] = ap (λ bs. bs ++ take n (take most [])) (take-nil c.taken) ∙ ap (take n) (take-nil most) ∙ take-nil n ∙ sym (take-nil (c.taken + n))
    go (p ∷ packets) = more_taken c.taken n most p.bytes low

AreSized : List Window → Type 0
AreSized windows = All (λ (w : Window). length w.pixels ≡ w.w * w.h) windows

-- a window that is found has its pixels
found_sized : (windows : List Window) (k : ℕ) → All (λ (w : Window). length w.pixels ≡ w.w * w.h) windows → IsSized (find_window windows k)
found_sized [] k sized = tt
found_sized (w ∷ windows) k sized = elim (cases_Bool (eqb w.wid k)) [
  | inl here ↦ rw here (All-head (λ (w : Window). length w.pixels ≡ w.w * w.h) w windows sized)
  | inr elsewhere ↦ rw elsewhere (found_sized windows k (All-tail (λ (w : Window). length w.pixels ≡ w.w * w.h) w windows sized))
]

-- the messages of the first path keep it so
effect_sized : (windows after : List Window) (m : ToClient) → IsOfFirstPath m → All (λ (w : Window). length w.pixels ≡ w.w * w.h) windows → effect windows m ≡ Some after
    → All (λ (w : Window). length w.pixels ≡ w.w * w.h) after
effect_sized windows after (T.Hello caps) first sized is = subst (All (λ (w : Window). length w.pixels ≡ w.w * w.h)) (some_same windows after is) sized
effect_sized windows after (T.NewWindow wid x y w h) first sized is = subst (All (λ (w : Window). length w.pixels ≡ w.w * w.h)) (some_same _ after is) (go (has_window windows wid))
  where
    go : (there : Bool) → All (λ (w : Window). length w.pixels ≡ w.w * w.h) (cond there windows (windows ++ fresh_window wid x y w h ∷ []))
    go true = sized
    go false = All-push (λ (w : Window). length w.pixels ≡ w.w * w.h) windows (fresh_window wid x y w h) sized (length-blank w h)
effect_sized windows after (T.LostWindow wid) first sized is = absurd first
effect_sized windows after (T.WindowResized wid w h) first sized is = absurd first
effect_sized windows after (T.WindowMoveResize wid x y w h) first sized is = absurd first
effect_sized windows after (T.RaiseWindow wid) first sized is = absurd first
effect_sized windows after (T.Draw wid x y w h coding bytes sequence stride) first sized is = go (holds_pixels coding w h stride bytes) is
  where
    drawn : Window → Window
    drawn window = cond (eqb window.wid wid) (drawn_window (record { x = x; y = y; w = w; h = h }) (decoded coding w h stride bytes) window) window

    one : (b : Bool) (window : Window) → length window.pixels ≡ window.w * window.h
        → let now = cond b (drawn_window (record { x = x; y = y; w = w; h = h }) (decoded coding w h stride bytes) window) window in length now.pixels ≡ now.w * now.h
    one true window sized = length-placed window.w (record { x = x; y = y; w = w; h = h }) (decoded coding w h stride bytes) window.pixels ∙ sized
    one false window sized = sized

    all : All (λ (w : Window). length w.pixels ≡ w.w * w.h) (map drawn windows)
    all = All-map (λ (w : Window). length w.pixels ≡ w.w * w.h) drawn windows
        (All-weaker (λ (w : Window). length w.pixels ≡ w.w * w.h) (λ (w : Window). length (drawn w).pixels ≡ (drawn w).w * (drawn w).h) (λ window. one (eqb window.wid wid) window) windows sized)

    go : (holds : Bool) → cond holds (Some (map drawn windows)) None ≡ Some after → All (λ (w : Window). length w.pixels ≡ w.w * w.h) after
    go true is = subst (All (λ (w : Window). length w.pixels ≡ w.w * w.h)) (some_same _ after is) all
    go false is = absurd (cc is)
effect_sized windows after (T.PingEcho t) first sized is = absurd first
effect_sized windows after (T.Disconnect reason) first sized is = absurd first
effect_sized windows after T.Other first sized is = absurd first

-- of a packet that comes first nothing was taken, since none is empty
none_taken : (packets : List Packet) (messages : List ToClient) → CarryAll packets messages → IsTaken packets 0
none_taken [] messages carried = refl
none_taken (p ∷ packets) [] carried = absurd carried
none_taken (p ∷ packets) (m ∷ messages) carried = omega (arith, message_has_bytes client_limit p.bytes m carried.0.message)

-- the first packet was wholly written: the client shows what it makes of the windows
told_shifted : (desk : List Window) (c : ClientSeen) (p : Packet) (packets : List Packet) (done : List ℕ) (windows : List Window) (messages : List ToClient) → c.greeted ≡ true
    → Show client_limit done windows → All (λ (w : Window). length w.pixels ≡ w.w * w.h) windows → CarryAll (p ∷ packets) messages → IsDelivered desk c.sources (p ∷ packets) windows messages
    → IsTold desk (record c { packets = packets; taken = 0 }) (done ++ p.bytes)
told_shifted desk c p packets done windows [] greeted show sized carried d = absurd carried
told_shifted desk c p packets done windows (m ∷ messages) greeted show sized carried d =
    let next = effects_first m messages windows d.laid.after d.laid.shown in
    record {
      done = done ++ p.bytes;
      windows = next.0;
      messages = messages;
      sent_is = sym (append-nil (done ++ p.bytes));
      show = message_follows client_limit done p.bytes m windows next.0 show carried.0.message next.1;
      sized = effect_sized windows next.0 m carried.0.built sized next.1;
      carried = carried.1;
      part = none_taken packets messages carried.1;
      empty = λ none. absurd (cc (none, greeted));
      unattached = λ none. absurd (cc (none, greeted));
      unspoken = λ none. absurd (cc (none, greeted));
      delivered = λ _. record {
        laid = record { after = d.laid.after; shown = next.2; laid = d.laid.laid };
        sourced = d.sourced;
        sets = d.sets;
        kept = λ k window s there source. rw (one_window_changes windows next.0 m k next.1)
            (delivery_written k window (find_window windows k) p.draw m (waiting_on k packets messages) s (found_sized windows k sized) carried.0.draw carried.0.built (d.kept k window s there source));
        absent = λ k missing.
            let was = d.absent k missing in
            let first = absent_first k p packets m messages carried.0.built was.1 in
            (one_window_changes windows next.0 m k next.1 ∙ ap (λ o. effect_on k o m) was.0 ∙ first.0, first.1);
      };
    }

-- the whole of the first packet was taken
pub told_whole : (desk : List Window) (c : ClientSeen) (sent : List ℕ) (n most : ℕ) (p : Packet) (packets : List Packet) → n ≤ most → c.greeted ≡ true → c.packets ≡ p ∷ packets → c.taken + n ≡ length p.bytes
    → IsTold desk c sent → IsTold desk (record c { packets = packets; taken = 0 }) (sent ++ take n (take most (drop c.taken p.bytes)))
told_whole desk c sent n most p packets low greeted are all told =
    let t : IsTold desk (record c { packets = p ∷ packets }) sent = subst (λ ps. IsTold desk (record c { packets = ps }) sent) are told in
    let all_sent : sent ++ take n (take most (drop c.taken p.bytes)) ≡ t.done ++ p.bytes =
    ap (λ s. s ++ take n (take most (drop c.taken p.bytes))) t.sent_is ∙ append_assoc t.done (take c.taken p.bytes) _
    ∙ ap (λ s. t.done ++ s) (more_taken c.taken n most p.bytes low ∙ ap (λ k. take k p.bytes) all ∙ take-length p.bytes) in
    subst (IsTold desk (record c { packets = packets; taken = 0 })) (sym all_sent)
    (told_shifted desk c p packets t.done t.windows t.messages greeted t.show t.sized t.carried (t.delivered greeted))

-- the windows' numbers stay where a change keeps them
numbers_changed : (windows : List Window) (wid : ℕ) (change : Window → Window) → ((window : Window) → (change window).wid ≡ window.wid)
    → map (λ (w : Window). w.wid) (changed_window windows wid change) ≡ map (λ (w : Window). w.wid) windows
numbers_changed windows wid change keeps = numbers_kept_lem.changing windows wid change keeps

-- a window that is missing after a change was missing before
missing_before : (windows : List Window) (wid : ℕ) (change : Window → Window) → ((window : Window) → (change window).wid ≡ window.wid) → (k : ℕ)
    → has_window (changed_window windows wid change) k ≡ false → has_window windows k ≡ false
missing_before windows wid change keeps k missing = go (eqb k wid) (find_window windows k) (ap is_some (sym (changed_finds_lem windows wid change k keeps)) ∙ missing)
  where
    go : (b : Bool) (o : Option Window) → is_some (cond b (option_map change o) o) ≡ false → is_some o ≡ false
    go true None none = refl
    go false None none = refl
    go true (Some w) none = absurd (cc none)
    go false (Some w) none = none

-- the layout stays where only pixels change
layout_changed : (windows : List Window) (wid : ℕ) (change : Window → Window) → ((window : Window) → geometry_of (change window) ≡ geometry_of window) → layout (changed_window windows wid change) ≡ layout windows
layout_changed [] wid change keeps = refl
layout_changed (w ∷ windows) wid change keeps = ap (λ g. g ∷ layout (changed_window windows wid change)) (one (eqb w.wid wid)) ∙ ap (λ gs. geometry_of w ∷ gs) (layout_changed windows wid change keeps)
  where
    one : (b : Bool) → geometry_of (cond b (change w) w) ≡ geometry_of w
    one true = keeps w
    one false = refl

-- the set of all points of a window, and the empty one
whole_is : (window : Window) (all : Bool) → IsWindow window → IsPointSet (whole_set window.w window.h all)
whole_is window all is = record { wide = is.wide.most; high = is.high.most; sized = length-replicate (window.w * window.h) all }

-- a rectangle more in a set
with_is : (r : Rectangle) (p : PointSet) → IsPointSet p → IsPointSet (with_rectangle r p)
unfolding with_rectangle
with_is r p is = record { wide = is.wide; high = is.high; sized = length-marked p.w r 0 p.marks ∙ is.sized }
  where
    length-marked : (w : ℕ) (r : Rectangle) (from : ℕ) (marks : List Bool) → length (marked_from w r from marks) ≡ length marks
    length-marked w r from [] = refl
    length-marked w r from (m ∷ marks) = ap (λ n. suc n) (length-marked w r (from + 1) marks)

-- what a captured source is
abbrev captured_source : Window → Source → Source
captured_source window s = record s { pending = whole_set window.w window.h false; next_sequence = s.next_sequence + 1 }

-- a window was captured whole, and its draw waits
delivered_captured : (desk : List Window) (sources : List Source) (packets : List Packet) (windows : List Window) (messages : List ToClient) (window : Window) (place : ℕ) (s : Source) → IsWindow window
    → find_window desk window.wid ≡ Some window → position (λ (t : Source). eqb t.wid window.wid) sources ≡ Some place → slice_get sources place ≡ Some s → CarryAll packets messages
    → IsDelivered desk sources packets windows messages
    → IsDelivered desk (set sources place (captured_source window s)) (packets ++ window_draw window s ∷ []) windows (messages ++ draws_whole window s.next_sequence ∷ [])
delivered_captured desk sources packets windows messages window place s is found at there carried d = record {
  laid = record {
    after = changed_window d.laid.after window.wid drawn;
    shown = effects_push messages (draws_whole window s.next_sequence) windows d.laid.after d.laid.shown
        ∙ cond-true _ _ _ (draw_holds window is);
    laid = layout_changed d.laid.after window.wid drawn (λ w. refl) ∙ d.laid.laid;
  };
  sourced = numbers-set sources window.wid place s (captured_source window s) at there refl ∙ d.sourced;
  sets = All-set (λ (t : Source). IsPointSet t.pending) sources place (captured_source window s) (whole_is window false is) d.sets;
  kept = λ k w t here source. kept k w t (cases_Bool (eqb k window.wid)) here source;
  absent = λ k missing. (
    (d.absent k missing).0,
    waiting k ∙ ap (λ ws. ws ++ waits_as k (window_draw window s).draw (draws_whole window s.next_sequence)) (d.absent k missing).1
        ∙ elsewhere k (apart k missing),
  );
}
  where
    drawn : Window → Window
    drawn w = drawn_window (record { x = 0; y = 0; w = window.w; h = window.h }) (decoded Exact window.w window.h (window.w * 4) (coded_bytes Exact window.pixels)) w

    waiting : (k : ℕ) → waiting_on k (packets ++ window_draw window s ∷ []) (messages ++ draws_whole window s.next_sequence ∷ [])
        ≡ waiting_on k packets messages ++ waits_as k (window_draw window s).draw (draws_whole window s.next_sequence)
    waiting k = waiting_push k packets messages (window_draw window s) (draws_whole window s.next_sequence) carried

    elsewhere : (k : ℕ) → eqb k window.wid ≡ false → waits_as k (window_draw window s).draw (draws_whole window s.next_sequence) ≡ []
    elsewhere k other = rw other refl

    apart : (k : ℕ) → has_window desk k ≡ false → eqb k window.wid ≡ false
    apart k missing = go (cases_Bool (eqb k window.wid))
      where
        go : (eqb k window.wid ≡ true) ⊎ (eqb k window.wid ≡ false) → eqb k window.wid ≡ false
        go (inl same) = absurd (false≢true (sym missing ∙ ap (λ n. has_window desk n) (eqb-true k window.wid same) ∙ ap is_some found))
        go (inr other) = other

    source_is : (k : ℕ) → find_source (set sources place (captured_source window s)) k ≡ cond (eqb k window.wid) (Some (captured_source window s)) (find_source sources k)
    source_is k = find_source-set sources window.wid place s (captured_source window s) k at there (wid_at sources window.wid place s at there)

    kept : (k : ℕ) (w : Window) (t : Source) → (eqb k window.wid ≡ true) ⊎ (eqb k window.wid ≡ false) → find_window desk k ≡ Some w → find_source (set sources place (captured_source window s)) k ≡ Some t
        → IsKept (delivery w (find_window windows k) (waiting_on k (packets ++ window_draw window s ∷ []) (messages ++ draws_whole window s.next_sequence ∷ [])) t)
    kept k w t (inr other) here source =
        let old : find_source sources k ≡ Some t = sym (cond-false _ _ _ other) ∙ sym (source_is k) ∙ source in
        rw (waiting k, elsewhere k other, append-nil) (d.kept k w t here old)
    kept k w t (inl same) here source =
        let number : k ≡ window.wid = eqb-true k window.wid same in
        let w_is : window ≡ w = some_same window w (sym found ∙ ap (find_window desk) (sym number) ∙ here) in
        let t_is : captured_source window s ≡ t = some_same _ t (sym (cond-true _ _ _ same) ∙ sym (source_is k) ∙ source) in
        let old : find_source sources k ≡ Some s = ap (find_source sources) number ∙ find_source-at sources window.wid place s at there in
        let before : IsKept (delivery window (find_window windows k) (waiting_on k packets messages) s) = d.kept k window s (ap (find_window desk) number ∙ found) old in
        let after = delivery_captured window (find_window windows k) (waiting_on k packets messages) s (captured_source window s) (draw_shows window is) refl before in
        let packets' = packets ++ window_draw window s ∷ [] in
        let messages' = messages ++ draws_whole window s.next_sequence ∷ [] in
        subst (λ (v : Window). IsKept (delivery v (find_window windows k) (waiting_on k packets' messages') t)) w_is
        (subst (λ (u : Source). IsKept (delivery window (find_window windows k) (waiting_on k packets' messages') u)) t_is (rw (waiting k, same) after))

pub told_captured : (desk : List Window) (c : ClientSeen) (sent : List ℕ) (window : Window) (place : ℕ) (s : Source) → c.greeted ≡ true → IsWindow window → s.next_sequence < 2 ^ 63
    → find_window desk window.wid ≡ Some window → position (λ (t : Source). eqb t.wid window.wid) c.sources ≡ Some place → slice_get c.sources place ≡ Some s
    → IsTold desk c sent → IsTold desk (captured window place s c) sent
told_captured desk c sent window place s greeted is low found at there told = record {
  done = told.done;
  windows = told.windows;
  messages = told.messages ++ draws_whole window s.next_sequence ∷ [];
  sent_is = told.sent_is ∙ ap (λ bs. told.done ++ bs) (same_front c.packets (window_draw window s) c.taken told.part);
  show = told.show;
  sized = told.sized;
  carried = carry_push c.packets told.messages (window_draw window s) (draws_whole window s.next_sequence) told.carried
      (record { message = draws_message window s.next_sequence is low; draw = (refl, refl, refl, refl); built = refl });
  part = taken_push c.packets (window_draw window s) c.taken (draw_some window s.next_sequence) told.part;
  empty = told.empty;
  unattached = λ none. absurd (cc (none, greeted));
  unspoken = λ none. absurd (cc (none, greeted));
  delivered = λ _. delivered_captured desk c.sources c.packets told.windows told.messages window place s is found at there told.carried (told.delivered greeted);
}
  where
    same_front : (packets : List Packet) (p : Packet) (taken : ℕ) → IsTaken packets taken → take taken (front_bytes packets) ≡ take taken (front_bytes (packets ++ p ∷ []))
    same_front [] p taken none = rw none refl
    same_front (q ∷ packets) p taken part = refl

-- a rectangle of a window was filled, and is pending
pub told_filled : (desk : List Window) (c : ClientSeen) (sent : List ℕ) (wid : ℕ) (r : Rectangle) (colour : ℕ) → IsDesktop desk → IsTold desk c sent → IsTold (filled_on desk wid r colour) (damaged wid r c) sent
told_filled desk c sent wid r colour is told = record {
  done = told.done;
  windows = told.windows;
  messages = told.messages;
  sent_is = told.sent_is;
  show = told.show;
  sized = told.sized;
  carried = told.carried;
  part = told.part;
  empty = told.empty;
  unattached = λ none. ap (map (damaged_source wid r)) (told.unattached none);
  unspoken = told.unspoken;
  delivered = λ greeted. delivered_filled (told.delivered greeted);
}
  where
    keeps : (s : Source) → (damaged_source wid r s).wid ≡ s.wid
    keeps s = one (eqb s.wid wid)
      where
        one : (b : Bool) → (cond b (record s { pending = with_rectangle r s.pending }) s).wid ≡ s.wid
        one true = refl
        one false = refl

    set_is : (s : Source) → IsPointSet s.pending → IsPointSet (damaged_source wid r s).pending
    set_is s is = one (eqb s.wid wid)
      where
        one : (b : Bool) → IsPointSet (cond b (record s { pending = with_rectangle r s.pending }) s).pending
        one true = with_is r s.pending is
        one false = is

    -- the source of that window is damaged, and no other
    damaged_as : (k : ℕ) (s : Source) (b : Bool) → eqb s.wid k ≡ true → eqb k wid ≡ b → damaged_source wid r s ≡ cond b (record s { pending = with_rectangle r s.pending }) s
    damaged_as k s b number which = ap (λ test. cond test (record s { pending = with_rectangle r s.pending }) s) (ap (λ n. eqb n wid) (eqb-true s.wid k number) ∙ which)

    kept : IsDelivered desk c.sources c.packets told.windows told.messages → (k : ℕ) (w : Window) (s : Source) (b : Bool) (o : Option Window) (q : Option Source) → eqb k wid ≡ b
        → find_window desk k ≡ o → find_source c.sources k ≡ q → cond b (option_map (filled_window r colour) o) o ≡ Some w → option_map (damaged_source wid r) q ≡ Some s
        → IsKept (delivery w (find_window told.windows k) (waiting_on k c.packets told.messages) s)
    kept d k w s true None q which here source w_is s_is = absurd (cc w_is)
    kept d k w s false None q which here source w_is s_is = absurd (cc w_is)
    kept d k w s b (Some v) None which here source w_is s_is = absurd (cc s_is)
    kept d k w s true (Some v) (Some t) which here source w_is s_is =
        let window : IsWindow v = (found_one IsWindow (λ (u : Window). eqb u.wid k) desk v is.windows here).0 in
        let found = found_one (λ (u : Source). IsPointSet u.pending) (λ (u : Source). eqb u.wid k) c.sources t d.sets source in
        let after = delivery_filled v (find_window told.windows k) (waiting_on k c.packets told.messages) t r colour window.sized found.0 (d.kept k v t here source) in
        subst (λ (u : Window). IsKept (delivery u (find_window told.windows k) (waiting_on k c.packets told.messages) s)) (some_same _ w w_is)
        (subst (λ (u : Source). IsKept (delivery (filled_window r colour v) (find_window told.windows k) (waiting_on k c.packets told.messages) u)) (sym (damaged_as k t true found.1 which) ∙ some_same _ s s_is) after)
    kept d k w s false (Some v) (Some t) which here source w_is s_is =
        let found = found_one (λ (u : Source). IsPointSet u.pending) (λ (u : Source). eqb u.wid k) c.sources t d.sets source in
        subst (λ (u : Window). IsKept (delivery u (find_window told.windows k) (waiting_on k c.packets told.messages) s)) (some_same _ w w_is)
        (subst (λ (u : Source). IsKept (delivery v (find_window told.windows k) (waiting_on k c.packets told.messages) u)) (sym (damaged_as k t false found.1 which) ∙ some_same _ s s_is) (d.kept k v t here source))

    delivered_filled : IsDelivered desk c.sources c.packets told.windows told.messages → IsDelivered (filled_on desk wid r colour) (map (damaged_source wid r) c.sources) c.packets told.windows told.messages
    delivered_filled d = record {
      laid = record { after = d.laid.after; shown = d.laid.shown; laid = d.laid.laid ∙ sym (layout_changed desk wid (filled_window r colour) (λ w. refl)) };
      sourced = numbers-map (damaged_source wid r) keeps c.sources ∙ d.sourced ∙ sym (numbers_changed desk wid (filled_window r colour) (λ w. refl));
      sets = All-map (λ (s : Source). IsPointSet s.pending) (damaged_source wid r) c.sources
          (All-weaker (λ (s : Source). IsPointSet s.pending) (λ (s : Source). IsPointSet (damaged_source wid r s).pending) set_is c.sources d.sets);
      kept = λ k w s here source. kept d k w s (eqb k wid) (find_window desk k) (find_source c.sources k) refl refl refl
          (sym (changed_finds_lem desk wid (filled_window r colour) k (λ w. refl)) ∙ here) (sym (find_source-map (damaged_source wid r) keeps c.sources k) ∙ source);
      absent = λ k missing. d.absent k (missing_before desk wid (filled_window r colour) (λ w. refl) k missing);
    }
