-- What a client is told of windows that it has not yet: when its hello is accepted, and when a window is opened.
use Rattle.std.proofs.Common.{◌≡◌, ◌≢◌, ◌⊎◌, inl, inr, ℕ, suc, ◌*◌, ◌<◌, Bool, true, false, List, [], ◌∷◌, ◌++◌, Option, Some, None, length, map, get_or, take, cond, eqb, refl, sym, ap, ◌∙◌, subst, arith}
use Rattle.std.specs.Prelude.{All, AllPairs, is_some}
use Rattle.std.specs.Option.{option_map}
use Rattle.std.specs.List.{list_any}
use Rattle.std.proofs.lemmas.Bool.{cases_Bool, eqb-true, eq-eqb, false≢true, cond-true, cond-false}
use Rattle.std.proofs.lemmas.Bool.Decides.{nat_tests}
use Rattle.std.proofs.lemmas.List.{append_assoc, append-nil, map-append, length-replicate}
use Rattle.std.proofs.Math.Seq.{take-nil}
use Rattle.std.proofs.lemmas.List.Elements.{All-nil, All-push, All-map, All-weaker, All-head, All-tail}
use Rattle.window_model.specs.Desktop.{Window, IsWindow, IsDesktop, find_window, has_window, opened, fresh_window}
use Rattle.window_model.proofs.Desktops.{opened_finds_lem}
use Rattle.delivery_model.specs.Window.{Packet as Waiting, NewWindow}
use Rattle.delivery_model.specs.Kept.{IsKept}
use Rattle.packet_kinds.specs.declared.to_client.ToClient.{ToClient}
use Rattle.packet_kinds.specs.Written.{IsMessage, Show}
use Rattle.packet_kinds.proofs.Following.{message_has_bytes}
use Rattle.client_connection.specs.PointSets.{IsPointSet}
use Rattle.client_connection.specs.declared.packet.Packet.{Packet}
use Rattle.client_connection.specs.declared.source.Source.{Source}
use Rattle.client_connection.specs.declared.geometry.Geometry.{Geometry}
use Rattle.client_connection.specs.Wire.{client_limit, geometry_of, announces, new_window, server_hello}
use Rattle.client_connection.specs.Clients.{ClientSeen, announced, attached, mapped_source, fresh_source, structure_packet, IsTaken}
use Rattle.client_connection.specs.Delivery.{waiting_on, find_source, delivery}
use Rattle.client_connection.specs.Told.{Carries, CarryAll, after_some, effects, layout, front_bytes, AreSources, IsDelivered, IsTold}
use Rattle.client_connection.proofs.Deliveries.{delivery_started}
use Rattle.client_connection.proofs.Sources.{some_same, find_source-map, numbers-map, source_where, none_of, find_source-push}
use Rattle.client_connection.proofs.Waitings.{carry_push, waiting_push, effects_push}
use Rattle.client_connection.proofs.Sendings.{taken_push, new_window_some}
use Rattle.client_connection.proofs.Carried.{greets, IsGeometry, geometry_is, announces_message, hello_message}

-- the packet that announces a window
announcing : Geometry → Packet
announcing g = structure_packet (new_window g)

carries_window : (g : Geometry) → IsGeometry g → Carries (structure_packet (new_window g)) (announces g)
carries_window g is = record { message = announces_message g is; draw = tt; built = tt }

-- windows of one layout have the same numbers
has_layout : (windows : List Window) (k : ℕ) → has_window windows k ≡ list_any (λ (g : Geometry). eqb g.wid k) (layout windows)
has_layout [] k = refl
has_layout (w ∷ windows) k = elim (cases_Bool (eqb w.wid k)) [
  | inl here ↦ rw here refl
  | inr elsewhere ↦ rw elsewhere (has_layout windows k)
]

same_numbers : (windows desk : List Window) (k : ℕ) → layout windows ≡ layout desk → has_window windows k ≡ has_window desk k
same_numbers windows desk k laid = has_layout windows k ∙ ap (list_any (λ (g : Geometry). eqb g.wid k)) laid ∙ sym (has_layout desk k)

fresh_set : (g : Geometry) → IsGeometry g → IsPointSet (fresh_source g).pending
fresh_set g is = record { wide = is.wide.most; high = is.high.most; sized = length-replicate (g.w * g.h) true }

-- the window that an announcement makes
blank_of : Geometry → Window
blank_of g = fresh_window g.wid g.x g.y g.w g.h

-- a window was opened, and is announced
delivered_opened : (desk : List Window) (sources : List Source) (packets : List Packet) (windows : List Window) (messages : List ToClient) (g : Geometry) → IsGeometry g → has_window desk g.wid ≡ false → CarryAll packets messages
    → IsDelivered desk sources packets windows messages
    → IsDelivered (opened desk g.wid g.x g.y g.w g.h) (sources ++ fresh_source g ∷ []) (packets ++ structure_packet (new_window g) ∷ []) windows (messages ++ announces g ∷ [])
delivered_opened desk sources packets windows messages g is missing carried d = record {
  laid = record {
    after = d.laid.after ++ fresh_window g.wid g.x g.y g.w g.h ∷ [];
    shown = effects_push messages (announces g) windows d.laid.after d.laid.shown
        ∙ ap (λ b. Some (cond b d.laid.after (d.laid.after ++ fresh_window g.wid g.x g.y g.w g.h ∷ []))) (same_numbers d.laid.after desk g.wid d.laid.laid ∙ missing);
    laid = map-append _ d.laid.after _ ∙ ap (λ gs. gs ++ g ∷ []) d.laid.laid ∙ sym (map-append _ desk _);
  };
  sourced = map-append _ sources _ ∙ ap (λ ns. ns ++ g.wid ∷ []) d.sourced ∙ sym (map-append _ desk _);
  sets = All-push (λ (s : Source). IsPointSet s.pending) sources (fresh_source g) d.sets (fresh_set g is);
  kept = λ k w s here source. kept k w s (cases_Bool (eqb k g.wid)) (sym (window_is k) ∙ here) (sym (source_is k) ∙ source);
  absent = λ k gone. absent k (cases_Bool (eqb k g.wid)) (ap is_some (sym (window_is k)) ∙ gone);
}
  where
    no_source : find_source sources g.wid ≡ None
    no_source = none_of (find_source sources g.wid) (source_where desk sources g.wid d.sourced ∙ missing)

    window_is : (k : ℕ) → find_window (opened desk g.wid g.x g.y g.w g.h) k ≡ cond (eqb k g.wid) (Some (fresh_window g.wid g.x g.y g.w g.h)) (find_window desk k)
    window_is k = opened_finds_lem desk g.wid g.x g.y g.w g.h k missing

    source_is : (k : ℕ) → find_source (sources ++ fresh_source g ∷ []) k ≡ cond (eqb k g.wid) (Some (fresh_source g)) (find_source sources k)
    source_is k = find_source-push sources (fresh_source g) k no_source

    waiting : (k : ℕ) → waiting_on k (packets ++ structure_packet (new_window g) ∷ []) (messages ++ announces g ∷ []) ≡ waiting_on k packets messages ++ cond (eqb k g.wid) (NewWindow g.w g.h ∷ []) []
    waiting k = waiting_push k packets messages (structure_packet (new_window g)) (announces g) carried

    kept : (k : ℕ) (w : Window) (s : Source) → (eqb k g.wid ≡ true) ⊎ (eqb k g.wid ≡ false) → cond (eqb k g.wid) (Some (fresh_window g.wid g.x g.y g.w g.h)) (find_window desk k) ≡ Some w
        → cond (eqb k g.wid) (Some (fresh_source g)) (find_source sources k) ≡ Some s
        → IsKept (delivery w (find_window windows k) (waiting_on k (packets ++ structure_packet (new_window g) ∷ []) (messages ++ announces g ∷ [])) s)
    kept k w s (inl same) here source =
        let gone = d.absent k (ap (has_window desk) (eqb-true k g.wid same) ∙ missing) in
        let w_is : fresh_window g.wid g.x g.y g.w g.h ≡ w = some_same _ w (sym (cond-true _ _ _ same) ∙ here) in
        let s_is : fresh_source g ≡ s = some_same _ s (sym (cond-true _ _ _ same) ∙ source) in
        subst (λ (v : Window). IsKept (delivery v (find_window windows k) (waiting_on k (packets ++ structure_packet (new_window g) ∷ []) (messages ++ announces g ∷ [])) s)) w_is
        (subst (λ (u : Source). IsKept (delivery (fresh_window g.wid g.x g.y g.w g.h) (find_window windows k) (waiting_on k (packets ++ structure_packet (new_window g) ∷ []) (messages ++ announces g ∷ [])) u)) s_is
        (rw (waiting k, gone.0, gone.1, same) (delivery_started (fresh_window g.wid g.x g.y g.w g.h) (fresh_source g) refl)))
    kept k w s (inr other) here source =
        rw (waiting k, other, append-nil) (d.kept k w s (sym (cond-false _ _ _ other) ∙ here) (sym (cond-false _ _ _ other) ∙ source))

    absent : (k : ℕ) → (eqb k g.wid ≡ true) ⊎ (eqb k g.wid ≡ false) → is_some (cond (eqb k g.wid) (Some (fresh_window g.wid g.x g.y g.w g.h)) (find_window desk k)) ≡ false
        → (find_window windows k ≡ None) × (waiting_on k (packets ++ structure_packet (new_window g) ∷ []) (messages ++ announces g ∷ []) ≡ [])
    absent k (inl same) gone = absurd (cc (rw same at gone))
    absent k (inr other) gone =
        let was = d.absent k (rw other at gone) in (was.0, waiting k ∙ ap (λ ws. ws ++ cond (eqb k g.wid) (NewWindow g.w g.h ∷ []) []) was.1 ∙ cond-false _ _ _ other)

-- of a client that has said nothing yet the desktop says nothing
told_unattached : (desk desk' : List Window) (c : ClientSeen) (sent : List ℕ) → c.greeted ≡ false → IsTold desk c sent → IsTold desk' c sent
told_unattached desk desk' c sent not_yet told = record {
  done = told.done;
  windows = told.windows;
  messages = told.messages;
  sent_is = told.sent_is;
  show = told.show;
  sized = told.sized;
  carried = told.carried;
  part = told.part;
  empty = told.empty;
  unattached = told.unattached;
  unspoken = told.unspoken;
  delivered = λ greeted. absurd (false≢true (sym not_yet ∙ greeted));
}

-- what a client keeps where a window was opened
pub told_opened : (desk : List Window) (c : ClientSeen) (sent : List ℕ) (g : Geometry) → IsGeometry g → has_window desk g.wid ≡ false → IsTold desk c sent
    → IsTold (opened desk g.wid g.x g.y g.w g.h) (announced g c) sent
told_opened desk c sent g is missing told = go (cases_Bool c.greeted)
  where
    same_front : (packets : List Packet) (p : Packet) (taken : ℕ) → IsTaken packets taken → take taken (front_bytes packets) ≡ take taken (front_bytes (packets ++ p ∷ []))
    same_front [] p taken none = rw none refl
    same_front (q ∷ packets) p taken part = refl

    greeted_told : c.greeted ≡ true → IsTold (opened desk g.wid g.x g.y g.w g.h) (record c { sources = c.sources ++ fresh_source g ∷ []; packets = c.packets ++ structure_packet (new_window g) ∷ [] }) sent
    greeted_told greeted = record {
      done = told.done;
      windows = told.windows;
      messages = told.messages ++ announces g ∷ [];
      sent_is = told.sent_is ∙ ap (λ bs. told.done ++ bs) (same_front c.packets (structure_packet (new_window g)) c.taken told.part);
      show = told.show;
      sized = told.sized;
      carried = carry_push c.packets told.messages (structure_packet (new_window g)) (announces g) told.carried (carries_window g is);
      part = taken_push c.packets (structure_packet (new_window g)) c.taken (new_window_some g) told.part;
      empty = told.empty;
      unattached = λ none. absurd (cc (none, greeted));
      unspoken = λ none. absurd (cc (none, greeted));
      delivered = λ _. delivered_opened desk c.sources c.packets told.windows told.messages g is missing told.carried (told.delivered greeted);
    }

    go : (c.greeted ≡ true) ⊎ (c.greeted ≡ false) → IsTold (opened desk g.wid g.x g.y g.w g.h) (announced g c) sent
    go (inl greeted) = subst (λ (d : ClientSeen). IsTold (opened desk g.wid g.x g.y g.w g.h) d sent) (sym (cond-true _ _ _ greeted)) (greeted_told greeted)
    go (inr not_yet) = subst (λ (d : ClientSeen). IsTold (opened desk g.wid g.x g.y g.w g.h) d sent) (sym (cond-false _ _ _ not_yet)) (told_unattached desk _ c sent not_yet told)

some_bytes : (limit : ℕ) (bytes : List ℕ) (m : ToClient) → IsMessage limit bytes m → 0 < length bytes
some_bytes limit bytes m is = omega (arith, message_has_bytes limit bytes m is)

-- the windows that are announced, from bottom to top
abbrev announcements : List Window → List ToClient
announcements desk = map (λ (w : Window). announces (geometry_of w)) desk

abbrev announcers : List Window → List Packet
announcers desk = map (λ (w : Window). structure_packet (new_window (geometry_of w))) desk

abbrev blanks : List Window → List Window
blanks desk = map (λ (w : Window). fresh_window w.wid w.x w.y w.w w.h) desk

carries_windows : (desk : List Window) → All IsWindow desk → CarryAll (announcers desk) (announcements desk)
carries_windows [] are = tt
carries_windows (w ∷ desk) are =
    (carries_window (geometry_of w) (geometry_is w (All-head IsWindow w desk are)), carries_windows desk (All-tail IsWindow w desk are))

-- no window of these has the number of one of those
abbrev AreApart : List Window → List Window → Type 0
AreApart before desk = All (λ (w : Window). has_window before w.wid ≡ false) desk

abbrev AreDistinct : List Window → Type 0
AreDistinct desk = AllPairs (λ (lower upper : Window). lower.wid ≢ upper.wid) desk

-- the others are apart from the first
apart_first : (w : Window) (desk : List Window) → AreDistinct (w ∷ desk) → All (λ (v : Window). w.wid ≢ v.wid) desk
apart_first w desk distinct = λ k d within. distinct 0 (suc k) d (omega arith) (omega (arith, within))

distinct_rest : (w : Window) (desk : List Window) → AreDistinct (w ∷ desk) → AreDistinct desk
distinct_rest w desk distinct = λ i k d before within. distinct (suc i) (suc k) d (omega (arith, before)) (omega (arith, within))

-- announced one after the other they stand on top, all black
effects_announced : (before desk : List Window) → AreApart before desk → AreDistinct desk → effects (announcements desk) before ≡ Some (before ++ blanks desk)
effects_announced before [] apart distinct = ap (λ (ws : List Window). Some ws) (sym (append-nil before))
effects_announced before (w ∷ desk) apart distinct =
    let first : has_window before w.wid ≡ false = All-head (λ (v : Window). has_window before v.wid ≡ false) w desk apart in
    let next = before ++ fresh_window w.wid w.x w.y w.w w.h ∷ [] in
    let others : AreApart next desk = λ k d within.
    let other : w.wid ≢ (get_or desk k d).wid = apart_first w desk distinct k d within in
    let was : has_window before (get_or desk k d).wid ≡ false = All-tail (λ (v : Window). has_window before v.wid ≡ false) w desk apart k d within in
    let test : eqb (get_or desk k d).wid w.wid ≡ false = grind (arith, nat_tests, other) in
    ap is_some (opened_finds_lem before w.wid w.x w.y w.w w.h (get_or desk k d).wid first) ∙ ap is_some (cond-false _ (Some (fresh_window w.wid w.x w.y w.w w.h)) (find_window before (get_or desk k d).wid) test) ∙ was in
    ap (λ b. after_some (Some (cond b before next)) (effects (announcements desk))) first
    ∙ effects_announced next desk others (distinct_rest w desk distinct)
    ∙ ap (λ (ws : List Window). Some ws) (append_assoc before (fresh_window w.wid w.x w.y w.w w.h ∷ []) (blanks desk))

layout_blanks : (desk : List Window) → layout (blanks desk) ≡ layout desk
layout_blanks [] = refl
layout_blanks (w ∷ desk) = ap (λ gs. geometry_of w ∷ gs) (layout_blanks desk)

abbrev fresh_sources : List Window → List Source
fresh_sources desk = map (λ (w : Window). fresh_source (geometry_of w)) desk

sources_numbers : (desk : List Window) → AreSources desk (fresh_sources desk)
sources_numbers [] = refl
sources_numbers (w ∷ desk) = ap (λ ns. w.wid ∷ ns) (sources_numbers desk)

fresh_sets : (desk : List Window) → All IsWindow desk → All (λ (s : Source). IsPointSet s.pending) (fresh_sources desk)
fresh_sets desk are = All-map (λ (s : Source). IsPointSet s.pending) (λ (w : Window). fresh_source (geometry_of w)) desk
    (All-weaker IsWindow (λ (w : Window). IsPointSet (fresh_source (geometry_of w)).pending) (λ w is. fresh_set (geometry_of w) (geometry_is w is)) desk are)

-- each window's source is found with it
find_fresh : (desk : List Window) (k : ℕ) → find_source (fresh_sources desk) k ≡ option_map (λ (w : Window). fresh_source (geometry_of w)) (find_window desk k)
find_fresh [] k = refl
find_fresh (w ∷ desk) k = elim (cases_Bool (eqb w.wid k)) [
  | inl here ↦ rw here refl
  | inr elsewhere ↦ rw elsewhere (find_fresh desk k)
]

flipped : (m n : ℕ) → eqb m n ≡ false → eqb n m ≡ false
flipped m n other = grind (arith, nat_tests, other)

flipped_same : (m n : ℕ) → eqb m n ≡ true → eqb n m ≡ true
flipped_same m n same = eq-eqb n m (sym (eqb-true m n same))

-- a window that is not there is not announced
no_announcement : (desk : List Window) (k : ℕ) → has_window desk k ≡ false → waiting_on k (announcers desk) (announcements desk) ≡ []
no_announcement [] k missing = refl
no_announcement (w ∷ desk) k missing = go (cases_Bool (eqb w.wid k)) (no_announcement desk k) missing
  where
    go : (eqb w.wid k ≡ true) ⊎ (eqb w.wid k ≡ false) → (has_window desk k ≡ false → waiting_on k (announcers desk) (announcements desk) ≡ [])
        → is_some (cond (eqb w.wid k) (Some w) (find_window desk k)) ≡ false
        → cond (eqb k w.wid) (NewWindow w.w w.h ∷ []) [] ++ waiting_on k (announcers desk) (announcements desk) ≡ []
    go (inl here) rest missing = absurd (cc (rw here at missing))
    go (inr elsewhere) rest missing = rw (flipped w.wid k elsewhere) (rest (rw elsewhere at missing))

-- a number that differs from those of all windows is none of theirs
no_other : (n : ℕ) (desk : List Window) → All (λ (v : Window). n ≢ v.wid) desk → has_window desk n ≡ false
no_other n [] apart = refl
no_other n (w ∷ desk) apart =
    let other : n ≢ w.wid = All-head (λ (v : Window). n ≢ v.wid) w desk apart in
    let test : eqb w.wid n ≡ false = grind (arith, nat_tests, other) in
    ap is_some (cond-false (eqb w.wid n) (Some w) (find_window desk n) test) ∙ no_other n desk (All-tail (λ (v : Window). n ≢ v.wid) w desk apart)

-- a window that is there is announced once
one_announcement : (desk : List Window) (k : ℕ) (w : Window) → AreDistinct desk → find_window desk k ≡ Some w → waiting_on k (announcers desk) (announcements desk) ≡ NewWindow w.w w.h ∷ []
one_announcement [] k w distinct found = absurd (cc found)
one_announcement (v ∷ desk) k w distinct found = go (cases_Bool (eqb v.wid k)) (one_announcement desk k w (distinct_rest v desk distinct)) found
  where
    go : (eqb v.wid k ≡ true) ⊎ (eqb v.wid k ≡ false) → (find_window desk k ≡ Some w → waiting_on k (announcers desk) (announcements desk) ≡ NewWindow w.w w.h ∷ [])
        → cond (eqb v.wid k) (Some v) (find_window desk k) ≡ Some w
        → cond (eqb k v.wid) (NewWindow v.w v.h ∷ []) [] ++ waiting_on k (announcers desk) (announcements desk) ≡ NewWindow w.w w.h ∷ []
    go (inl here) rest found =
        let gone : has_window desk k ≡ false = ap (has_window desk) (sym (eqb-true v.wid k here)) ∙ no_other v.wid desk (apart_first v desk distinct) in
        let same : v ≡ w = some_same v w (sym (cond-true _ _ _ here) ∙ found) in
        rw (flipped_same v.wid k here, no_announcement desk k gone) (ap (λ (u : Window). NewWindow u.w u.h ∷ []) same)
    go (inr elsewhere) rest found = rw (flipped v.wid k elsewhere) (rest (sym (cond-false _ _ _ elsewhere) ∙ found))

-- a client whose hello was accepted is told of every window
delivered_attached : (desk : List Window) → IsDesktop desk → IsDelivered desk (fresh_sources desk) (structure_packet server_hello ∷ announcers desk) [] (greets ∷ announcements desk)
delivered_attached desk is = record {
  laid = record {
    after = blanks desk;
    shown = effects_announced [] desk (λ k d within. refl) is.distinct;
    laid = layout_blanks desk;
  };
  sourced = sources_numbers desk;
  sets = fresh_sets desk is.windows;
  kept = λ k w s here source.
      let s_is : fresh_source (geometry_of w) ≡ s = some_same _ s (sym (find_fresh desk k ∙ ap (option_map (λ (v : Window). fresh_source (geometry_of v))) here) ∙ source) in
      rw (one_announcement desk k w is.distinct here) (delivery_started w s (ap (λ (t : Source). t.pending) (sym s_is)));
  absent = λ k missing. (refl, no_announcement desk k missing);
}

-- what a client keeps where its hello is accepted, which had no packet to wait for
pub told_attached : (desk : List Window) (c : ClientSeen) (sent : List ℕ) (maps : ℕ) (unread : List ℕ) → IsDesktop desk → c.greeted ≡ false → IsTold desk c sent
    → IsTold desk (record (attached desk c) { maps = maps; unread = unread }) sent
told_attached desk c sent maps unread is not_yet told =
    let none = told.unspoken not_yet in
    let dark : told.windows ≡ [] = told.empty not_yet in
    record {
      done = told.done;
      windows = [];
      messages = greets ∷ announcements desk;
      sent_is = told.sent_is ∙ ap (λ packets. told.done ++ take c.taken (front_bytes packets)) none ∙ ap (λ bs. told.done ++ bs) (take-nil c.taken);
      show = subst (Show client_limit told.done) dark told.show;
      sized = All-nil _;
      carried = (record { message = hello_message; draw = tt; built = tt }, carries_windows desk is.windows);
      part = some_bytes client_limit server_hello greets hello_message;
      empty = λ _. refl;
      unattached = λ none. absurd (cc none);
      unspoken = λ none. absurd (cc none);
      delivered = λ _. delivered_attached desk is;
    }

-- the client mapped a window: what it is owed stays
delivered_mapped : (desk : List Window) (sources : List Source) (packets : List Packet) (windows : List Window) (messages : List ToClient) (wid : ℕ)
    → IsDelivered desk sources packets windows messages → IsDelivered desk (map (mapped_source wid) sources) packets windows messages
delivered_mapped desk sources packets windows messages wid d = record {
  laid = d.laid;
  sourced = numbers-map (mapped_source wid) (λ s. (same s (eqb s.wid wid)).0) sources ∙ d.sourced;
  sets = All-map (λ (s : Source). IsPointSet s.pending) (mapped_source wid) sources
      (All-weaker (λ (s : Source). IsPointSet s.pending) (λ (s : Source). IsPointSet (mapped_source wid s).pending) (λ s set. rw ((same s (eqb s.wid wid)).1) set) sources d.sets);
  kept = λ k w s here source. kept k w s (find_source sources k) refl here (sym (find_source-map (mapped_source wid) (λ t. (same t (eqb t.wid wid)).0) sources k) ∙ source);
  absent = d.absent;
}
  where
    marked : (client : Option Window) (waiting : List Waiting) (w : Window) (t : Source) (b : Bool) → IsKept (delivery w client waiting t) → IsKept (delivery w client waiting (cond b (record t { mapped = true }) t))
    marked client waiting w t true kept = record { sized = kept.sized; jobs = kept.jobs; packets = kept.packets; pending = kept.pending; lossy = kept.lossy; points = kept.points }
    marked client waiting w t false kept = kept

    kept : (k : ℕ) (w : Window) (s : Source) (q : Option Source) → find_source sources k ≡ q → find_window desk k ≡ Some w → option_map (mapped_source wid) q ≡ Some s
        → IsKept (delivery w (find_window windows k) (waiting_on k packets messages) s)
    kept k w s None source here s_is = absurd (cc s_is)
    kept k w s (Some t) source here s_is =
        subst (λ (u : Source). IsKept (delivery w (find_window windows k) (waiting_on k packets messages) u)) (some_same _ s s_is)
        (marked (find_window windows k) (waiting_on k packets messages) w t (eqb t.wid wid) (d.kept k w t here source))

    same : (s : Source) (b : Bool) → ((cond b (record s { mapped = true }) s).wid ≡ s.wid) × ((cond b (record s { mapped = true }) s).pending ≡ s.pending)
    same s true = (refl, refl)
    same s false = (refl, refl)

pub told_mapped : (desk : List Window) (c : ClientSeen) (sent : List ℕ) (wid maps : ℕ) (unread : List ℕ) → IsTold desk c sent
    → IsTold desk (record c { maps = maps; unread = unread; sources = map (mapped_source wid) c.sources }) sent
told_mapped desk c sent wid maps unread told = record {
  done = told.done;
  windows = told.windows;
  messages = told.messages;
  sent_is = told.sent_is;
  show = told.show;
  sized = told.sized;
  carried = told.carried;
  part = told.part;
  empty = told.empty;
  unattached = λ none. ap (map (mapped_source wid)) (told.unattached none);
  unspoken = told.unspoken;
  delivered = λ greeted. delivered_mapped desk c.sources c.packets told.windows told.messages wid (told.delivered greeted);
}

-- more was read, and no packet more is whole
pub told_read : (desk : List Window) (c : ClientSeen) (sent : List ℕ) (maps : ℕ) (unread : List ℕ) → IsTold desk c sent → IsTold desk (record c { maps = maps; unread = unread }) sent
told_read desk c sent maps unread told = record {
  done = told.done;
  windows = told.windows;
  messages = told.messages;
  sent_is = told.sent_is;
  show = told.show;
  sized = told.sized;
  carried = told.carried;
  part = told.part;
  empty = told.empty;
  unattached = told.unattached;
  unspoken = told.unspoken;
  delivered = told.delivered;
}
