-- What is kept of a client comes to this: each pixel in which it differs from the desktop is owed.
use Rattle.std.proofs.Common.{◌≡◌, ◌≢◌, ◌⊎◌, inl, inr, ℕ, ◌*◌, Bool, true, false, ◌&&◌, ◌||◌, List, [], ◌∷◌, ◌++◌, Option, Some, None, length, map, take, drop, cond, eqb, refl, sym, ap, ◌∙◌, subst, arith}
use Rattle.std.specs.Prelude.{All, is_some}
use Rattle.std.proofs.lemmas.List.Elements.{All-weaker}
use Rattle.std.specs.Option.{option_map, option_and_then}
use Rattle.std.specs.List.{list_any, concat}
use Rattle.std.proofs.lemmas.Bool.{cases_Bool, or_parts, eqb-true, eq-eqb, cond-true, cond-false}
use Rattle.std.proofs.lemmas.Bool.Decides.{nat_tests}
use Rattle.std.proofs.lemmas.List.{append_assoc, append-nil, take-append-drop, length-drop}
use Rattle.std.proofs.Math.Seq.{take-nil}
use Rattle.xp_base.specs.Points.{is_within}
use Rattle.xp_base.specs.Grid.{number_at}
use Rattle.window_model.specs.Desktop.{Window, IsWindow, IsDesktop, find_window}
use Rattle.window_model.proofs.Points.{number_at-inside}
use Rattle.delivery_model.specs.Grids.{number, shown_at}
use Rattle.delivery_model.specs.Window.{Packet as Waiting, NewWindow, WindowResized}
use Rattle.delivery_model.specs.Owed.{packets_relieve, is_owed}
use Rattle.delivery_model.proofs.Grids.{has-points}
use Rattle.delivery_model.proofs.Steadies.{shown_unless_owed, is_steady, nothing_in_front}
use Rattle.packet_kinds.specs.declared.to_client.ToClient.{ToClient}
use Rattle.packet_kinds.specs.declared.to_client.ToClient.TheVariants as T
use Rattle.packet_kinds.specs.Picture.{picture}
use Rattle.packet_kinds.specs.Written.{Show}
use Rattle.packet_kinds.proofs.Following.{message_follows, part_shows_nothing}
use Rattle.rgb_encoders.specs.Colour.{expansion, lossy_number}
use Rattle.client_connection.specs.declared.packet.Packet.{Packet}
use Rattle.client_connection.specs.declared.packet.Draw.{Draw}
use Rattle.client_connection.specs.declared.source.Source.{Source}
use Rattle.client_connection.specs.PointSets.{has as has_point}
use Rattle.client_connection.specs.Wire.{client_limit}
use Rattle.client_connection.specs.Clients.{ClientSeen, front_rest, IsTaken}
use Rattle.client_connection.specs.Owed.{draw_relieves, source_owes, client_owes}
use Rattle.client_connection.specs.Delivery.{grid_of, waits_as, waiting_on, find_source, delivery}
use Rattle.client_connection.specs.Told.{CarryAll, IsDrawOf, effects, front_bytes, IsTold}
use Rattle.client_connection.specs.Shown.{shows, number_on, Differs, OwesWhatDiffers, unsent, WillShowTheDesktop, WindowsAreSteady}
use Rattle.client_connection.proofs.Deliveries.{has_as, number_as}
use Rattle.client_connection.proofs.Sources.{some_same, found_one, source_where}
use Rattle.client_connection.proofs.Waitings.{effects_first}

-- the bytes sent show the windows that are kept
pub shows_told : (desk : List Window) (c : ClientSeen) (sent : List ℕ) → (told : IsTold desk c sent) → picture client_limit sent ≡ record { windows = told.windows; fault = None }
shows_told desk c sent told = ap (picture client_limit) told.sent_is ∙ go c.packets told.messages told.carried told.part
  where
    go : (packets : List Packet) (messages : List ToClient) → CarryAll packets messages → IsTaken packets c.taken
        → picture client_limit (told.done ++ take c.taken (front_bytes packets)) ≡ record { windows = told.windows; fault = None }
    go [] messages carried part = ap (λ bs. picture client_limit (told.done ++ bs)) (take-nil c.taken) ∙ ap (picture client_limit) (append-nil told.done) ∙ told.show.shown
    go (p ∷ packets) [] carried part = absurd carried
    go (p ∷ packets) (m ∷ messages) carried part =
        let some : drop c.taken p.bytes ≢ [] = λ none. absurd (omega (arith, part, ap length none, length-drop c.taken p.bytes)) in
        part_shows_nothing client_limit told.done p.bytes (take c.taken p.bytes) (drop c.taken p.bytes) m told.windows told.show carried.0.message (sym (take-append-drop c.taken p.bytes)) some

-- the packets that wait on a window relieve what their draws do
pub relieves_as : (k x y : ℕ) (packets : List Packet) (messages : List ToClient) → CarryAll packets messages
    → list_any (λ (p : Packet). draw_relieves k x y p.draw) packets ≡ packets_relieve (waiting_on k packets messages) x y
relieves_as k x y [] messages carried = refl
relieves_as k x y (p ∷ packets) [] carried = absurd carried
relieves_as k x y (p ∷ packets) (m ∷ messages) carried =
    first p.draw m carried.0.draw (list_any (λ (q : Packet). draw_relieves k x y q.draw) packets) (waiting_on k packets messages) (relieves_as k x y packets messages carried.1)
  where
    number_test : (d : Draw) (wid : ℕ) (b : Bool) → d.wid ≡ wid → eqb k wid ≡ b → eqb d.wid k ≡ b
    number_test d wid true is here = ap (λ n. eqb n k) is ∙ eq-eqb wid k (sym (eqb-true k wid here))
    number_test d wid false is elsewhere = grind (arith, nat_tests, is, elsewhere)

    first : (draw : Option Draw) (m : ToClient) → IsDrawOf draw m → (rest : Bool) (waiting : List Waiting) → rest ≡ packets_relieve waiting x y
        → (draw_relieves k x y draw || rest) ≡ packets_relieve (waits_as k draw m ++ waiting) x y
    first None (T.Hello caps) is rest waiting same = same
    first (Some d) (T.Hello caps) is rest waiting same = absurd is
    first None (T.NewWindow wid a b w h) is rest waiting same = go (eqb k wid)
      where
        go : (here : Bool) → rest ≡ packets_relieve (cond here (NewWindow w h ∷ []) [] ++ waiting) x y
        go true = same
        go false = same
    first (Some d) (T.NewWindow wid a b w h) is rest waiting same = absurd is
    first None (T.WindowResized wid w h) is rest waiting same = go (eqb k wid)
      where
        go : (here : Bool) → rest ≡ packets_relieve (cond here (WindowResized w h ∷ []) [] ++ waiting) x y
        go true = same
        go false = same
    first (Some d) (T.WindowResized wid w h) is rest waiting same = absurd is
    first None (T.LostWindow wid) is rest waiting same = same
    first (Some d) (T.LostWindow wid) is rest waiting same = absurd is
    first None (T.WindowMoveResize wid a b w h) is rest waiting same = same
    first (Some d) (T.WindowMoveResize wid a b w h) is rest waiting same = absurd is
    first None (T.RaiseWindow wid) is rest waiting same = same
    first (Some d) (T.RaiseWindow wid) is rest waiting same = absurd is
    first None (T.PingEcho t) is rest waiting same = same
    first (Some d) (T.PingEcho t) is rest waiting same = absurd is
    first None (T.Disconnect reason) is rest waiting same = same
    first (Some d) (T.Disconnect reason) is rest waiting same = absurd is
    first None T.Other is rest waiting same = same
    first (Some d) T.Other is rest waiting same = absurd is
    first None (T.Draw wid a b w h coding bytes sequence stride) is rest waiting same = absurd is
    first (Some d) (T.Draw wid a b w h coding bytes sequence stride) is rest waiting same = go (cases_Bool (eqb k wid))
      where
        go : (eqb k wid ≡ true) ⊎ (eqb k wid ≡ false) → (draw_relieves k x y (Some d) || rest) ≡ packets_relieve (waits_as k (Some d) (T.Draw wid a b w h coding bytes sequence stride) ++ waiting) x y
        go (inl here) = rw (here, has_as d.relief x y, number_test d wid true is.0 here, same) refl
        go (inr elsewhere) = rw (elsewhere, number_test d wid false is.0 elsewhere, same) refl

-- a point that no source owes is not pending
pending_none : (k x y : ℕ) (sources : List Source) (s : Source) → list_any (λ (t : Source). source_owes k x y t) sources ≡ false → find_source sources k ≡ Some s → has_point s.pending x y ≡ false
pending_none k x y [] s none found = absurd (cc found)
pending_none k x y (t ∷ sources) s none found =
    let parts = or_parts _ _ none in
    go (cases_Bool (eqb t.wid k)) parts.0 (pending_none k x y sources s parts.1) found
  where
    go : (eqb t.wid k ≡ true) ⊎ (eqb t.wid k ≡ false) → source_owes k x y t ≡ false → (find_source sources k ≡ Some s → has_point s.pending x y ≡ false) → cond (eqb t.wid k) (Some t) (find_source sources k) ≡ Some s
        → has_point s.pending x y ≡ false
    go (inl here) none rest found =
        let same : t ≡ s = some_same t s (sym (cond-true _ _ _ here) ∙ found) in
        subst (λ (u : Source). has_point u.pending x y ≡ false) same (ap (λ b. b && has_point t.pending x y) (sym here) ∙ none)
    go (inr elsewhere) none rest found = rest (sym (cond-false _ _ _ elsewhere) ∙ found)

-- a point at which no source and no packet owes is not owed
unowed : (c : ClientSeen) (k x y : ℕ) (window : Window) (client : Option Window) (messages : List ToClient) (s : Source) → client_owes k x y c ≡ false → CarryAll c.packets messages → find_source c.sources k ≡ Some s
    → is_owed (delivery window client (waiting_on k c.packets messages) s) x y ≡ false
unowed c k x y window client messages s none carried found =
    let parts = or_parts _ _ none in
    let pending : has_point s.pending x y ≡ false = pending_none k x y c.sources s parts.0 found in
    let draws = sym (relieves_as k x y c.packets messages carried) ∙ parts.1 in
    rw (has_as s.pending x y, pending, draws, has-points window.w window.h (λ x y. false) x y) (grind (arith, nat_tests))

-- what the client's window shows is the number there
shown_number : (windows : List Window) (k x y n : ℕ) (o : Option Window) → find_window windows k ≡ o → All (λ (w : Window). length w.pixels ≡ w.w * w.h) windows
    → shown_at (option_map grid_of o) x y ≡ Some n → number_on windows k x y ≡ Some n
shown_number windows k x y n None found sized shown = absurd (cc shown)
shown_number windows k x y n (Some v) found sized shown =
    let all = (found_one (λ (w : Window). length w.pixels ≡ w.w * w.h) (λ (w : Window). eqb w.wid k) windows v sized found).0 in
    ap (option_and_then (λ (w : Window). number_at w.w w.h w.pixels x y)) found ∙ go all (cases_Bool (is_within v.w v.h x y)) shown
  where
    go : length v.pixels ≡ v.w * v.h → (is_within v.w v.h x y ≡ true) ⊎ (is_within v.w v.h x y ≡ false) → shown_at (Some (grid_of v)) x y ≡ Some n → number_at v.w v.h v.pixels x y ≡ Some n
    go all (inl within) shown = number_at-inside v.w v.h v.pixels x y all within ∙ ap (λ m. Some m) (sym (number_as v x y)) ∙ sym (cond-true _ _ _ within) ∙ shown
    go all (inr outside) shown = absurd (cc (sym (cond-false _ _ _ outside) ∙ shown))

-- a number of the desktop is that of a window, at a point in it
desk_number : (desk : List Window) (k x y n : ℕ) (o : Option Window) → find_window desk k ≡ o → All (λ (w : Window). length w.pixels ≡ w.w * w.h) desk → number_on desk k x y ≡ Some n
    → (w : Window) × (o ≡ Some w) × (is_within w.w w.h x y ≡ true) × (number (grid_of w) x y ≡ n)
desk_number desk k x y n None found sized is = absurd (cc (sym (ap (option_and_then (λ (w : Window). number_at w.w w.h w.pixels x y)) found) ∙ is))
desk_number desk k x y n (Some w) found sized is =
    let all = (found_one (λ (w : Window). length w.pixels ≡ w.w * w.h) (λ (w : Window). eqb w.wid k) desk w sized found).0 in
    let here : number_at w.w w.h w.pixels x y ≡ Some n = sym (ap (option_and_then (λ (w : Window). number_at w.w w.h w.pixels x y)) found) ∙ is in
    go all here (cases_Bool (is_within w.w w.h x y))
  where
    go : length w.pixels ≡ w.w * w.h → number_at w.w w.h w.pixels x y ≡ Some n → (is_within w.w w.h x y ≡ true) ⊎ (is_within w.w w.h x y ≡ false)
        → (v : Window) × (Some w ≡ Some v) × (is_within v.w v.h x y ≡ true) × (number (grid_of v) x y ≡ n)
    go all here (inl within) = (w, refl, within, some_same _ n (ap (λ m. Some m) (number_as w x y) ∙ sym (number_at-inside w.w w.h w.pixels x y all within) ∙ here))
    go all here (inr outside) = absurd (cc (sym (cond-false _ _ _ outside) ∙ here))

-- a point that is not owed shows the desktop's number
pub unowed_shown : (desk : List Window) (c : ClientSeen) (sent : List ℕ) → All (λ (w : Window). length w.pixels ≡ w.w * w.h) desk → IsTold desk c sent → c.greeted ≡ true
    → (k x y n : ℕ) → number_on desk k x y ≡ Some n → client_owes k x y c ≡ false → number_on (shows sent) k x y ≡ Some n
unowed_shown desk c sent sized told greeted k x y n is none =
    let d = told.delivered greeted in
    let at = desk_number desk k x y n (find_window desk k) refl sized is in
    let source = source_found (find_source c.sources k) refl (source_where desk c.sources k d.sourced ∙ ap is_some at.1) in
    let free = unowed c k x y at.0 (find_window told.windows k) told.messages source.0 none told.carried source.1 in
    let kept = d.kept k at.0 source.0 at.1 source.1 in
    let shown = shown_unless_owed (delivery at.0 (find_window told.windows k) (waiting_on k c.packets told.messages) source.0) kept x y at.2 free in
    ap (λ p. number_on p.windows k x y) (shows_told desk c sent told)
    ∙ shown_number told.windows k x y n (find_window told.windows k) refl told.sized (shown ∙ ap (λ m. Some m) at.3)
  where
    source_found : (o : Option Source) → find_source c.sources k ≡ o → is_some o ≡ true → (s : Source) × (find_source c.sources k ≡ Some s)
    source_found None found some = absurd (cc some)
    source_found (Some s) found some = (s, found)

-- each differing pixel is owed
pub owes_what_differs : (desk : List Window) (c : ClientSeen) (sent : List ℕ) → All (λ (w : Window). length w.pixels ≡ w.w * w.h) desk → IsTold desk c sent → c.greeted ≡ true → OwesWhatDiffers desk c sent
owes_what_differs desk c sent sized told greeted = λ wid x y differs. go wid x y differs (cases_Bool (client_owes wid x y c))
  where
    go : (wid x y : ℕ) → Differs desk (shows sent) wid x y → (client_owes wid x y c ≡ true) ⊎ (client_owes wid x y c ≡ false) → client_owes wid x y c ≡ true
    go wid x y differs (inl owed) = owed
    go wid x y differs (inr none) = absurd (differs.2 (unowed_shown desk c sent sized told greeted wid x y differs.0 differs.1 none))

-- all messages follow
show_all : (done : List ℕ) (windows after : List Window) (packets : List Packet) (messages : List ToClient) → Show client_limit done windows → CarryAll packets messages → effects messages windows ≡ Some after
    → Show client_limit (done ++ concat (map (λ (p : Packet). p.bytes) packets)) after
show_all done windows after [] [] show carried is = subst (λ bs. Show client_limit bs after) (sym (append-nil done)) (subst (Show client_limit done) (some_same windows after is) show)
show_all done windows after [] (m ∷ messages) show carried is = absurd carried
show_all done windows after (p ∷ packets) [] show carried is = absurd carried
show_all done windows after (p ∷ packets) (m ∷ messages) show carried is =
    let next = effects_first m messages windows after is in
    subst (λ bs. Show client_limit bs after) (append_assoc done p.bytes (concat (map (λ (q : Packet). q.bytes) packets)))
    (show_all (done ++ p.bytes) next.0 after packets messages (message_follows client_limit done p.bytes m windows next.0 show carried.0.message next.1) carried.1 next.2)

pub will_show : (desk : List Window) (c : ClientSeen) (sent : List ℕ) → IsTold desk c sent → c.greeted ≡ true → WillShowTheDesktop desk c sent
will_show desk c sent told greeted =
    let laid = (told.delivered greeted).laid in
    (laid.after, subst (λ bs. Show client_limit bs laid.after) (sym all) (show_all told.done told.windows laid.after c.packets told.messages told.show told.carried laid.shown), laid.laid)
  where
    go : (packets : List Packet) → take c.taken (front_bytes packets) ++ (front_rest packets c.taken ++ concat (map (λ (p : Packet). p.bytes) (drop 1 packets))) ≡ concat (map (λ (p : Packet). p.bytes) packets)
    go [] = ap (λ bs. bs ++ []) (take-nil c.taken)
    go (p ∷ packets) = sym (append_assoc (take c.taken p.bytes) (drop c.taken p.bytes) (concat (map (λ (q : Packet). q.bytes) packets)))
        ∙ ap (λ bs. bs ++ concat (map (λ (q : Packet). q.bytes) packets)) (take-append-drop c.taken p.bytes)

    all : sent ++ unsent c ≡ told.done ++ concat (map (λ (p : Packet). p.bytes) c.packets)
    all = ap (λ bs. bs ++ unsent c) told.sent_is ∙ append_assoc told.done (take c.taken (front_bytes c.packets)) (unsent c) ∙ ap (λ bs. told.done ++ bs) (go c.packets)

pub windows_steady : (desk : List Window) (c : ClientSeen) (sent : List ℕ) (told : IsTold desk c sent) → c.greeted ≡ true → WindowsAreSteady desk c sent told
windows_steady desk c sent told greeted = λ wid window s here source.
    let kept = (told.delivered greeted).kept wid window s here source in
    ((is_steady _ kept).current, nothing_in_front _ kept)

-- the windows of a desktop have their pixels
pub desk_sized : (desk : List Window) → IsDesktop desk → All (λ (w : Window). length w.pixels ≡ w.w * w.h) desk
desk_sized desk is = All-weaker IsWindow (λ (w : Window). length w.pixels ≡ w.w * w.h) (λ w window. window.sized) desk is.windows
