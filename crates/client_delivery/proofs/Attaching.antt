-- A client is attached.
use Rattle.std.proofs.Common.{◌≡◌, ◌≢◌, ℕ, ◌<◌, Bool, true, false, ◌⊎◌, inl, inr, zero, suc, take, length, List, [], ◌∷◌, ◌++◌, Option, Some, None, map, cond, eqb, refl, sym, ap, ◌∙◌, subst, arith}
use Rattle.std.specs.Prelude.{is_some, AllPairs, All}
use Rattle.std.specs.Option.{option_map}
use Rattle.std.specs.List.{AllByRecursion}
use Rattle.std.proofs.lemmas.Bool.{eqb-true, cond-true, cond-false, false≢true}
use Rattle.std.proofs.lemmas.Bool.Decides.{nat_tests}
use Rattle.std.proofs.lemmas.List.Elements.{All-head, All-tail, All-map}
use Rattle.std.proofs.lemmas.List.Kept.{AllPairs-cons}
use Rattle.std.proofs.lemmas.List.{append-nil, append_assoc, map-append}
use Rattle.xp_base.specs.Points.{Rectangle}
use Rattle.window_model.specs.Desktop.{Window, IsDesktop, find_window, has_window, fresh_window, opened}
use Rattle.window_model.specs.Geometry.{geometry_of}
use Rattle.delivery_model.specs.Window.{Packet, NewWindow}
use Rattle.delivery_model.specs.Kept.{IsKept}
use Rattle.delivery_model.specs.Laws.{EventsKeepTheForm}
use Rattle.packet_kinds.specs.declared.to_client.ToClient.{ToClient}
use Rattle.packet_kinds.specs.declared.to_client.ToClient.TheVariants as T
use Rattle.packet_kinds.specs.Laws.{MessageHasBytes}
use Rattle.packet_kinds.specs.Written.{Show}
use Rattle.client_outbox.specs.Outgoing.{IsBegun}
use Rattle.window_source.specs.Source.{SourceSeen, window_of}
use Rattle.window_source.specs.Waiting.{Queued, Waiting, IsDraw, Carries, says_to, waits_on, ReliefLies, client_limit}
use Rattle.client_delivery.specs.Attached.{AttachedSeen, source_key, find_source, grid_of, started_source}
use Rattle.client_delivery.specs.Delivered.{messages_of, packets_of, front_bytes, concerns, is_draw, loses, layout, delivery, AreOfOneSize, IsLaidOut, IsOnItsWay, IsDelivered, IsTold}
use Rattle.client_delivery.specs.Steps.{announces, Attaches}
use Rattle.client_delivery.specs.Keeping.{HoldsDesk, AttachTells}
use Rattle.client_delivery.proofs.Grids.{some_same}
use Rattle.client_delivery.proofs.Layouts.{laid_push, has_layout, opens_same}
use Rattle.client_delivery.proofs.Opening.{started_kept}
use Rattle.client_delivery.proofs.Parts.{own, unnamed, other_number}
use Rattle.client_delivery.proofs.Filing.{window_number}

same_test : (a b : ℕ) → eqb a b ≡ eqb b a
same_test a b = grind (arith, nat_tests)

-- no window behind the first has its number
pub none_found : (wid : ℕ) (xs : List Window) → All (λ (w : Window). wid ≢ w.wid) xs → has_window xs wid ≡ false
none_found wid [] apart = refl
none_found wid (x ∷ xs) apart = go (eqb x.wid wid) refl (none_found wid xs (All-tail (λ (w : Window). wid ≢ w.wid) x xs apart))
  where
    go : (b : Bool) → eqb x.wid wid ≡ b → has_window xs wid ≡ false → is_some (cond b (Some x) (find_window xs wid)) ≡ false
    go true same later = absurd (All-head (λ (w : Window). wid ≢ w.wid) x xs apart (sym (eqb-true x.wid wid same)))
    go false other later = later

pub head_apart : (x : Window) (xs : List Window) → AllPairs (λ (v w : Window). v.wid ≢ w.wid) (x ∷ xs) → All (λ (w : Window). x.wid ≢ w.wid) xs
head_apart x xs apart = λ i d low. apart 0 (suc i) d (omega arith) (omega (arith, low))

pub tail_apart : (x : Window) (xs : List Window) → AllPairs (λ (v w : Window). v.wid ≢ w.wid) (x ∷ xs) → AllPairs (λ (v w : Window). v.wid ≢ w.wid) xs
tail_apart x xs apart = λ i j d before low. apart (suc i) (suc j) d (omega (arith, before)) (omega (arith, low))

relaid : (desk desk' windows : List Window) (ms : List ToClient) → layout desk ≡ layout desk' → IsLaidOut desk windows ms → IsLaidOut desk' windows ms
relaid desk desk' windows ms same laid = record { after = laid.after; shown = laid.shown; laid = laid.laid ∙ same }

-- windows announced from bottom to top
laid_desk : (rest front : List Window) (ms : List ToClient) → AllPairs (λ (v w : Window). v.wid ≢ w.wid) rest → ((k : ℕ) → has_window front k ≡ true → has_window rest k ≡ false) → IsLaidOut front [] ms
    → IsLaidOut (front ++ rest) [] (ms ++ map announces rest)
laid_desk [] front ms apart other laid = subst (λ (ws : List Window). IsLaidOut ws [] (ms ++ [])) (sym (append-nil front)) (subst (IsLaidOut front []) (sym (append-nil ms)) laid)
laid_desk (w ∷ rest) front ms apart other laid =
    subst (λ (ws : List Window). IsLaidOut ws [] (ms ++ announces w ∷ map announces rest)) (append_assoc front (w ∷ []) rest)
    (subst (IsLaidOut ((front ++ w ∷ []) ++ rest) []) (append_assoc ms (announces w ∷ []) (map announces rest))
    (laid_desk rest (front ++ w ∷ []) (ms ++ announces w ∷ []) (tail_apart w rest apart) disjoint
    (relaid (opened front w.wid w.x w.y w.w w.h) (front ++ w ∷ []) [] (ms ++ announces w ∷ []) same (laid_push front (opened front w.wid w.x w.y w.w w.h) [] ms (announces w) (opens_same front w.wid w.x w.y w.w w.h missing) laid))))
  where
    same : layout (front ++ fresh_window w.wid w.x w.y w.w w.h ∷ []) ≡ layout (front ++ w ∷ [])
    same = map-append geometry_of front (fresh_window w.wid w.x w.y w.w w.h ∷ []) ∙ sym (map-append geometry_of front (w ∷ []))

    here : has_window (w ∷ rest) w.wid ≡ true
    here = ap (λ b. is_some (cond b (Some w) (find_window rest w.wid))) (own w.wid)

    missing : has_window front w.wid ≡ false
    missing = go (has_window front w.wid) refl
      where
        go : (b : Bool) → has_window front w.wid ≡ b → has_window front w.wid ≡ false
        go false is = is
        go true is = absurd (false≢true (sym (other w.wid is) ∙ here))

    none_behind : has_window rest w.wid ≡ false
    none_behind = none_found w.wid rest (head_apart w rest apart)

    split : (xs : List Window) (k : ℕ) → has_window (xs ++ w ∷ []) k ≡ true → (has_window xs k ≡ true) ⊎ (w.wid ≡ k)
    split [] k there = one (eqb w.wid k) refl there
      where
        one : (b : Bool) → eqb w.wid k ≡ b → is_some (cond b (Some w) None) ≡ true → (has_window [] k ≡ true) ⊎ (w.wid ≡ k)
        one true same there = inr (eqb-true w.wid k same)
        one false same there = absurd (cc there)
    split (x ∷ xs) k there = one (eqb x.wid k) refl there (split xs k)
      where
        one : (b : Bool) → eqb x.wid k ≡ b → is_some (cond b (Some x) (find_window (xs ++ w ∷ []) k)) ≡ true → (has_window (xs ++ w ∷ []) k ≡ true → (has_window xs k ≡ true) ⊎ (w.wid ≡ k))
            → (is_some (cond b (Some x) (find_window xs k)) ≡ true) ⊎ (w.wid ≡ k)
        one true same there later = inl refl
        one false same there later = later there

    behind : (k : ℕ) → has_window (w ∷ rest) k ≡ false → has_window rest k ≡ false
    behind k none = go (eqb w.wid k) none
      where
        go : (b : Bool) → is_some (cond b (Some w) (find_window rest k)) ≡ false → has_window rest k ≡ false
        go true none = absurd (cc none)
        go false none = none

    disjoint : (k : ℕ) → has_window (front ++ w ∷ []) k ≡ true → has_window rest k ≡ false
    disjoint k there = elim (split front k there) [
      | inl old ↦ behind k (other k old)
      | inr new ↦ subst (λ i. has_window rest i ≡ false) new none_behind
    ]

-- the source of a window, as it begins
pub found_started : (conn now : ℕ) (desk : List Window) (j : ℕ) → find_source (map (started_source conn now) desk) j ≡ option_map (started_source conn now) (find_window desk j)
found_started conn now [] j = refl
found_started conn now (w ∷ desk) j = go (eqb w.wid j) (found_started conn now desk j)
  where
    go : (b : Bool) → find_source (map (started_source conn now) desk) j ≡ option_map (started_source conn now) (find_window desk j)
        → cond b (Some (started_source conn now w)) (find_source (map (started_source conn now) desk) j) ≡ option_map (started_source conn now) (cond b (Some w) (find_window desk j))
    go true later = refl
    go false later = later

distinct_started : (conn now : ℕ) (desk : List Window) → AllPairs (λ (v w : Window). v.wid ≢ w.wid) desk → AllPairs (λ (s t : SourceSeen). s.wid ≢ t.wid) (map (started_source conn now) desk)
distinct_started conn now [] apart = λ i j d before low. absurd (omega (arith, low))
distinct_started conn now (w ∷ desk) apart =
    AllPairs-cons (λ (s t : SourceSeen). s.wid ≢ t.wid) (started_source conn now w) (map (started_source conn now) desk)
    (All-map (λ (t : SourceSeen). w.wid ≢ t.wid) (started_source conn now) desk (head_apart w desk apart)) (distinct_started conn now desk (tail_apart w desk apart))

size_started : (conn now : ℕ) (o : Option Window) → AreOfOneSize o (option_map (started_source conn now) o)
size_started conn now None = tt
size_started conn now (Some w) = (refl, refl)

-- what is announced of a window
abbrev pub announced : Option Window → List Packet
announced None = []
announced (Some w) = NewWindow w.w w.h ∷ []

none_some : (o : Option Window) → is_some o ≡ false → announced o ≡ []
none_some None none = refl
none_some (Some w) none = absurd (cc none)

waits_announced : (wide high k : ℕ) (desk : List Window) (ws : List Waiting) → AllPairs (λ (v w : Window). v.wid ≢ w.wid) desk → messages_of ws ≡ map announces desk
    → waits_on wide high k ws ≡ announced (find_window desk k)
waits_announced wide high k [] [] apart is = refl
waits_announced wide high k [] (v ∷ ws) apart is = absurd (cc is)
waits_announced wide high k (w ∷ desk) [] apart is = absurd (cc is)
waits_announced wide high k (w ∷ desk) (v ∷ ws) apart is =
    ap (λ (m : ToClient). says_to wide high k v m ++ waits_on wide high k ws) first
    ∙ ap (λ (ps : List Packet). cond (eqb k w.wid) (NewWindow w.w w.h ∷ []) [] ++ ps) (waits_announced wide high k desk ws (tail_apart w desk apart) later)
    ∙ ap (λ b. cond b (NewWindow w.w w.h ∷ []) [] ++ announced (find_window desk k)) (same_test k w.wid)
    ∙ go (eqb w.wid k) refl
  where
    first : v.message ≡ announces w
    first = cc is

    later : messages_of ws ≡ map announces desk
    later = cc is

    go : (b : Bool) → eqb w.wid k ≡ b → cond (eqb w.wid k) (NewWindow w.w w.h ∷ []) [] ++ announced (find_window desk k) ≡ announced (cond (eqb w.wid k) (Some w) (find_window desk k))
    go true same = rw same (ap (λ (ps : List Packet). NewWindow w.w w.h ∷ ps)
        (none_some (find_window desk k) (subst (λ i. has_window desk i ≡ false) (eqb-true w.wid k same) (none_found w.wid desk (head_apart w desk apart)))))
    go false other = rw other refl

-- what holds of the hello and of each announcement holds of each message
pub all_announced : (P : ToClient → Type 0) (desk : List Window) (ws : List Waiting) → messages_of ws ≡ map announces desk → ((w : Window) → has_window desk w.wid ≡ true → P (announces w))
    → (all : List Window) → ((k : ℕ) → has_window desk k ≡ true → has_window all k ≡ true) → AllByRecursion (λ (v : Waiting). P v.message) ws
all_announced P [] [] is each all more = tt
all_announced P [] (v ∷ ws) is each all more = absurd (cc is)
all_announced P (w ∷ desk) [] is each all more = absurd (cc is)
all_announced P (w ∷ desk) (v ∷ ws) is each all more = (
  subst P (sym (let first : v.message ≡ announces w = cc is in first)) (each w (ap (λ b. is_some (cond b (Some w) (find_window desk w.wid))) (own w.wid))),
  all_announced P desk ws (let later : messages_of ws ≡ map announces desk = cc is in later) (λ x there. each x (deeper x.wid there)) all (λ k there. more k (deeper k there)),
)
  where
    deeper : (k : ℕ) → has_window desk k ≡ true → has_window (w ∷ desk) k ≡ true
    deeper k there = go (eqb w.wid k) there
      where
        go : (b : Bool) → has_window desk k ≡ true → is_some (cond b (Some w) (find_window desk k)) ≡ true
        go true there = refl
        go false there = there

module _ (form : EventsKeepTheForm) (some : MessageHasBytes) (nothing : Show client_limit [] []) where
  pub attach_tells : AttachTells
  attach_tells desk were_opened conn now a desktop holds attaches = go attaches.waiting attaches.packets attaches.carried attaches.messages
    where
      apart : AllPairs (λ (v w : Window). v.wid ≢ w.wid) desk
      apart = desktop.distinct

      go : (ws : List Waiting) → packets_of ws ≡ a.out.packets → AllByRecursion Carries ws → messages_of ws ≡ T.Hello attaches.hello ∷ map announces desk → IsTold desk were_opened a []
      go [] packets carried is = absurd (cc is)
      go (h ∷ ws) packets carried is = subst (λ (sources : List SourceSeen). IsTold desk were_opened (record a { sources = sources }) []) (sym attaches.sources) (record {
        windows = [];
        waiting = h ∷ ws;
        bytes = record {
          done = [];
          sent_is = ap (λ n. take n (front_bytes a.out.packets)) (sym attaches.taken);
          show = nothing;
          sized = tt;
          packets = packets;
          carried = carried;
          begun = subst (λ (ps : List Queued). IsBegun ps a.out.taken) packets (let long = some client_limit h.packet.bytes h.message carried.0.message in let none = attaches.taken in omega (arith, long, none));
        };
        delivered = record {
          laid = subst (IsLaidOut desk []) (sym is) (laid_desk desk [] (T.Hello attaches.hello ∷ []) apart (λ k there. absurd (cc there)) (record { after = []; shown = refl; laid = refl }));
          distinct = distinct_started conn now desk apart;
          sized = λ j. subst (AreOfOneSize (find_window desk j)) (sym (found_started conn now desk j)) (size_started conn now (find_window desk j));
          kept = λ j window s there found. kept j window s there (some_same _ _ (sym (found_started conn now desk j ∙ ap (option_map (started_source conn now)) there) ∙ found));
          lies = λ j s found. (plain_lies s.wide s.high j h (ap is_draw hello_first) carried.0, all_lie s.wide s.high j ws carried.1 (all_announced (λ m. is_draw m ≡ false) desk ws later (λ w there. refl) desk (λ k there. there)));
          absent = λ k none. (refl, (ap (concerns k) hello_first, all_announced (λ m. concerns k m ≡ false) desk ws later (λ w there. other_number were_opened k w.wid none (holds w.wid there)) desk (λ i there. there)));
          begun = holds;
          stays = λ k there. (ap (loses k) hello_first, all_announced (λ m. loses k m ≡ false) desk ws later (λ w has. refl) desk (λ i has. has));
        };
      })
        where
          hello_first : h.message ≡ T.Hello attaches.hello
          hello_first = cc is

          later : messages_of ws ≡ map announces desk
          later = cc is

          plain_lies : (wide high j : ℕ) (v : Waiting) → is_draw v.message ≡ false → Carries v → ReliefLies wide high j v
          plain_lies wide high j v plain carries = λ named. absurd (let none = sym named ∙ unnamed v.packet.wid v.packet.draw v.pixels v.message plain carries.draw in cc none)

          all_lie : (wide high j : ℕ) (vs : List Waiting) → AllByRecursion Carries vs → AllByRecursion (λ (v : Waiting). is_draw v.message ≡ false) vs → AllByRecursion (ReliefLies wide high j) vs
          all_lie wide high j [] carried plain = tt
          all_lie wide high j (v ∷ vs) carried plain = (plain_lies wide high j v plain.0 carried.0, all_lie wide high j vs carried.1 plain.1)

          kept : (j : ℕ) (window : Window) (s : SourceSeen) → find_window desk j ≡ Some window → started_source conn now window ≡ s → IsKept (delivery window [] (h ∷ ws) s)
          kept j window s there is_started =
              subst (λ (t : SourceSeen). IsKept (delivery window [] (h ∷ ws) t)) is_started
              (subst (λ (ps : List Packet). IsKept (window_of (started_source conn now window) window.pixels None ps)) (sym waits) (started_kept form conn now window))
            where
              waits : waits_on window.w window.h window.wid (h ∷ ws) ≡ NewWindow window.w window.h ∷ []
              waits =
                  ap (λ (m : ToClient). says_to window.w window.h window.wid h m ++ waits_on window.w window.h window.wid ws) hello_first
                  ∙ waits_announced window.w window.h window.wid desk ws apart later
                  ∙ ap announced (ap (find_window desk) (window_number desk j window there) ∙ there)
