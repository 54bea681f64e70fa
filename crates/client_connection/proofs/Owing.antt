-- How each step changes what a client is owed.
use Rattle.std.proofs.Common.{◌≡◌, ◌≢◌, ◌⊎◌, inl, inr, ℕ, pos, zero, suc, ◌+◌, ◌<◌, Bool, true, false, ◌&&◌, ◌||◌, List, [], ◌∷◌, ◌++◌, Option, Some, None, length, map, get_or, set, drop, cond, eqb, refl, sym, ap, ◌∙◌, arith}
use Rattle.std.specs.Prelude.{All, AllPairs, nat_lt, is_some, if◌then◌else◌}
use Rattle.std.proofs.lemmas.List.Elements.{All-head, All-tail}
use Rattle.std.specs.List.{list_any}
use Rattle.std.proofs.lemmas.Bool.{cases_Bool, eqb-true, eq-eqb, cond-true, cond-false}
use Rattle.std.proofs.lemmas.Bool.Decides.{nat_tests}
use Rattle.std.proofs.lemmas.List.Folds.{list_any-append}
use Rattle.std.proofs.lemmas.List.Quantifiers.{position-Some}
use Rattle.std.proofs.lemmas.Option.{slice_get-get_or}
use Rattle.xp_base.specs.Points.{Rectangle, is_in, is_within}
use Rattle.window_model.specs.Desktop.{Window, find_window}
use Rattle.client_connection.specs.Delivery.{find_source}
use Rattle.client_connection.specs.Told.{AreSources, IsDelivered}
use Rattle.std.specs.Option.{option_map}
use Rattle.std.proofs.Math.ListN.{get_or-map}
use Rattle.std.proofs.lemmas.List.{length-map}
use Rattle.client_connection.specs.PointSets.{IsPointSet, has, whole_set, with_rectangle}
use Rattle.client_connection.specs.declared.packet.Packet.{Packet}
use Rattle.client_connection.specs.declared.source.Source.{Source}
use Rattle.client_connection.specs.declared.geometry.Geometry.{Geometry}
use Rattle.client_connection.specs.Wire.{geometry_of, new_window}
use Rattle.client_connection.specs.Clients.{fresh_source, structure_packet, mapped_source, damaged_source, window_draw}
use Rattle.client_connection.specs.Owed.{draw_relieves, source_owes, client_owes}
use Rattle.client_connection.specs.Changes.{on_desk, front_relieves, FillOwes, OpenOwes, AttachOwes, MapsOwe, CaptureOwes, WriteOwes, FreshOwes, PartsOwe}
use Rattle.client_connection.proofs.Marked.{has_marked, has_all}
use Rattle.client_connection.proofs.Sources.{some_same, found_one, find_source-map, numbers-map, source_where}

pub fresh_owes : FreshOwes
fresh_owes wid x y = refl

pub parts_owe : PartsOwe
parts_owe c maps taken unread wid x y = refl

pub write_owes : WriteOwes
write_owes c wid x y = go c.packets
  where
    sources : Bool
    sources = list_any (λ (s : Source). source_owes wid x y s) c.sources

    rest : List Packet → Bool
    rest packets = list_any (λ (p : Packet). draw_relieves wid x y p.draw) packets

    go : (packets : List Packet) → (sources || rest (drop 1 packets)) ≡ (if front_relieves packets wid x y then (sources || rest (drop 1 packets)) else (sources || rest packets))
    go [] = refl
    go (p ∷ packets) = boolean (draw_relieves wid x y p.draw)
      where
        boolean : (f : Bool) → (sources || rest packets) ≡ (if f then (sources || rest packets) else (sources || (f || rest packets)))
        boolean true = refl
        boolean false = refl

-- a source that was mapped owes the same
mapped_owes : (marked wid x y : ℕ) (sources : List Source) → list_any (λ (s : Source). source_owes wid x y s) (map (mapped_source marked) sources) ≡ list_any (λ (s : Source). source_owes wid x y s) sources
mapped_owes marked wid x y [] = refl
mapped_owes marked wid x y (s ∷ sources) = one (eqb s.wid marked) (mapped_owes marked wid x y sources)
  where
    one : (b : Bool) → list_any (λ (t : Source). source_owes wid x y t) (map (mapped_source marked) sources) ≡ list_any (λ (t : Source). source_owes wid x y t) sources
        → (source_owes wid x y (cond b (record s { mapped = true }) s) || list_any (λ (t : Source). source_owes wid x y t) (map (mapped_source marked) sources))
        ≡ (source_owes wid x y s || list_any (λ (t : Source). source_owes wid x y t) sources)
    one true rest = ap (λ b. source_owes wid x y s || b) rest
    one false rest = ap (λ b. source_owes wid x y s || b) rest

pub maps_owe : MapsOwe
maps_owe None count rest c wid x y = refl
maps_owe (Some g) count rest c wid x y = go (nat_lt 0 count)
  where
    go : (b : Bool) → (list_any (λ (s : Source). source_owes wid x y s) (cond b (map (mapped_source g.wid) c.sources) c.sources) || list_any (λ (p : Packet). draw_relieves wid x y p.draw) c.packets) ≡ client_owes wid x y c
    go true = ap (λ b. b || list_any (λ (p : Packet). draw_relieves wid x y p.draw) c.packets) (mapped_owes g.wid wid x y c.sources)
    go false = refl

or_swap : (a b c : Bool) → ((a || b) || c) ≡ ((a || c) || b)
or_swap true b c = refl
or_swap false true true = refl
or_swap false true false = refl
or_swap false false true = refl
or_swap false false false = refl

or_none : (a : Bool) → (a || false) ≡ a
or_none true = refl
or_none false = refl

-- a fresh source owes its whole window
fresh_source_owes : (g : Geometry) (wid x y : ℕ) → source_owes wid x y (fresh_source g) ≡ (eqb g.wid wid && is_within g.w g.h x y)
fresh_source_owes g wid x y = ap (λ b. eqb g.wid wid && b) (has_all g.w g.h true x y ∙ all (is_within g.w g.h x y))
  where
    all : (b : Bool) → (b && true) ≡ b
    all true = refl
    all false = refl

pub open_owes : OpenOwes
open_owes g c wid x y greeted =
    ap (λ b. client_owes wid x y (cond b (record c { sources = c.sources ++ fresh_source g ∷ []; packets = c.packets ++ structure_packet (new_window g) ∷ [] }) c)) greeted
    ∙ ap (λ b. b || list_any (λ (p : Packet). draw_relieves wid x y p.draw) (c.packets ++ structure_packet (new_window g) ∷ [])) (list_any-append _ c.sources (fresh_source g ∷ []))
    ∙ ap (λ b. (list_any (λ (s : Source). source_owes wid x y s) c.sources || (source_owes wid x y (fresh_source g) || false)) || b) (list_any-append _ c.packets (structure_packet (new_window g) ∷ []) ∙ or_none _)
    ∙ ap (λ b. (list_any (λ (s : Source). source_owes wid x y s) c.sources || b) || list_any (λ (p : Packet). draw_relieves wid x y p.draw) c.packets) (or_none _ ∙ fresh_source_owes g wid x y)
    ∙ or_swap (list_any (λ (s : Source). source_owes wid x y s) c.sources) (eqb g.wid wid && is_within g.w g.h x y) (list_any (λ (p : Packet). draw_relieves wid x y p.draw) c.packets)

-- announcements repair nothing
announcers_none : (desk : List Window) (wid x y : ℕ) → list_any (λ (p : Packet). draw_relieves wid x y p.draw) (map (λ (w : Window). structure_packet (new_window (geometry_of w))) desk) ≡ false
announcers_none [] wid x y = refl
announcers_none (w ∷ desk) wid x y = announcers_none desk wid x y

fresh_sources_owe : (desk : List Window) (wid x y : ℕ) → list_any (λ (s : Source). source_owes wid x y s) (map (λ (w : Window). fresh_source (geometry_of w)) desk) ≡ on_desk desk wid x y
fresh_sources_owe [] wid x y = refl
fresh_sources_owe (w ∷ desk) wid x y = rw (fresh_source_owes (geometry_of w) wid x y, fresh_sources_owe desk wid x y) refl

pub attach_owes : AttachOwes
attach_owes desk c wid x y = ap (λ b. list_any (λ (s : Source). source_owes wid x y s) (map (λ (w : Window). fresh_source (geometry_of w)) desk) || b) (announcers_none desk wid x y)
    ∙ or_none _ ∙ fresh_sources_owe desk wid x y

-- one of the list is replaced by one that owes nothing
replaced_any : (test : Source → Bool) (sources : List Source) (place : ℕ) (new d : Source) → place < length sources → test new ≡ false
    → list_any test sources ≡ (list_any test (set sources place new) || test (get_or sources place d))
replaced_any test [] place new d within none = absurd (omega (arith, within))
replaced_any test (s ∷ sources) zero new d within none = rw none (swap (test s) (list_any test sources))
  where
    swap : (a b : Bool) → (a || b) ≡ (b || a)
    swap true true = refl
    swap true false = refl
    swap false true = refl
    swap false false = refl
replaced_any test (s ∷ sources) (suc place) new d within none =
    ap (λ b. test s || b) (replaced_any test sources place new d (omega (arith, within)) none) ∙ assoc (test s) (list_any test (set sources place new)) (test (get_or sources place d))
  where
    assoc : (a b c : Bool) → (a || (b || c)) ≡ ((a || b) || c)
    assoc true b c = refl
    assoc false b c = refl

and_none : (a b : Bool) → (a && (b && false)) ≡ false
and_none true true = refl
and_none true false = refl
and_none false b = refl

pub capture_owes : CaptureOwes
capture_owes window place s c wid x y there =
    let at = position-Some (λ (t : Source). eqb t.wid window.wid) c.sources place s there.0 in
    let here : get_or c.sources place s ≡ s = some_same (get_or c.sources place s) s (sym (slice_get-get_or c.sources place s at.0) ∙ there.1) in
    let number : s.wid ≡ window.wid = ap (λ (t : Source). t.wid) (sym here) ∙ eqb-true (get_or c.sources place s).wid window.wid at.1 in
    let none : source_owes wid x y new ≡ false = ap (λ b. eqb s.wid wid && b) (has_all window.w window.h false x y) ∙ and_none (eqb s.wid wid) (is_within window.w window.h x y) in
    let split : any c.sources ≡ (any (set c.sources place new) || source_owes wid x y s) =
    replaced_any (λ (t : Source). source_owes wid x y t) c.sources place new s at.0 none ∙ ap (λ (t : Source). any (set c.sources place new) || source_owes wid x y t) here in
    let draws : drawn (c.packets ++ window_draw window s ∷ []) ≡ (drawn c.packets || source_owes wid x y s) =
    list_any-append (λ (p : Packet). draw_relieves wid x y p.draw) c.packets (window_draw window s ∷ []) ∙ ap (λ b. drawn c.packets || b) (or_none _)
    ∙ ap (λ n. drawn c.packets || (eqb n wid && has s.pending x y)) (sym number) in
    ap (λ b. any (set c.sources place new) || b) draws ∙ shuffled (any (set c.sources place new)) (drawn c.packets) (source_owes wid x y s) ∙ ap (λ b. b || drawn c.packets) (sym split)
  where
    new : Source
    new = record s { pending = whole_set window.w window.h false; next_sequence = s.next_sequence + 1 }

    any : List Source → Bool
    any sources = list_any (λ (t : Source). source_owes wid x y t) sources

    drawn : List Packet → Bool
    drawn packets = list_any (λ (p : Packet). draw_relieves wid x y p.draw) packets

    shuffled : (a b d : Bool) → (a || (b || d)) ≡ ((a || d) || b)
    shuffled true b d = refl
    shuffled false true true = refl
    shuffled false true false = refl
    shuffled false false true = refl
    shuffled false false false = refl

-- no two sources have one number
abbrev pub DistinctNumbers : List Source → Type 0
DistinctNumbers sources = AllPairs (λ (a b : Source). a.wid ≢ b.wid) sources

-- what is owed at a window's source is what its source owes
pub any_found : (sources : List Source) (wid x y : ℕ) (s : Source) → DistinctNumbers sources → find_source sources wid ≡ Some s → list_any (λ (t : Source). source_owes wid x y t) sources ≡ has s.pending x y
any_found [] wid x y s distinct found = absurd (cc found)
any_found (t ∷ sources) wid x y s distinct found = go (cases_Bool (eqb t.wid wid)) (any_found sources wid x y s (λ i k d before within. distinct (suc i) (suc k) d (omega (arith, before)) (omega (arith, within)))) found
  where
    others : eqb t.wid wid ≡ true → (rest : List Source) → All (λ (u : Source). t.wid ≢ u.wid) rest → list_any (λ (u : Source). source_owes wid x y u) rest ≡ false
    others here [] apart = refl
    others here (u ∷ rest) apart =
        let other : t.wid ≢ u.wid = All-head (λ (v : Source). t.wid ≢ v.wid) u rest apart in
        let number : t.wid ≡ wid = eqb-true t.wid wid here in
        let test : eqb u.wid wid ≡ false = grind (arith, nat_tests, other, number) in
        rw test (others here rest (All-tail (λ (v : Source). t.wid ≢ v.wid) u rest apart))

    go : (eqb t.wid wid ≡ true) ⊎ (eqb t.wid wid ≡ false) → (find_source sources wid ≡ Some s → list_any (λ (u : Source). source_owes wid x y u) sources ≡ has s.pending x y)
        → cond (eqb t.wid wid) (Some t) (find_source sources wid) ≡ Some s
        → ((eqb t.wid wid && has t.pending x y) || list_any (λ (u : Source). source_owes wid x y u) sources) ≡ has s.pending x y
    go (inl here) rest found =
        let same : t ≡ s = some_same t s (sym (cond-true _ _ _ here) ∙ found) in
        rw (here, others here sources (λ k d within. distinct 0 (suc k) d (omega arith) (omega (arith, within)))) (or_none _ ∙ ap (λ (u : Source). has u.pending x y) same)
    go (inr elsewhere) rest found = rw elsewhere (rest (sym (cond-false _ _ _ elsewhere) ∙ found))

pub none_found : (sources : List Source) (wid x y : ℕ) → find_source sources wid ≡ None → list_any (λ (t : Source). source_owes wid x y t) sources ≡ false
none_found [] wid x y missing = refl
none_found (t ∷ sources) wid x y missing = go (cases_Bool (eqb t.wid wid)) (none_found sources wid x y) missing
  where
    go : (eqb t.wid wid ≡ true) ⊎ (eqb t.wid wid ≡ false) → (find_source sources wid ≡ None → list_any (λ (u : Source). source_owes wid x y u) sources ≡ false)
        → cond (eqb t.wid wid) (Some t) (find_source sources wid) ≡ None → ((eqb t.wid wid && has t.pending x y) || list_any (λ (u : Source). source_owes wid x y u) sources) ≡ false
    go (inl here) rest missing = absurd (cc (sym (cond-true _ _ _ here) ∙ missing))
    go (inr elsewhere) rest missing = rw elsewhere (rest (sym (cond-false _ _ _ elsewhere) ∙ missing))

-- the same of the desktop
pub desk_found : (desk : List Window) (wid x y : ℕ) (w : Window) → AllPairs (λ (a b : Window). a.wid ≢ b.wid) desk → find_window desk wid ≡ Some w → on_desk desk wid x y ≡ is_within w.w w.h x y
desk_found [] wid x y w distinct found = absurd (cc found)
desk_found (v ∷ desk) wid x y w distinct found = go (cases_Bool (eqb v.wid wid)) (desk_found desk wid x y w (λ i k d before within. distinct (suc i) (suc k) d (omega (arith, before)) (omega (arith, within)))) found
  where
    others : eqb v.wid wid ≡ true → (rest : List Window) → All (λ (u : Window). v.wid ≢ u.wid) rest → on_desk rest wid x y ≡ false
    others here [] apart = refl
    others here (u ∷ rest) apart =
        let other : v.wid ≢ u.wid = All-head (λ (t : Window). v.wid ≢ t.wid) u rest apart in
        let number : v.wid ≡ wid = eqb-true v.wid wid here in
        let test : eqb u.wid wid ≡ false = grind (arith, nat_tests, other, number) in
        rw test (others here rest (All-tail (λ (t : Window). v.wid ≢ t.wid) u rest apart))

    go : (eqb v.wid wid ≡ true) ⊎ (eqb v.wid wid ≡ false) → (find_window desk wid ≡ Some w → on_desk desk wid x y ≡ is_within w.w w.h x y)
        → cond (eqb v.wid wid) (Some v) (find_window desk wid) ≡ Some w → ((eqb v.wid wid && is_within v.w v.h x y) || on_desk desk wid x y) ≡ is_within w.w w.h x y
    go (inl here) rest found =
        let same : v ≡ w = some_same v w (sym (cond-true _ _ _ here) ∙ found) in
        rw (here, others here desk (λ k d within. distinct 0 (suc k) d (omega arith) (omega (arith, within)))) (or_none _ ∙ ap (λ (u : Window). is_within u.w u.h x y) same)
    go (inr elsewhere) rest found = rw elsewhere (rest (sym (cond-false _ _ _ elsewhere) ∙ found))

pub desk_missing : (desk : List Window) (wid x y : ℕ) → find_window desk wid ≡ None → on_desk desk wid x y ≡ false
desk_missing [] wid x y missing = refl
desk_missing (v ∷ desk) wid x y missing = go (cases_Bool (eqb v.wid wid)) (desk_missing desk wid x y) missing
  where
    go : (eqb v.wid wid ≡ true) ⊎ (eqb v.wid wid ≡ false) → (find_window desk wid ≡ None → on_desk desk wid x y ≡ false)
        → cond (eqb v.wid wid) (Some v) (find_window desk wid) ≡ None → ((eqb v.wid wid && is_within v.w v.h x y) || on_desk desk wid x y) ≡ false
    go (inl here) rest missing = absurd (cc (sym (cond-true _ _ _ here) ∙ missing))
    go (inr elsewhere) rest missing = rw elsewhere (rest (sym (cond-false _ _ _ elsewhere) ∙ missing))

-- the sources of a desktop's windows have different numbers
pub sources_distinct : (desk : List Window) (sources : List Source) → AreSources desk sources → AllPairs (λ (a b : Window). a.wid ≢ b.wid) desk → DistinctNumbers sources
sources_distinct desk sources are distinct = λ i k d before within same.
    let e : Window = record { wid = d.wid; x = pos 0; y = pos 0; w = 0; h = 0; pixels = [] } in
    let number : (n : ℕ) → (get_or sources n d).wid ≡ (get_or desk n e).wid = λ n.
    sym (get_or-map (λ (s : Source). s.wid) sources n d) ∙ ap (λ ns. get_or ns n d.wid) are ∙ get_or-map (λ (w : Window). w.wid) desk n e in
    let long : length sources ≡ length desk = sym (length-map sources (λ (s : Source). s.wid)) ∙ ap length are ∙ length-map desk (λ (w : Window). w.wid) in
    distinct i k e before (omega (arith, within, long)) (sym (number i) ∙ same ∙ number k)

-- the source of a window after a fill
damaged_has : (filled : ℕ) (r : Rectangle) (s : Source) (wid x y : ℕ) (b : Bool) → IsPointSet s.pending → s.wid ≡ wid → eqb filled wid ≡ b
    → has (damaged_source filled r s).pending x y ≡ (has s.pending x y || (b && (is_within s.pending.w s.pending.h x y && is_in r x y)))
damaged_has filled r s wid x y b set number test = ap (λ t. has (cond t (record s { pending = with_rectangle r s.pending }) s).pending x y) (ap (λ n. eqb n filled) number ∙ flip b test) ∙ go b
  where
    flip : (b : Bool) → eqb filled wid ≡ b → eqb wid filled ≡ b
    flip true same = eq-eqb wid filled (sym (eqb-true filled wid same))
    flip false other = grind (arith, nat_tests, other)

    swapped : (a b : Bool) → (a || b) ≡ (b || a)
    swapped true true = refl
    swapped true false = refl
    swapped false true = refl
    swapped false false = refl

    go : (b : Bool) → has (cond b (record s { pending = with_rectangle r s.pending }) s).pending x y ≡ (has s.pending x y || (b && (is_within s.pending.w s.pending.h x y && is_in r x y)))
    go true = has_marked r s.pending x y set ∙ swapped (is_within s.pending.w s.pending.h x y && is_in r x y) (has s.pending x y)
    go false = sym (or_none (has s.pending x y))

pub fill_owes : FillOwes
fill_owes desk c sent filled r wid x y is told greeted =
    ap (λ b. b || drawn) (go (find_window desk wid) (find_source c.sources wid) refl refl (source_where desk c.sources wid d.sourced))
    ∙ or_swap (any c.sources) (eqb filled wid && (on_desk desk wid x y && is_in r x y)) drawn
  where
    d : IsDelivered desk c.sources c.packets told.windows told.messages
    d = told.delivered greeted

    drawn : Bool
    drawn = list_any (λ (p : Packet). draw_relieves wid x y p.draw) c.packets

    any : List Source → Bool
    any sources = list_any (λ (t : Source). source_owes wid x y t) sources

    keeps : (s : Source) → (damaged_source filled r s).wid ≡ s.wid
    keeps s = one (eqb s.wid filled)
      where
        one : (b : Bool) → (cond b (record s { pending = with_rectangle r s.pending }) s).wid ≡ s.wid
        one true = refl
        one false = refl

    now : (o : Option Source) → find_source c.sources wid ≡ o → find_source (map (damaged_source filled r) c.sources) wid ≡ option_map (damaged_source filled r) o
    now o found = find_source-map (damaged_source filled r) keeps c.sources wid ∙ ap (option_map (damaged_source filled r)) found

    nothing : (a b : Bool) → (a && (false && b)) ≡ false
    nothing true b = refl
    nothing false b = refl

    go : (o : Option Window) (q : Option Source) → find_window desk wid ≡ o → find_source c.sources wid ≡ q → is_some (find_source c.sources wid) ≡ is_some (find_window desk wid)
        → any (map (damaged_source filled r) c.sources) ≡ (any c.sources || (eqb filled wid && (on_desk desk wid x y && is_in r x y)))
    go None None here source stands = none_found (map (damaged_source filled r) c.sources) wid x y (now None source)
        ∙ sym (ap (λ b. b || (eqb filled wid && (on_desk desk wid x y && is_in r x y))) (none_found c.sources wid x y source)
        ∙ ap (λ b. eqb filled wid && (b && is_in r x y)) (desk_missing desk wid x y here) ∙ nothing (eqb filled wid) (is_in r x y))
    go None (Some s) here source stands = absurd (cc (sym (ap is_some source) ∙ stands ∙ ap is_some here))
    go (Some w) None here source stands = absurd (cc (sym (ap is_some source) ∙ stands ∙ ap is_some here))
    go (Some w) (Some s) here source stands =
        let distinct = sources_distinct desk c.sources d.sourced is.distinct in
        let same = sources_distinct desk (map (damaged_source filled r) c.sources) (numbers-map (damaged_source filled r) keeps c.sources ∙ d.sourced) is.distinct in
        let found = found_one (λ (t : Source). IsPointSet t.pending) (λ (t : Source). eqb t.wid wid) c.sources s d.sets source in
        let kept = d.kept wid w s here source in
        let wide : s.pending.w ≡ w.w = kept.pending.wide in
        let high : s.pending.h ≡ w.h = kept.pending.high in
        any_found (map (damaged_source filled r) c.sources) wid x y (damaged_source filled r s) same (now (Some s) source)
        ∙ damaged_has filled r s wid x y (eqb filled wid) found.0 (eqb-true s.wid wid found.1) refl
        ∙ ap (λ n. has s.pending x y || (eqb filled wid && (is_within n s.pending.h x y && is_in r x y))) wide
        ∙ ap (λ n. has s.pending x y || (eqb filled wid && (is_within w.w n x y && is_in r x y))) high
        ∙ ap (λ b. has s.pending x y || (eqb filled wid && (b && is_in r x y))) (sym (desk_found desk wid x y w is.distinct here))
        ∙ ap (λ b. b || (eqb filled wid && (on_desk desk wid x y && is_in r x y))) (sym (any_found c.sources wid x y s distinct source))
