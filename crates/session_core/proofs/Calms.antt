-- What reads, captures and writes leave, for settling.
use Rattle.std.proofs.Common.{◌≡◌, ◌≢◌, ◌⊎◌, inl, inr, ℕ, zero, suc, ◌+◌, ◌*◌, ◌<◌, length, get_or, replicate, eqb, arith, Bool, true, false, List, [], ◌∷◌, Option, Some, None, cond, set, drop, refl, sym, ap, ◌∙◌, subst}
use Rattle.std.specs.Prelude.{MatchOption, nat_lt, position, Result, Ok, Err, OnOk, slice_get, is_some, AllPairs}
use Rattle.std.specs.List.{position_or_len}
use Rattle.std.proofs.lemmas.Bool.{cases_Bool, cases_lt, eqb-true, eq-eqb, cond-true, cond-false}
use Rattle.std.proofs.lemmas.Bool.Decides.{nat_tests}
use Rattle.std.proofs.lemmas.Option.{slice_get_past, slice_get-get_or, slice_get_cases}
use Rattle.std.proofs.lemmas.List.Folds.{find_at}
use Rattle.window_model.specs.Desktop.{Window, find_window, has_window}
use Rattle.client_connection.specs.declared.answers.Captured.{Captured}
use Rattle.client_connection.specs.declared.answers.Captured.TheVariants as C
use Rattle.client_connection.specs.PointSets.{HasNone, whole_set}
use Rattle.client_connection.specs.Capturing.{CapturesWindow}
use Rattle.client_connection.specs.Delivery.{find_source}
use Rattle.link_bay.specs.Connections.{ConnectionRecord}
use Rattle.client_connection.specs.declared.source.Source.{Source}
use Rattle.client_connection.specs.declared.answers.Sent.{Sent}
use Rattle.client_connection.specs.declared.answers.Sent.TheVariants as S
use Rattle.session_core.specs.declared.answers.Received.TheVariants as R
use Rattle.client_connection.specs.declared.ends.End.{End}
use Rattle.client_connection.specs.Clients.{ClientSeen, taken_more, front_size}
use Rattle.session_core.specs.State.{Seen, open_client}
use Rattle.client_connection.specs.Sending.{Writes, WriteEnds}
use Rattle.session_core.specs.Reading.{Reads}
use Rattle.session_core.specs.Steps.{Sends, Receives, Captures, CapturesOne, send_ends, with_client, with_end}
use Rattle.session_core.specs.Calm.{IsCleanAt, AreClean, sources_in, WaitsForNothing, IsCalm}
use Rattle.session_core.specs.Slots.{IsAttached}
use Rattle.client_connection.proofs.Sources.{some_same, find_source-set, find_source-at, wid_at}
use Rattle.session_core.proofs.Lessening.{open_set}

taken_sources : (n : ℕ) (c : ClientSeen) → (taken_more n c).sources ≡ c.sources
taken_sources n c = go (nat_lt (c.taken + n) (front_size c.packets))
  where
    go : (b : Bool) → (cond b (record c { taken = c.taken + n }) (record c { packets = drop 1 c.packets; taken = 0 })).sources ≡ c.sources
    go true = refl
    go false = refl

writes_sources : (most : ℕ) (was now : ConnectionRecord) (c c' : ClientSeen) (answer : Sent) → Writes most was now c answer c' → c'.sources ≡ c.sources
writes_sources most was now c c' S.Closed writes = absurd writes
writes_sources most was now c c' S.Idle writes = ap (λ (d : ClientSeen). d.sources) writes.2
writes_sources most was now c c' (S.Took n) writes = ap (λ (d : ClientSeen). d.sources) writes.3 ∙ taken_sources n c
writes_sources most was now c c' S.Again writes = ap (λ (d : ClientSeen). d.sources) writes.3
writes_sources most was now c c' (S.Ended ended) writes = absurd writes
writes_sources most was now c c' S.NoMemory writes = ap (λ (d : ClientSeen). d.sources) writes.2

-- what stands at a place whose client is as it is now
pub now_open : {B : Type 0} (old new : Seen B) (k : ℕ) (c c' : ClientSeen) → open_client old.clients k ≡ Some c → new ≡ with_client k c' new.bay old → open_client new.clients k ≡ Some c'
now_open old new k c c' here is = ap (λ (s : Seen _). open_client s.clients k) is ∙ open_set old.clients k c (Some c') here

-- a write that does not end the connection leaves its sources
pub sends_sources : {B : Type 0} (connection : B → ℕ → ConnectionRecord) (k most : ℕ) (old new : Seen B) (answer : Sent) → Sends connection k most old answer new → send_ends answer ≡ None
    → sources_in (open_client new.clients k) ≡ sources_in (open_client old.clients k)
sends_sources {B} connection k most old new answer sends goes = go (open_client old.clients k) refl sends
  where
    One : ClientSeen → Option End → Type 0
    One c o = MatchOption o ((c' : ClientSeen) × Writes most (connection old.bay k) (connection new.bay k) c answer c' × (new ≡ with_client k c' new.bay old))
        (λ ended. WriteEnds most (connection old.bay k) (connection new.bay k) c ended × (new ≡ with_end k ended new.bay old))

    go : (o : Option ClientSeen) → open_client old.clients k ≡ o → MatchOption o ((answer ≡ S.Closed) × (new ≡ old)) (λ c. One c (send_ends answer))
        → sources_in (open_client new.clients k) ≡ sources_in (open_client old.clients k)
    go None here closed = ap (λ (s : Seen B). sources_in (open_client s.clients k)) closed.1
    go (Some c) here one =
        let now : One c None = subst (One c) goes one in
        ap sources_in (now_open old new k c now.0 here now.2) ∙ writes_sources most (connection old.bay k) (connection new.bay k) c now.0 answer now.1 ∙ sym (ap sources_in here)

-- a write that is idle leaves nothing waiting
pub sends_idle : {B : Type 0} (connection : B → ℕ → ConnectionRecord) (k most : ℕ) (old new : Seen B) → Sends connection k most old S.Idle new → WaitsForNothing (open_client new.clients k)
sends_idle {B} connection k most old new sends = go (open_client old.clients k) refl sends
  where
    go : (o : Option ClientSeen) → open_client old.clients k ≡ o
        → MatchOption o ((S.Idle ≡ S.Closed) × (new ≡ old)) (λ c. (c' : ClientSeen) × Writes most (connection old.bay k) (connection new.bay k) c S.Idle c' × (new ≡ with_client k c' new.bay old))
        → WaitsForNothing (open_client new.clients k)
    go None here closed = λ d is. absurd (cc closed.0)
    go (Some c) here now = λ d is.
        let same : now.0 ≡ d = some_same now.0 d (sym (now_open old new k c now.0 here now.2) ∙ is) in
        ap (λ (e : ClientSeen). e.packets) (sym same) ∙ ap (λ (e : ClientSeen). e.packets) now.1.2 ∙ now.1.0

-- what stands at a place may be put there
put_back : (clients : List (Option ClientSeen)) (k : ℕ) (c : ClientSeen) → open_client clients k ≡ Some c → set clients k (Some c) ≡ clients
put_back [] k c here = absurd (cc here)
put_back (slot ∷ clients) zero c here = ap (λ s. s ∷ clients) (sym here)
put_back (slot ∷ clients) (suc k) c here = ap (λ cs. slot ∷ cs) (put_back clients k c here)

-- a read that finds nothing leaves the connections, and the client has heard all
pub receives_again : {B : Type 0} (connection : B → ℕ → ConnectionRecord) (k : ℕ) (old new : Seen B) → Receives connection k old R.Again new
    → (new.clients ≡ old.clients) × ((connection new.bay k).unheard ≡ 0)
receives_again {B} connection k old new receives = go (open_client old.clients k) refl receives
  where
    go : (o : Option ClientSeen) → open_client old.clients k ≡ o
        → MatchOption o ((R.Again ≡ R.Closed) × (new ≡ old)) (λ c. (c' : ClientSeen) × Reads (connection old.bay k) (connection new.bay k) old.lines old.desk c R.Again c' × (new ≡ with_client k c' new.bay old))
        → (new.clients ≡ old.clients) × ((connection new.bay k).unheard ≡ 0)
    go None here closed = absurd (cc closed.0)
    go (Some c) here now = (
      ap (λ (s : Seen B). s.clients) now.2 ∙ ap (λ (d : ClientSeen). set old.clients k (Some d)) now.1.1 ∙ put_back old.clients k c here,
      ap (λ (r : ConnectionRecord). r.unheard) now.1.0.2,
    )

-- where no source has the number, none is found
none_at : (sources : List Source) (wid : ℕ) → position (λ (t : Source). eqb t.wid wid) sources ≡ None → find_source sources wid ≡ None
none_at sources wid none = find_at (λ (t : Source). eqb t.wid wid) sources ∙ elim (cases_lt n (length sources)) [
  | inl under ↦
      let test : nat_lt n (length sources) ≡ true = grind (arith, nat_tests, under) in
      absurd (cc (sym (cond-true _ (Some n) None test) ∙ none))
  | inr over ↦ slice_get_past sources n over
]
  where
    n : ℕ
    n = position_or_len (λ (t : Source). eqb t.wid wid) sources

no_marks : (n k : ℕ) → get_or (replicate n false) k false ≡ false
no_marks zero k = refl
no_marks (suc n) zero = refl
no_marks (suc n) (suc k) = no_marks n k

-- a capture for which there was memory and a number leaves its window clean, and what was clean stays so
captured_clean : (window : Window) (c c' : ClientSeen) (answer : Captured) → CapturesWindow window c answer c' → answer ≢ C.NoMemory → answer ≢ C.Spent
    → IsCleanAt c'.sources window.wid × ((wid : ℕ) → IsCleanAt c.sources wid → IsCleanAt c'.sources wid)
captured_clean window c c' C.Closed captures memory number =
    let same : c'.sources ≡ c.sources = ap (λ (d : ClientSeen). d.sources) captures.1 in
    ((λ s found mapped. absurd (cc (sym (none_at c.sources window.wid captures.0) ∙ ap (λ ss. find_source ss window.wid) (sym same) ∙ found))), λ wid clean. subst (λ ss. IsCleanAt ss wid) (sym same) clean)
captured_clean window c c' C.Unmapped captures memory number =
    let same : c'.sources ≡ c.sources = ap (λ (d : ClientSeen). d.sources) captures.4 in
    let here = find_source-at c.sources window.wid captures.0 captures.1 captures.2.0 captures.2.1 in (
      (λ s found mapped.
          let is : captures.1 ≡ s = some_same captures.1 s (sym here ∙ ap (λ ss. find_source ss window.wid) (sym same) ∙ found) in
          absurd (cc (sym captures.3 ∙ ap (λ (t : Source). t.mapped) is ∙ mapped))),
      λ wid clean. subst (λ ss. IsCleanAt ss wid) (sym same) clean,
    )
captured_clean window c c' C.Clean captures memory number =
    let same : c'.sources ≡ c.sources = ap (λ (d : ClientSeen). d.sources) captures.5 in
    let here = find_source-at c.sources window.wid captures.0 captures.1 captures.2.0 captures.2.1 in (
      (λ s found mapped.
          let is : captures.1 ≡ s = some_same captures.1 s (sym here ∙ ap (λ ss. find_source ss window.wid) (sym same) ∙ found) in
          subst (λ (t : Source). HasNone t.pending) is captures.4),
      λ wid clean. subst (λ ss. IsCleanAt ss wid) (sym same) clean,
    )
captured_clean window c c' (C.Early moment) captures memory number = absurd captures
captured_clean window c c' (C.Congested load) captures memory number = absurd captures
captured_clean window c c' (C.Heavy weight) captures memory number = absurd captures
captured_clean window c c' C.Spent captures memory number = absurd (number refl)
captured_clean window c c' C.NoMemory captures memory number = absurd (memory refl)
captured_clean window c c' (C.Jobs n) captures memory number = (here, others)
  where
    s : Source
    s = captures.1

    new : Source
    new = record s { pending = whole_set window.w window.h false; next_sequence = s.next_sequence + 1 }

    none : HasNone new.pending
    none k = no_marks (window.w * window.h) k

    sources : c'.sources ≡ set c.sources captures.0 new
    sources = ap (λ (d : ClientSeen). d.sources) captures.7

    now : (wid : ℕ) → find_source c'.sources wid ≡ cond (eqb wid window.wid) (Some new) (find_source c.sources wid)
    now wid = ap (λ ss. find_source ss wid) sources ∙ find_source-set c.sources window.wid captures.0 s new wid captures.2.0 captures.2.1 (wid_at c.sources window.wid captures.0 s captures.2.0 captures.2.1)

    at_new : (t : Source) → Some new ≡ Some t → HasNone t.pending
    at_new t is = subst (λ (u : Source). HasNone u.pending) (some_same new t is) none

    here : IsCleanAt c'.sources window.wid
    here t found mapped = at_new t (sym (cond-true (eqb window.wid window.wid) (Some new) (find_source c.sources window.wid) (eq-eqb window.wid window.wid refl)) ∙ sym (now window.wid) ∙ found)

    others : (wid : ℕ) → IsCleanAt c.sources wid → IsCleanAt c'.sources wid
    others wid clean t found mapped = go (cases_Bool (eqb wid window.wid))
      where
        go : (eqb wid window.wid ≡ true) ⊎ (eqb wid window.wid ≡ false) → HasNone t.pending
        go (inl same) = at_new t (sym (cond-true (eqb wid window.wid) (Some new) (find_source c.sources wid) same) ∙ sym (now wid) ∙ found)
        go (inr other) = clean t (sym (cond-false (eqb wid window.wid) (Some new) (find_source c.sources wid) other) ∙ sym (now wid) ∙ found) mapped

-- the same of a session
pub captures_clean : {B : Type 0} (k : ℕ) (window : Window) (old new : Seen B) (answer : Captured) → find_window old.desk window.wid ≡ Some window → Captures k window.wid old answer new → answer ≢ C.NoMemory → answer ≢ C.Spent
    → IsCleanAt (sources_in (open_client new.clients k)) window.wid
    × ((wid : ℕ) → IsCleanAt (sources_in (open_client old.clients k)) wid → IsCleanAt (sources_in (open_client new.clients k)) wid)
captures_clean {B} k window old new answer found captures memory number = go (open_client old.clients k) refl captures
  where
    go : (o : Option ClientSeen) → open_client old.clients k ≡ o
        → MatchOption o ((answer ≡ C.Closed) × (new ≡ old)) (λ c. (c' : ClientSeen) × CapturesOne old.desk window.wid c answer c' × (new ≡ with_client k c' old.bay old))
        → IsCleanAt (sources_in (open_client new.clients k)) window.wid
        × ((wid : ℕ) → IsCleanAt (sources_in (open_client old.clients k)) wid → IsCleanAt (sources_in (open_client new.clients k)) wid)
    go None here closed =
        let none : sources_in (open_client new.clients k) ≡ [] = ap (λ (s : Seen B). sources_in (open_client s.clients k)) closed.1 ∙ ap sources_in here in
        ((λ s is mapped. absurd (cc (ap (λ ss. find_source ss window.wid) (sym none) ∙ is))), λ wid clean s is mapped. absurd (cc (ap (λ ss. find_source ss wid) (sym none) ∙ is)))
    go (Some c) here now =
        let one : CapturesWindow window c answer now.0 = subst (λ o. MatchOption o ((answer ≡ C.Closed) × (now.0 ≡ c)) (λ w. CapturesWindow w c answer now.0)) found now.1 in
        let clean = captured_clean window c now.0 answer one memory number in
        let open_now : sources_in (open_client new.clients k) ≡ now.0.sources = ap (λ (s : Seen B). sources_in (open_client s.clients k)) now.2 ∙ ap sources_in (open_set old.clients k c (Some now.0) here) in (
          subst (λ ss. IsCleanAt ss window.wid) (sym open_now) clean.0,
          λ wid before. subst (λ ss. IsCleanAt ss wid) (sym open_now) (clean.1 wid (subst (λ ss. IsCleanAt ss wid) (ap sources_in here) before)),
        )

slice_get_within : {A : Type 0} (xs : List A) (i : ℕ) (x : A) → slice_get xs i ≡ Some x → i < length xs
slice_get_within xs i x there = elim (slice_get_cases xs i).1 [
  | inl inside ↦ inside.1
  | inr past ↦ absurd (cc (sym past.1 ∙ there))
]

-- the window at a place of a desktop is found by its number
pub found_there : (desk : List Window) (i : ℕ) (w : Window) → AllPairs (λ (a b : Window). a.wid ≢ b.wid) desk → slice_get desk i ≡ Some w → find_window desk w.wid ≡ Some w
found_there [] i w distinct there = absurd (cc there)
found_there (v ∷ desk) zero w distinct there =
    let same : v ≡ w = some_same v w there in
    cond-true _ (Some v) (find_window desk w.wid) (eq-eqb v.wid w.wid (ap (λ (u : Window). u.wid) same)) ∙ ap (λ (u : Window). Some u) same
found_there (v ∷ desk) (suc i) w distinct there =
    let within = slice_get_within desk i w there in
    let here : get_or desk i w ≡ w = some_same (get_or desk i w) w (sym (slice_get-get_or desk i w within) ∙ there) in
    let apart : v.wid ≢ w.wid = λ same. distinct 0 (suc i) w (omega arith) (omega (arith, within)) (same ∙ sym (ap (λ (u : Window). u.wid) here)) in
    let test : eqb v.wid w.wid ≡ false = grind (arith, nat_tests, apart) in
    cond-false _ (Some v) (find_window desk w.wid) test ∙ found_there desk i w (λ j k d before low. distinct (suc j) (suc k) d (omega (arith, before)) (omega (arith, low))) there

-- a window that is found stands at a place
pub place_where : (desk : List Window) (wid : ℕ) → has_window desk wid ≡ true → (i : ℕ) × (w : Window) × (i < length desk) × (slice_get desk i ≡ Some w) × (w.wid ≡ wid)
place_where [] wid has = absurd (cc has)
place_where (v ∷ desk) wid has = go (cases_Bool (eqb v.wid wid)) (place_where desk wid)
  where
    go : (eqb v.wid wid ≡ true) ⊎ (eqb v.wid wid ≡ false) → (has_window desk wid ≡ true → (i : ℕ) × (w : Window) × (i < length desk) × (slice_get desk i ≡ Some w) × (w.wid ≡ wid))
        → (i : ℕ) × (w : Window) × (i < length (v ∷ desk)) × (slice_get (v ∷ desk) i ≡ Some w) × (w.wid ≡ wid)
    go (inl same) rest = (0, v, omega arith, refl, eqb-true v.wid wid same)
    go (inr other) rest =
        let later = rest (sym (ap is_some (cond-false (eqb v.wid wid) (Some v) (find_window desk wid) other)) ∙ has) in
        (suc later.0, later.1, omega (arith, later.2), later.3, later.4)

-- after a round in which nothing was read once all was written
pub calm_after : (desk desk' : List Window) (captured sent heard : List (Option ClientSeen)) (k : ℕ) → AreClean desk (open_client captured k) → desk' ≡ desk → WaitsForNothing (open_client sent k)
    → sources_in (open_client sent k) ≡ sources_in (open_client captured k) → heard ≡ sent → IsAttached heard k → IsCalm desk' (open_client heard k)
calm_after desk desk' captured sent heard k clean same idle sources quiet attached = record {
  attached = attached;
  sent = subst (λ cs. WaitsForNothing (open_client cs k)) (sym quiet) idle;
  clean = λ wid has.
      subst (λ ss. IsCleanAt ss wid) (sym (ap (λ cs. sources_in (open_client cs k)) quiet ∙ sources))
      (clean wid (subst (λ d. has_window d wid ≡ true) same has));
}

-- what follows from what stands with success stands with success, too
pub ok_then : {A E : Type 0} (r : Result A E) {P Q : Type 0} → (P → Q) → OnOk r P → OnOk r Q
ok_then (Ok a) f on = f on
ok_then (Err e) f on = on
