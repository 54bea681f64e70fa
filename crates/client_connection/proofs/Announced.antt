-- What a client gave before it was shown a window.
use Rattle.std.proofs.Common.{◌≡◌, ◌≢◌, ◌⊎◌, inl, inr, ℕ, zero, suc, ◌+◌, ◌-◌, ◌<◌, ◌≤◌, Bool, true, false, Option, Some, None, List, [], ◌∷◌, ◌++◌, length, replicate, map, set, get_or, take, drop, min, cond, eqb, refl, ap, ◌∙◌, sym, subst, arith}
use Rattle.std.specs.Prelude.{nat_lt, is_some, position, slice_get, slice_index}
use Rattle.std.specs.Option.{option_map, option_or}
use Rattle.std.proofs.lemmas.Bool.{cases_Bool, cases_lt, eqb-true, lt-ltb, false≢true, cond-true, cond-false}
use Rattle.std.proofs.lemmas.Bool.Decides.{nat_tests}
use Rattle.std.proofs.lemmas.List.{length-append, length-take, length-take-le, length-drop, length-replicate, take-append-le, take-take, get_or_append_left, get_or-append_right, get_or-replicate}
use Rattle.std.proofs.lemmas.List.Folds.{find-append}
use Rattle.std.proofs.Math.Seq.{take-append-add}
use Rattle.window_model.specs.Desktop.{Window, find_window, has_window, fresh_window, opened, filled_window, filled_on}
use Rattle.xp_base.specs.Points.{Rectangle}
use Rattle.window_model.proofs.Desktops.{changed_finds_lem}
use Rattle.first_script.specs.declared.paint.Paint.{Paint}
use Rattle.first_script.specs.declared.paint.Paint.TheVariants.{Open, Fill}
use Rattle.first_script.specs.Painting.{painted, rectangle}
use Rattle.client_connection.specs.declared.geometry.Geometry.{Geometry}
use Rattle.client_connection.specs.declared.packet.Packet.{Packet}
use Rattle.client_connection.specs.declared.source.Source.{Source}
use Rattle.client_connection.specs.declared.answers.Captured.{Captured}
use Rattle.client_connection.specs.declared.answers.Captured.TheVariants as C
use Rattle.client_connection.specs.PointSets.{with_rectangle}
use Rattle.client_connection.specs.Wire.{new_window}
use Rattle.client_connection.specs.Clients.{ClientSeen, fresh_client, fresh_source, structure_packet, captured, damaged, damaged_source, mapped_source, taken_more, front_size, front_rest, IsTaken, painted_client}
use Rattle.client_connection.specs.Hearing.{script_window, AreMaps, mapped_sources, HearsMaps, HearsAs, Hears}
use Rattle.client_connection.specs.Sending.{offered}
use Rattle.client_connection.specs.Capturing.{CapturesWindow}
use Rattle.client_connection.specs.Delivery.{find_source}
use Rattle.client_connection.specs.Told.{IsTold}
use Rattle.client_connection.specs.Shown.{shows}
use Rattle.client_connection.specs.Given.{IsGiven, IsShownBy, IsUnmapped, IsHeard}
use Rattle.client_connection.proofs.Sources.{some_same, source_where, find_source-map, find_source-set, find_source-at, wid_at}
use Rattle.client_connection.proofs.Tellings.{told_part, told_whole}
use Rattle.client_connection.proofs.Shown.{shows_told}
use Rattle.client_connection.proofs.Givens.{taken_as}

-- nothing was sent to a connection that was just accepted
pub heard_fresh : (lines : List Paint) (desk : List Window) → IsHeard lines desk fresh_client [] [] []
heard_fresh lines desk = record {
  paired = refl;
  silent = λ off. refl;
  unannounced = λ wid n missing within. absurd (omega (arith, within));
  marks = λ g n is unmapped within shown. absurd (omega (arith, within));
}

-- the source that is found has the number
number_found : (sources : List Source) (k : ℕ) (s : Source) → find_source sources k ≡ Some s → eqb s.wid k ≡ true
number_found [] k s found = absurd (cc found)
number_found (t ∷ sources) k s found = elim (cases_Bool (eqb t.wid k)) [
  | inl here ↦ subst (λ (u : Source). eqb u.wid k ≡ true) (some_same t s (sym (cond-true _ _ _ here) ∙ found)) here
  | inr elsewhere ↦ number_found sources k s (sym (cond-false _ _ _ elsewhere) ∙ found)
]

-- nothing was sent yet
heard_silent : (lines : List Paint) (desk : List Window) (c : ClientSeen) (sent given heard : List ℕ) → sent ≡ [] → length heard ≡ length sent → IsHeard lines desk c sent given heard
heard_silent lines desk c sent given heard none paired = record {
  paired = paired;
  silent = λ off. none;
  unannounced = λ wid n missing within. let size = ap length none in absurd (omega (arith, within, size));
  marks = λ g n is unmapped within shown. let size = ap length none in absurd (omega (arith, within, size));
}

-- after a map of the window its source is mapped, where there is one
mapped_keeps : (wid : ℕ) (s : Source) → (mapped_source wid s).wid ≡ s.wid
mapped_keeps wid s = go (eqb s.wid wid)
  where
    go : (b : Bool) → (cond b (record s { mapped = true }) s).wid ≡ s.wid
    go true = refl
    go false = refl

no_source : (sources : List Source) (wid : ℕ) → IsUnmapped (map (mapped_source wid) sources) wid → find_source sources wid ≡ None
no_source sources wid unmapped = go (find_source sources wid) refl
  where
    go : (o : Option Source) → find_source sources wid ≡ o → o ≡ None
    go None found = refl
    go (Some s) found =
        let number = number_found sources wid s found in
        let now : mapped_source wid s ≡ record s { mapped = true } = cond-true _ _ _ number in
        let there : find_source (map (mapped_source wid) sources) wid ≡ Some (record s { mapped = true }) =
        find_source-map (mapped_source wid) (mapped_keeps wid) sources wid ∙ ap (option_map (mapped_source wid)) found ∙ ap (λ (t : Source). Some t) now in
        absurd (false≢true (sym (unmapped (record s { mapped = true }) there)))

-- so many maps were read
heard_maps : (lines : List Paint) (desk : List Window) (c c' : ClientSeen) (sent given heard bytes : List ℕ) → c.greeted ≡ true → HearsMaps lines c (c.unread ++ bytes) c' → IsTold desk c sent
    → IsHeard lines desk c sent given heard → IsHeard lines desk c' sent (given ++ bytes) heard
heard_maps lines desk c c' sent given heard bytes on hears told was =
    subst (λ (d : ClientSeen). IsHeard lines desk d sent (given ++ bytes) heard) (sym hears.4)
    (record {
      paired = was.paired;
      silent = was.silent;
      unannounced = was.unannounced;
      marks = λ g n is unmapped within shown.
          marked g n hears.0 hears.1 is (subst (λ (o : Option Geometry). AreMaps o hears.0 hears.1 (c.unread ++ bytes)) is hears.2)
          (subst (λ (o : Option Geometry). IsUnmapped (mapped_sources o hears.0 c.sources) g.wid) is unmapped) within shown;
    })
  where
    marked : (g : Geometry) (n count : ℕ) (rest : List ℕ) → script_window lines ≡ Some g → AreMaps (Some g) count rest (c.unread ++ bytes) → IsUnmapped (mapped_sources (Some g) count c.sources) g.wid
        → n < length sent → IsShownBy sent n g.wid → length (given ++ bytes) ≤ slice_index heard n + length rest
    marked g n zero rest is maps unmapped within shown =
        let before = was.marks g n is unmapped within shown in
        let sizes = sym (length-append c.unread bytes) ∙ ap length maps.0 in
        let more = length-append given bytes in
        omega (arith, before, sizes, more)
    marked g n (suc count) rest is maps unmapped within shown =
        let test : nat_lt 0 (suc count) ≡ true = lt-ltb 0 (suc count) (omega arith) in
        let none = no_source c.sources g.wid (subst (λ (ss : List Source). IsUnmapped ss g.wid) (cond-true _ _ _ test) unmapped) in
        let missing : has_window desk g.wid ≡ false = sym (source_where desk c.sources g.wid (told.delivered on).sourced) ∙ ap is_some none in
        absurd (false≢true (sym (was.unannounced g.wid n missing within) ∙ shown))

-- more was read
pub heard_read : (lines : List Paint) (desk : List Window) (c c' : ClientSeen) (sent given heard bytes : List ℕ) → Hears lines desk c bytes c' → IsGiven lines c given → IsTold desk c sent
    → IsHeard lines desk c sent given heard → IsHeard lines desk c' sent (given ++ bytes) heard
heard_read lines desk c c' sent given heard bytes hears is told was = go c.greeted refl hears
  where
    go : (b : Bool) → c.greeted ≡ b → HearsAs b lines desk c (c.unread ++ bytes) c' → IsHeard lines desk c' sent (given ++ bytes) heard
    go true on hears = heard_maps lines desk c c' sent given heard bytes on hears told was
    go false off hears = heard_silent lines desk c' sent (given ++ bytes) heard (was.silent off) was.paired

-- each window of the desktop stays, and a source that is unmapped was unmapped before
heard_same : (lines : List Paint) (desk desk' : List Window) (c d : ClientSeen) (sent given heard : List ℕ) → d.greeted ≡ c.greeted → d.unread ≡ c.unread
    → ((k : ℕ) → IsUnmapped d.sources k → IsUnmapped c.sources k) → ((k : ℕ) → has_window desk' k ≡ false → has_window desk k ≡ false)
    → IsHeard lines desk c sent given heard → IsHeard lines desk' d sent given heard
heard_same lines desk desk' c d sent given heard greeted unread sources windows was = record {
  paired = was.paired;
  silent = λ off. was.silent (sym greeted ∙ off);
  unannounced = λ wid n missing within. was.unannounced wid n (windows wid missing) within;
  marks = λ g n is unmapped within shown.
      subst (λ (rest : List ℕ). length given ≤ slice_index heard n + length rest) (sym unread) (was.marks g n is (sources g.wid unmapped) within shown);
}

-- a capture leaves each source mapped or not
captured_unmapped : (sources : List Source) (window : Window) (place : ℕ) (s s' : Source) → position (λ (t : Source). eqb t.wid window.wid) sources ≡ Some place → slice_get sources place ≡ Some s
    → s'.wid ≡ s.wid → s'.mapped ≡ s.mapped → (k : ℕ) → IsUnmapped (set sources place s') k → IsUnmapped sources k
captured_unmapped sources window place s s' found there number marked k unmapped = λ t here. go t here (cases_Bool (eqb k window.wid))
  where
    now : find_source (set sources place s') k ≡ cond (eqb k window.wid) (Some s') (find_source sources k)
    now = find_source-set sources window.wid place s s' k found there (number ∙ wid_at sources window.wid place s found there)

    go : (t : Source) → find_source sources k ≡ Some t → (eqb k window.wid ≡ true) ⊎ (eqb k window.wid ≡ false) → t.mapped ≡ false
    go t here (inl same) =
        let old : find_source sources k ≡ Some s = ap (find_source sources) (eqb-true k window.wid same) ∙ find_source-at sources window.wid place s found there in
        let t_is : s ≡ t = some_same s t (sym old ∙ here) in
        ap (λ (u : Source). u.mapped) (sym t_is) ∙ sym marked ∙ unmapped s' (now ∙ cond-true _ _ _ same)
    go t here (inr other) = unmapped t (now ∙ cond-false _ _ _ other ∙ here)

-- a capture
pub heard_captured : (lines : List Paint) (desk : List Window) (window : Window) (c c' : ClientSeen) (answer : Captured) (sent given heard : List ℕ) → CapturesWindow window c answer c'
    → IsHeard lines desk c sent given heard → IsHeard lines desk c' sent given heard
heard_captured lines desk window c c' C.Closed sent given heard captures was = subst (λ (d : ClientSeen). IsHeard lines desk d sent given heard) (sym captures.1) was
heard_captured lines desk window c c' C.Unmapped sent given heard captures was = subst (λ (d : ClientSeen). IsHeard lines desk d sent given heard) (sym captures.4) was
heard_captured lines desk window c c' C.Clean sent given heard captures was = subst (λ (d : ClientSeen). IsHeard lines desk d sent given heard) (sym captures.5) was
heard_captured lines desk window c c' (C.Early moment) sent given heard captures was = absurd captures
heard_captured lines desk window c c' (C.Congested load) sent given heard captures was = absurd captures
heard_captured lines desk window c c' (C.Heavy weight) sent given heard captures was = absurd captures
heard_captured lines desk window c c' C.Spent sent given heard captures was = subst (λ (d : ClientSeen). IsHeard lines desk d sent given heard) (sym captures.6) was
heard_captured lines desk window c c' C.NoMemory sent given heard captures was = subst (λ (d : ClientSeen). IsHeard lines desk d sent given heard) (sym captures.6) was
heard_captured lines desk window c c' (C.Jobs n) sent given heard captures was =
    subst (λ (d : ClientSeen). IsHeard lines desk d sent given heard) (sym captures.7)
    (heard_same lines desk desk c (captured window captures.0 captures.1 c) sent given heard refl refl
    (captured_unmapped c.sources window captures.0 captures.1 _ captures.2.0 captures.2.1 refl refl) (λ k missing. missing) was)

-- a window or a source that was there stays, where more come
window_before : (desk more : List Window) (k : ℕ) → has_window (desk ++ more) k ≡ false → has_window desk k ≡ false
window_before desk more k missing = go (find_window desk k) refl
  where
    go : (o : Option Window) → find_window desk k ≡ o → is_some o ≡ false
    go None found = refl
    go (Some w) found =
        let there : find_window (desk ++ more) k ≡ Some w = find-append (λ (v : Window). eqb v.wid k) desk more ∙ ap (λ (o : Option Window). option_or o (find_window more k)) found in
        absurd (false≢true (sym missing ∙ ap is_some there))

source_before : (sources more : List Source) (k : ℕ) → IsUnmapped (sources ++ more) k → IsUnmapped sources k
source_before sources more k unmapped = λ s found.
    unmapped s (find-append (λ (t : Source). eqb t.wid k) sources more ∙ ap (λ (o : Option Source). option_or o (find_source more k)) found)

-- a rectangle that was filled leaves each window, and each source mapped or not
filled_before : (desk : List Window) (wid : ℕ) (r : Rectangle) (colour k : ℕ) → has_window (filled_on desk wid r colour) k ≡ false → has_window desk k ≡ false
filled_before desk wid r colour k missing = go (eqb k wid) (find_window desk k) (ap is_some (sym (changed_finds_lem desk wid (filled_window r colour) k (λ w. refl))) ∙ missing)
  where
    go : (b : Bool) (o : Option Window) → is_some (cond b (option_map (filled_window r colour) o) o) ≡ false → is_some o ≡ false
    go true None none = refl
    go false None none = refl
    go true (Some w) none = absurd (cc none)
    go false (Some w) none = none

damaged_keeps : (wid : ℕ) (r : Rectangle) (s : Source) → ((damaged_source wid r s).wid ≡ s.wid) × ((damaged_source wid r s).mapped ≡ s.mapped)
damaged_keeps wid r s = go (eqb s.wid wid)
  where
    go : (b : Bool) → let now = cond b (record s { pending = with_rectangle r s.pending }) s in (now.wid ≡ s.wid) × (now.mapped ≡ s.mapped)
    go true = (refl, refl)
    go false = (refl, refl)

damaged_unmapped : (sources : List Source) (wid : ℕ) (r : Rectangle) (k : ℕ) → IsUnmapped (map (damaged_source wid r) sources) k → IsUnmapped sources k
damaged_unmapped sources wid r k unmapped = λ s found.
    let there : find_source (map (damaged_source wid r) sources) k ≡ Some (damaged_source wid r s) =
    find_source-map (damaged_source wid r) (λ t. (damaged_keeps wid r t).0) sources k ∙ ap (option_map (damaged_source wid r)) found in
    sym (damaged_keeps wid r s).1 ∙ unmapped (damaged_source wid r s) there

-- a paint line
pub heard_painted : (lines : List Paint) (desk : List Window) (line : Paint) (c : ClientSeen) (sent given heard : List ℕ) → IsHeard lines desk c sent given heard
    → IsHeard lines (painted desk line) (painted_client line c) sent given heard
heard_painted lines desk (Open wid x y w h) c sent given heard was = go c.greeted
  where
    g : Geometry
    g = record { wid = wid; x = x; y = y; w = w; h = h }

    new : ClientSeen
    new = record c { sources = c.sources ++ fresh_source g ∷ []; packets = c.packets ++ structure_packet (new_window g) ∷ [] }

    go : (b : Bool) → IsHeard lines (opened desk wid x y w h) (cond b new c) sent given heard
    go true = heard_same lines desk (opened desk wid x y w h) c new sent given heard refl refl (source_before c.sources (fresh_source g ∷ [])) (window_before desk (fresh_window wid x y w h ∷ [])) was
    go false = heard_same lines desk (opened desk wid x y w h) c c sent given heard refl refl (λ k unmapped. unmapped) (window_before desk (fresh_window wid x y w h ∷ [])) was
heard_painted lines desk (Fill wid x y w h colour) c sent given heard was =
    heard_same lines desk (filled_on desk wid (rectangle x y w h) colour) c (damaged wid (rectangle x y w h) c) sent given heard refl refl
    (damaged_unmapped c.sources wid (rectangle x y w h)) (filled_before desk wid (rectangle x y w h) colour) was

-- a write that took some, or none
pub wrote_some : (desk : List Window) (most n : ℕ) (sent : List ℕ) (c : ClientSeen) (packets : List Packet) → c.packets ≡ packets → c.packets ≢ [] → n ≤ length (offered most c) → IsTold desk c sent
    → IsTold desk (taken_more n c) (sent ++ take n (offered most c))
wrote_some desk most n sent c [] are some low told = absurd (some are)
wrote_some desk most n sent c (p ∷ packets) are some low told = go (cases_lt (c.taken + n) (front_size c.packets))
  where
    rest_is : front_rest c.packets c.taken ≡ drop c.taken p.bytes
    rest_is = ap (λ ps. front_rest ps c.taken) are

    size_is : front_size c.packets ≡ length p.bytes
    size_is = ap front_size are

    offered_size : length (offered most c) ≡ min most (length p.bytes - c.taken)
    offered_size = length-take most (front_rest c.packets c.taken) ∙ ap (λ bs. min most (length bs)) rest_is ∙ ap (min most) (length-drop c.taken p.bytes)

    part : c.taken < length p.bytes
    part = subst (λ (ps : List Packet). IsTaken ps c.taken) are told.part

    within : n ≤ most
    within = omega (arith, low, offered_size)

    greeted : (b : Bool) → c.greeted ≡ b → c.greeted ≡ true
    greeted true is = is
    greeted false is = absurd (some (told.unspoken is))

    go : ((c.taken + n) < front_size c.packets) ⊎ (front_size c.packets ≤ c.taken + n) → IsTold desk (taken_more n c) (sent ++ take n (offered most c))
    go (inl short) =
        let test : nat_lt (c.taken + n) (front_size c.packets) ≡ true = grind (arith, nat_tests, short) in
        subst (λ (d : ClientSeen). IsTold desk d (sent ++ take n (offered most c))) (sym (cond-true _ _ _ test)) (told_part desk c sent n most within short told)
    go (inr past) =
        let test : nat_lt (c.taken + n) (front_size c.packets) ≡ false = grind (arith, nat_tests, past) in
        let all : c.taken + n ≡ length p.bytes = omega (arith, low, offered_size, past, size_is, part) in
        let whole = told_whole desk c sent n most p packets within (greeted c.greeted refl) are all told in
        subst (λ (d : ClientSeen). IsTold desk d (sent ++ take n (offered most c))) (sym (cond-false _ _ _ test))
        (subst (λ (ps : List Packet). IsTold desk (record c { packets = drop 1 ps; taken = 0 }) (sent ++ take n (offered most c))) (sym are)
        (subst (λ (bs : List ℕ). IsTold desk (record c { packets = packets; taken = 0 }) (sent ++ take n (take most bs))) (sym rest_is) whole))

-- a window that the desktop has not is not shown
not_shown : (desk : List Window) (c : ClientSeen) (sent : List ℕ) (k : ℕ) → c.greeted ≡ true → IsTold desk c sent → has_window desk k ≡ false → has_window (shows sent) k ≡ false
not_shown desk c sent k on told missing =
    ap (λ p. has_window p.windows k) (shows_told desk c sent told) ∙ ap is_some ((told.delivered on).absent k missing).0

-- the bytes up to a place behind the old ones
behind_old : (sent more : List ℕ) (n i : ℕ) → n ≤ length more → length sent ≤ i → i < length sent + n → (m : ℕ) × (m ≤ n) × (take (i + 1) (sent ++ take n more) ≡ sent ++ take m more)
behind_old sent more n i low past within =
    let m : ℕ = i + 1 - length sent in
    let place : i + 1 ≡ length sent + m = omega (arith, past) in
    let few : m ≤ n = omega (arith, past, within) in
    (m, few, ap (λ k. take k (sent ++ take n more)) place ∙ take-append-add sent (take n more) m ∙ ap (λ bs. sent ++ bs) (take-take m n more few))

-- a write: each byte taken has its mark
pub heard_wrote : (lines : List Paint) (desk : List Window) (most n : ℕ) (c : ClientSeen) (sent given heard : List ℕ) → n ≤ length (offered most c) → c.packets ≢ [] → IsTold desk c sent
    → IsHeard lines desk c sent given heard → IsHeard lines desk (taken_more n c) (sent ++ take n (offered most c)) given (heard ++ replicate n (length given))
heard_wrote lines desk most n c sent given heard low some told was =
    taken_as n c (λ (d : ClientSeen). IsHeard lines desk d (sent ++ take n bytes) given (heard ++ replicate n (length given))) (λ packets taken. record {
      paired = omega (arith, was.paired, sent_size, length-append heard (replicate n (length given)), length-replicate n (length given));
      silent = λ off. absurd (some (told.unspoken off));
      unannounced = λ wid i missing within. unannounced wid i missing (cases_lt i (length sent)) (omega (arith, within, sent_size));
      marks = λ g i is unmapped within shown. marks g i is unmapped shown (cases_lt i (length sent)) (omega (arith, within, sent_size));
    })
  where
    bytes : List ℕ
    bytes = offered most c

    sent_size : length (sent ++ take n bytes) ≡ length sent + n
    sent_size = length-append sent (take n bytes) ∙ ap (λ k. length sent + k) (length-take-le n bytes low)

    greeted : (b : Bool) → c.greeted ≡ b → c.greeted ≡ true
    greeted true is = is
    greeted false is = absurd (some (told.unspoken is))

    greeted_still : (m : ℕ) → (taken_more m c).greeted ≡ true
    greeted_still m = taken_as m c (λ (d : ClientSeen). d.greeted ≡ true) (λ packets taken. greeted c.greeted refl)

    same_old : (i : ℕ) → i < length sent → take (i + 1) (sent ++ take n bytes) ≡ take (i + 1) sent
    same_old i early = take-append-le (i + 1) sent (take n bytes) (omega (arith, early))

    unannounced : (wid i : ℕ) → has_window desk wid ≡ false → (i < length sent) ⊎ (length sent ≤ i) → i < length sent + n → has_window (shows (take (i + 1) (sent ++ take n bytes))) wid ≡ false
    unannounced wid i missing (inl early) within = ap (λ bs. has_window (shows bs) wid) (same_old i early) ∙ was.unannounced wid i missing early
    unannounced wid i missing (inr late) within =
        let behind = behind_old sent bytes n i low late within in
        let enough : behind.0 ≤ length bytes = let few = behind.1 in omega (arith, few, low) in
        ap (λ bs. has_window (shows bs) wid) behind.2
        ∙ not_shown desk (taken_more behind.0 c) (sent ++ take behind.0 bytes) wid (greeted_still behind.0) (wrote_some desk most behind.0 sent c c.packets refl some enough told) missing

    marks : (g : Geometry) (i : ℕ) → script_window lines ≡ Some g → IsUnmapped c.sources g.wid → IsShownBy (sent ++ take n bytes) i g.wid → (i < length sent) ⊎ (length sent ≤ i) → i < length sent + n
        → length given ≤ slice_index (heard ++ replicate n (length given)) i + length c.unread
    marks g i is unmapped shown (inl early) within =
        let before = was.marks g i is unmapped early (sym (ap (λ bs. has_window (shows bs) g.wid) (same_old i early)) ∙ shown) in
        let same = get_or_append_left heard (replicate n (length given)) 0 i (omega (arith, early, was.paired)) in
        omega (arith, before, same)
    marks g i is unmapped shown (inr late) within =
        let place : get_or (heard ++ replicate n (length given)) i 0 ≡ get_or (replicate n (length given)) (i - length heard) 0 =
        get_or-append_right heard (replicate n (length given)) (length heard) i 0 refl (omega (arith, late, was.paired)) in
        let mark : get_or (replicate n (length given)) (i - length heard) 0 ≡ length given = get_or-replicate n (i - length heard) (length given) 0 (omega (arith, late, within, was.paired)) in
        omega (arith, place, mark)
