-- All windows are drawn, one after another.
use Rattle.std.proofs.Common.{◌≡◌, ◌⊎◌, inl, inr, ℕ, zero, suc, ◌+◌, ◌-◌, ◌≤◌, ◌<◌, Bool, true, false, Option, Some, None, List, [], ◌∷◌, length, refl, sym, ap, ◌∙◌, subst, arith}
use Rattle.std.specs.Prelude.{slice_get}
use Rattle.std.specs.List.{list_all}
use Rattle.std.proofs.lemmas.Bool.{cases_eq, cases_lt}
use Rattle.std.proofs.lemmas.Bool.Decides.{nat_tests}
use Rattle.window_model.specs.Desktop.{Window, find_window}
use Rattle.window_source.specs.Source.{SourceSeen}
use Rattle.window_source.specs.Owed.{is_clear}
use Rattle.client_delivery.specs.Attached.{find_source}
use Rattle.client_delivery.specs.Delivered.{AreOfOneSize}
use Rattle.connection_table.specs.Tables.{Open, open_at}
use Rattle.attached_client.specs.Client.{ClientSeen}
use Rattle.last_draws.specs.DrawnThrough.{captures_left, IsNearerIn}
use Rattle.open_connection.specs.Connection.{ConnectionSeen}
use Rattle.open_connection.specs.Clear.{is_clear_for}
use Rattle.open_connection.specs.Laws.{IsToldTo}
use Rattle.session_steps.specs.Seen.{Known, Seen}
use Rattle.session_steps.specs.Settling.{SettlingKeeps}
use Rattle.session_steps.specs.Drawing.{is_clear_where, is_clear_at}
use Rattle.session_settling.specs.Through.{IsSettling, GoesThrough, IsOn}
use Rattle.session_settling.specs.Writing.{client_where, client_at, NothingWaits, SourcesStay, IsWritten}
use Rattle.session_settling.specs.Drawing.{NearerBy, NearerAt, AreLeft, IsDrawnAt, IsDrawn}
use Rattle.session_settling.proofs.Acts.{steady_then, settling_then}
use Rattle.session_settling.proofs.Places.{open_slot}

-- ---- the windows below a place of the desktop

abbrev pub IsBelow : ℕ → List Window → ℕ → Type 0
IsBelow upto desk wid = (place : ℕ) × (place < upto) × (window : Window) × (slice_get desk place ≡ Some window) × (window.wid ≡ wid)

-- of these one capture fewer is left
abbrev pub LeftUpTo : ℕ → ℕ → List Window → Option ClientSeen → Type 0
LeftUpTo n upto desk None = Unit {0}
LeftUpTo n upto desk (Some client) = (wid : ℕ) (s : SourceSeen) → find_source client.seen.sources wid ≡ Some s → (captures_left s ≤ n) × (IsBelow upto desk wid → captures_left s ≤ n - 1)

pub left_first : (n : ℕ) (desk : List Window) (o : Option ClientSeen) → AreLeft n o → LeftUpTo n 0 desk o
left_first n desk None left = tt
left_first n desk (Some client) left = λ wid s found. (left wid s found, λ below. let low = below.1 in absurd (omega (arith, low)))

pub left_same : (n upto : ℕ) (desk : List Window) (o o' : Option ClientSeen) → SourcesStay o o' → LeftUpTo n upto desk o → LeftUpTo n upto desk o'
left_same n upto desk None None same left = tt
left_same n upto desk None (Some q) same left = absurd same
left_same n upto desk (Some q) None same left = absurd same
left_same n upto desk (Some q) (Some q') same left = λ wid s found. left wid s (ap (λ sources. find_source sources wid) (sym same) ∙ found)

nearer_some : (o : Option SourceSeen) (s' : SourceSeen) → IsNearerIn o (Some s') → (s : SourceSeen) × (o ≡ Some s) × (captures_left s' ≤ captures_left s - 1)
nearer_some None s' near = absurd near
nearer_some (Some s) s' near = (s, refl, near)

some_one : {A : Type 0} (a b : A) → Some a ≡ Some b → a ≡ b
some_one a b same = cc same

past : (xs : List Window) (k : ℕ) → k < length xs → slice_get xs k ≡ None → ⊥
past [] k low is = omega (arith, low)
past (x ∷ xs) zero low is = cc is
past (x ∷ xs) (suc k) low is = past xs k (omega (arith, low)) is

module _ (n upto : ℕ) (desk : List Window) (window : Window) (at : slice_get desk upto ≡ Some window) where
  -- a window below the next place that is not the one here
  below_still : (wid : ℕ) → (wid ≡ window.wid → ⊥) → IsBelow (upto + 1) desk wid → IsBelow upto desk wid
  below_still wid other below = at_place (cases_lt below.0 upto)
    where
      at_place : (below.0 < upto) ⊎ (upto ≤ below.0) → IsBelow upto desk wid
      at_place (inl early) = (below.0, early, below.2, below.3, below.4)
      at_place (inr late) =
          let here : below.0 ≡ upto = let less = below.1 in omega (arith, less, late) in
          absurd (other (sym below.4 ∙ ap (λ (w : Window). w.wid) (some_one below.2 window (sym below.3 ∙ ap (slice_get desk) here ∙ at))))

  by_key : (q q' : ClientSeen) → NearerBy window (Some q) (Some q') → LeftUpTo n upto desk (Some q) → (wid : ℕ) (s' : SourceSeen) → find_source q'.seen.sources wid ≡ Some s' → (wid ≡ window.wid) ⊎ (wid ≡ window.wid → ⊥)
      → (captures_left s' ≤ n) × (IsBelow (upto + 1) desk wid → captures_left s' ≤ n - 1)
  by_key q q' near left wid s' found (inl same) =
      let was = nearer_some (find_source q.seen.sources window.wid) s' (subst (IsNearerIn (find_source q.seen.sources window.wid)) (ap (find_source q'.seen.sources) (sym same) ∙ found) near.0) in
      let before = left window.wid was.0 was.1 in
      let most = before.0 in
      let fewer = was.2 in
      (omega (arith, most, fewer), λ below. omega (arith, most, fewer))
  by_key q q' near left wid s' found (inr other) =
      let before = left wid s' (sym (near.1 wid other) ∙ found) in
      (before.0, λ below. before.1 (below_still wid other below))

  by_client : (o o' : Option ClientSeen) → NearerBy window o o' → LeftUpTo n upto desk o → LeftUpTo n (upto + 1) desk o'
  by_client None None near left = tt
  by_client None (Some q) near left = absurd near
  by_client (Some q) None near left = absurd near
  by_client (Some q) (Some q') near left = λ wid s' found. by_key q q' near left wid s' found (cases_eq wid window.wid)

-- one window more
pub left_more : (n upto : ℕ) (desk : List Window) (o o' : Option ClientSeen) → upto < length desk → NearerAt (slice_get desk upto) o o' → LeftUpTo n upto desk o → LeftUpTo n (upto + 1) desk o'
left_more n upto desk o o' low near left = go (slice_get desk upto) refl near
  where
    go : (at : Option Window) → slice_get desk upto ≡ at → NearerAt at o o' → LeftUpTo n (upto + 1) desk o'
    go None at near = absurd (past desk upto low at)
    go (Some window) at near = by_client n upto desk window at o o' near left

-- ---- every source has its window's place

found_place : (desk : List Window) (wid : ℕ) (window : Window) → find_window desk wid ≡ Some window → (place : ℕ) × (place < length desk) × (w : Window) × (slice_get desk place ≡ Some w) × (w.wid ≡ wid)
found_place [] wid window found = absurd (cc found)
found_place (first ∷ desk) wid window found = go (cases_eq first.wid wid) (λ found. found_place desk wid window found)
  where
    go : (first.wid ≡ wid) ⊎ (first.wid ≡ wid → ⊥) → (find_window desk wid ≡ Some window → (place : ℕ) × (place < length desk) × (w : Window) × (slice_get desk place ≡ Some w) × (w.wid ≡ wid))
        → (place : ℕ) × (place < length (first ∷ desk)) × (w : Window) × (slice_get (first ∷ desk) place ≡ Some w) × (w.wid ≡ wid)
    go (inl same) further = (0, omega arith, first, refl, same)
    go (inr other) further =
        let later = further (grind (arith, nat_tests, other, found)) in
        let low = later.1 in
        (suc later.0, omega (arith, low), later.2, later.3, later.4)

both_there : (desk : List Window) (sources : List SourceSeen) (k : ℕ) (s : SourceSeen) → AreOfOneSize (find_window desk k) (find_source sources k) → find_source sources k ≡ Some s → (window : Window) × (find_window desk k ≡ Some window)
both_there desk sources k s sized found = go (find_window desk k) refl (subst (AreOfOneSize (find_window desk k)) found sized)
  where
    go : (o : Option Window) → find_window desk k ≡ o → AreOfOneSize o (Some s) → (window : Window) × (find_window desk k ≡ Some window)
    go None is sized = absurd sized
    go (Some window) is sized = (window, is)

module _ {B : Type 0} (known : Known B) where
  pub client_opened : (s : Seen B) (k : ℕ) (client : ClientSeen) → client_at k s ≡ Some client → (connection : ConnectionSeen) × (open_at s.slots k ≡ Some connection) × (connection.client ≡ Some client)
  client_opened s k client is = go (open_at s.slots k) refl is
    where
      go : (o : Option ConnectionSeen) → open_at s.slots k ≡ o → client_where o ≡ Some client → (connection : ConnectionSeen) × (open_at s.slots k ≡ Some connection) × (connection.client ≡ Some client)
      go None at is = absurd (cc is)
      go (Some connection) at is = (connection, at, is)

  -- in a session that is being settled
  pub all_below : (s : Seen B) (k : ℕ) (client : ClientSeen) → IsSettling known s → client_at k s ≡ Some client → (wid : ℕ) (source : SourceSeen) → find_source client.seen.sources wid ≡ Some source → IsBelow (length s.desk) s.desk wid
  all_below s k client settling is wid source found =
      let at = client_opened s k client is in
      let kept = (settling.2).slots k (Open at.0) (open_slot s.slots k at.0 at.1) in
      let told : IsToldTo s.desk settling.1 k (Some client) kept.sent = subst (λ (o : Option ClientSeen). IsToldTo s.desk settling.1 k o kept.sent) at.2 kept.client in
      let delivered = (told.1).delivered in
      let window = both_there s.desk client.seen.sources wid source (delivered.sized wid) found in
      found_place s.desk wid window.0 window.1

  pub left_all : (n upto : ℕ) (s : Seen B) (k : ℕ) → IsSettling known s → length s.desk ≤ upto → LeftUpTo n upto s.desk (client_at k s) → AreLeft (n - 1) (client_at k s)
  left_all n upto s k settling all left = go (client_at k s) refl left
    where
      go : (o : Option ClientSeen) → client_at k s ≡ o → LeftUpTo n upto s.desk o → AreLeft (n - 1) o
      go None is left = tt
      go (Some client) is left = λ wid source found.
          let below = all_below s k client settling is wid source found in
          let low = below.1 in
          (left wid source found).1 (below.0, omega (arith, low, all), below.2, below.3, below.4)

  -- the desktop is as before
  pub desk_same : SettlingKeeps B → (May : _ → Type 0) (a b : Seen B) → IsSettling known a → GoesThrough known May a b → b.desk ≡ a.desk
  desk_same keeps May a b settling through =
      let after = steady_then known keeps May a b through settling.0 settling.1 settling.2 in
      (after.since).0 ∙ sym ((settling.2).since).0

-- ---- nothing is left of a client that is clear

pub clear_of : {B : Type 0} (k : ℕ) (s : Seen B) → is_clear_at k s ≡ is_clear_for (client_at k s)
clear_of k s = go (open_at s.slots k)
  where
    go : (o : Option ConnectionSeen) → is_clear_where o ≡ is_clear_for (client_where o)
    go None = refl
    go (Some connection) = refl

all_found : (p : SourceSeen → Bool) (sources : List SourceSeen) (k : ℕ) (s : SourceSeen) → list_all p sources ≡ true → find_source sources k ≡ Some s → p s ≡ true
all_found p [] k s all found = absurd (cc found)
all_found p (first ∷ sources) k s all found = go (cases_eq first.wid k) (p first) refl (λ all found. all_found p sources k s all found)
  where
    go : (first.wid ≡ k) ⊎ (first.wid ≡ k → ⊥) → (b : Bool) → p first ≡ b → (list_all p sources ≡ true → find_source sources k ≡ Some s → p s ≡ true) → p s ≡ true
    go at false is further = let bad : false ≡ true = rw is at all in absurd (cc bad)
    go (inl same) true is further = let here : first ≡ s = grind (arith, nat_tests, same, found) in ap p (sym here) ∙ is
    go (inr other) true is further = further (rw is at all) (grind (arith, nat_tests, other, found))

clear_left : (s : SourceSeen) → is_clear s ≡ true → captures_left s ≡ 0
clear_left s clear = rw clear refl

pub clear_none : (n : ℕ) (o : Option ClientSeen) → is_clear_for o ≡ true → AreLeft n o
clear_none n None clear = tt
clear_none n (Some client) clear = λ wid s found. let none = clear_left s (all_found is_clear client.seen.sources wid s clear found) in omega (arith, none)

pub clear_same : (o o' : Option ClientSeen) → SourcesStay o o' → is_clear_for o ≡ true → is_clear_for o' ≡ true
clear_same None None same clear = clear
clear_same None (Some q) same clear = absurd same
clear_same (Some q) None same clear = absurd same
clear_same (Some q) (Some q') same clear = ap (list_all is_clear) same ∙ clear

-- what waits is written for a client that is clear
pub clear_drawn : {B : Type 0} (known : Known B) (k : ℕ) (waited : Bool) (old new : Seen B) → is_clear_at k old ≡ true → IsWritten known k waited old new → IsDrawn known k waited old new
clear_drawn known k waited old new clear written =
    let still = clear_same (client_at k old) (client_at k new) written.sources (sym (clear_of k old) ∙ clear) in
    record {
      opened = written.opened;
      empty = written.empty;
      nearer = λ n left. clear_none (n - 1) (client_at k new) still;
      only = written.only;
      none = λ was none. (written.none none, clear_of k new ∙ still);
    }

-- ---- the rounds of one connection, window by window

module _ {B : Type 0} (known : Known B) (keeps : SettlingKeeps B) (k : ℕ) (old now : Seen B) (settling : IsSettling known old) (through : GoesThrough known (IsOn k) old now) where
  pub draws_more : (place : ℕ) (waited : Bool) (new : Seen B) → NothingWaits (client_at k now) → place < length now.desk → IsDrawnAt known k place waited now new
      → (n : ℕ) → LeftUpTo n place old.desk (client_at k now) → LeftUpTo n (place + 1) old.desk (client_at k new)
  draws_more place waited new empty low drawn n left =
      let same = desk_same known keeps (IsOn k) old now settling through in
      left_more n place old.desk (client_at k now) (client_at k new) (subst (λ (d : List Window). place < length d) same low)
      (subst (λ (d : List Window). NearerAt (slice_get d place) (client_at k now) (client_at k new)) same (drawn.nearer empty)) left

  pub draws_all : (place : ℕ) → length now.desk ≤ place → (n : ℕ) → LeftUpTo n place old.desk (client_at k now) → AreLeft (n - 1) (client_at k now)
  draws_all place all n left =
      let same = desk_same known keeps (IsOn k) old now settling through in
      left_all known n place now k (settling_then known keeps (IsOn k) old now settling through) all (subst (λ (d : List Window). LeftUpTo n place d (client_at k now)) (sym same) left)
