-- What every session keeps, where one connection changes, comes or ends, or all change.
use Rattle.std.proofs.Common.{◌≡◌, inl, inr, ℕ, ◌+◌, ◌<◌, ◌^◌, Bool, true, false, List, [], ◌∷◌, ◌++◌, length, get_or, set, Option, Some, None, refl, ap, ◌∙◌, sym, subst, map}
use Rattle.std.specs.Option.{option_map}
use Rattle.std.specs.Prelude.{Result, Ok, Err, slice_get, is_some}
use Rattle.xp_base.specs.declared.memory.NoMemory.{NoMemory}
use Rattle.link_bay.specs.Provider.{ProviderRecord}
use Rattle.link_bay.specs.Answers.{OrderGives}
use Rattle.link_bay.specs.declared.order.Order.{Order}
use Rattle.std.proofs.lemmas.Bool.{cases_eq}
use Rattle.xp_base.specs.Told.{told_append, told_empty}
use Rattle.link_bay.specs.Connections.{ConnectionRecord, OthersStay, fresh_connection}
use Rattle.window_model.specs.Desktop.{Window, IsWindow, IsDesktop, find_window}
use Rattle.first_script.specs.declared.paint.Paint.{Paint}
use Rattle.client_connection.specs.declared.answers.Sent.{Sent}
use Rattle.client_connection.specs.declared.answers.Captured.{Captured}
use Rattle.client_connection.specs.Clients.{ClientSeen, plain, fresh_client, painted_client}
use Rattle.session_core.specs.Slots.{plain_clients, HearsSlot, WritesSlot, FailsSlot, CapturesSlot, AreTold, AreKnown}
use Rattle.client_connection.specs.declared.ends.End.{End}
use Rattle.client_connection.specs.declared.ends.End.TheVariants.{Unended}
use Rattle.session_core.specs.Steady.{IsSteady}
use Rattle.client_connection.specs.Told.{IsToldFor}
use Rattle.first_script.specs.Painting.{desk_at, painted}
use Rattle.client_connection.specs.Given.{IsKnown}
use Rattle.session_core.specs.State.{is_unended}
use Rattle.session_core.proofs.Lives.{session_slot, session_ended, session_accepted, session_painted, length_same, live_same}
use Rattle.session_core.proofs.Each.{InSlot, each_slot, each_here, each_none, each_all, each_accepted, each_others}
use Rattle.client_connection.proofs.Knowns.{known_fresh, known_same, writes_known, captures_known, hears_known, line_known}
use Rattle.client_connection.proofs.Sources.{some_same}
use Rattle.first_script.specs.Validity.{IsPaintOn}
use Rattle.client_connection.proofs.Tellings.{told_fresh}
use Rattle.client_connection.proofs.Keeping.{captured_where, heard_where, line_where, writes_told}

-- what is kept of a client and its connection
abbrev pub IsKeptOf : Bool → List Paint → List Window → ClientSeen → ConnectionRecord → Type 0
IsKeptOf tells lines desk c r = IsToldFor desk c r.sent × IsKnown tells lines desk c r

pub slot_written : (tells : Bool) (lines : List Paint) (desk : List Window) (most : ℕ) (was now : ConnectionRecord) (slot slot' : Option ClientSeen) (answer : Sent) → WritesSlot most was now (option_map plain slot) answer (option_map plain slot')
    → InSlot (IsKeptOf tells lines desk) slot was → InSlot (IsKeptOf tells lines desk) slot' now
slot_written tells lines desk most was now None slot' answer writes kept = λ c is. absurd (cc (sym writes.2 ∙ is))
slot_written tells lines desk most was now (Some c) slot' answer writes kept = λ d is.
    let before = kept (plain c) refl in
    subst (λ (e : ClientSeen). IsKeptOf tells lines desk e now) (some_same writes.0 d (sym writes.2 ∙ is))
    (writes_told desk most was now (plain c) writes.0 answer writes.1 before.0, writes_known tells lines desk most was now (plain c) writes.0 answer writes.1 before.0 before.1)

-- the same bytes were sent and given, at the same times
pub slot_same : (tells : Bool) (lines : List Paint) (desk : List Window) (was now : ConnectionRecord) (slot slot' : Option ClientSeen) → option_map plain slot' ≡ option_map plain slot
    → now.sent ≡ was.sent → now.given ≡ was.given → now.heard ≡ was.heard → InSlot (IsKeptOf tells lines desk) slot was → InSlot (IsKeptOf tells lines desk) slot' now
slot_same tells lines desk was now slot slot' same sent given heard kept = λ c is.
    let before = kept c (sym same ∙ is) in
    (subst (IsToldFor desk c) (sym sent) before.0, known_same tells lines desk c was now sent given heard before.1)

-- a write that failed took nothing
pub slot_failed : (tells : Bool) (lines : List Paint) (desk : List Window) (most : ℕ) (was now : ConnectionRecord) (slot slot' : Option ClientSeen) → FailsSlot most was now (option_map plain slot) → option_map plain slot' ≡ option_map plain slot
    → InSlot (IsKeptOf tells lines desk) slot was → InSlot (IsKeptOf tells lines desk) slot' now
slot_failed tells lines desk most was now None slot' fails same kept = absurd fails
slot_failed tells lines desk most was now (Some c) slot' fails same kept =
    slot_same tells lines desk was now (Some c) slot' same (ap (λ r. r.sent) fails.1.1) (ap (λ r. r.given) fails.1.1) (ap (λ r. r.heard) fails.1.1) kept

pub slot_captured : (tells : Bool) (lines : List Paint) (desk : List Window) (window : Window) (r : ConnectionRecord) (slot slot' : Option ClientSeen) (answer : Captured) → IsWindow window → find_window desk window.wid ≡ Some window
    → CapturesSlot window (option_map plain slot) answer (option_map plain slot') → InSlot (IsKeptOf tells lines desk) slot r → InSlot (IsKeptOf tells lines desk) slot' r
slot_captured tells lines desk window r None slot' answer is found captures kept = λ c now. absurd (cc (sym captures.1 ∙ now))
slot_captured tells lines desk window r (Some c) slot' answer is found captures kept = λ d now.
    let before = kept (plain c) refl in
    subst (λ (e : ClientSeen). IsKeptOf tells lines desk e r) (some_same captures.0 d (sym captures.2 ∙ now))
    (captured_where desk window r.sent (plain c) captures.0 answer is found captures.1 before.0, captures_known tells lines desk window r (plain c) captures.0 answer captures.1 before.1)

pub slot_heard : (tells : Bool) (lines : List Paint) (desk : List Window) (bytes : List ℕ) (was now : ConnectionRecord) (slot slot' : Option ClientSeen) → IsDesktop desk → now ≡ record was { given = told_append was.given bytes }
    → HearsSlot lines desk (option_map plain slot) bytes (option_map plain slot') → InSlot (IsKeptOf tells lines desk) slot was → InSlot (IsKeptOf tells lines desk) slot' now
slot_heard tells lines desk bytes was now None slot' is gave hears kept = λ c at. absurd (cc (sym hears ∙ at))
slot_heard tells lines desk bytes was now (Some c) slot' is gave hears kept = λ d at.
    let before = kept (plain c) refl in
    subst (λ (e : ClientSeen). IsKeptOf tells lines desk e now) (some_same hears.0 d (sym hears.2 ∙ at)) (
      subst (IsToldFor desk hears.0) (sym (ap (λ (r : ConnectionRecord). r.sent) gave)) (heard_where lines desk was.sent bytes (plain c) hears.0 is hears.1 before.0),
      hears_known tells lines desk bytes was now (plain c) hears.0 gave hears.1 before.0 before.1,
    )

-- one connection is as it is now, and the others stay
pub steady_slot : {tells : Bool} {connection : ℕ → ConnectionRecord} {lines : List Paint} {place : ℕ} {desk : List Window} {clients : List (Option ClientSeen)} {ends : List End} {count : ℕ}
    (connection' : ℕ → ConnectionRecord) (k : ℕ) (slot slot' : Option ClientSeen) (count' : ℕ) → IsSteady tells connection lines place desk clients ends count
    → k < length clients → slot ≡ get_or clients k slot → is_some slot' ≡ is_some slot → count' ≡ count → OthersStay connection connection' k
    → (InSlot (IsKeptOf tells lines desk) slot (connection k) → InSlot (IsKeptOf tells lines desk) slot' (connection' k))
    → IsSteady tells connection' lines place desk (set clients k slot') ends count'
steady_slot {tells} {connection} {lines} {place} {desk} {clients} {ends} {count} connection' k slot slot' count' s within here same counted others step =
    let kept = each_slot (IsKeptOf tells lines desk) connection connection' clients k slot' (λ d c is. (s.told d c is, s.known d c is)) others within
    (step (each_here (IsKeptOf tells lines desk) connection clients k slot (λ d c is. (s.told d c is, s.known d c is)) within here)) in
    record {
      session = session_slot k slot slot' count' s.session here same counted;
      told = λ d c is. (kept d c is).0;
      known = λ d c is. (kept d c is).1;
    }

-- one connection has ended
pub steady_ended : {tells : Bool} {connection : ℕ → ConnectionRecord} {lines : List Paint} {place : ℕ} {desk : List Window} {clients : List (Option ClientSeen)} {ends : List End} {count : ℕ}
    (connection' : ℕ → ConnectionRecord) (k : ℕ) (e : End) (count' : ℕ) → IsSteady tells connection lines place desk clients ends count
    → k < length clients → is_unended e ≡ false → count' ≡ count → OthersStay connection connection' k → IsSteady tells connection' lines place desk (set clients k None) (set ends k e) count'
steady_ended {tells} {connection} {lines} {place} {desk} {clients} {ends} {count} connection' k e count' s within closed counted others =
    let kept = each_slot (IsKeptOf tells lines desk) connection connection' clients k None (λ d c is. (s.told d c is, s.known d c is)) others within (each_none (IsKeptOf tells lines desk) (connection' k)) in
    record {
      session = session_ended k e count' s.session closed counted;
      told = λ d c is. (kept d c is).0;
      known = λ d c is. (kept d c is).1;
    }

-- nothing that is kept changed, and on one connection the provider tells the same bytes
pub steady_quiet : {tells : Bool} {connection : ℕ → ConnectionRecord} {lines : List Paint} {place : ℕ} {desk : List Window} {clients : List (Option ClientSeen)} {ends : List End} {count : ℕ}
    (connection' : ℕ → ConnectionRecord) (k count' : ℕ) → IsSteady tells connection lines place desk clients ends count → count' ≡ count → OthersStay connection connection' k
    → (connection' k).sent ≡ (connection k).sent → (connection' k).given ≡ (connection k).given → (connection' k).heard ≡ (connection k).heard → IsSteady tells connection' lines place desk clients ends count'
steady_quiet {tells} {connection} {lines} {place} {desk} {clients} {ends} {count} connection' k count' s counted others sent given heard =
    subst (λ (n : ℕ). IsSteady tells connection' lines place desk clients ends n) (sym counted)
    (record {
      session = s.session;
      told = λ d c is. elim (cases_eq d k) [
        | inl same ↦ subst (λ n. IsToldFor desk c (connection' n).sent) (sym same) (subst (IsToldFor desk c) (sym sent) (subst (λ n. IsToldFor desk c (connection n).sent) same (s.told d c is)))
        | inr other ↦ subst (λ r. IsToldFor desk c r.sent) (sym (others d other)) (s.told d c is)
      ];
      known = λ d c is. elim (cases_eq d k) [
        | inl same ↦
            subst (λ n. IsKnown tells lines desk c (connection' n)) (sym same)
            (known_same tells lines desk c (connection k) (connection' k) sent given heard (subst (λ n. IsKnown tells lines desk c (connection n)) same (s.known d c is)))
        | inr other ↦ subst (IsKnown tells lines desk c) (sym (others d other)) (s.known d c is)
      ];
    })

-- nothing that is kept changed, and the provider tells the same bytes on what it handed out
pub steady_same : {tells : Bool} {connection : ℕ → ConnectionRecord} {lines : List Paint} {place : ℕ} {desk : List Window} {clients : List (Option ClientSeen)} {ends : List End} {count : ℕ}
    (connection' : ℕ → ConnectionRecord) (clients' : List (Option ClientSeen)) (ends' : List End) (count' : ℕ) → IsSteady tells connection lines place desk clients ends count
    → clients' ≡ clients → ends' ≡ ends → count' ≡ count → OthersStay connection connection' count → IsSteady tells connection' lines place desk clients' ends' count'
steady_same {tells} {connection} {lines} {place} {desk} {clients} {ends} {count} connection' clients' ends' count' s same still counted others =
    subst (λ (n : ℕ). IsSteady tells connection' lines place desk clients' ends' n) (sym counted)
    (subst (λ (es : List End). IsSteady tells connection' lines place desk clients' es count) (sym still)
    (subst (λ (cs : List (Option ClientSeen)). IsSteady tells connection' lines place desk cs ends count) (sym same)
    (record {
      session = s.session;
      told = each_others (λ c r. IsToldFor desk c r.sent) connection connection' clients count s.session.known others s.told;
      known = each_others (IsKnown tells lines desk) connection connection' clients count s.session.known others s.known;
    })))

-- a connection was accepted
fresh_told : (tells : Bool) (desk : List Window) → IsToldFor desk fresh_client (told_empty tells)
fresh_told true desk = told_fresh desk
fresh_told false desk = ([], told_fresh desk)

pub steady_accepted : {tells : Bool} {connection : ℕ → ConnectionRecord} {lines : List Paint} {place : ℕ} {desk : List Window} {clients : List (Option ClientSeen)} {ends : List End} {count : ℕ}
    (connection' : ℕ → ConnectionRecord) (c : ClientSeen) (clients' : List (Option ClientSeen)) (ends' : List End) (count' : ℕ) → IsSteady tells connection lines place desk clients ends count
    → plain c ≡ fresh_client → clients' ≡ clients ++ Some c ∷ [] → ends' ≡ ends ++ Unended ∷ [] → count' ≡ count + 1 → count' < 2 ^ 32
    → OthersStay connection connection' count → connection' count ≡ fresh_connection tells → IsSteady tells connection' lines place desk clients' ends' count'
steady_accepted {tells} {connection} {lines} {place} {desk} {clients} {ends} {count} connection' c clients' ends' count' s new more longer counted small others fresh =
    let stay = subst (OthersStay connection connection') (sym s.session.known) others in
    let there = ap connection' s.session.known ∙ fresh in
    subst (λ (es : List End). IsSteady tells connection' lines place desk clients' es count') (sym longer)
    (subst (λ (cs : List (Option ClientSeen)). IsSteady tells connection' lines place desk cs (ends ++ Unended ∷ []) count') (sym more)
    (record {
      session = session_accepted c count' s.session counted small;
      told = each_accepted (λ d r. IsToldFor desk d r.sent) connection connection' tells clients c new s.told stay there (fresh_told tells desk);
      known = each_accepted (IsKnown tells lines desk) connection connection' tells clients c new s.known stay there (known_fresh tells lines desk);
    }))

-- a paint line was applied to the desktop and for each client
pub steady_painted : {tells : Bool} {connection : ℕ → ConnectionRecord} {lines : List Paint} {place : ℕ} {desk : List Window} {clients : List (Option ClientSeen)} {ends : List End} {count : ℕ}
    (line : Paint) (desk' : List Window) (clients' : List (Option ClientSeen)) → IsSteady tells connection lines place desk clients ends count → IsDesktop desk → IsPaintOn desk line
    → Some line ≡ slice_get lines place → desk' ≡ painted desk line → desk' ≡ desk_at lines (place + 1) → plain_clients clients' ≡ map (option_map (painted_client line)) (plain_clients clients)
    → IsSteady tells connection lines (place + 1) desk' clients' ends count
steady_painted {tells} {connection} {lines} {place} {desk} {clients} {ends} {count} line desk' clients' s is may here after painted_is changed = record {
  session = session_painted line (painted_client line) desk' clients' s.session here painted_is changed;
  told = subst (λ (ws : List Window). AreTold connection ws (plain_clients clients')) (sym after)
      (subst (AreTold connection (painted desk line)) (sym changed)
      (each_all (λ c r. IsToldFor desk c r.sent) (λ c r. IsToldFor (painted desk line) c r.sent) connection (painted_client line) (plain_clients clients) (λ c r. line_where desk line is may c r.sent) s.told));
  known = subst (λ (ws : List Window). AreKnown tells connection lines ws (plain_clients clients')) (sym after)
      (subst (AreKnown tells connection lines (painted desk line)) (sym changed)
      (each_all (IsKnown tells lines desk) (IsKnown tells lines (painted desk line)) connection (painted_client line) (plain_clients clients) (line_known tells lines desk line) s.known));
}

-- what is kept looks the same
pub steady_plain : {tells : Bool} {connection : ℕ → ConnectionRecord} {lines : List Paint} {place : ℕ} {desk : List Window} {clients : List (Option ClientSeen)} {ends : List End} {count : ℕ}
    (clients' : List (Option ClientSeen)) (desk' : List Window) → IsSteady tells connection lines place desk clients ends count → plain_clients clients' ≡ plain_clients clients → desk' ≡ desk
    → IsSteady tells connection lines place desk' clients' ends count
steady_plain {tells} {connection} {lines} {place} {desk} {clients} {ends} {count} clients' desk' s same still =
    subst (λ (ws : List Window). IsSteady tells connection lines place ws clients' ends count) (sym still)
    (record {
      session = record {
        within = s.session.within;
        painted = s.session.painted;
        known = length_same clients clients' same ∙ s.session.known;
        ended = s.session.ended;
        numbered = s.session.numbered;
        live = live_same clients clients' same ∙ s.session.live;
      };
      told = subst (AreTold connection desk) (sym same) s.told;
      known = subst (AreKnown tells connection lines desk) (sym same) s.known;
    })

-- an order hands nobody out
pub order_count : (was now : ProviderRecord) (order : Order) (answer : Result (Unit {0}) NoMemory) → OrderGives was now order answer → now.count ≡ was.count
order_count was now order (Ok done) gives = ap (λ (p : ProviderRecord). p.count) gives.1
order_count was now order (Err none) gives = ap (λ (p : ProviderRecord). p.count) gives
