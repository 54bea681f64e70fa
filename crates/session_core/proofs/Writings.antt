-- From what became of a connection's slot to a step of the session.
use Rattle.std.proofs.Common.{◌≡◌, ◌≢◌, inl, inr, ℕ, zero, suc, ◌<◌, List, [], ◌∷◌, length, get_or, set, Option, Some, None, refl, ap, ◌∙◌, sym, subst}
use Rattle.std.specs.Option.{option_map}
use Rattle.std.specs.Prelude.{MatchOption, IsSome, IfSome}
use Rattle.link_bay.specs.Connections.{ConnectionRecord}
use Rattle.window_model.specs.Desktop.{Window, find_window}
use Rattle.first_script.specs.declared.paint.Paint.{Paint}
use Rattle.client_connection.specs.declared.ends.End.{End}
use Rattle.client_connection.specs.declared.ends.End.TheVariants.{Unbuilt, Short}
use Rattle.client_connection.specs.declared.answers.Sent.{Sent}
use Rattle.client_connection.specs.declared.answers.Sent.TheVariants as S
use Rattle.session_core.specs.declared.answers.Received.{Received}
use Rattle.session_core.specs.declared.answers.Received.TheVariants as R
use Rattle.client_connection.specs.declared.answers.Captured.{Captured}
use Rattle.client_connection.specs.declared.answers.Captured.TheVariants as C
use Rattle.client_connection.specs.Clients.{ClientSeen, plain}
use Rattle.session_core.specs.Slots.{plain_clients, HearsSlot, WritesSlot, FailsSlot, CapturesSlot}
use Rattle.session_core.specs.State.{Seen, open_client}
use Rattle.client_connection.specs.Hearing.{IsUnbuilt}
use Rattle.session_core.specs.Reading.{Reads, EndsReading}
use Rattle.client_connection.specs.Sending.{Writes, Fails, WriteEnds}
use Rattle.client_connection.specs.Capturing.{CapturesWindow}
use Rattle.session_core.specs.Steps.{Sends, SendsOne, Receives, ReceivesOne, Captures, CapturesOne, send_ends, receive_ends, with_client, with_end}
use Rattle.std.proofs.lemmas.List.{set-get_or, get_or_default}
use Rattle.link_bay.specs.Answers.{ReadGives}
use Rattle.link_bay.specs.declared.bay.Gave.TheVariants as G
use Rattle.session_core.proofs.Slots.{plain_clients-set, get_or-plain}
use Rattle.session_core.proofs.Lives.{open_at, clients_now, clients_gone}

-- a session with these clients and this provider
abbrev pub seen : {B : Type 0} → List Paint → ℕ → List Window → List End → List (Option ClientSeen) → B → Seen B
seen lines place desk ends clients bay = record { lines = lines; place = place; desk = desk; clients = clients; ends = ends; bay = bay }

-- a write that did not fail ends nothing
goes_on : (most : ℕ) (was now : ConnectionRecord) (c c' : ClientSeen) (answer : Sent) → Writes most was now c answer c' → send_ends answer ≡ None
goes_on most was now c c' S.Closed writes = absurd writes
goes_on most was now c c' S.Idle writes = refl
goes_on most was now c c' (S.Took n) writes = refl
goes_on most was now c c' S.Again writes = refl
goes_on most was now c c' (S.Ended ended) writes = absurd writes
goes_on most was now c c' S.NoMemory writes = refl

pub sends_written : {B : Type 0} (connection : B → ℕ → ConnectionRecord) (lines : List Paint) (place : ℕ) (desk : List Window) (ends : List End) (clients : List (Option ClientSeen)) (bay bay' : B)
    (k most : ℕ) (slot slot' : Option ClientSeen) (answer : Sent) → k < length clients → slot ≡ get_or clients k slot → slot ≢ None
    → WritesSlot most (connection bay k) (connection bay' k) (option_map plain slot) answer (option_map plain slot')
    → Sends connection k most (seen lines place desk ends (plain_clients clients) bay) answer (seen lines place desk ends (plain_clients (set clients k slot')) bay')
sends_written connection lines place desk ends clients bay bay' k most None slot' answer within here some writes = absurd (some refl)
sends_written connection lines place desk ends clients bay bay' k most (Some c) slot' answer within here some writes =
    let old = seen lines place desk ends (plain_clients clients) bay in
    let new = seen lines place desk ends (plain_clients (set clients k slot')) bay' in
    let is : new ≡ with_client k writes.0 bay' old = ap (λ cs. seen lines place desk ends cs bay') (clients_now clients k slot' writes.0 writes.2) in
    subst (λ o. MatchOption o ((answer ≡ S.Closed) × (new ≡ old)) (λ d. SendsOne k most (connection bay k) (connection bay' k) old d answer new))
    (sym (open_at clients k (Some c) within here))
    (subst (λ o. MatchOption o ((c' : ClientSeen) × Writes most (connection bay k) (connection bay' k) (plain c) answer c' × (new ≡ with_client k c' bay' old))
    (λ ended. WriteEnds most (connection bay k) (connection bay' k) (plain c) ended × (new ≡ with_end k ended bay' old)))
    (sym (goes_on most _ _ _ _ answer writes.1)) (writes.0, writes.1, is))

pub sends_failed : {B : Type 0} (connection : B → ℕ → ConnectionRecord) (lines : List Paint) (place : ℕ) (desk : List Window) (ends : List End) (clients : List (Option ClientSeen)) (bay bay' : B) (new : Seen B)
    (k most : ℕ) (slot slot' : Option ClientSeen) → k < length clients → slot ≡ get_or clients k slot
    → FailsSlot most (connection bay k) (connection bay' k) (option_map plain slot) → connection new.bay k ≡ connection bay' k
    → new ≡ with_end k Unbuilt new.bay (seen lines place desk ends (plain_clients (set clients k slot')) bay')
    → Sends connection k most (seen lines place desk ends (plain_clients clients) bay) (S.Ended Unbuilt) new
sends_failed connection lines place desk ends clients bay bay' new k most None slot' within here fails now is = absurd fails
sends_failed connection lines place desk ends clients bay bay' new k most (Some c) slot' within here fails now is =
    let old = seen lines place desk ends (plain_clients clients) bay in
    subst (λ o. MatchOption o ((S.Ended Unbuilt ≡ S.Closed) × (new ≡ old)) (λ d. SendsOne k most (connection bay k) (connection new.bay k) old d (S.Ended Unbuilt) new))
    (sym (open_at clients k (Some c) within here))
    (subst (λ r. Fails most (connection bay k) r (plain c)) (sym now) fails, is ∙ ap (λ cs. seen lines place desk (set ends k Unbuilt) cs new.bay) (clients_gone clients k slot'))

-- a connection that is open stands in its place
pub open_some : {A : Type 0} (clients : List (Option A)) (k : ℕ) → IsSome (open_client clients k) → (c : A) × (Some c ≡ get_or clients k (Some c))
open_some [] k some = absurd (cc some)
open_some (None ∷ clients) zero some = absurd (cc some)
open_some (Some c ∷ clients) zero some = (c, refl)
open_some (slot ∷ clients) (suc k) some = open_some clients k some

-- what stands in an open connection's place is something
pub slot_some : {A : Type 0} (clients : List (Option A)) (k : ℕ) (slot : Option A) → k < length clients → slot ≡ get_or clients k slot → IsSome (open_client clients k) → slot ≢ None
slot_some clients k slot within here some = λ none.
    let c = open_some clients k some in
    absurd (cc (none, here ∙ get_or_default clients k slot (Some c.0) within ∙ sym c.1))

-- put back what stands there
still : (clients : List (Option ClientSeen)) (k : ℕ) (c : ClientSeen) → k < length clients → Some c ≡ get_or clients k (Some c) → set (plain_clients clients) k (Some (plain c)) ≡ plain_clients clients
still clients k c within here = ap (set (plain_clients clients) k) (get_or-plain clients k (Some c) within here) ∙ set-get_or (plain_clients clients) k (Some (plain c))

pub receives_took : {B : Type 0} (connection : B → ℕ → ConnectionRecord) (lines : List Paint) (place : ℕ) (desk : List Window) (ends : List End) (clients : List (Option ClientSeen)) (bay bay' : B)
    (k n : ℕ) (bytes : List ℕ) (slot slot' : Option ClientSeen) → k < length clients → slot ≡ get_or clients k slot → slot ≢ None
    → ReadGives (connection bay k) (connection bay' k) [] bytes 4096 (G.Bytes n) → HearsSlot lines desk (option_map plain slot) bytes (option_map plain slot')
    → Receives connection k (seen lines place desk ends (plain_clients clients) bay) (R.Took n) (seen lines place desk ends (plain_clients (set clients k slot')) bay')
receives_took connection lines place desk ends clients bay bay' k n bytes None slot' within here some gives hears = absurd (some refl)
receives_took connection lines place desk ends clients bay bay' k n bytes (Some c) slot' within here some gives hears =
    let old = seen lines place desk ends (plain_clients clients) bay in
    let new = seen lines place desk ends (plain_clients (set clients k slot')) bay' in
    subst (λ o. MatchOption o ((R.Took n ≡ R.Closed) × (new ≡ old)) (λ d. ReceivesOne k (connection bay k) (connection bay' k) old d (R.Took n) new))
    (sym (open_at clients k (Some c) within here))
    (hears.0, (bytes, gives, hears.1), ap (λ cs. seen lines place desk ends cs bay') (clients_now clients k slot' hears.0 hears.2))

pub receives_again : {B : Type 0} (connection : B → ℕ → ConnectionRecord) (lines : List Paint) (place : ℕ) (desk : List Window) (ends : List End) (clients : List (Option ClientSeen)) (bay bay' : B)
    (k : ℕ) → k < length clients → IsSome (open_client clients k) → ReadGives (connection bay k) (connection bay' k) [] [] 4096 G.Again
    → Receives connection k (seen lines place desk ends (plain_clients clients) bay) R.Again (seen lines place desk ends (plain_clients clients) bay')
receives_again connection lines place desk ends clients bay bay' k within some gives =
    let old = seen lines place desk ends (plain_clients clients) bay in
    let new = seen lines place desk ends (plain_clients clients) bay' in
    let c = (open_some clients k some).0 in
    let here = (open_some clients k some).1 in
    subst (λ o. MatchOption o ((R.Again ≡ R.Closed) × (new ≡ old)) (λ d. ReceivesOne k (connection bay k) (connection bay' k) old d R.Again new))
    (sym (open_at clients k (Some c) within here))
    (plain c, (gives, refl), ap (λ cs. seen lines place desk ends cs bay') (sym (still clients k c within here)))

-- why a read ends the connection that stands there
abbrev pub EndsSlot : ConnectionRecord → ConnectionRecord → List Paint → List Window → Option ClientSeen → Received → Type 0
EndsSlot was now lines desk slot answer = MatchOption slot ⊥ (λ c. EndsReading was now lines desk c answer)

pub why_unbuilt : (was now : ConnectionRecord) (lines : List Paint) (desk : List Window) (slot : Option ClientSeen) (bytes : List ℕ) (n : ℕ) → slot ≢ None → ReadGives was now [] bytes 4096 (G.Bytes n)
    → IfSome (option_map plain slot) (λ c. IsUnbuilt lines desk c bytes) → EndsSlot was now lines desk (option_map plain slot) (R.Ended Unbuilt)
why_unbuilt was now lines desk None bytes n some gives unbuilt = absurd (some refl)
why_unbuilt was now lines desk (Some c) bytes n some gives unbuilt = (Unbuilt, refl, inr (inr (bytes, n, gives, unbuilt)))

pub why_end : (was now : ConnectionRecord) (lines : List Paint) (desk : List Window) (slot : Option ClientSeen) → slot ≢ None → ReadGives was now [] [] 4096 G.End
    → EndsSlot was now lines desk (option_map plain slot) (R.Ended Unbuilt)
why_end was now lines desk None some gives = absurd (some refl)
why_end was now lines desk (Some c) some gives = (Unbuilt, refl, inl gives)

pub why_failed : (was now : ConnectionRecord) (lines : List Paint) (desk : List Window) (slot : Option ClientSeen) → slot ≢ None → ReadGives was now [] [] 4096 G.Failed
    → EndsSlot was now lines desk (option_map plain slot) (R.Ended Unbuilt)
why_failed was now lines desk None some gives = absurd (some refl)
why_failed was now lines desk (Some c) some gives = (Unbuilt, refl, inr (inl gives))

pub why_short : (was now : ConnectionRecord) (lines : List Paint) (desk : List Window) (slot : Option ClientSeen) (bytes : List ℕ) (n : ℕ) → slot ≢ None → ReadGives was now [] bytes 4096 (G.Bytes n)
    → EndsSlot was now lines desk (option_map plain slot) R.NoMemory
why_short was now lines desk None bytes n some gives = absurd (some refl)
why_short was now lines desk (Some c) bytes n some gives = (Short, refl, inr (bytes, n, gives))

pub why_unread : (was now : ConnectionRecord) (lines : List Paint) (desk : List Window) (slot : Option ClientSeen) → slot ≢ None → ReadGives was now [] [] 4096 G.NoMemory
    → EndsSlot was now lines desk (option_map plain slot) R.NoMemory
why_unread was now lines desk None some gives = absurd (some refl)
why_unread was now lines desk (Some c) some gives = (Short, refl, inl gives)

pub receives_ended : {B : Type 0} (connection : B → ℕ → ConnectionRecord) (lines : List Paint) (place : ℕ) (desk : List Window) (ends : List End) (clients : List (Option ClientSeen)) (bay bay' : B) (new : Seen B)
    (k : ℕ) (e : End) (answer : Received) (cs : List (Option ClientSeen)) (slot : Option ClientSeen) → k < length clients → slot ≡ get_or clients k slot → receive_ends answer ≡ Some e
    → EndsSlot (connection bay k) (connection bay' k) lines desk (option_map plain slot) answer → connection new.bay k ≡ connection bay' k
    → set cs k None ≡ set (plain_clients clients) k None → new ≡ with_end k e new.bay (seen lines place desk ends cs bay')
    → Receives connection k (seen lines place desk ends (plain_clients clients) bay) answer new
receives_ended connection lines place desk ends clients bay bay' new k e answer cs None within here dropped why now gone is = absurd why
receives_ended connection lines place desk ends clients bay bay' new k e answer cs (Some c) within here dropped why now gone is =
    let old = seen lines place desk ends (plain_clients clients) bay in
    subst (λ o. MatchOption o ((answer ≡ R.Closed) × (new ≡ old)) (λ d. ReceivesOne k (connection bay k) (connection new.bay k) old d answer new))
    (sym (open_at clients k (Some c) within here))
    (subst (λ o. MatchOption o ((c' : ClientSeen) × Reads (connection bay k) (connection new.bay k) lines desk (plain c) answer c' × (new ≡ with_client k c' new.bay old))
    (λ ended. EndsReading (connection bay k) (connection new.bay k) lines desk (plain c) answer × (new ≡ with_end k ended new.bay old)))
    (sym dropped)
    (subst (λ r. EndsReading (connection bay k) r lines desk (plain c) answer) (sym now) why, is ∙ ap (λ ds. seen lines place desk (set ends k e) ds new.bay) gone))

pub captures_made : {B : Type 0} (lines : List Paint) (place : ℕ) (desk : List Window) (ends : List End) (clients : List (Option ClientSeen)) (bay : B)
    (k wid : ℕ) (window : Window) (slot slot' : Option ClientSeen) (answer : Captured) → k < length clients → slot ≡ get_or clients k slot → slot ≢ None → find_window desk wid ≡ Some window
    → CapturesSlot window (option_map plain slot) answer (option_map plain slot')
    → Captures k wid (seen lines place desk ends (plain_clients clients) bay) answer (seen lines place desk ends (plain_clients (set clients k slot')) bay)
captures_made lines place desk ends clients bay k wid window None slot' answer within here some found captures = absurd (some refl)
captures_made lines place desk ends clients bay k wid window (Some c) slot' answer within here some found captures =
    let old = seen lines place desk ends (plain_clients clients) bay in
    let new = seen lines place desk ends (plain_clients (set clients k slot')) bay in
    subst (λ o. MatchOption o ((answer ≡ C.Closed) × (new ≡ old)) (λ d. (c' : ClientSeen) × CapturesOne desk wid d answer c' × (new ≡ with_client k c' bay old)))
    (sym (open_at clients k (Some c) within here)) (
      captures.0,
      subst (λ o. MatchOption o ((answer ≡ C.Closed) × (captures.0 ≡ plain c)) (λ w. CapturesWindow w (plain c) answer captures.0)) (sym found) captures.1,
      ap (λ cs. seen lines place desk ends cs bay) (clients_now clients k slot' captures.0 captures.2),
    )

pub captures_none : {B : Type 0} (lines : List Paint) (place : ℕ) (desk : List Window) (ends : List End) (clients : List (Option ClientSeen)) (bay : B)
    (k wid : ℕ) → k < length clients → IsSome (open_client clients k) → find_window desk wid ≡ None
    → Captures k wid (seen lines place desk ends (plain_clients clients) bay) C.Closed (seen lines place desk ends (plain_clients clients) bay)
captures_none lines place desk ends clients bay k wid within some missing =
    let old = seen lines place desk ends (plain_clients clients) bay in
    let c = (open_some clients k some).0 in
    let here = (open_some clients k some).1 in
    subst (λ o. MatchOption o ((C.Closed ≡ C.Closed) × (old ≡ old)) (λ d. (c' : ClientSeen) × CapturesOne desk wid d C.Closed c' × (old ≡ with_client k c' bay old)))
    (sym (open_at clients k (Some c) within here)) (
      plain c,
      subst (λ o. MatchOption o ((C.Closed ≡ C.Closed) × (plain c ≡ plain c)) (λ w. CapturesWindow w (plain c) C.Closed (plain c))) (sym missing) (refl, refl),
      ap (λ cs. seen lines place desk ends cs bay) (sym (still clients k c within here)),
    )

-- a connection was ended in its slot, in the list of ends and at the provider
pub dropped_is : {B : Type 0} (lines : List Paint) (place : ℕ) (desk : List Window) (ends ends' : List End) (clients clients' : List (Option ClientSeen)) (bay bay' : B) (k : ℕ) (e : End) → clients' ≡ set clients k None → ends' ≡ set ends k e
    → seen lines place desk ends' (plain_clients clients') bay' ≡ with_end k e bay' (seen lines place desk ends (plain_clients clients) bay)
dropped_is lines place desk ends ends' clients clients' bay bay' k e gone ended = λ i. record {
  lines = lines;
  place = place;
  desk = desk;
  clients = (ap plain_clients gone ∙ plain_clients-set clients k None) i;
  ends = ended i;
  bay = bay';
}
