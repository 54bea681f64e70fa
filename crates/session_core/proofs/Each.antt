-- What is kept of each connection that is open, where one connection changes, comes or ends, or all change.
use Rattle.std.proofs.Common.{◌≡◌, ◌≢◌, inl, inr, ℕ, zero, suc, ◌<◌, Bool, List, [], ◌∷◌, ◌++◌, length, get_or, set, Option, Some, None, refl, ap, ◌∙◌, sym, subst, arith, map}
use Rattle.std.specs.Option.{option_map}
use Rattle.std.proofs.lemmas.Bool.{cases_eq}
use Rattle.std.proofs.lemmas.List.{length-map, map-append}
use Rattle.link_bay.specs.Connections.{ConnectionRecord, OthersStay, fresh_connection}
use Rattle.client_connection.specs.Clients.{ClientSeen, plain, fresh_client}
use Rattle.session_core.specs.Slots.{plain_clients}
use Rattle.session_core.specs.State.{open_client}
use Rattle.session_core.proofs.Slots.{plain_clients-set}
use Rattle.session_core.proofs.Lives.{open_at}
use Rattle.client_connection.proofs.Sources.{some_same}

-- something is kept of each connection that is open
abbrev pub Each : (ClientSeen → ConnectionRecord → Type 0) → (ℕ → ConnectionRecord) → List (Option ClientSeen) → Type 0
Each P connection clients = (k : ℕ) (c : ClientSeen) → open_client clients k ≡ Some c → P c (connection k)

-- it is kept of the connection that stands in this slot, where one does
abbrev pub InSlot : (ClientSeen → ConnectionRecord → Type 0) → Option ClientSeen → ConnectionRecord → Type 0
InSlot P slot r = (c : ClientSeen) → option_map plain slot ≡ Some c → P c r

open_other : {A : Type 0} (clients : List (Option A)) (k d : ℕ) (slot : Option A) → d ≢ k → open_client (set clients k slot) d ≡ open_client clients d
open_other [] k d slot other = refl
open_other (c ∷ clients) zero zero slot other = absurd (other refl)
open_other (c ∷ clients) zero (suc d) slot other = refl
open_other (c ∷ clients) (suc k) zero slot other = refl
open_other (c ∷ clients) (suc k) (suc d) slot other = open_other clients k d slot (λ same. other (ap (λ n. suc n) same))

open_here : {A : Type 0} (clients : List (Option A)) (k : ℕ) (slot : Option A) → k < length clients → open_client (set clients k slot) k ≡ slot
open_here [] k slot within = absurd (omega (arith, within))
open_here (c ∷ clients) zero slot within = refl
open_here (c ∷ clients) (suc k) slot within = open_here clients k slot (omega (arith, within))

-- one connection is as it is now, and the others stay
pub each_slot : (P : ClientSeen → ConnectionRecord → Type 0) (connection connection' : ℕ → ConnectionRecord) (clients : List (Option ClientSeen)) (k : ℕ) (slot' : Option ClientSeen) → Each P connection (plain_clients clients)
    → OthersStay connection connection' k → k < length clients → InSlot P slot' (connection' k) → Each P connection' (plain_clients (set clients k slot'))
each_slot P connection connection' clients k slot' kept others within next = λ d c is.
    let now : open_client (set (plain_clients clients) k (option_map plain slot')) d ≡ Some c = ap (λ cs. open_client cs d) (sym (plain_clients-set clients k slot')) ∙ is in
    elim (cases_eq d k) [
      | inl same ↦
          let here : option_map plain slot' ≡ Some c =
          sym (open_here (plain_clients clients) k (option_map plain slot') (omega (arith, within, length-map clients (option_map plain)))) ∙ ap (open_client (set (plain_clients clients) k (option_map plain slot'))) (sym same) ∙ now in
          subst (λ n. P c (connection' n)) (sym same) (next c here)
      | inr other ↦
          subst (P c) (sym (others d other)) (kept d c (sym (open_other (plain_clients clients) k d (option_map plain slot') other) ∙ now))
    ]

-- what is kept of the connection that stands there
pub each_here : (P : ClientSeen → ConnectionRecord → Type 0) (connection : ℕ → ConnectionRecord) (clients : List (Option ClientSeen)) (k : ℕ) (slot : Option ClientSeen) → Each P connection (plain_clients clients)
    → k < length clients → slot ≡ get_or clients k slot → InSlot P slot (connection k)
each_here P connection clients k slot kept within here = λ c is. kept k c (open_at clients k slot within here ∙ is)

-- nothing is kept of a slot that is empty
pub each_none : (P : ClientSeen → ConnectionRecord → Type 0) (r : ConnectionRecord) → InSlot P None r
each_none P r = λ c is. absurd (cc is)

open_mapped : (f : ClientSeen → ClientSeen) (clients : List (Option ClientSeen)) (k : ℕ) → open_client (map (option_map f) clients) k ≡ option_map f (open_client clients k)
open_mapped f [] k = refl
open_mapped f (c ∷ clients) zero = refl
open_mapped f (c ∷ clients) (suc k) = open_mapped f clients k

-- each connection was changed, and the provider is as it was
pub each_all : (P P' : ClientSeen → ConnectionRecord → Type 0) (connection : ℕ → ConnectionRecord) (f : ClientSeen → ClientSeen) (clients : List (Option ClientSeen)) → ((c : ClientSeen) (r : ConnectionRecord) → P c r → P' (f c) r)
    → Each P connection clients → Each P' connection (map (option_map f) clients)
each_all P P' connection f clients step kept = λ k c is. go k c (open_client clients k) refl (sym (open_mapped f clients k) ∙ is)
  where
    go : (k : ℕ) (c : ClientSeen) (o : Option ClientSeen) → open_client clients k ≡ o → option_map f o ≡ Some c → P' c (connection k)
    go k c None here is = absurd (cc is)
    go k c (Some d) here is = subst (λ (e : ClientSeen). P' e (connection k)) (some_same (f d) c is) (step d (connection k) (kept k d here))

open_pushed : (clients : List (Option ClientSeen)) (slot : Option ClientSeen) (k : ℕ) → k ≢ length clients → open_client (clients ++ slot ∷ []) k ≡ open_client clients k
open_pushed [] slot zero other = absurd (other refl)
open_pushed [] slot (suc k) other = refl
open_pushed (c ∷ clients) slot zero other = refl
open_pushed (c ∷ clients) slot (suc k) other = open_pushed clients slot k (λ same. other (ap (λ n. suc n) same))

open_last : (clients : List (Option ClientSeen)) (slot : Option ClientSeen) → open_client (clients ++ slot ∷ []) (length clients) ≡ slot
open_last [] slot = refl
open_last (c ∷ clients) slot = open_last clients slot

-- a connection was accepted
pub each_accepted : (P : ClientSeen → ConnectionRecord → Type 0) (connection connection' : ℕ → ConnectionRecord) (tells : Bool) (clients : List (Option ClientSeen)) (c : ClientSeen) → plain c ≡ fresh_client
    → Each P connection (plain_clients clients) → OthersStay connection connection' (length clients) → connection' (length clients) ≡ fresh_connection tells → P fresh_client (fresh_connection tells)
    → Each P connection' (plain_clients (clients ++ Some c ∷ []))
each_accepted P connection connection' tells clients c new kept others fresh first = λ k d is.
    let now : open_client (plain_clients clients ++ Some (plain c) ∷ []) k ≡ Some d = ap (λ cs. open_client cs k) (sym (map-append (option_map plain) clients (Some c ∷ []))) ∙ is in
    let count : length (plain_clients clients) ≡ length clients = length-map clients (option_map plain) in
    elim (cases_eq k (length clients)) [
      | inl same ↦
          let here : plain c ≡ d = some_same (plain c) d (sym (ap (open_client (plain_clients clients ++ Some (plain c) ∷ [])) (same ∙ sym count) ∙ open_last (plain_clients clients) (Some (plain c))) ∙ now) in
          subst (λ n. P d (connection' n)) (sym same)
          (subst (P d) (sym fresh)
          (subst (λ (e : ClientSeen). P e (fresh_connection tells)) (sym new ∙ here) first))
      | inr other ↦
          subst (P d) (sym (others k other))
          (kept k d (sym (open_pushed (plain_clients clients) (Some (plain c)) k (λ same. other (same ∙ count))) ∙ now))
    ]

-- a session that has no connection yet
pub each_nobody : (P : ClientSeen → ConnectionRecord → Type 0) (connection : ℕ → ConnectionRecord) (clients : List (Option ClientSeen)) → clients ≡ [] → Each P connection (plain_clients clients)
each_nobody P connection clients none = subst (λ (cs : List (Option ClientSeen)). Each P connection (plain_clients cs)) (sym none) (λ k c is. absurd (cc is))

-- a number that is open is one of the list
open_within : (clients : List (Option ClientSeen)) (k : ℕ) (c : ClientSeen) → open_client clients k ≡ Some c → k < length clients
open_within [] k c is = absurd (cc is)
open_within (d ∷ clients) zero c is = omega arith
open_within (d ∷ clients) (suc k) c is = omega (arith, open_within clients k c is)

-- nobody was accepted: the connections that were handed out stay
pub each_others : (P : ClientSeen → ConnectionRecord → Type 0) (connection connection' : ℕ → ConnectionRecord) (clients : List (Option ClientSeen)) (count : ℕ) → length clients ≡ count → OthersStay connection connection' count
    → Each P connection (plain_clients clients) → Each P connection' (plain_clients clients)
each_others P connection connection' clients count known others kept = λ k c is.
    let other : k ≢ count = omega (arith, open_within (plain_clients clients) k c is, length-map clients (option_map plain), known) in
    subst (P c) (sym (others k other)) (kept k c is)
