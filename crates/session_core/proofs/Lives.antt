-- What every session keeps, where one connection changes, comes or ends.
use Rattle.std.proofs.Common.{◌≡◌, ℕ, zero, suc, ◌+◌, ◌<◌, ◌≤◌, ◌^◌, true, false, List, [], ◌∷◌, ◌++◌, length, get_or, set, Option, Some, None, refl, ap, ◌∙◌, sym, arith, map}
use Rattle.std.proofs.Math.ListN.{length-set}
use Rattle.std.proofs.Math.Seq.{map-set_same}
use Rattle.std.proofs.lemmas.List.{map-set, map-append, length-map, length-append}
use Rattle.std.proofs.lemmas.Option.{slice_get-get_or}
use Rattle.std.specs.Option.{option_map, is_some}
use Rattle.std.specs.Prelude.{IsSome, slice_get}
use Rattle.first_script.specs.Painting.{desk_at}
use Rattle.window_model.specs.Desktop.{Window}
use Rattle.first_script.specs.declared.paint.Paint.{Paint}
use Rattle.client_connection.specs.declared.ends.End.{End}
use Rattle.client_connection.specs.declared.ends.End.TheVariants.{Unended}
use Rattle.client_connection.specs.Clients.{ClientSeen, plain}
use Rattle.session_core.specs.Slots.{plain_clients}
use Rattle.session_core.specs.State.{IsSession, is_unended, joined, open_client}
use Rattle.session_core.proofs.Slots.{plain_clients-set, get_or-plain, replaced_same}

-- what is set aside does not open or close a connection
pub live_plain : (clients : List (Option ClientSeen)) → map is_some (plain_clients clients) ≡ map is_some clients
live_plain [] = refl
live_plain (None ∷ clients) = ap (λ bs. false ∷ bs) (live_plain clients)
live_plain (Some c ∷ clients) = ap (λ bs. true ∷ bs) (live_plain clients)

live_mapped : (f : ClientSeen → ClientSeen) (clients : List (Option ClientSeen)) → map is_some (map (option_map f) clients) ≡ map is_some clients
live_mapped f [] = refl
live_mapped f (None ∷ clients) = ap (λ bs. false ∷ bs) (live_mapped f clients)
live_mapped f (Some c ∷ clients) = ap (λ bs. true ∷ bs) (live_mapped f clients)

-- each connection was changed, and none opened or closed
pub live_changed : (f : ClientSeen → ClientSeen) (old new : List (Option ClientSeen)) → plain_clients new ≡ map (option_map f) (plain_clients old) → map is_some new ≡ map is_some old
live_changed f old new is = sym (live_plain new) ∙ ap (map is_some) is ∙ live_mapped f (plain_clients old) ∙ live_plain old

pub live_same : (old new : List (Option ClientSeen)) → plain_clients new ≡ plain_clients old → map is_some new ≡ map is_some old
live_same old new is = sym (live_plain new) ∙ ap (map is_some) is ∙ live_plain old

-- as many connections are kept
pub length_changed : (f : Option ClientSeen → Option ClientSeen) (old new : List (Option ClientSeen)) → plain_clients new ≡ map f (plain_clients old) → length new ≡ length old
length_changed f old new is = sym (length-map new (option_map plain)) ∙ ap length is ∙ length-map (plain_clients old) f ∙ length-map old (option_map plain)

pub length_same : (old new : List (Option ClientSeen)) → plain_clients new ≡ plain_clients old → length new ≡ length old
length_same old new is = sym (length-map new (option_map plain)) ∙ ap length is ∙ length-map old (option_map plain)

-- the same is kept, seen without what is set aside
pub session_plain : {lines : List Paint} {place : ℕ} {desk : List Window} (clients : List (Option ClientSeen)) {ends : List End} {count : ℕ}
    → IsSession lines place desk clients ends count → IsSession lines place desk (plain_clients clients) ends count
session_plain clients s = record {
  within = s.within;
  painted = s.painted;
  known = length-map clients (option_map plain) ∙ s.known;
  ended = s.ended;
  numbered = s.numbered;
  live = live_plain clients ∙ s.live;
}

-- one more line was applied
pub session_painted : {lines : List Paint} {place : ℕ} {desk : List Window} {clients : List (Option ClientSeen)} {ends : List End} {count : ℕ} (line : Paint) (f : ClientSeen → ClientSeen) (desk' : List Window) (clients' : List (Option ClientSeen))
    → IsSession lines place desk clients ends count → Some line ≡ slice_get lines place → desk' ≡ desk_at lines (place + 1) → plain_clients clients' ≡ map (option_map f) (plain_clients clients)
    → IsSession lines (place + 1) desk' clients' ends count
session_painted {lines = lines} {place = place} {clients = clients} line f desk' clients' s here painted changed = record {
  within = below lines place here;
  painted = painted;
  known = length_changed (option_map f) clients clients' changed ∙ s.known;
  ended = s.ended;
  numbered = s.numbered;
  live = live_changed f clients clients' changed ∙ s.live;
}
  where
    below : (lines : List Paint) (place : ℕ) → Some line ≡ slice_get lines place → place + 1 ≤ length lines
    below [] place here = absurd (cc here)
    below (p ∷ lines) zero here = omega arith
    below (p ∷ lines) (suc place) here = omega (arith, below lines place here)

-- one connection is replaced by one that is open where it was
pub session_slot : {lines : List Paint} {place : ℕ} {desk : List Window} {clients : List (Option ClientSeen)} {ends : List End} {count : ℕ} (k : ℕ) (slot slot' : Option ClientSeen) (count' : ℕ)
    → IsSession lines place desk clients ends count → slot ≡ get_or clients k slot → is_some slot' ≡ is_some slot → count' ≡ count
    → IsSession lines place desk (set clients k slot') ends count'
session_slot {clients = clients} k slot slot' count' s here same counted = record {
  within = s.within;
  painted = s.painted;
  known = length-set clients k slot' ∙ s.known ∙ sym counted;
  ended = s.ended ∙ sym counted;
  numbered = rw counted s.numbered;
  live = map-set_same is_some clients k slot' slot (same ∙ ap is_some here) ∙ s.live;
}

-- one connection ends
pub session_ended : {lines : List Paint} {place : ℕ} {desk : List Window} {clients : List (Option ClientSeen)} {ends : List End} {count : ℕ} (k : ℕ) (e : End) (count' : ℕ)
    → IsSession lines place desk clients ends count → is_unended e ≡ false → count' ≡ count
    → IsSession lines place desk (set clients k None) (set ends k e) count'
session_ended {clients = clients} {ends = ends} k e count' s closed counted = record {
  within = s.within;
  painted = s.painted;
  known = length-set clients k None ∙ s.known ∙ sym counted;
  ended = length-set ends k e ∙ s.ended ∙ sym counted;
  numbered = rw counted s.numbered;
  live = map-set is_some clients k None ∙ ap (λ bs. set bs k false) s.live ∙ ap (set (map is_unended ends) k) (sym closed) ∙ sym (map-set is_unended ends k e);
}

-- one connection comes
pub session_accepted : {lines : List Paint} {place : ℕ} {desk : List Window} {clients : List (Option ClientSeen)} {ends : List End} {count : ℕ} (c : ClientSeen) (count' : ℕ)
    → IsSession lines place desk clients ends count → count' ≡ count + 1 → count' < 2 ^ 32
    → IsSession lines place desk (clients ++ Some c ∷ []) (ends ++ Unended ∷ []) count'
session_accepted {clients = clients} {ends = ends} c count' s counted small = record {
  within = s.within;
  painted = s.painted;
  known = length-append clients (Some c ∷ []) ∙ ap (λ n. n + 1) s.known ∙ sym counted;
  ended = length-append ends (Unended ∷ []) ∙ ap (λ n. n + 1) s.ended ∙ sym counted;
  numbered = small;
  live = map-append is_some clients (Some c ∷ []) ∙ ap (λ bs. bs ++ true ∷ []) s.live ∙ sym (map-append is_unended ends (Unended ∷ []));
}

-- the connection that stands at a place
pub open_at : (clients : List (Option ClientSeen)) (k : ℕ) (slot : Option ClientSeen) → k < length clients → slot ≡ get_or clients k slot
    → open_client (plain_clients clients) k ≡ option_map plain slot
open_at clients k slot within here =
    ap joined (slice_get-get_or (plain_clients clients) k (option_map plain slot) (omega (arith, within, length-map clients (option_map plain))))
    ∙ sym (get_or-plain clients k slot within here)

-- a connection that is open is so without what is set aside
pub open_plain : (clients : List (Option ClientSeen)) (k : ℕ) → IsSome (open_client clients k) → IsSome (open_client (plain_clients clients) k)
open_plain [] k some = absurd (cc some)
open_plain (None ∷ clients) zero some = absurd (cc some)
open_plain (Some c ∷ clients) zero some = refl
open_plain (slot ∷ clients) (suc k) some = open_plain clients k some

pub unplain : (clients : List (Option ClientSeen)) (k : ℕ) → IsSome (open_client (plain_clients clients) k) → IsSome (open_client clients k)
unplain [] k some = absurd (cc some)
unplain (None ∷ clients) zero some = absurd (cc some)
unplain (Some c ∷ clients) zero some = refl
unplain (slot ∷ clients) (suc k) some = unplain clients k some

-- one connection is as it is now
pub clients_now : (clients : List (Option ClientSeen)) (k : ℕ) (slot' : Option ClientSeen) (c : ClientSeen) → option_map plain slot' ≡ Some c
    → plain_clients (set clients k slot') ≡ set (plain_clients clients) k (Some c)
clients_now clients k slot' c is = plain_clients-set clients k slot' ∙ ap (set (plain_clients clients) k) is

-- one connection is as it was
pub clients_still : (clients : List (Option ClientSeen)) (k : ℕ) (slot slot' : Option ClientSeen) → slot ≡ get_or clients k slot → option_map plain slot' ≡ option_map plain slot
    → plain_clients (set clients k slot') ≡ plain_clients clients
clients_still clients k slot slot' here same = replaced_same clients k slot' slot (same ∙ ap (option_map plain) here)

-- what was put at a place twice was put there the second time
pub set_twice : {A : Type 0} (xs : List A) (k : ℕ) (x y : A) → set (set xs k x) k y ≡ set xs k y
set_twice [] k x y = refl
set_twice (z ∷ xs) zero x y = refl
set_twice (z ∷ xs) (suc k) x y = ap (λ ys. z ∷ ys) (set_twice xs k x y)

pub clients_gone : (clients : List (Option ClientSeen)) (k : ℕ) (slot' : Option ClientSeen) → set (plain_clients (set clients k slot')) k None ≡ set (plain_clients clients) k None
clients_gone clients k slot' = ap (λ cs. set cs k None) (plain_clients-set clients k slot') ∙ set_twice (plain_clients clients) k (option_map plain slot') None

pub none_plain : (clients : List (Option ClientSeen)) (k : ℕ) → open_client clients k ≡ None → open_client (plain_clients clients) k ≡ None
none_plain [] k none = refl
none_plain (None ∷ clients) zero none = refl
none_plain (Some c ∷ clients) zero none = absurd (cc none)
none_plain (slot ∷ clients) (suc k) none = none_plain clients k none
