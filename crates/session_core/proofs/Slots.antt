-- Each place of a list of connections is changed in turn, as contracts see it.
use Rattle.std.proofs.Common.{◌≡◌, ℕ, zero, suc, ◌+◌, ◌<◌, List, [], ◌∷◌, ◌++◌, length, get_or, Option, take, drop, ap, ◌∙◌, arith, map, set}
use Rattle.std.specs.Option.{option_map}
use Rattle.std.proofs.Math.Seq.{map-set_same}
use Rattle.std.proofs.lemmas.List.{map-set, length-map}
use Rattle.std.proofs.lemmas.List.Edits.{map_over_more}
use Rattle.client_connection.specs.Clients.{ClientSeen, plain}
use Rattle.session_core.specs.Slots.{plain_clients}

-- what is kept of one connection was replaced
pub plain_clients-set : (clients : List (Option ClientSeen)) (k : ℕ) (slot : Option ClientSeen) → plain_clients (set clients k slot) ≡ set (plain_clients clients) k (option_map plain slot)
plain_clients-set clients k slot = map-set (option_map plain) clients k slot

pub get_or-plain : (clients : List (Option ClientSeen)) (k : ℕ) (slot : Option ClientSeen) → k < length clients → slot ≡ get_or clients k slot
    → option_map plain slot ≡ get_or (plain_clients clients) k (option_map plain slot)
get_or-plain [] k slot within is = absurd (omega arith)
get_or-plain (c ∷ clients) zero slot within is = ap (option_map plain) is
get_or-plain (c ∷ clients) (suc k) slot within is = get_or-plain clients k slot (omega arith) is

-- one place more
pub changed_more : (f : Option ClientSeen → Option ClientSeen) (old now : List (Option ClientSeen)) (i : ℕ) (slot slot' : Option ClientSeen)
    → i < length old → length now ≡ length old → plain_clients now ≡ map f (take i (plain_clients old)) ++ drop i (plain_clients old)
    → slot ≡ get_or now i slot → option_map plain slot' ≡ f (option_map plain slot)
    → plain_clients (set now i slot') ≡ map f (take (i + 1) (plain_clients old)) ++ drop (i + 1) (plain_clients old)
changed_more f old now i slot slot' within sized so_far here change =
    plain_clients-set now i slot' ∙ ap (set (plain_clients now) i) change
    ∙ map_over_more f (plain_clients old) (plain_clients now) i (option_map plain slot) (omega (arith, length-map old (option_map plain))) so_far
    (get_or-plain now i slot (omega arith) here)

-- a connection was replaced by one that looks the same
pub replaced_same : (clients : List (Option ClientSeen)) (k : ℕ) (slot d : Option ClientSeen) → option_map plain slot ≡ option_map plain (get_or clients k d)
    → plain_clients (set clients k slot) ≡ plain_clients clients
replaced_same clients k slot d same = map-set_same (option_map plain) clients k slot d same
