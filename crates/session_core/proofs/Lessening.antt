-- What a write leaves waiting.
use Rattle.std.proofs.Common.{◌≡◌, ◌≢◌, ℕ, zero, suc, ◌+◌, ◌<◌, ◌≤◌, List, [], ◌∷◌, length, get_or, set, take, drop, Option, Some, None, refl, ap, ◌∙◌, sym, subst, arith}
use Rattle.std.proofs.lemmas.List.{length-drop, length-take}
use Rattle.std.specs.Option.{option_map}
use Rattle.link_bay.specs.Connections.{ConnectionRecord}
use Rattle.client_connection.specs.declared.packet.Packet.{Packet}
use Rattle.client_connection.specs.declared.answers.Sent.{Sent}
use Rattle.client_connection.specs.declared.answers.Sent.TheVariants as S
use Rattle.client_connection.specs.Clients.{ClientSeen, plain, waiting, front_size, front_rest}
use Rattle.session_core.specs.Slots.{plain_clients, WritesSlot}
use Rattle.session_core.specs.State.{open_client}
use Rattle.session_core.specs.Ends.{waiting_in, waiting_at, SendsLess}
use Rattle.client_connection.specs.Sending.{Writes}
use Rattle.client_connection.proofs.Sendings.{waiting_taken}
use Rattle.session_core.proofs.Lives.{open_at, clients_now}

-- what was put in an open connection's place stands there
pub open_set : {A : Type 0} (clients : List (Option A)) (k : ℕ) (c : A) (slot : Option A) → open_client clients k ≡ Some c → open_client (set clients k slot) k ≡ slot
open_set [] k c slot here = absurd (cc here)
open_set (s ∷ clients) zero c slot here = refl
open_set (s ∷ clients) (suc k) c slot here = open_set clients k c slot here

-- no more than was offered was taken of the first packet
pub taken_within : (packets : List Packet) (taken most n : ℕ) → 1 ≤ n → n ≤ length (take most (front_rest packets taken)) → taken + n ≤ front_size packets
taken_within [] taken most n some within = let none : List ℕ = [] in absurd (omega (arith, some, within, length-take most none))
taken_within (p ∷ packets) taken most n some within = omega (arith, some, within, length-take most (drop taken p.bytes), length-drop taken p.bytes)

pub writes_less : (most : ℕ) (was now : ConnectionRecord) (c c' : ClientSeen) (answer : Sent) → Writes most was now c answer c' → SendsLess answer (waiting c) (waiting c')
writes_less most was now c c' S.Closed writes = absurd writes
writes_less most was now c c' S.Idle writes = omega (arith, ap waiting writes.2)
writes_less most was now c c' (S.Took n) writes =
    let within = taken_within c.packets c.taken most n writes.0 writes.2.0 in
    let less = waiting_taken n c writes.1 within in
    omega (arith, less, ap waiting writes.3, writes.0)
writes_less most was now c c' S.Again writes = omega (arith, ap waiting writes.3)
writes_less most was now c c' (S.Ended ended) writes = absurd writes
writes_less most was now c c' S.NoMemory writes = omega (arith, ap waiting writes.2)

-- nothing waits for a connection that has ended
pub gone_at : (clients : List (Option ClientSeen)) (k : ℕ) → waiting_at (set clients k None) k ≡ 0
gone_at [] k = refl
gone_at (s ∷ clients) zero = refl
gone_at (s ∷ clients) (suc k) = gone_at clients k

pub written_less : (most : ℕ) (was now : ConnectionRecord) (clients : List (Option ClientSeen)) (k : ℕ) (slot slot' : Option ClientSeen) (answer : Sent) → k < length clients → slot ≡ get_or clients k slot → slot ≢ None
    → WritesSlot most was now (option_map plain slot) answer (option_map plain slot') → SendsLess answer (waiting_at (plain_clients clients) k) (waiting_at (plain_clients (set clients k slot')) k)
written_less most was now clients k None slot' answer within here some writes = absurd (some refl)
written_less most was now clients k (Some c) slot' answer within here some writes =
    let old = open_at clients k (Some c) within here in
    let new : open_client (plain_clients (set clients k slot')) k ≡ Some writes.0 =
    ap (λ cs. open_client cs k) (clients_now clients k slot' writes.0 writes.2) ∙ open_set (plain_clients clients) k (plain c) (Some writes.0) old in
    subst (λ n. SendsLess answer (waiting_at (plain_clients clients) k) n) (sym (ap waiting_in new))
    (subst (λ n. SendsLess answer n (waiting writes.0)) (sym (ap waiting_in old)) (writes_less most was now (plain c) writes.0 answer writes.1))
