-- What waits to be written, as packets are put at its end and bytes of the first are taken.
use Rattle.std.proofs.Common.{◌≡◌, ◌≢◌, ℕ, zero, suc, ◌+◌, ◌-◌, ◌<◌, ◌≤◌, Bool, true, false, Option, Some, None, List, [], ◌∷◌, ◌++◌, length, drop, refl, ap, ◌∙◌, sym, arith, map}
use Rattle.std.specs.Prelude.{All}
use Rattle.std.proofs.Math.Seq.{drop-nil}
use Rattle.std.proofs.lemmas.Bool.Decides.{nat_tests}
use Rattle.client_connection.specs.declared.packet.Packet.{Packet}
use Rattle.client_connection.specs.declared.source.Source.{Source}
use Rattle.window_model.specs.Desktop.{Window}
use Rattle.client_connection.specs.declared.geometry.Geometry.{Geometry}
use Rattle.bencode_values.specs.declared.value.Value.{Value}
use Rattle.packet_frames.specs.Written.{Carried, packet_bytes}
use Rattle.client_connection.specs.Wire.{server_hello, new_window, geometry_of, draw}
use Rattle.client_connection.specs.Clients.{structure_packet, ClientSeen, IsTaken, IsClient, front_size, size_of, waiting, taken_more, front_rest}

-- a packet at the end leaves the first one
pub taken_push : (packets : List Packet) (p : Packet) (taken : ℕ) → 0 < length p.bytes → IsTaken packets taken → IsTaken (packets ++ p ∷ []) taken
taken_push [] p taken some part = omega (arith, some, part)
taken_push (q ∷ packets) p taken some part = part

pub filled_push : (packets : List Packet) (p : Packet) → 0 < length p.bytes → All (λ q. 0 < length q.bytes) packets → All (λ q. 0 < length q.bytes) (packets ++ p ∷ [])
filled_push [] p some filled zero d within = some
filled_push [] p some filled (suc k) d within = absurd (omega (arith, within))
filled_push (q ∷ packets) p some filled zero d within = filled 0 d (omega arith)
filled_push (q ∷ packets) p some filled (suc k) d within = filled_push packets p some (λ j e low. filled (suc j) e (omega arith)) k d (omega arith)

-- behind the first packet nothing was taken yet
pub taken_next : (packets : List Packet) → All (λ q. 0 < length q.bytes) packets → IsTaken (drop 1 packets) 0
taken_next [] filled = refl
taken_next (p ∷ []) filled = refl
taken_next (p ∷ q ∷ packets) filled = filled 1 q (omega arith)

pub filled_next : (packets : List Packet) → All (λ q. 0 < length q.bytes) packets → All (λ q. 0 < length q.bytes) (drop 1 packets)
filled_next [] filled = filled
filled_next (p ∷ packets) filled = λ k d low. filled (suc k) d (omega arith)

-- so many bytes fewer wait once they were taken
pub waiting_taken : (n : ℕ) (c : ClientSeen) → c.packets ≢ [] → c.taken + n ≤ front_size c.packets → waiting (taken_more n c) + n ≡ waiting c
waiting_taken n c some within = plain_waiting c.packets c.taken some within
  where
    plain_waiting : (packets : List Packet) (taken : ℕ) → packets ≢ [] → taken + n ≤ front_size packets
        → waiting (taken_more n (record c { packets = packets; taken = taken })) + n ≡ size_of packets - taken
    plain_waiting [] taken some within = absurd (some refl)
    plain_waiting (p ∷ packets) taken some within = grind (arith, nat_tests, within)

-- a packet was put at the end
pub client_push : {greeted : Bool} {maps : ℕ} {sources : List Source} {packets : List Packet} {taken : ℕ} (sources' : List Source) (packets' : List Packet) (p : Packet)
    → IsClient greeted maps sources packets taken → greeted ≡ true → packets' ≡ packets ++ p ∷ [] → 0 < length p.bytes → IsClient greeted maps sources' packets' taken
client_push {packets = packets} {taken = taken} sources' packets' p client attached is some = rw is (record {
  part = taken_push packets p taken some client.part;
  filled = filled_push packets p some client.filled;
  counted = client.counted;
  unattached = λ none. absurd (cc (none, attached));
  unspoken = λ none. absurd (cc (none, attached));
})

-- a draw was put at the end, of a client that has a source
pub client_drawn : {greeted : Bool} {maps : ℕ} {sources : List Source} {packets : List Packet} {taken : ℕ} (sources' : List Source) (packets' : List Packet) (p : Packet) (place : ℕ) (middle : List Packet)
    → IsClient greeted maps sources packets taken → place < length sources → middle ≡ packets → packets' ≡ middle ++ p ∷ [] → 0 < length p.bytes → IsClient greeted maps sources' packets' taken
client_drawn {greeted = true} sources' packets' p place middle client within same is some = client_push sources' packets' p client refl (is ∙ ap (λ ps. ps ++ p ∷ []) same) some
client_drawn {greeted = false} sources' packets' p place middle client within same is some =
    let none = ap length (client.unattached refl) in absurd (omega (arith, within, none))

-- no packet is empty
packet_some : (v : Value) (chunk : Option Carried) → 0 < length (packet_bytes v chunk)
unfolding packet_bytes
packet_some v None = omega arith
packet_some v (Some c) = omega arith

pub draw_some : (window : Window) (n : ℕ) → 0 < length (draw window n)
draw_some window n = packet_some _ _

-- the first packet is gone
pub client_next : {greeted : Bool} {maps : ℕ} {sources : List Source} {packets : List Packet} {taken : ℕ} (packets' : List Packet)
    → IsClient greeted maps sources packets taken → packets' ≡ drop 1 packets → IsClient greeted maps sources packets' 0
client_next {packets = packets} packets' client is = rw is (record {
  part = taken_next packets client.filled;
  filled = filled_next packets client.filled;
  counted = client.counted;
  unattached = client.unattached;
  unspoken = λ none. ap (drop 1) (client.unspoken none);
})

pub new_window_some : (g : Geometry) → 0 < length (new_window g)
new_window_some g = packet_some _ _

pub announced_some : (desk : List Window) → All (λ q. 0 < length q.bytes) (map (λ w. structure_packet (new_window (geometry_of w))) desk)
announced_some [] k d within = absurd (omega (arith, within))
announced_some (w ∷ desk) zero d within = new_window_some (geometry_of w)
announced_some (w ∷ desk) (suc k) d within = announced_some desk k d (omega (arith, within))

-- a client that was just attached
pub client_attached : {greeted : Bool} {maps : ℕ} {sources : List Source} {packets : List Packet} {taken : ℕ} (desk : List Window) (sources' : List Source) (packets' : List Packet)
    → IsClient greeted maps sources packets taken → packets' ≡ structure_packet server_hello ∷ map (λ w. structure_packet (new_window (geometry_of w))) desk → IsClient true maps sources' packets' 0
client_attached desk sources' packets' client is = rw is (record {
  part = packet_some _ _;
  filled = first;
  counted = client.counted;
  unattached = λ none. absurd (cc none);
  unspoken = λ none. absurd (cc none);
})
  where
    first : All (λ q. 0 < length q.bytes) (structure_packet server_hello ∷ map (λ w. structure_packet (new_window (geometry_of w))) desk)
    first zero d within = packet_some _ _
    first (suc k) d within = announced_some desk k d (omega (arith, within))

drop_more : (a n : ℕ) (bytes : List ℕ) → drop (a + n) bytes ≡ drop n (drop a bytes)
drop_more a n [] = drop-nil (a + n) ∙ sym (ap (drop n) (drop-nil a) ∙ drop-nil n)
drop_more zero n (b ∷ bytes) = let e : 0 + n ≡ n = omega arith in ap (λ k. drop k (b ∷ bytes)) e
drop_more (suc a) n (b ∷ bytes) = let e : suc a + n ≡ suc (a + n) = omega arith in ap (λ k. drop k (b ∷ bytes)) e ∙ drop_more a n bytes

-- what is left to write, once more of it was taken
pub rest_taken : (n : ℕ) (c : ClientSeen) → c.taken + n < front_size c.packets → front_rest (taken_more n c).packets (taken_more n c).taken ≡ drop n (front_rest c.packets c.taken)
rest_taken n c part = rw (decided n c part) (rest c.packets c.taken)
  where
    decided : (n : ℕ) (c : ClientSeen) → c.taken + n < front_size c.packets → taken_more n c ≡ record c { taken = c.taken + n }
    decided n c part = grind (arith, nat_tests, part)

    rest : (packets : List Packet) (taken : ℕ) → front_rest packets (taken + n) ≡ drop n (front_rest packets taken)
    rest [] taken = sym (drop-nil n)
    rest (p ∷ packets) taken = drop_more taken n p.bytes
