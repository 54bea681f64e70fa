-- Packets put behind those that wait.
use Rattle.std.proofs.Common.{◌≡◌, ℕ, ◌+◌, ◌<◌, zero, suc, Bool, true, false, List, [], ◌∷◌, ◌++◌, Option, Some, None, map, length, take, refl, sym, ap, ◌∙◌, subst, arith}
use Rattle.std.specs.List.{AllByRecursion}
use Rattle.std.proofs.lemmas.List.{map-append, append_assoc, append-nil}
use Rattle.xp_base.specs.Points.{Rectangle}
use Rattle.window_model.specs.Desktop.{Window}
use Rattle.packet_kinds.specs.declared.to_client.ToClient.{ToClient}
use Rattle.packet_kinds.specs.Laws.{MessageHasBytes}
use Rattle.client_outbox.specs.Outgoing.{WaitingPacket, Outgoing, with_packet, IsBegun}
use Rattle.window_source.specs.Waiting.{Queued, Waiting, Carries, client_limit}
use Rattle.client_delivery.specs.Delivered.{messages_of, packets_of, front_bytes, IsOnItsWay}
use Rattle.client_delivery.specs.Steps.{structure, Puts}

-- what holds of all by recursion holds of all of two lists one behind the other
pub all_append : {A : Type 0} (P : A → Type 0) (xs ys : List A) → AllByRecursion P xs → AllByRecursion P ys → AllByRecursion P (xs ++ ys)
all_append P [] ys front behind = behind
all_append P (x ∷ xs) ys front behind = (front.0, all_append P xs ys front.1 behind)

pub all_weaker : {A : Type 0} (P Q : A → Type 0) → ((a : A) → P a → Q a) → (xs : List A) → AllByRecursion P xs → AllByRecursion Q xs
all_weaker P Q each [] all = tt
all_weaker P Q each (x ∷ xs) all = (each x all.0, all_weaker P Q each xs all.1)

-- no packet is empty
carried_some : MessageHasBytes → (w : Waiting) → Carries w → 0 < length w.packet.bytes
carried_some sized w carries = let some = sized client_limit w.packet.bytes w.message carries.message in omega (arith, some)

front_stays : (taken : ℕ) (packets more : List Queued) → IsBegun packets taken → take taken (front_bytes packets) ≡ take taken (front_bytes (packets ++ more))
front_stays taken [] more begun = none taken (front_bytes more) begun
  where
    none : (n : ℕ) (bytes : List ℕ) → n ≡ 0 → take n [] ≡ take n bytes
    none zero bytes is = refl
    none (suc n) bytes is = absurd (omega (arith, is))
front_stays taken (p ∷ packets) more begun = refl

begun_stays : MessageHasBytes → (taken : ℕ) (packets : List Queued) (ws : List Waiting) → AllByRecursion Carries ws → IsBegun packets taken → IsBegun (packets ++ packets_of ws) taken
begun_stays sized taken [] [] carried begun = begun
begun_stays sized taken [] (w ∷ ws) carried begun = let some = carried_some sized w carried.0 in omega (arith, some, begun)
begun_stays sized taken (p ∷ packets) ws carried begun = begun

-- these packets more
pub put_more : MessageHasBytes → (o : Outgoing (List Rectangle)) (sent : List ℕ) (windows : List Window) (waiting ws : List Waiting) → AllByRecursion Carries ws
    → IsOnItsWay o sent windows waiting → IsOnItsWay (record o { packets = o.packets ++ packets_of ws }) sent windows (waiting ++ ws)
put_more sized o sent windows waiting ws carried way = record {
  done = way.done;
  sent_is = way.sent_is ∙ ap (λ (bs : List ℕ). way.done ++ bs) (front_stays o.taken o.packets (packets_of ws) way.begun);
  show = way.show;
  sized = way.sized;
  packets = map-append (λ (w : Waiting). w.packet) waiting ws ∙ ap (λ (ps : List Queued). ps ++ packets_of ws) way.packets;
  carried = all_append Carries waiting ws way.carried carried;
  begun = begun_stays sized o.taken o.packets ws carried way.begun;
}

-- a packet that is no draw
pub put_one : MessageHasBytes → (m : ToClient) (o o' : Outgoing (List Rectangle)) (sent : List ℕ) (windows : List Window) (waiting : List Waiting) → (p : Puts m o o')
    → IsOnItsWay o sent windows waiting → IsOnItsWay o' sent windows (waiting ++ structure p.packet m ∷ [])
put_one sized m o o' sent windows waiting p way =
    subst (λ (q : Outgoing (List Rectangle)). IsOnItsWay q sent windows (waiting ++ structure p.packet m ∷ [])) (sym p.put)
    (put_more sized o sent windows waiting (structure p.packet m ∷ []) (p.carries, tt) way)
