-- The reliefs of one window's waiting draws change, and nothing else.
use Rattle.std.proofs.Common.{◌≡◌, ◌⊎◌, inl, inr, ℕ, Bool, true, false, List, [], ◌∷◌, ◌++◌, Option, Some, None, map, length, ◌<◌, take, cond, eqb, refl, sym, ap, ◌∙◌, subst}
use Rattle.std.specs.List.{AllByRecursion}
use Rattle.xp_base.specs.Points.{Rectangle}
use Rattle.window_model.specs.Desktop.{Window}
use Rattle.rect_regions.specs.PointSets.{has, HasNone}
use Rattle.delivery_model.specs.Window.{Packet}
use Rattle.packet_kinds.specs.declared.to_client.ToClient.{ToClient}
use Rattle.packet_kinds.specs.Written.{IsMessage}
use Rattle.client_outbox.specs.declared.draw.Draw.{Draw}
use Rattle.client_outbox.specs.Outgoing.{Outgoing, IsBegun}
use Rattle.client_outbox.specs.Reliefs.{is_named, draws_in, PacketChanges, ReliefsChange}
use Rattle.window_source.specs.Waiting.{client_limit, Queued, Waiting, IsDraw, Carries, says_to, waits_on, ReliefLies}
use Rattle.client_delivery.specs.Delivered.{messages_of, packets_of, front_bytes, concerns, loses, is_draw, IsOnItsWay}
use Rattle.client_delivery.proofs.Parts.{says_nothing, named_elsewhere}
use Rattle.std.proofs.lemmas.Bool.{eqb-true}
use Rattle.xp_base.specs.Points.{is_within}

-- each packet that waits has another relief, where it is a draw in the window
abbrev pub Relieved : (List Rectangle → List Rectangle → Type 0) → ℕ → List Waiting → List Waiting → Type 0
Relieved Becomes k [] [] = Unit {0}
Relieved Becomes k [] (v ∷ vs) = ⊥
Relieved Becomes k (w ∷ ws) [] = ⊥
Relieved Becomes k (w ∷ ws) (v ∷ vs) = ((v ≡ record w { packet = v.packet }) × PacketChanges Becomes k w.packet v.packet) × Relieved Becomes k ws vs

-- the packets that wait, with these in the place of theirs
pub repacked : List Waiting → List Queued → List Waiting
repacked [] packets = []
repacked (w ∷ ws) [] = w ∷ ws
repacked (w ∷ ws) (p ∷ packets) = record w { packet = p } ∷ repacked ws packets

named_is : (o : Option ℕ) (k : ℕ) → is_named o k ≡ true → o ≡ Some k
named_is None k is = absurd (cc is)
named_is (Some j) k is = ap (λ n. Some n) (eqb-true j k is)

module _ (Becomes : List Rectangle → List Rectangle → Type 0) (k : ℕ) where
  pub relieved : (ws : List Waiting) (packets : List Queued) → ReliefsChange Becomes k (packets_of ws) packets → Relieved Becomes k ws (repacked ws packets)
  unfolding repacked
  relieved [] [] change = tt
  relieved [] (p ∷ packets) change = absurd change
  relieved (w ∷ ws) [] change = absurd change
  relieved (w ∷ ws) (p ∷ packets) change = ((refl, change.0), relieved ws packets change.1)

  pub packets_then : (ws : List Waiting) (packets : List Queued) → ReliefsChange Becomes k (packets_of ws) packets → packets_of (repacked ws packets) ≡ packets
  unfolding repacked
  packets_then [] [] change = refl
  packets_then [] (p ∷ packets) change = absurd change
  packets_then (w ∷ ws) [] change = absurd change
  packets_then (w ∷ ws) (p ∷ packets) change = ap (λ (ps : List Queued). p ∷ ps) (packets_then ws packets change.1)

  pub messages_then : (ws vs : List Waiting) → Relieved Becomes k ws vs → messages_of vs ≡ messages_of ws
  messages_then [] [] change = refl
  messages_then [] (v ∷ vs) change = absurd change
  messages_then (w ∷ ws) [] change = absurd change
  messages_then (w ∷ ws) (v ∷ vs) change = ap (λ (u : Waiting). u.message ∷ messages_of vs) change.0.0 ∙ ap (λ (ms : List ToClient). w.message ∷ ms) (messages_then ws vs change.1)

  -- what holds of each message holds still
  pub all_messages : (P : ToClient → Type 0) (ws vs : List Waiting) → Relieved Becomes k ws vs → AllByRecursion (λ (w : Waiting). P w.message) ws → AllByRecursion (λ (w : Waiting). P w.message) vs
  all_messages P [] [] change all = tt
  all_messages P [] (v ∷ vs) change all = absurd change
  all_messages P (w ∷ ws) [] change all = absurd change
  all_messages P (w ∷ ws) (v ∷ vs) change all = (subst (λ (u : Waiting). P u.message) (sym change.0.0) all.0, all_messages P ws vs change.1 all.1)

  -- a packet that is no draw names no window, so it stays
  no_draw : (p q : Queued) (pixels : List ℕ) (m : ToClient) → PacketChanges Becomes k p q → p.draw ≡ None → IsDraw p.wid p.draw pixels m → q ≡ p
  no_draw p q pixels m change none is = change.others (go p.wid (subst (λ (d : Option Draw). IsDraw p.wid d pixels m) none is))
    where
      go : (wid : Option ℕ) → IsDraw wid None pixels m → is_named wid k ≡ false
      go None is = refl
      go (Some j) is = absurd is

  carries_then : (w v : Waiting) → v ≡ record w { packet = v.packet } → PacketChanges Becomes k w.packet v.packet → Carries w → Carries v
  carries_then w v same change carries = subst Carries (sym same) (record {
    message = subst (λ (q : Queued). IsMessage client_limit q.bytes w.message) (sym change.kept) carries.message;
    draw = subst (λ (q : Queued). IsDraw q.wid q.draw w.pixels w.message) (sym change.kept) carries.draw;
    plain = λ none.
        let was : w.packet.draw ≡ None = sym (ap (λ (q : Queued). q.draw) change.kept) ∙ none in
        subst (λ (q : Queued). HasNone (has q.relief)) (sym (no_draw w.packet v.packet w.pixels w.message change was carries.draw)) (carries.plain was);
  })

  pub all_carry : (ws vs : List Waiting) → Relieved Becomes k ws vs → AllByRecursion Carries ws → AllByRecursion Carries vs
  all_carry [] [] change all = tt
  all_carry [] (v ∷ vs) change all = absurd change
  all_carry (w ∷ ws) [] change all = absurd change
  all_carry (w ∷ ws) (v ∷ vs) change all = (carries_then w v change.0.0 change.0.1 all.0, all_carry ws vs change.1 all.1)

  same_front : (packets packets' : List Queued) → ReliefsChange Becomes k packets packets' → front_bytes packets' ≡ front_bytes packets
  same_front [] [] change = refl
  same_front [] (p ∷ packets') change = absurd change
  same_front (p ∷ packets) [] change = absurd change
  same_front (p ∷ packets) (q ∷ packets') change = ap (λ (r : Queued). r.bytes) change.0.kept

  same_begun : (taken : ℕ) (packets packets' : List Queued) → ReliefsChange Becomes k packets packets' → IsBegun packets taken → IsBegun packets' taken
  same_begun taken [] [] change begun = begun
  same_begun taken [] (p ∷ packets') change begun = absurd change
  same_begun taken (p ∷ packets) [] change begun = absurd change
  same_begun taken (p ∷ packets) (q ∷ packets') change begun = subst (λ (r : Queued). taken < length r.bytes) (sym change.0.kept) begun

  -- the same bytes are on their way
  pub same_way : (o o' : Outgoing (List Rectangle)) (sent : List ℕ) (windows : List Window) (ws : List Waiting) → o'.taken ≡ o.taken → ReliefsChange Becomes k o.packets o'.packets
      → IsOnItsWay o sent windows ws → IsOnItsWay o' sent windows (repacked ws o'.packets)
  same_way o o' sent windows ws taken change way = record {
    done = way.done;
    sent_is = way.sent_is ∙ ap (λ (bs : List ℕ). way.done ++ bs) (ap (take o.taken) (sym (same_front o.packets o'.packets change)) ∙ ap (λ n. take n (front_bytes o'.packets)) (sym taken));
    show = way.show;
    sized = way.sized;
    packets = packets_then ws o'.packets there;
    carried = all_carry ws (repacked ws o'.packets) (relieved ws o'.packets there) way.carried;
    begun = subst (IsBegun o'.packets) (sym taken) (same_begun o.taken o.packets o'.packets change way.begun);
  }
    where
      there : ReliefsChange Becomes k (packets_of ws) o'.packets
      there = subst (λ (ps : List Queued). ReliefsChange Becomes k ps o'.packets) (sym way.packets) change

  -- to another window a packet says what it said
  says_same : (wide high j : ℕ) (w v : Waiting) → eqb j k ≡ false → v ≡ record w { packet = v.packet } → PacketChanges Becomes k w.packet v.packet → Carries w
      → says_to wide high j v v.message ≡ says_to wide high j w w.message
  says_same wide high j w v other same change carries = ap (λ (u : Waiting). says_to wide high j u u.message) same ∙ go (draws_in k w.packet) refl
    where
      go : (b : Bool) → draws_in k w.packet ≡ b → says_to wide high j (record w { packet = v.packet }) w.message ≡ says_to wide high j w w.message
      go false is = ap (λ (q : Queued). says_to wide high j (record w { packet = q }) w.message) (change.others is)
      go true is =
          let none = named_elsewhere j k w carries (named_is w.packet.wid k is) other in
          says_nothing wide high j (record w { packet = v.packet }) w.message none ∙ sym (says_nothing wide high j w w.message none)

  pub waits_elsewhere : (wide high j : ℕ) (ws vs : List Waiting) → eqb j k ≡ false → Relieved Becomes k ws vs → AllByRecursion Carries ws → waits_on wide high j vs ≡ waits_on wide high j ws
  waits_elsewhere wide high j [] [] other change all = refl
  waits_elsewhere wide high j [] (v ∷ vs) other change all = absurd change
  waits_elsewhere wide high j (w ∷ ws) [] other change all = absurd change
  waits_elsewhere wide high j (w ∷ ws) (v ∷ vs) other change all =
      ap (λ (ps : List Packet). ps ++ waits_on wide high j vs) (says_same wide high j w v other change.0.0 change.0.1 all.0)
      ∙ ap (λ (ps : List Packet). says_to wide high j w w.message ++ ps) (waits_elsewhere wide high j ws vs other change.1 all.1)

  -- and its reliefs lie where they lay
  pub lies_elsewhere : (wide high j : ℕ) (ws vs : List Waiting) → eqb j k ≡ false → Relieved Becomes k ws vs → AllByRecursion (ReliefLies wide high j) ws → AllByRecursion (ReliefLies wide high j) vs
  lies_elsewhere wide high j [] [] other change all = tt
  lies_elsewhere wide high j [] (v ∷ vs) other change all = absurd change
  lies_elsewhere wide high j (w ∷ ws) [] other change all = absurd change
  lies_elsewhere wide high j (w ∷ ws) (v ∷ vs) other change all = (one, lies_elsewhere wide high j ws vs other change.1 all.1)
    where
      one : ReliefLies wide high j v
      one = λ named.
          let was : w.packet.wid ≡ Some j = sym (ap (λ (q : Queued). q.wid) change.0.1.kept) ∙ named in
          let stays : v.packet ≡ w.packet = change.0.1.others (ap (λ (o : Option ℕ). is_named o k) was ∙ other) in
          subst (λ (q : Queued). (x y : ℕ) → has q.relief x y ≡ true → is_within wide high x y ≡ true) (sym stays) (all.0 was)
