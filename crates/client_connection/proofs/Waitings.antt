-- Packets that wait, and their messages, as packets come and go.
use Rattle.std.proofs.Common.{◌≡◌, ◌⊎◌, inl, inr, ℕ, true, false, List, [], ◌∷◌, ◌++◌, Option, Some, None, cond, eqb, refl, sym, ap, ◌∙◌}
use Rattle.std.proofs.lemmas.Bool.{cases_Bool}
use Rattle.std.proofs.lemmas.List.{append_assoc, append-nil}
use Rattle.window_model.specs.Desktop.{Window}
use Rattle.delivery_model.specs.Window.{NewWindow}
use Rattle.packet_kinds.specs.declared.to_client.ToClient.{ToClient}
use Rattle.packet_kinds.specs.declared.to_client.ToClient.TheVariants as T
use Rattle.packet_kinds.specs.Effects.{effect, effect_on}
use Rattle.client_connection.specs.declared.packet.Packet.{Packet}
use Rattle.client_connection.specs.declared.packet.Draw.{Draw}
use Rattle.client_connection.specs.Told.{Carries, CarryAll, IsOfFirstPath, after_some, effects}
use Rattle.client_connection.specs.Delivery.{waits_as, waiting_on}

-- one packet more at the end
pub carry_push : (packets : List Packet) (messages : List ToClient) (p : Packet) (m : ToClient) → CarryAll packets messages → Carries p m → CarryAll (packets ++ p ∷ []) (messages ++ m ∷ [])
carry_push [] [] p m all one = (one, tt)
carry_push [] (n ∷ messages) p m all one = absurd all
carry_push (q ∷ packets) [] p m all one = absurd all
carry_push (q ∷ packets) (n ∷ messages) p m all one = (all.0, carry_push packets messages p m all.1 one)

pub waiting_push : (k : ℕ) (packets : List Packet) (messages : List ToClient) (p : Packet) (m : ToClient) → CarryAll packets messages
    → waiting_on k (packets ++ p ∷ []) (messages ++ m ∷ []) ≡ waiting_on k packets messages ++ waits_as k p.draw m
waiting_push k [] [] p m all = append-nil (waits_as k p.draw m)
waiting_push k [] (n ∷ messages) p m all = absurd all
waiting_push k (q ∷ packets) [] p m all = absurd all
waiting_push k (q ∷ packets) (n ∷ messages) p m all =
    ap (λ ws. waits_as k q.draw n ++ ws) (waiting_push k packets messages p m all.1) ∙ sym (append_assoc (waits_as k q.draw n) (waiting_on k packets messages) (waits_as k p.draw m))

after_all : (o : Option (List Window)) → after_some o (λ windows. Some windows) ≡ o
after_all None = refl
after_all (Some windows) = refl

pub effects_push : (messages : List ToClient) (m : ToClient) (windows after : List Window) → effects messages windows ≡ Some after → effects (messages ++ m ∷ []) windows ≡ effect after m
effects_push [] m windows after is = after_all (effect windows m) ∙ ap (λ o. after_some o (λ ws. effect ws m)) is
effects_push (n ∷ messages) m windows after is = go (effect windows n) (λ ws. effects_push messages m ws after) is
  where
    go : (o : Option (List Window)) → ((ws : List Window) → effects messages ws ≡ Some after → effects (messages ++ m ∷ []) ws ≡ effect after m)
        → after_some o (effects messages) ≡ Some after → after_some o (effects (messages ++ m ∷ [])) ≡ effect after m
    go None rest is = absurd (cc is)
    go (Some ws) rest is = rest ws is

-- the first message has an effect, and the others follow it
pub effects_first : (m : ToClient) (messages : List ToClient) (windows after : List Window) → effects (m ∷ messages) windows ≡ Some after
    → (next : List Window) × (effect windows m ≡ Some next) × (effects messages next ≡ Some after)
effects_first m messages windows after is = go (effect windows m) is
  where
    go : (o : Option (List Window)) → after_some o (effects messages) ≡ Some after → (next : List Window) × (o ≡ Some next) × (effects messages next ≡ Some after)
    go None is = absurd (cc is)
    go (Some next) is = (next, refl, is)

no_parts : {A : Type 0} (xs ys : List A) → xs ++ ys ≡ [] → (xs ≡ []) × (ys ≡ [])
no_parts [] ys is = (refl, is)
no_parts (x ∷ xs) ys is = absurd (cc is)

-- a message that is on no window of this number makes none
still_absent : (k : ℕ) (draw : Option Draw) (m : ToClient) → IsOfFirstPath m → waits_as k draw m ≡ [] → effect_on k None m ≡ None
still_absent k draw (T.Hello caps) first none = refl
still_absent k draw (T.NewWindow wid x y w h) first none = go (cases_Bool (eqb k wid)) none
  where
    go : (eqb k wid ≡ true) ⊎ (eqb k wid ≡ false) → cond (eqb k wid) (NewWindow w h ∷ []) [] ≡ [] → effect_on k None (T.NewWindow wid x y w h) ≡ None
    go (inl same) none = absurd (cc (rw same at none))
    go (inr other) none = rw other refl
still_absent k draw (T.LostWindow wid) first none = absurd first
still_absent k draw (T.WindowResized wid w h) first none = absurd first
still_absent k draw (T.WindowMoveResize wid x y w h) first none = absurd first
still_absent k draw (T.RaiseWindow wid) first none = absurd first
still_absent k draw (T.Draw wid x y w h coding bytes sequence stride) first none = refl
still_absent k draw (T.PingEcho t) first none = absurd first
still_absent k draw (T.Disconnect reason) first none = absurd first
still_absent k draw T.Other first none = absurd first

-- no packet is on the window: the first is not, the others are not, and the first makes none
pub absent_first : (k : ℕ) (p : Packet) (packets : List Packet) (m : ToClient) (messages : List ToClient) → IsOfFirstPath m → waiting_on k (p ∷ packets) (m ∷ messages) ≡ []
    → (effect_on k None m ≡ None) × (waiting_on k packets messages ≡ [])
absent_first k p packets m messages first none =
    let parts = no_parts (waits_as k p.draw m) (waiting_on k packets messages) none in (still_absent k p.draw m first parts.0, parts.1)
