-- What waiting draws relieve, by their messages and by their packets.
use Rattle.std.proofs.Common.{◌≡◌, ℕ, Bool, true, false, ◌&&◌, ◌||◌, List, [], ◌∷◌, ◌++◌, Option, Some, None, cond, eqb, refl, sym, ap, ◌∙◌}
use Rattle.std.specs.List.{AllByRecursion, list_any}
use Rattle.std.proofs.lemmas.List.Folds.{list_any-append}
use Rattle.xp_base.specs.Points.{is_within}
use Rattle.rect_regions.specs.PointSets.{has as has_point}
use Rattle.delivery_model.specs.Grids.{points, has}
use Rattle.delivery_model.specs.Window.{Packet, NewWindow, WindowResized, Draws}
use Rattle.delivery_model.specs.Owed.{packet_relieves, packets_relieve}
use Rattle.delivery_model.specs.Laws.{PointsHave}
use Rattle.packet_kinds.specs.declared.to_client.ToClient.{ToClient}
use Rattle.packet_kinds.specs.declared.to_client.ToClient.TheVariants as T
use Rattle.client_outbox.specs.declared.draw.Draw.{Draw}
use Rattle.client_outbox.specs.Reliefs.{is_named, draws_in, relieve}
use Rattle.window_source.specs.Waiting.{Queued, Waiting, IsDraw, Carries, draws_as, says_to, waits_on}
use Rattle.client_delivery.specs.Delivered.{packets_of, is_draw}
use Rattle.client_delivery.proofs.Parts.{unnamed}
use Rattle.client_delivery.proofs.Capturing.{same_test}

module _ (have : PointsHave) (wide high k x y : ℕ) (within : is_within wide high x y ≡ true) where
  plain_relieves : (w : Waiting) (m : ToClient) (ps : List Packet) → is_draw m ≡ false → packets_relieve ps x y ≡ false → IsDraw w.packet.wid w.packet.draw w.pixels m
      → packets_relieve ps x y ≡ (draws_in k w.packet && has_point w.packet.relief x y)
  plain_relieves w m ps plain none is =
      none ∙ ap (λ (o : Option ℕ). is_named o k && has_point w.packet.relief x y) (sym (unnamed w.packet.wid w.packet.draw w.pixels m plain is))

  one_relieves : (w : Waiting) (m : ToClient) → IsDraw w.packet.wid w.packet.draw w.pixels m → packets_relieve (says_to wide high k w m) x y ≡ (draws_in k w.packet && has_point w.packet.relief x y)
  one_relieves w (T.Hello caps) is = plain_relieves w (T.Hello caps) [] refl refl is
  one_relieves w (T.NewWindow wid a b w' h') is = plain_relieves w (T.NewWindow wid a b w' h') (cond (eqb k wid) (NewWindow w' h' ∷ []) []) refl (go (eqb k wid)) is
    where
      go : (t : Bool) → packets_relieve (cond t (NewWindow w' h' ∷ []) []) x y ≡ false
      go true = refl
      go false = refl
  one_relieves w (T.LostWindow wid) is = plain_relieves w (T.LostWindow wid) [] refl refl is
  one_relieves w (T.WindowResized wid w' h') is = plain_relieves w (T.WindowResized wid w' h') (cond (eqb k wid) (WindowResized w' h' ∷ []) []) refl (go (eqb k wid)) is
    where
      go : (t : Bool) → packets_relieve (cond t (WindowResized w' h' ∷ []) []) x y ≡ false
      go true = refl
      go false = refl
  one_relieves w (T.WindowMoveResize wid a b w' h') is = plain_relieves w (T.WindowMoveResize wid a b w' h') [] refl refl is
  one_relieves w (T.RaiseWindow wid) is = plain_relieves w (T.RaiseWindow wid) [] refl refl is
  one_relieves w (T.Draw wid a b w' h' coding bytes sequence stride) is = go w.packet.wid w.packet.draw is
    where
      or_false : (t : Bool) → (t || false) ≡ t
      or_false true = refl
      or_false false = refl

      cases : (t : Bool) (d : Draw) → packets_relieve (cond t (draws_as wide high (Some d) w) []) x y ≡ (t && has_point w.packet.relief x y)
      cases true d = or_false (has (points wide high (has_point w.packet.relief)) x y) ∙ have wide high (has_point w.packet.relief) x y ∙ ap (λ t. t && has_point w.packet.relief x y) within
      cases false d = refl

      go : (o : Option ℕ) (d : Option Draw) → IsDraw o d w.pixels (T.Draw wid a b w' h' coding bytes sequence stride)
          → packets_relieve (cond (eqb k wid) (draws_as wide high d w) []) x y ≡ (is_named o k && has_point w.packet.relief x y)
      go None None is = absurd is
      go None (Some d) is = absurd is
      go (Some j) None is = absurd is
      go (Some j) (Some d) is = cases (eqb k wid) d ∙ ap (λ t. t && has_point w.packet.relief x y) (same_test k wid ∙ ap (λ i. eqb i k) (sym is.0))
  one_relieves w (T.PingEcho t) is = plain_relieves w (T.PingEcho t) [] refl refl is
  one_relieves w (T.Disconnect reason) is = plain_relieves w (T.Disconnect reason) [] refl refl is
  one_relieves w T.Other is = plain_relieves w T.Other [] refl refl is

  pub relieves_same : (ws : List Waiting) → AllByRecursion Carries ws → packets_relieve (waits_on wide high k ws) x y ≡ relieve has_point k (packets_of ws) x y
  relieves_same [] carried = refl
  relieves_same (w ∷ ws) carried =
      list_any-append (λ (p : Packet). packet_relieves p x y) (says_to wide high k w w.message) (waits_on wide high k ws)
      ∙ ap (λ t. t || packets_relieve (waits_on wide high k ws) x y) (one_relieves w w.message carried.0.draw)
      ∙ ap (λ t. (draws_in k w.packet && has_point w.packet.relief x y) || t) (relieves_same ws carried.1)
