-- A window is captured.
use Rattle.std.proofs.Common.{◌≡◌, ℕ, Bool, true, false, ◌&&◌, ◌||◌, List, [], ◌∷◌, ◌++◌, Option, Some, None, length, ltb, cond, eqb, refl, sym, ap, ◌∙◌, subst, arith}
use Rattle.std.specs.Option.{option_map}
use Rattle.std.specs.List.{AllByRecursion}
use Rattle.std.proofs.lemmas.Bool.{cond-true, cond-false}
use Rattle.std.proofs.lemmas.Bool.Decides.{nat_tests}
use Rattle.xp_base.specs.KeyedLaws.{KeyedFinds, KeyedKeeps}
use Rattle.window_model.specs.Desktop.{Window, find_window}
use Rattle.delivery_model.specs.Grids.{Grid, points}
use Rattle.rect_regions.specs.PointSets.{has}
use Rattle.delivery_model.specs.Window.{Packet, NewWindow, WindowResized, Draws, Window as Delivery}
use Rattle.delivery_model.specs.Events.{Planned, Capture, captured, is_empty}
use Rattle.delivery_model.specs.Refusals.{is_busy, is_clean}
use Rattle.delivery_model.specs.Plans.{IsPlan, IsCaptureOf}
use Rattle.delivery_model.specs.Kept.{IsKept}
use Rattle.delivery_model.specs.Laws.{EventsKeepTheForm}
use Rattle.packet_kinds.specs.declared.to_client.ToClient.{ToClient}
use Rattle.packet_kinds.specs.declared.to_client.ToClient.TheVariants as T
use Rattle.client_outbox.specs.declared.draw.Draw.{Draw}
use Rattle.client_outbox.specs.Reliefs.{is_named, draws_in}
use Rattle.window_source.specs.Source.{SourceSeen, window_of, source_of}
use Rattle.window_source.specs.Waiting.{Queued, Waiting, IsDraw, Carries, draws_as, says_to, waits_on, lossy_shows}
use Rattle.client_delivery.specs.Attached.{source_key, find_source, grid_of}
use Rattle.client_delivery.specs.Delivered.{packets_of, is_draw, delivery, IsOnItsWay, IsTold}
use Rattle.client_delivery.specs.Numbered.{numbered, numbered_on}
use Rattle.client_delivery.specs.Keeping.{CaptureKeeps}
use Rattle.client_delivery.proofs.Grids.{some_same}
use Rattle.client_delivery.proofs.Parts.{unnamed}
use Rattle.client_delivery.proofs.Saying.{source_changed}

busy_append : (xs ys : List Packet) → is_busy (xs ++ ys) ≡ (is_busy xs || is_busy ys)
busy_append [] ys = refl
busy_append (NewWindow w h ∷ xs) ys = busy_append xs ys
busy_append (WindowResized w h ∷ xs) ys = busy_append xs ys
busy_append (Draws d ∷ xs) ys = refl

pub same_test : (a b : ℕ) → eqb a b ≡ eqb b a
same_test a b = grind (arith, nat_tests)

-- what is no draw names no window, and so is none by its number
no_number : (k : ℕ) (wid : Option ℕ) (draw : Option Draw) → wid ≡ None → cond (is_named wid k) (numbered draw) [] ≡ []
no_number k wid draw none = ap (λ (o : Option ℕ). cond (is_named o k) (numbered draw) []) none

not_busy : (k : ℕ) (w : Waiting) (m : ToClient) (ps : List Packet) → is_draw m ≡ false → is_busy ps ≡ false → IsDraw w.packet.wid w.packet.draw w.pixels m
    → is_busy ps ≡ is_busy (cond (draws_in k w.packet) (numbered w.packet.draw) [])
not_busy k w m ps plain quiet is = quiet ∙ sym (ap is_busy (no_number k w.packet.wid w.packet.draw (unnamed w.packet.wid w.packet.draw w.pixels m plain is)))

busy_one : (wide high k : ℕ) (w : Waiting) (m : ToClient) → IsDraw w.packet.wid w.packet.draw w.pixels m → is_busy (says_to wide high k w m) ≡ is_busy (cond (draws_in k w.packet) (numbered w.packet.draw) [])
busy_one wide high k w (T.Hello caps) is = not_busy k w (T.Hello caps) [] refl refl is
busy_one wide high k w (T.NewWindow wid x y w' h') is = not_busy k w (T.NewWindow wid x y w' h') (cond (eqb k wid) (NewWindow w' h' ∷ []) []) refl (go (eqb k wid)) is
  where
    go : (b : Bool) → is_busy (cond b (NewWindow w' h' ∷ []) []) ≡ false
    go true = refl
    go false = refl
busy_one wide high k w (T.LostWindow wid) is = not_busy k w (T.LostWindow wid) [] refl refl is
busy_one wide high k w (T.WindowResized wid w' h') is = not_busy k w (T.WindowResized wid w' h') (cond (eqb k wid) (WindowResized w' h' ∷ []) []) refl (go (eqb k wid)) is
  where
    go : (b : Bool) → is_busy (cond b (WindowResized w' h' ∷ []) []) ≡ false
    go true = refl
    go false = refl
busy_one wide high k w (T.WindowMoveResize wid x y w' h') is = not_busy k w (T.WindowMoveResize wid x y w' h') [] refl refl is
busy_one wide high k w (T.RaiseWindow wid) is = not_busy k w (T.RaiseWindow wid) [] refl refl is
busy_one wide high k w (T.Draw wid x y w' h' coding bytes sequence stride) is = go w.packet.wid w.packet.draw is
  where
    cases : (b : Bool) (d : Draw) → is_busy (cond b (Draws (record { sequence = d.sequence; capture = record { rect = d.rect; coding = d.coding; pixels = w.pixels }; relief = points wide high (has w.packet.relief) }) ∷ []) [])
        ≡ is_busy (cond b (numbered (Some d)) [])
    cases true d = refl
    cases false d = refl

    go : (o : Option ℕ) (d : Option Draw) → IsDraw o d w.pixels (T.Draw wid x y w' h' coding bytes sequence stride) → is_busy (cond (eqb k wid) (draws_as wide high d w) []) ≡ is_busy (cond (is_named o k) (numbered d) [])
    go None None is = absurd is
    go None (Some d) is = absurd is
    go (Some j) None is = absurd is
    go (Some j) (Some d) is =
        cases (eqb k wid) d
        ∙ ap (λ b. is_busy (cond b (numbered (Some d)) [])) (same_test k wid ∙ ap (λ i. eqb i k) (sym is.0))
busy_one wide high k w (T.PingEcho t) is = not_busy k w (T.PingEcho t) [] refl refl is
busy_one wide high k w (T.Disconnect reason) is = not_busy k w (T.Disconnect reason) [] refl refl is
busy_one wide high k w T.Other is = not_busy k w T.Other [] refl refl is

-- a draw of the window waits, as the packets that wait say
pub busy_same : (wide high k : ℕ) (ws : List Waiting) → AllByRecursion Carries ws → is_busy (waits_on wide high k ws) ≡ is_busy (numbered_on k (packets_of ws))
busy_same wide high k [] carried = refl
busy_same wide high k (w ∷ ws) carried =
    busy_append (says_to wide high k w w.message) (waits_on wide high k ws)
    ∙ ap (λ b. b || is_busy (waits_on wide high k ws)) (busy_one wide high k w w.message carried.0.draw)
    ∙ ap (λ b. is_busy (cond (draws_in k w.packet) (numbered w.packet.draw) []) || b) (busy_same wide high k ws carried.1)
    ∙ sym (busy_append (cond (draws_in k w.packet) (numbered w.packet.draw) []) (numbered_on k (packets_of ws)))

-- a capture of one source is one of the model's window
pub planned_then : (s : SourceSeen) (plan : List Planned) (pixels : List ℕ) (client : Option Grid) (packets few : List Packet) → is_busy packets ≡ is_busy few → IsCaptureOf (window_of s pixels None few) plan
    → IsCaptureOf (window_of s pixels client packets) plan
planned_then s plan pixels client packets few busy is = record {
  unclean = ap (λ b. is_empty s.pending && (is_empty s.lossy || (ltb 0 (length s.jobs) || b))) busy ∙ is.unclean;
  planned = record { within = is.planned.within; apart = is.planned.apart; covers = is.planned.covers; lossy = is.planned.lossy; refresh = is.planned.refresh };
}

module _ (finds : KeyedFinds SourceSeen) (keeps : KeyedKeeps SourceSeen) (form : EventsKeepTheForm) where
  pub capture_keeps : CaptureKeeps
  capture_keeps desk were_opened window plan first a a' sent there captures told =
      subst (λ (sources : List SourceSeen). IsTold desk were_opened (record a' { sources = sources }) sent) (sym captures.sources) (record {
        windows = told.windows;
        waiting = told.waiting;
        bytes = subst (λ (o : _). IsOnItsWay o sent told.windows told.waiting) (sym captures.out) told.bytes;
        delivered = source_changed finds keeps desk were_opened window.wid f a.sources told.windows told.waiting (λ s. refl) (λ s. (refl, refl)) same_form told.delivered;
      })
    where
      f : SourceSeen → SourceSeen
      f s = source_of s.conn s.wid (captured plan first (window_of s window.pixels None []))

      same_form : (v : Window) (s : SourceSeen) → find_window desk window.wid ≡ Some v → find_source a.sources window.wid ≡ Some s
          → IsKept (delivery v told.windows told.waiting s) → IsKept (delivery v told.windows told.waiting (f s))
      same_form v s left found kept =
          let is : window ≡ v = some_same _ _ (sym there ∙ left) in
          let same : captures.source ≡ s = some_same _ _ (sym captures.found ∙ found) in
          subst (λ (u : Window). IsKept (delivery u told.windows told.waiting (f s))) is
          (form lossy_shows (Some (delivery window told.windows told.waiting s)) (Capture plan first)
          (planned_then s plan window.pixels _ (waits_on s.wide s.high window.wid told.waiting) (numbered_on window.wid a.out.packets)
          (busy_same s.wide s.high window.wid told.waiting told.bytes.carried ∙ ap (λ (ps : List Queued). is_busy (numbered_on window.wid ps)) told.bytes.packets)
          (subst (λ (t : SourceSeen). IsCaptureOf (window_of t window.pixels None (numbered_on window.wid a.out.packets)) plan) same captures.planned))
          (subst (λ (u : Window). IsKept (delivery u told.windows told.waiting s)) (sym is) kept))
