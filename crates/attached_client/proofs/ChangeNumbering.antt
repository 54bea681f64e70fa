-- What a change does to the numbers of jobs and draws.
use Rattle.std.proofs.Common.{◌≡◌, ℕ, false, Some, None, List, [], ◌∷◌, refl, sym, ap, ◌∙◌, subst}
use Rattle.std.specs.Prelude.{Option, nat_eq}
use Rattle.std.specs.List.{AllByRecursion}
use Rattle.xp_base.specs.KeyedLaws.{KeyedFinds}
use Rattle.window_model.specs.Desktop.{Window, fresh_window}
use Rattle.packet_kinds.specs.declared.to_client.ToClient.{ToClient}
use Rattle.packet_kinds.specs.declared.to_client.ToClient.TheVariants as T
use Rattle.client_outbox.specs.declared.draw.Draw.{Draw}
use Rattle.client_outbox.specs.Reliefs.{is_named, draws_in}
use Rattle.window_source.specs.Source.{SourceSeen}
use Rattle.window_source.specs.Waiting.{Queued, Waiting, Carries, IsDraw}
use Rattle.client_delivery.specs.Attached.{find_source}
use Rattle.client_delivery.specs.Delivered.{concerns, packets_of}
use Rattle.client_delivery.specs.Numbered.{AreNumbered}
use Rattle.client_delivery.specs.Numbering.{PaintNumbers, OpenNumbers, CloseNumbers, ResizeNumbers, PutNumbers}
use Rattle.attached_client.specs.declared.change.Change.{Change}
use Rattle.attached_client.specs.declared.change.Change.TheVariants as C
use Rattle.attached_client.specs.Client.{ClientSeen}
use Rattle.attached_client.specs.Changes.{wid_of, ChangesWhere}
use Rattle.attached_client.specs.Desktops.{DeskChanges, NumbersChange}
use Rattle.attached_client.specs.ChangeLaws.{ChangeNumbers}
use Rattle.attached_client.proofs.Marking.{same_test}
use Rattle.attached_client.proofs.Messages.{Writes}
use Rattle.attached_client.proofs.Changing.{number_at}
use Rattle.attached_client.proofs.ChangeSteps.{opens_so, closes_so, moves_so, raises_so, sizes_so}

-- a packet of a message that is not on a window is no draw in it
draws_nowhere : (k : ℕ) (o : Option ℕ) (d : Option Draw) (pixels : List ℕ) (m : ToClient) → IsDraw o d pixels m → concerns k m ≡ false → is_named o k ≡ false
draws_nowhere k None d pixels m is none = refl
draws_nowhere k (Some j) None pixels m is none = absurd is
draws_nowhere k (Some j) (Some d) pixels (T.Draw wid x y w h coding bytes sequence stride) is none = ap (λ (i : ℕ). nat_eq i k) is.0 ∙ same_test wid k ∙ none
draws_nowhere k (Some j) (Some d) pixels (T.Hello caps) is none = absurd is
draws_nowhere k (Some j) (Some d) pixels (T.NewWindow wid x y w h) is none = absurd is
draws_nowhere k (Some j) (Some d) pixels (T.LostWindow wid) is none = absurd is
draws_nowhere k (Some j) (Some d) pixels (T.WindowResized wid w h) is none = absurd is
draws_nowhere k (Some j) (Some d) pixels (T.WindowMoveResize wid x y w h) is none = absurd is
draws_nowhere k (Some j) (Some d) pixels (T.RaiseWindow wid) is none = absurd is
draws_nowhere k (Some j) (Some d) pixels (T.PingEcho t) is none = absurd is
draws_nowhere k (Some j) (Some d) pixels (T.Disconnect reason) is none = absurd is
draws_nowhere k (Some j) (Some d) pixels T.Other is none = absurd is

none_drawn : (k : ℕ) (waiting : List Waiting) → AllByRecursion Carries waiting → AllByRecursion (λ (w : Waiting). concerns k w.message ≡ false) waiting
    → AllByRecursion (λ (p : Queued). draws_in k p ≡ false) (packets_of waiting)
none_drawn k [] carried none = tt
none_drawn k (w ∷ waiting) carried none = (draws_nowhere k w.packet.wid w.packet.draw w.pixels w.message carried.0.draw none.0, none_drawn k waiting carried.1 none.1)

module _ (writes : Writes) (finds : KeyedFinds Window) (paints : PaintNumbers) (opens : OpenNumbers) (closes : CloseNumbers) (puts : PutNumbers) (resizes : ResizeNumbers) where
  pub change_numbers : ChangeNumbers
  change_numbers desk desk' old new change now next c c' sent first desktop changes numbers told becomes numbered = go change (find_source c.seen.sources (wid_of change)) refl changes numbers becomes
    where
      as_before : c' ≡ c → AreNumbered next c'.seen
      as_before is = subst (λ (d : ClientSeen). AreNumbered next d.seen) (sym is) numbered

      go : (change : Change) (o : Option SourceSeen) → find_source c.seen.sources (wid_of change) ≡ o → DeskChanges change desk desk' → NumbersChange change old new → ChangesWhere o change now c c' → AreNumbered next c'.seen
      go (C.Opened g) None found changes numbers is =
          let undrawn = subst (AllByRecursion (λ (p : Queued). draws_in g.wid p ≡ false)) told.bytes.packets (none_drawn g.wid told.waiting told.bytes.carried (told.delivered.absent g.wid numbers.before).1) in
          opens next (fresh_window g.wid g.x g.y g.w g.h) c.conn now c.seen c'.seen first found undrawn (opens_so writes g now c c' changes.geometry is) numbered
      go (C.Opened g) (Some s) found changes numbers is = as_before is
      go (C.Closed j) None found changes numbers is = as_before is
      go (C.Closed j) (Some s) found changes numbers loses = closes next j c.seen c'.seen (closes_so writes j c c' (number_at finds desk j changes.window desktop changes.found) loses) numbered
      go (C.Moved g) None found changes numbers is = as_before is
      go (C.Moved g) (Some s) found changes numbers is = puts next (T.WindowMoveResize g.wid g.x g.y g.w g.h) c.seen c'.seen refl (moves_so writes g c c' changes.geometry is) numbered
      go (C.Raised j) None found changes numbers is = as_before is
      go (C.Raised j) (Some s) found changes numbers is = puts next (T.RaiseWindow j) c.seen c'.seen refl (raises_so writes j c c' (number_at finds desk j changes.window desktop changes.found) is) numbered
      go (C.Damaged j r) None found changes numbers is = as_before is
      go (C.Damaged j r) (Some s) found changes numbers is = subst (λ (d : ClientSeen). AreNumbered next d.seen) (sym is) (paints next j r now c.seen first numbered)
      go (C.Resized g) None found changes numbers is = as_before is
      go (C.Resized g) (Some s) found changes numbers is = resizes next g.wid g.w g.h now c.seen c'.seen first (sizes_so g.wid g.w g.h now c c' is) numbered
