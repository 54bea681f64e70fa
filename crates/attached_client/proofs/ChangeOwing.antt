-- What a change makes owed.
use Rattle.std.proofs.Common.{◌≡◌, ℕ, Some, None, refl, ap, ◌∙◌}
use Rattle.std.specs.Prelude.{Option}
use Rattle.xp_base.specs.KeyedLaws.{KeyedFinds}
use Rattle.window_model.specs.Desktop.{Window, find_window}
use Rattle.packet_kinds.specs.declared.to_client.ToClient.TheVariants as T
use Rattle.window_source.specs.Source.{SourceSeen}
use Rattle.client_delivery.specs.Attached.{find_source}
use Rattle.client_delivery.specs.Owed.{owes}
use Rattle.client_delivery.specs.Owing.{PaintOwes, OpenOwes, CloseOwes, ResizeOwes, PutOwes}
use Rattle.attached_client.specs.declared.change.Change.{Change}
use Rattle.attached_client.specs.declared.change.Change.TheVariants as C
use Rattle.attached_client.specs.Client.{ClientSeen}
use Rattle.attached_client.specs.Changes.{wid_of, ChangesWhere}
use Rattle.attached_client.specs.Desktops.{DeskChanges}
use Rattle.attached_client.specs.ChangeLaws.{ChangeOwes, changed_owed}
use Rattle.attached_client.proofs.Messages.{Writes}
use Rattle.attached_client.proofs.ChangeSteps.{opens_so, closes_so, moves_so, raises_so, sizes_so}
use Rattle.attached_client.proofs.Changing.{source_there, source_missing, no_window, number_at}

module _ (writes : Writes) (finds : KeyedFinds Window) (paints : PaintOwes) (opens : OpenOwes) (closes : CloseOwes) (puts : PutOwes) (resizes : ResizeOwes) where
  pub change_owes : ChangeOwes
  change_owes desk desk' old change now c c' sent k x y desktop changes told becomes = go change (find_source c.seen.sources (wid_of change)) refl changes becomes
    where
      there : (j : ℕ) (window : Window) → find_window desk j ≡ Some window → find_source c.seen.sources j ≡ None → ⊥
      there j window found none = source_there desk old c.seen sent told j window found none

      as_before : (c' : ClientSeen) → c' ≡ c → owes c'.seen k x y ≡ owes c.seen k x y
      as_before c' is = ap (λ (d : ClientSeen). owes d.seen k x y) is

      go : (change : Change) (o : Option SourceSeen) → find_source c.seen.sources (wid_of change) ≡ o → DeskChanges change desk desk' → ChangesWhere o change now c c' → owes c'.seen k x y ≡ changed_owed change c.seen k x y
      go (C.Opened g) None found changes is = opens g.wid g.x g.y g.w g.h c.conn now c.seen c'.seen k x y found (opens_so writes g now c c' changes.geometry is)
      go (C.Opened g) (Some s) found changes is = absurd (source_missing desk old c.seen sent told g.wid s (no_window (find_window desk g.wid) changes.new) found)
      go (C.Closed j) None found changes is = absurd (there j changes.window changes.found found)
      go (C.Closed j) (Some s) found changes loses = closes j c.seen c'.seen k x y (closes_so writes j c c' (number_at finds desk j changes.window desktop changes.found) loses)
      go (C.Moved g) None found changes is = absurd (there g.wid changes.window changes.found found)
      go (C.Moved g) (Some s) found changes is = puts (T.WindowMoveResize g.wid g.x g.y g.w g.h) c.seen c'.seen k x y refl (moves_so writes g c c' changes.geometry is)
      go (C.Raised j) None found changes is = absurd (there j changes.window changes.found found)
      go (C.Raised j) (Some s) found changes is = puts (T.RaiseWindow j) c.seen c'.seen k x y refl (raises_so writes j c c' (number_at finds desk j changes.window desktop changes.found) is)
      go (C.Damaged j r) None found changes is = absurd (there j changes.window changes.found found)
      go (C.Damaged j r) (Some s) found changes is = ap (λ (d : ClientSeen). owes d.seen k x y) is ∙ paints j r now c.seen k x y
      go (C.Resized g) None found changes is = absurd (there g.wid changes.window changes.found found)
      go (C.Resized g) (Some s) found changes is = resizes g.wid g.w g.h now c.seen c'.seen s k x y found (sizes_so g.wid g.w g.h now c c' is)
