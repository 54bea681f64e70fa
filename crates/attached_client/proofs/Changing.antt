-- A client's change beside the desktop's.
use Rattle.std.proofs.Common.{◌≡◌, ℕ, ◌<◌, ◌^◌, ◌*◌, lit<, Bool, true, false, Some, None, List, [], ◌∷◌, cond, eqb, refl, sym, ap, ◌∙◌, subst, arith}
use Rattle.std.specs.Prelude.{Option, All, is_some}
use Rattle.std.proofs.lemmas.List.{length-replicate}
use Rattle.std.proofs.lemmas.List.Elements.{All-head, All-tail, All-replicate}
use Rattle.xp_base.specs.Points.{Rectangle, LiesIn}
use Rattle.xp_base.specs.KeyedLaws.{KeyedFinds}
use Rattle.delivery_model.specs.Events.{damaged}
use Rattle.window_model.specs.Drawing.{blank}
use Rattle.window_model.specs.Desktop.{Window, IsWindow, IsDesktop, find_window, fresh_window, changed_window, opened, without_window, raised, moved_on, resized_on}
use Rattle.window_model.specs.Geometry.{Geometry, IsGeometry}
use Rattle.packet_kinds.specs.declared.to_client.ToClient.{ToClient}
use Rattle.packet_kinds.specs.declared.to_client.ToClient.TheVariants as T
use Rattle.packet_kinds.specs.Fields.{IsNumber}
use Rattle.window_source.specs.Source.{SourceSeen}
use Rattle.client_delivery.specs.Attached.{AttachedSeen, find_source}
use Rattle.client_delivery.specs.Delivered.{IsTold, AreOfOneSize}
use Rattle.client_delivery.specs.Keeping.{IsPainted, PaintKeeps, OpenKeeps, CloseKeeps, MoveKeeps, RaiseKeeps, ResizeKeeps}
use Rattle.client_delivery.specs.Steps.{changes_source, Resizes, PutsAlone}
use Rattle.attached_client.specs.declared.change.Change.{Change}
use Rattle.attached_client.specs.declared.change.Change.TheVariants as C
use Rattle.attached_client.specs.Client.{ClientSeen}
use Rattle.attached_client.specs.Changes.{wid_of, ChangesWhere, Loses, Sizes, lost_packet}
use Rattle.attached_client.specs.Desktops.{DeskChanges, NumbersChange, SameNumbers}
use Rattle.attached_client.specs.ChangeLaws.{ChangeKeeps, ChangeFits, ChangeStays, SameClient}
use Rattle.attached_client.proofs.Messages.{Writes}
use Rattle.attached_client.proofs.ChangeSteps.{opens_so, closes_so, moves_so, raises_so, sizes_so}

-- ---- a client has a source where the desktop has a window

pub is_there : (window : Window) (o : Option SourceSeen) → AreOfOneSize (Some window) o → o ≡ None → ⊥
is_there window None same none = same
is_there window (Some s) same none = cc none

pub is_missing : (o : Option SourceSeen) (s : SourceSeen) → AreOfOneSize None o → o ≡ Some s → ⊥
is_missing None s same some = cc some
is_missing (Some t) s same some = same

pub no_window : (o : Option Window) → is_some o ≡ false → o ≡ None
no_window None none = refl
no_window (Some w) none = absurd (cc none)

module _ (desk : List Window) (old : ℕ → Bool) (a : AttachedSeen) (sent : List ℕ) (told : IsTold desk old a sent) (k : ℕ) where
  pub source_there : (window : Window) → find_window desk k ≡ Some window → find_source a.sources k ≡ None → ⊥
  source_there window found none = is_there window (find_source a.sources k) (subst (λ (o : Option Window). AreOfOneSize o (find_source a.sources k)) found (told.delivered.sized k)) none

  pub source_missing : (s : SourceSeen) → find_window desk k ≡ None → find_source a.sources k ≡ Some s → ⊥
  source_missing s none some = is_missing (find_source a.sources k) s (subst (λ (o : Option Window). AreOfOneSize o (find_source a.sources k)) none (told.delivered.sized k)) some

-- ---- windows

-- a window that is found is one of the desktop's
pub found_is : (desk : List Window) (k : ℕ) (window : Window) → All IsWindow desk → find_window desk k ≡ Some window → IsWindow window
found_is [] k window all found = absurd (cc found)
found_is (w ∷ desk) k window all found = go (eqb w.wid k) found (λ below. found_is desk k window (All-tail IsWindow w desk all) below)
  where
    go : (b : Bool) → cond b (Some w) (find_window desk k) ≡ Some window → (find_window desk k ≡ Some window → IsWindow window) → IsWindow window
    go true found later = let same : w ≡ window = cc found in subst IsWindow same (All-head IsWindow w desk all)
    go false found later = later found

pub number_of : (window : Window) → IsWindow window → IsNumber window.wid
number_of window is = record { first = is.first; last = omega (arith, is.last) }

pub number_at : (finds : KeyedFinds Window) (desk : List Window) (k : ℕ) (window : Window) → IsDesktop desk → find_window desk k ≡ Some window → IsNumber k
number_at finds desk k window desktop found = subst IsNumber (finds.found (λ (w : Window). w.wid) desk k window found) (number_of window (found_is desk k window desktop.windows found))

pub fresh_is : (g : Geometry) → IsGeometry g → IsWindow (fresh_window g.wid g.x g.y g.w g.h)
unfolding blank
fresh_is g is = record {
  first = is.first;
  last = is.last;
  across = is.across;
  down = is.down;
  wide = is.wide;
  high = is.high;
  sized = length-replicate (g.w * g.h) 0;
  coloured = All-replicate (λ n. n < 2 ^ 24) (g.w * g.h) 0 (lit< tt);
}

-- ---- the numbers opened so far, told in another way

pub told_alike : (desk : List Window) (old new : ℕ → Bool) (a : AttachedSeen) (sent : List ℕ) → SameNumbers old new → IsTold desk old a sent → IsTold desk new a sent
told_alike desk old new a sent same told = record {
  windows = told.windows;
  waiting = told.waiting;
  bytes = told.bytes;
  delivered = let d = told.delivered in record {
    laid = d.laid;
    distinct = d.distinct;
    sized = d.sized;
    kept = d.kept;
    lies = d.lies;
    absent = λ k none. d.absent k (sym (same k) ∙ none);
    begun = λ k there. same k ∙ d.begun k there;
    stays = d.stays;
  };
}

module _ (writes : Writes) (finds : KeyedFinds Window) (paints : PaintKeeps) (opens : OpenKeeps) (closes : CloseKeeps) (moves : MoveKeeps) (raises : RaiseKeeps) (resizes : ResizeKeeps) where
  named : (desk : List Window) (k : ℕ) (window : Window) → find_window desk k ≡ Some window → window.wid ≡ k
  named desk k window found = finds.found (λ (w : Window). w.wid) desk k window found

  opening : (g : Geometry) (desk : List Window) (old new : ℕ → Bool) (now : ℕ) (c c' : ClientSeen) (sent : List ℕ) → IsWindow (fresh_window g.wid g.x g.y g.w g.h) → IsGeometry g
      → NumbersChange (C.Opened g) old new → ChangesWhere None (C.Opened g) now c c' → IsTold desk old c.seen sent → IsTold (opened desk g.wid g.x g.y g.w g.h) new c'.seen sent
  opening g desk old new now c c' sent window is numbers becomes told = opens desk old new g.wid g.x g.y g.w g.h c.conn now c.seen c'.seen sent window numbers (opens_so writes g now c c' is becomes) told

  closing : (k : ℕ) (desk : List Window) (window : Window) (old : ℕ → Bool) (c c' : ClientSeen) (sent : List ℕ) → IsDesktop desk → find_window desk k ≡ Some window
      → Loses k (lost_packet k) c c' → IsTold desk old c.seen sent → IsTold (without_window desk k) old c'.seen sent
  closing k desk window old c c' sent desktop found loses told =
      subst (λ (j : ℕ). find_window desk j ≡ Some window → Loses j (lost_packet j) c c' → IsTold (without_window desk j) old c'.seen sent) (named desk k window found)
      (λ found loses. closes desk old window c.seen c'.seen sent desktop found (closes_so writes window.wid c c' (number_at finds desk window.wid window desktop found) loses) told) found loses

  moving : (g : Geometry) (desk : List Window) (window : Window) (old : ℕ → Bool) (now : ℕ) (c c' : ClientSeen) (sent : List ℕ) → IsDesktop desk → IsGeometry g → find_window desk g.wid ≡ Some window
      → g.w ≡ window.w → g.h ≡ window.h → (s : SourceSeen) → ChangesWhere (Some s) (C.Moved g) now c c' → IsTold desk old c.seen sent → IsTold (moved_on desk g.wid g.x g.y) old c'.seen sent
  moving g desk window old now c c' sent desktop is found wide high s becomes told =
      subst (λ (j : ℕ). IsTold (moved_on desk j g.x g.y) old c'.seen sent) same
      (moves desk old window g.x g.y c.seen c'.seen sent desktop (subst (λ (j : ℕ). find_window desk j ≡ Some window) (sym same) found)
      (subst (λ (m : ToClient). PutsAlone m c.seen c'.seen) message (moves_so writes g c c' is becomes)) told)
    where
      same : window.wid ≡ g.wid
      same = named desk g.wid window found

      message : T.WindowMoveResize g.wid g.x g.y g.w g.h ≡ T.WindowMoveResize window.wid g.x g.y window.w window.h
      message = ap (λ (j : ℕ). T.WindowMoveResize j g.x g.y g.w g.h) (sym same) ∙ ap (λ (w : ℕ). T.WindowMoveResize window.wid g.x g.y w g.h) wide ∙ ap (λ (h : ℕ). T.WindowMoveResize window.wid g.x g.y window.w h) high

  raising : (k : ℕ) (desk : List Window) (window : Window) (old : ℕ → Bool) (now : ℕ) (c c' : ClientSeen) (sent : List ℕ) → IsDesktop desk → find_window desk k ≡ Some window
      → (s : SourceSeen) → ChangesWhere (Some s) (C.Raised k) now c c' → IsTold desk old c.seen sent → IsTold (raised desk k) old c'.seen sent
  raising k desk window old now c c' sent desktop found s becomes told =
      subst (λ (j : ℕ). find_window desk j ≡ Some window → ChangesWhere (Some s) (C.Raised j) now c c' → IsTold (raised desk j) old c'.seen sent) (named desk k window found)
      (λ found becomes. raises desk old window c.seen c'.seen sent desktop found (raises_so writes window.wid c c' (number_at finds desk window.wid window desktop found) becomes) told) found becomes

  painting : (k : ℕ) (r : Rectangle) (desk : List Window) (window window' : Window) (old : ℕ → Bool) (now : ℕ) (c c' : ClientSeen) (sent : List ℕ) → IsDesktop desk → find_window desk k ≡ Some window
      → IsPainted r window window' → (s : SourceSeen) → ChangesWhere (Some s) (C.Damaged k r) now c c' → IsTold desk old c.seen sent → IsTold (changed_window desk k (λ w. window')) old c'.seen sent
  painting k r desk window window' old now c c' sent desktop found painted s becomes told =
      subst (λ (d : ClientSeen). IsTold (changed_window desk k (λ w. window')) old d.seen sent) (sym becomes)
      (subst (λ (j : ℕ). find_window desk j ≡ Some window → IsTold (changed_window desk j (λ w. window')) old (changes_source j (damaged r now) c.seen) sent) (named desk k window found)
      (λ found. paints desk old r window window' now c.seen sent desktop found painted told) found)

  resizing : (g : Geometry) (desk : List Window) (window : Window) (old : ℕ → Bool) (now : ℕ) (c c' : ClientSeen) (sent : List ℕ) → IsDesktop desk → IsGeometry g → find_window desk g.wid ≡ Some window
      → Sizes g.wid g.w g.h now c c' → IsTold desk old c.seen sent → IsTold (resized_on desk g.wid g.w g.h) old c'.seen sent
  resizing g desk window old now c c' sent desktop is found sizes told =
      subst (λ (j : ℕ). find_window desk j ≡ Some window → Resizes j g.w g.h now c.seen c'.seen → IsTold (resized_on desk j g.w g.h) old c'.seen sent) (named desk g.wid window found)
      (λ found becomes. resizes desk old window g.w g.h now c.seen c'.seen sent desktop found is.wide.some is.wide.most is.high.some is.high.most becomes told) found (sizes_so g.wid g.w g.h now c c' sizes)

  pub change_keeps : ChangeKeeps
  change_keeps desk desk' old new change now c c' sent desktop changes numbers becomes told = go change (find_source c.seen.sources (wid_of change)) refl changes numbers becomes
    where
      at : List Window → Type 0
      at d = IsTold d new c'.seen sent

      go : (change : Change) (o : Option SourceSeen) → find_source c.seen.sources (wid_of change) ≡ o → DeskChanges change desk desk' → NumbersChange change old new → ChangesWhere o change now c c' → IsTold desk' new c'.seen sent
      go (C.Opened g) None have changes numbers becomes = subst at (sym changes.is) (opening g desk old new now c c' sent (fresh_is g changes.geometry) changes.geometry numbers becomes told)
      go (C.Opened g) (Some s) have changes numbers becomes = absurd (source_missing desk old c.seen sent told g.wid s (no_window (find_window desk g.wid) changes.new) have)
      go (C.Closed k) None have changes numbers becomes = absurd (source_there desk old c.seen sent told k changes.window changes.found have)
      go (C.Closed k) (Some s) have changes numbers becomes = subst at (sym changes.is) (told_alike _ old new c'.seen sent numbers (closing k desk changes.window old c c' sent desktop changes.found becomes told))
      go (C.Moved g) None have changes numbers becomes = absurd (source_there desk old c.seen sent told g.wid changes.window changes.found have)
      go (C.Moved g) (Some s) have changes numbers becomes = subst at (sym changes.is) (told_alike _ old new c'.seen sent numbers (moving g desk changes.window old now c c' sent desktop changes.geometry changes.found changes.wide changes.high s becomes told))
      go (C.Raised k) None have changes numbers becomes = absurd (source_there desk old c.seen sent told k changes.window changes.found have)
      go (C.Raised k) (Some s) have changes numbers becomes = subst at (sym changes.is) (told_alike _ old new c'.seen sent numbers (raising k desk changes.window old now c c' sent desktop changes.found s becomes told))
      go (C.Damaged k r) None have changes numbers becomes = absurd (source_there desk old c.seen sent told k changes.window changes.found have)
      go (C.Damaged k r) (Some s) have changes numbers becomes = subst at (sym changes.is) (told_alike _ old new c'.seen sent numbers (painting k r desk changes.window changes.window' old now c c' sent desktop changes.found changes.painted s becomes told))
      go (C.Resized g) None have changes numbers becomes = absurd (source_there desk old c.seen sent told g.wid changes.window changes.found have)
      go (C.Resized g) (Some s) have changes numbers becomes = subst at (sym changes.is) (told_alike _ old new c'.seen sent numbers (resizing g desk changes.window old now c c' sent desktop changes.geometry changes.found becomes told))

-- a rectangle lies in the source's window
lies_in : (window : Window) (s : SourceSeen) (r : Rectangle) → AreOfOneSize (Some window) (Some s) → LiesIn window.w window.h r → LiesIn s.wide s.high r
lies_in window s r same lies = subst (λ (w : ℕ). LiesIn w s.high r) (sym same.0) (subst (λ (h : ℕ). LiesIn window.w h r) (sym same.1) lies)

pub change_fits : ChangeFits
change_fits desk desk' old (C.Opened g) c sent changes told = λ s found. tt
change_fits desk desk' old (C.Closed k) c sent changes told = λ s found. tt
change_fits desk desk' old (C.Moved g) c sent changes told = λ s found. tt
change_fits desk desk' old (C.Raised k) c sent changes told = λ s found. tt
change_fits desk desk' old (C.Resized g) c sent changes told = λ s found. tt
change_fits desk desk' old (C.Damaged k r) c sent changes told = λ s found.
    lies_in changes.window s r (subst (λ (o : Option SourceSeen). AreOfOneSize (Some changes.window) o) found (subst (λ (o : Option Window). AreOfOneSize o (find_source c.seen.sources k)) changes.found (told.delivered.sized k))) changes.lies

same_client : (c c' : ClientSeen) (seen : AttachedSeen) → c' ≡ record c { seen = seen } → SameClient c c'
same_client c c' seen is = record { conn = ap (λ (d : ClientSeen). d.conn) is; caps = ap (λ (d : ClientSeen). d.caps) is }

pub change_stays : ChangeStays
change_stays change now c c' becomes = go change (find_source c.seen.sources (wid_of change)) becomes
  where
    go : (change : Change) (o : Option SourceSeen) → ChangesWhere o change now c c' → SameClient c c'
    go (C.Opened g) None is = same_client c c' _ is
    go (C.Closed k) None is = same_client c c' c.seen is
    go (C.Moved g) None is = same_client c c' c.seen is
    go (C.Raised k) None is = same_client c c' c.seen is
    go (C.Damaged k r) None is = same_client c c' c.seen is
    go (C.Resized g) None is = same_client c c' c.seen is
    go (C.Opened g) (Some s) is = same_client c c' c.seen is
    go (C.Closed k) (Some s) loses = same_client c c' _ loses.client
    go (C.Moved g) (Some s) is = same_client c c' _ is
    go (C.Raised k) (Some s) is = same_client c c' _ is
    go (C.Damaged k r) (Some s) is = same_client c c' _ is
    go (C.Resized g) (Some s) sizes = same_client c c' _ sizes.client
