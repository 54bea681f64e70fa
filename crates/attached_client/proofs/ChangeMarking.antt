-- What a change does to the windows' marks.
use Rattle.std.proofs.Common.{◌≡◌, ℕ, Bool, true, false, Some, None, [], ◌∷◌, ◌++◌, cond, eqb, refl, sym, ap, ◌∙◌}
use Rattle.std.specs.Prelude.{Option, is_some, option_map}
use Rattle.std.proofs.lemmas.Bool.{eqb-true}
use Rattle.xp_base.specs.Points.{Rectangle}
use Rattle.xp_base.specs.Keyed.{keyed_remove}
use Rattle.xp_base.specs.KeyedLaws.{KeyedFinds}
use Rattle.window_model.specs.Geometry.{Geometry}
use Rattle.delivery_model.specs.Events.{damaged, resized}
use Rattle.window_source.specs.Source.{SourceSeen, begun, after}
use Rattle.client_delivery.specs.Attached.{source_key, find_source}
use Rattle.attached_client.specs.declared.change.Change.{Change}
use Rattle.attached_client.specs.declared.change.Change.TheVariants as C
use Rattle.attached_client.specs.Client.{ClientSeen}
use Rattle.attached_client.specs.Changes.{wid_of, ChangesWhere, Sizes, damaged_in}
use Rattle.attached_client.specs.Laws.{mark_in, mark_on}
use Rattle.attached_client.specs.ChangeLaws.{begun_mark, changed_mark, ChangeMarks}

-- where nothing changes: a window that is opened was there, or one that goes was not
opened_there : (b : Bool) (mark : Option Bool) (was : Bool) → (b ≡ true → mark ≡ Some was) → mark ≡ cond b (begun_mark mark) mark
opened_there true mark was there = there refl ∙ ap begun_mark (sym (there refl))
opened_there false mark was there = refl

closed_nowhere : (b : Bool) (mark : Option Bool) → (b ≡ true → mark ≡ None) → mark ≡ cond b None mark
closed_nowhere true mark none = none refl
closed_nowhere false mark none = refl

module _ (finds : KeyedFinds SourceSeen) (c : ClientSeen) (k : ℕ) where
  -- the mark of the window that the change is on
  mark_at : (j : ℕ) (o : Option SourceSeen) → find_source c.seen.sources j ≡ o → eqb k j ≡ true → mark_on k c ≡ mark_in o
  mark_at j o found same = ap (λ (i : ℕ). mark_on i c) (eqb-true k j same) ∙ ap mark_in found

  opens : (g : Geometry) (now : ℕ) → find_source c.seen.sources g.wid ≡ None → mark_in (find_source (c.seen.sources ++ begun c.conn g.wid g.w g.h now ∷ []) k) ≡ changed_mark (C.Opened g) k (mark_on k c)
  opens g now none = ap mark_in (finds.pushed source_key c.seen.sources (begun c.conn g.wid g.w g.h now) k (ap is_some none)) ∙ go (eqb k g.wid) refl
    where
      go : (b : Bool) → eqb k g.wid ≡ b → mark_in (cond b (Some (begun c.conn g.wid g.w g.h now)) (find_source c.seen.sources k)) ≡ cond b (begun_mark (mark_on k c)) (mark_on k c)
      go true same = ap begun_mark (sym (mark_at g.wid None none same))
      go false same = refl

  closes : (j : ℕ) → mark_in (find_source (keyed_remove source_key c.seen.sources j) k) ≡ cond (eqb k j) None (mark_on k c)
  closes j = ap mark_in (finds.removed source_key c.seen.sources j k) ∙ go (eqb k j)
    where
      go : (b : Bool) → mark_in (cond b None (find_source c.seen.sources k)) ≡ cond b None (mark_on k c)
      go true = refl
      go false = refl

  damages : (j : ℕ) (r : Rectangle) (now : ℕ) → mark_on k (damaged_in j r now c) ≡ mark_on k c
  damages j r now = ap mark_in (finds.changed source_key c.seen.sources j (after (damaged r now)) k (λ s. refl)) ∙ go (eqb k j) (find_source c.seen.sources k)
    where
      go : (b : Bool) (o : Option SourceSeen) → mark_in (cond b (option_map (after (damaged r now)) o) o) ≡ mark_in o
      go true None = refl
      go true (Some s) = refl
      go false o = refl

  sizes : (j w h now : ℕ) (c' : ClientSeen) → Sizes j w h now c c' → mark_on k c' ≡ mark_on k c
  sizes j w h now c' is = ap (mark_on k) is.client ∙ ap mark_in (finds.changed source_key c.seen.sources j (after (resized w h now)) k (λ s. refl)) ∙ go (eqb k j) (find_source c.seen.sources k)
    where
      go : (b : Bool) (o : Option SourceSeen) → mark_in (cond b (option_map (after (resized w h now)) o) o) ≡ mark_in o
      go true None = refl
      go true (Some s) = refl
      go false o = refl

module _ (finds : KeyedFinds SourceSeen) where
  pub change_marks : ChangeMarks
  change_marks change now c c' k becomes = go change (find_source c.seen.sources (wid_of change)) refl becomes
    where
      go : (change : Change) (o : Option SourceSeen) → find_source c.seen.sources (wid_of change) ≡ o → ChangesWhere o change now c c' → mark_on k c' ≡ changed_mark change k (mark_on k c)
      go (C.Opened g) None found is = ap (mark_on k) is ∙ opens finds c k g now found
      go (C.Closed j) None found is = ap (mark_on k) is ∙ closed_nowhere (eqb k j) (mark_on k c) (λ same. mark_at finds c k j None found same)
      go (C.Moved g) None found is = ap (mark_on k) is
      go (C.Raised j) None found is = ap (mark_on k) is
      go (C.Damaged j r) None found is = ap (mark_on k) is
      go (C.Resized g) None found is = ap (mark_on k) is
      go (C.Opened g) (Some s) found is = ap (mark_on k) is ∙ opened_there (eqb k g.wid) (mark_on k c) s.mapped (λ same. mark_at finds c k g.wid (Some s) found same)
      go (C.Closed j) (Some s) found loses = ap (mark_on k) loses.client ∙ closes finds c k j
      go (C.Moved g) (Some s) found is = ap (mark_on k) is
      go (C.Raised j) (Some s) found is = ap (mark_on k) is
      go (C.Damaged j r) (Some s) found is = ap (mark_on k) is ∙ damages finds c k j r now
      go (C.Resized g) (Some s) found is = sizes finds c k g.wid g.w g.h now c' is
