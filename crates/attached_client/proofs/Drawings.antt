-- Captures, results, and jobs given back.
use Rattle.std.proofs.Common.{◌≡◌, ℕ, Bool, true, false, Some, None, List, [], ◌∷◌, cond, eqb, ◌||◌, ◌&&◌, refl, sym, ap, ◌∙◌, subst}
use Rattle.std.specs.Prelude.{Option, is_some}
use Rattle.std.specs.Option.{option_map}
use Rattle.std.proofs.lemmas.Bool.{eqb-true}
use Rattle.xp_base.specs.Captures.{Captured}
use Rattle.xp_base.specs.Keyed.{keyed_change, keyed_replace}
use Rattle.xp_base.specs.KeyedLaws.{KeyedFinds}
use Rattle.delivery_model.specs.Grids.{Grid}
use Rattle.delivery_model.specs.Window.{Window as Delivery, Job}
use Rattle.delivery_model.specs.Events.{Planned, Filing as How, Late, Foreign, Filed, captured, queued, queue_ready, capture_of, with_result, filing_of, filed_as, filed}
use Rattle.window_model.specs.Desktop.{Window}
use Rattle.window_source.specs.Source.{SourceSeen, window_of, source_of, after}
use Rattle.client_delivery.specs.Attached.{AttachedSeen, source_key, find_source}
use Rattle.client_delivery.specs.Delivered.{IsTold}
use Rattle.client_delivery.specs.Keeping.{QuietKeeps, CaptureKeeps, FileKeeps}
use Rattle.client_delivery.specs.Owed.{owes}
use Rattle.client_delivery.specs.Owing.{QuietOwes, CaptureOwes, FileOwes}
use Rattle.client_delivery.specs.Steps.{GivingBack, quiet, Captures, Files}
use Rattle.attached_client.specs.Client.{ClientSeen}
use Rattle.attached_client.specs.Laws.{mark_in, mark_on}
use Rattle.attached_client.specs.Drawing.{Drawing, Capturing, Filing, Recalling, DrawsSo, DrawingKeeps, DrawingMarks, DrawingOwes}

-- ---- marks

queued_ready : (now : ℕ) (jobs : List Job) (w : Delivery) → (queue_ready now jobs w).mapped ≡ w.mapped
queued_ready now [] w = refl
queued_ready now (j ∷ jobs) w = go j.encoded (queued_ready now jobs (queued now j w))
  where
    go : (b : Bool) → (queue_ready now jobs (queued now j w)).mapped ≡ w.mapped → (cond b (queue_ready now jobs (queued now j w)) (record w { jobs = j ∷ jobs })).mapped ≡ w.mapped
    go true later = later
    go false later = refl

filed_mark : (k : ℕ) (capture : Captured) (now : ℕ) (w : Delivery) → (filed k capture now w).mapped ≡ w.mapped
filed_mark k capture now w = go (filing_of (capture_of w.jobs k) capture)
  where
    go : (how : How) → (filed_as how k now w).mapped ≡ w.mapped
    go Late = refl
    go Foreign = refl
    go Filed = queued_ready now (with_result w.jobs k) w

module _ (finds : KeyedFinds SourceSeen) (a : AttachedSeen) where
  -- the source of one window is another, of that window, with the same mark
  same_mark : (j : ℕ) (change : SourceSeen → SourceSeen) → ((s : SourceSeen) → (change s).wid ≡ s.wid) → ((s : SourceSeen) → (change s).mapped ≡ s.mapped)
      → (k : ℕ) → mark_in (find_source (keyed_change source_key a.sources j change) k) ≡ mark_in (find_source a.sources k)
  same_mark j change wid marks k = ap mark_in (finds.changed source_key a.sources j change k wid) ∙ go (eqb k j) (find_source a.sources k)
    where
      go : (b : Bool) (o : Option SourceSeen) → mark_in (cond b (option_map change o) o) ≡ mark_in o
      go true None = refl
      go true (Some s) = ap (λ (m : Bool). Some m) (marks s)
      go false o = refl

  replaced_mark : (j : ℕ) (s s' : SourceSeen) → find_source a.sources j ≡ Some s → s'.wid ≡ s.wid → s'.mapped ≡ s.mapped
      → (k : ℕ) → mark_in (find_source (keyed_change source_key a.sources j (λ t. s')) k) ≡ mark_in (find_source a.sources k)
  replaced_mark j s s' found wid mark k =
      ap (λ (i : ℕ). mark_in (find_source (keyed_change source_key a.sources i (λ t. s')) k)) (sym here)
      ∙ ap mark_in (finds.replaced source_key a.sources s' k (ap (λ (i : ℕ). is_some (find_source a.sources i)) here ∙ ap is_some found)) ∙ go (eqb k s'.wid) refl
    where
      here : s'.wid ≡ j
      here = wid ∙ finds.found source_key a.sources j s found

      go : (b : Bool) → eqb k s'.wid ≡ b → mark_in (cond b (Some s') (find_source a.sources k)) ≡ mark_in (find_source a.sources k)
      go true same = ap (λ (m : Bool). Some m) mark ∙ sym (ap (λ (i : ℕ). mark_in (find_source a.sources i)) (eqb-true k s'.wid same ∙ here) ∙ ap mark_in found)
      go false same = refl

  files_mark : (j number : ℕ) (capture : Captured) (now : ℕ) (a' : AttachedSeen) → Files j number capture now a a' → (k : ℕ) → mark_in (find_source a'.sources k) ≡ mark_in (find_source a.sources k)
  files_mark j number capture now a' files k =
      ap (λ (sources : List SourceSeen). mark_in (find_source sources k)) files.sources ∙ replaced_mark j files.source files.source' files.found files.wid_stays mark k
    where
      mark : files.source'.mapped ≡ files.source.mapped
      mark = ap (λ (w : Delivery). w.mapped) (files.event [] None []) ∙ filed_mark number capture now (window_of files.source [] None [])

pub drawing_marks : KeyedFinds SourceSeen → DrawingMarks
drawing_marks finds desk now drawing c c' k draws = go drawing draws.draws
  where
    go : (d : Drawing) → DrawsSo desk now d c.seen c'.seen → mark_on k c' ≡ mark_on k c
    go (Capturing window plan first) is = ap (λ (sources : List SourceSeen). mark_in (find_source sources k)) is.1.sources
        ∙ same_mark finds c.seen window.wid (λ s. source_of s.conn s.wid (captured plan first (window_of s window.pixels None []))) (λ s. refl) (λ s. refl) k
    go (Filing j number capture) is = files_mark finds c.seen j number capture now c'.seen is k
    go (Recalling j) is = ap (λ (a : AttachedSeen). mark_in (find_source a.sources k)) is ∙ same_mark finds c.seen j (after (quiet (GivingBack now))) (λ s. refl) (λ s. refl) k

-- ---- what is told, and owed

pub drawing_keeps : QuietKeeps → CaptureKeeps → FileKeeps → DrawingKeeps
drawing_keeps quiets captures files desk were_opened now drawing c c' sent draws told = go drawing draws.draws
  where
    go : (d : Drawing) → DrawsSo desk now d c.seen c'.seen → IsTold desk were_opened c'.seen sent
    go (Capturing window plan first) is = captures desk were_opened window plan first c.seen c'.seen sent is.0 is.1 told
    go (Filing k number capture) is = files desk were_opened k number capture now c.seen c'.seen sent is told
    go (Recalling k) is = subst (λ (a : AttachedSeen). IsTold desk were_opened a sent) (sym is) (quiets desk were_opened k (GivingBack now) c.seen sent told)

nothing_more : (b here : Bool) → (b || (here && false)) ≡ b
nothing_more true here = refl
nothing_more false true = refl
nothing_more false false = refl

pub drawing_owes : QuietOwes → CaptureOwes → FileOwes → DrawingOwes
drawing_owes quiets captures files desk were_opened now drawing c c' sent k x y draws told = go drawing draws.draws
  where
    go : (d : Drawing) → DrawsSo desk now d c.seen c'.seen → owes c'.seen k x y ≡ owes c.seen k x y
    go (Capturing window plan first) is = captures desk were_opened window plan first c.seen c'.seen sent k x y is.0 is.1 told
    go (Filing j number capture) is = files desk were_opened j number capture now c.seen c'.seen sent k x y is told
    go (Recalling j) is = ap (λ (a : AttachedSeen). owes a k x y) is ∙ quiets j (GivingBack now) c.seen k x y ∙ nothing_more (owes c.seen k x y) (eqb k j)
