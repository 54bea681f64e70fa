-- The sources of other windows stay, and what becomes of the window's own.
use Rattle.std.proofs.Common.{◌≡◌, ℕ, Bool, Some, None, List, [], ◌∷◌, cond, eqb, refl, ap, ◌∙◌}
use Rattle.std.specs.Prelude.{Option}
use Rattle.std.specs.Option.{option_map}
use Rattle.std.proofs.lemmas.Bool.{eq-eqb, eqb-true, false_from_ne_true}
use Rattle.xp_base.specs.KeyedLaws.{KeyedFinds}
use Rattle.window_model.specs.Desktop.{Window}
use Rattle.capture_jobs.specs.Jobs.{FinishedJob}
use Rattle.capture_jobs.specs.declared.answers.Filed.{Filed}
use Rattle.capture_jobs.specs.declared.answers.Filed.TheVariants as F
use Rattle.window_source.specs.declared.capturing.Mode.{Mode}
use Rattle.window_source.specs.declared.capturing.Caught.{Caught}
use Rattle.window_source.specs.declared.capturing.Caught.TheVariants as C
use Rattle.window_source.specs.Source.{SourceSeen, after}
use Rattle.window_source.specs.Capturing.{CaptureGives}
use Rattle.window_source.specs.Drawn.{FileGives}
use Rattle.rect_regions.specs.PointSets.{has}
use Rattle.client_outbox.specs.Outgoing.{Outgoing}
use Rattle.xp_base.specs.Points.{Rectangle}
use Rattle.client_delivery.specs.Attached.{source_key, find_source}
use Rattle.client_delivery.specs.Steps.{GivingBack, quiet}
use Rattle.attached_client.specs.Client.{ClientSeen}
use Rattle.attached_client.specs.Capturing.{CapturesWhere, ClientCaptures, FilesWhere, ClientFiles, recalled}
use Rattle.last_draws.specs.DrawnThrough.{OthersStay}
use Rattle.last_draws.specs.Filing.{Call, FilesBy as FilesInTurn}
use Rattle.last_draws.proofs.Refused.{with_others}

pub captured_wid : (lossy : Bool) (first : ℕ) (busy : Bool) (pixels : List ℕ) (s s' : SourceSeen) (caught : Caught) → CaptureGives lossy first busy pixels s caught s' → s'.wid ≡ s.wid
captured_wid lossy first busy pixels s s' (C.Jobs jobs) gives = ap (λ (t : SourceSeen). t.wid) gives.takes.after
captured_wid lossy first busy pixels s s' C.Unmapped gives = ap (λ (t : SourceSeen). t.wid) gives
captured_wid lossy first busy pixels s s' C.Clean gives = ap (λ (t : SourceSeen). t.wid) gives
captured_wid lossy first busy pixels s s' (C.Early t) gives = ap (λ (t : SourceSeen). t.wid) gives
captured_wid lossy first busy pixels s s' (C.Congested n) gives = ap (λ (t : SourceSeen). t.wid) gives
captured_wid lossy first busy pixels s s' (C.Heavy n) gives = ap (λ (t : SourceSeen). t.wid) gives
captured_wid lossy first busy pixels s s' C.Spent gives = ap (λ (t : SourceSeen). t.wid) gives
captured_wid lossy first busy pixels s s' C.NoMemory gives = ap (λ (t : SourceSeen). t.wid) gives

pub filed_wid : (done : FinishedJob) (now : ℕ) (s s' : SourceSeen) (o o' : Outgoing (List Rectangle)) (answer : Filed) → FileGives has done now s s' o o' answer → s'.wid ≡ s.wid
filed_wid done now s s' o o' F.Filed gives = gives.1.wid_stays
filed_wid done now s s' o o' F.Late gives = ap (λ (t : SourceSeen). t.wid) gives.1.source
filed_wid done now s s' o o' (F.Foreign back) gives = ap (λ (t : SourceSeen). t.wid) gives.2.source
filed_wid done now s s' o o' (F.Back back) gives = ap (λ (t : SourceSeen). t.wid) gives.1.source

pub stays_so : (k : ℕ) (c c' : ClientSeen) → c' ≡ c → OthersStay k c c'
stays_so k c c' same j other = ap (λ (d : ClientSeen). find_source d.seen.sources j) same

pub stays_then : (k : ℕ) (c next c' : ClientSeen) → OthersStay k c next → OthersStay k next c' → OthersStay k c c'
stays_then k c next c' first then j other = then j other ∙ first j other

module _ (finds : KeyedFinds SourceSeen) where
  pub recalled_others : (k now : ℕ) (c : ClientSeen) → OthersStay k c (recalled k now c)
  recalled_others k now c j other = finds.changed source_key c.seen.sources k (after (quiet (GivingBack now))) j (λ s. refl)
      ∙ ap (λ b. cond b (option_map (after (quiet (GivingBack now))) (find_source c.seen.sources j)) (find_source c.seen.sources j)) (false_from_ne_true (eqb j k) (λ is. other (eqb-true j k is)))

  pub recalled_found : (k now : ℕ) (c : ClientSeen) → find_source (recalled k now c).seen.sources k ≡ option_map (after (quiet (GivingBack now))) (find_source c.seen.sources k)
  recalled_found k now c = finds.changed source_key c.seen.sources k (after (quiet (GivingBack now))) k (λ s. refl)
      ∙ ap (λ b. cond b (option_map (after (quiet (GivingBack now))) (find_source c.seen.sources k)) (find_source c.seen.sources k)) (eq-eqb k k refl)

  pub captured_others : (mode : Mode) (now first : ℕ) (window : Window) (c c' : ClientSeen) (answer : Option Caught) → ClientCaptures mode now first window c answer c' → OthersStay window.wid c c'
  captured_others mode now first window c c' answer captures = go (find_source c.seen.sources window.wid) answer refl captures
    where
      go : (o : Option SourceSeen) (answer : Option Caught) → find_source c.seen.sources window.wid ≡ o → CapturesWhere o mode now first window c answer c' → OthersStay window.wid c c'
      go None None found by = stays_so window.wid c c' by
      go None (Some caught) found by = absurd by
      go (Some s) None found by = absurd by
      go (Some s) (Some caught) found by = λ j other. ap (λ (d : ClientSeen). find_source d.seen.sources j) by.client
          ∙ with_others finds c window.wid s by.source c.seen.out found (captured_wid _ first _ window.pixels s by.source caught by.gives) j other

  pub filed_others : (k now : ℕ) (c c' : ClientSeen) (done : FinishedJob) (answer : Filed) → ClientFiles k now c done answer c' → OthersStay k c c'
  filed_others k now c c' done answer files = go (find_source c.seen.sources k) refl files
    where
      go : (o : Option SourceSeen) → find_source c.seen.sources k ≡ o → FilesWhere o k now c done answer c' → OthersStay k c c'
      go None found by = stays_so k c c' by.1
      go (Some s) found by = λ j other. ap (λ (d : ClientSeen). find_source d.seen.sources j) by.client
          ∙ with_others finds c k s by.source by.out found (filed_wid done now s by.source c.seen.out by.out answer by.gives) j other

  pub results_others : (k now : ℕ) (calls : List Call) (c c' : ClientSeen) → FilesInTurn k now calls c c' → OthersStay k c c'
  results_others k now [] c c' same = stays_so k c c' same
  results_others k now (call ∷ calls) c c' files = stays_then k c files.0 c' (filed_others k now c files.0 call.done call.answer files.1) (results_others k now calls files.0 c' files.2)
