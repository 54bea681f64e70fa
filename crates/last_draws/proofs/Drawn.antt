-- A window is drawn at once: by what its capture came to.
use Rattle.std.proofs.Common.{◌≡◌, ℕ, false, Some, List, refl, ap, ◌∙◌, subst}
use Rattle.std.specs.Prelude.{Option, Result, Ok, Err, OnOk}
use Rattle.xp_base.specs.KeyedLaws.{KeyedFinds}
use Rattle.delivery_model.specs.Laws.{NoneIsEmpty}
use Rattle.delivery_log.specs.Laws.{OrderedResultsDrawOut}
use Rattle.window_model.specs.Desktop.{Window}
use Rattle.capture_jobs.specs.Jobs.{EncodingJob}
use Rattle.window_source.specs.declared.capturing.Mode.TheVariants as M
use Rattle.window_source.specs.declared.capturing.Caught.{Caught}
use Rattle.window_source.specs.declared.capturing.Caught.TheVariants as C
use Rattle.window_source.specs.Source.{SourceSeen}
use Rattle.attached_client.specs.Client.{ClientSeen}
use Rattle.attached_client.specs.Drawing.{DrawingKeeps}
use Rattle.attached_client.specs.Capturing.{ClientCaptures, recalled, CapturedIsDrawn, FiledIsDrawn}
use Rattle.last_draws.specs.DrawnThrough.{DrawsWindow, IsNearer, OthersStay}
use Rattle.last_draws.specs.Filing.{FilesSome, FilesThrough}
use Rattle.last_draws.proofs.Draws.{is_made, is_short, jobs_draw, refused_draws}
use Rattle.last_draws.proofs.Others.{stays_then, recalled_others, captured_others, results_others}
use Rattle.last_draws.proofs.Nearer.{jobs_nearer, refused_nearer}

pub unmade : (caught : Caught) → ((jobs : List EncodingJob) → caught ≡ C.Jobs jobs → ⊥) → is_made (Some caught) ≡ false
unmade (C.Jobs jobs) other = absurd (other jobs refl)
unmade C.Unmapped other = refl
unmade C.Clean other = refl
unmade (C.Early t) other = refl
unmade (C.Congested n) other = refl
unmade (C.Heavy n) other = refl
unmade C.Spent other = refl
unmade C.NoMemory other = refl

pub not_short : (caught : Caught) → (caught ≡ C.NoMemory → ⊥) → is_short (Some caught) ≡ false
not_short (C.Jobs jobs) other = refl
not_short C.Unmapped other = refl
not_short C.Clean other = refl
not_short (C.Early t) other = refl
not_short (C.Congested n) other = refl
not_short (C.Heavy n) other = refl
not_short C.Spent other = refl
not_short C.NoMemory other = absurd (other refl)

module _ (finds : KeyedFinds SourceSeen) (k now : ℕ) (window : Window) (own : k ≡ window.wid) (c c1 : ClientSeen) (back : c1 ≡ recalled k now c) where
  here : c1 ≡ recalled window.wid now c
  here = back ∙ ap (λ (j : ℕ). recalled j now c) own

  from_back : (answer answer' : Option Caught) (c2 : ClientSeen) → answer ≡ answer' → ClientCaptures M.Last now 1 window c1 answer c2 → ClientCaptures M.Last now 1 window (recalled window.wid now c) answer' c2
  from_back answer answer' c2 is captures = subst (λ (o : Option Caught). ClientCaptures M.Last now 1 window (recalled window.wid now c) o c2) is
      (subst (λ (d : ClientSeen). ClientCaptures M.Last now 1 window d answer c2) here captures)

  these : (c2 c3 : ClientSeen) → FilesSome k now c2 c3 → FilesSome window.wid now c2 c3
  these c2 c3 files = subst (λ (j : ℕ). FilesSome j now c2 c3) own files

  pub jobs_others : (answer : Option Caught) (c2 c3 : ClientSeen) → ClientCaptures M.Last now 1 window c1 answer c2 → FilesSome k now c2 c3 → OthersStay window.wid c c3
  jobs_others answer c2 c3 captures files =
      let filed = these c2 c3 files in
      stays_then window.wid c (recalled window.wid now c) c3 (recalled_others finds window.wid now c)
      (stays_then window.wid (recalled window.wid now c) c2 c3 (captured_others finds M.Last now 1 window (recalled window.wid now c) c2 answer (from_back answer answer c2 refl captures)) (results_others finds window.wid now filed.0 c2 c3 filed.1))

  pub refused_others : (answer : Option Caught) (c2 : ClientSeen) → ClientCaptures M.Last now 1 window c1 answer c2 → OthersStay window.wid c c2
  refused_others answer c2 captures = stays_then window.wid c (recalled window.wid now c) c2 (recalled_others finds window.wid now c) (captured_others finds M.Last now 1 window (recalled window.wid now c) c2 answer (from_back answer answer c2 refl captures))

  module _ (keeps : DrawingKeeps) (captured : CapturedIsDrawn) (filed : FiledIsDrawn) where
    pub jobs_drawn : (answer : Option Caught) (jobs : List EncodingJob) (c2 c3 : ClientSeen) → answer ≡ Some (C.Jobs jobs) → ClientCaptures M.Last now 1 window c1 answer c2 → FilesSome k now c2 c3 → DrawsWindow window now c c3
    jobs_drawn answer jobs c2 c3 is captures files desk were_opened sent on told = jobs_draw finds keeps captured filed desk were_opened sent now window jobs c c2 c3 on told (from_back answer (Some (C.Jobs jobs)) c2 is captures) (these c2 c3 files)

    pub refused_drawn : (answer : Option Caught) (c2 : ClientSeen) → ClientCaptures M.Last now 1 window c1 answer c2 → is_made answer ≡ false → DrawsWindow window now c c2
    refused_drawn answer c2 captures made desk were_opened sent on told = refused_draws finds keeps captured filed desk were_opened sent now window answer c c2 told (from_back answer answer c2 refl captures) made

  module _ (none : NoneIsEmpty) (drawn : OrderedResultsDrawOut) where
    pub jobs_are_nearer : (answer : Option Caught) (jobs : List EncodingJob) (c2 c3 : ClientSeen) → answer ≡ Some (C.Jobs jobs) → ClientCaptures M.Last now 1 window c1 answer c2 → FilesThrough k now jobs c2 c3 → IsNearer window.wid c c3
    jobs_are_nearer answer jobs c2 c3 is captures files waits = jobs_nearer finds none drawn now window c waits jobs c2 c3 (from_back answer (Some (C.Jobs jobs)) c2 is captures) (subst (λ (j : ℕ). FilesThrough j now jobs c2 c3) own files)

    pub refused_is_nearer : (answer : Option Caught) (c2 : ClientSeen) → ClientCaptures M.Last now 1 window c1 answer c2 → is_made answer ≡ false → is_short answer ≡ false → IsNearer window.wid c c2
    refused_is_nearer answer c2 captures made short waits = refused_nearer finds none drawn now window c waits answer c2 (from_back answer answer c2 refl captures) made short

-- what is so where all were filed
pub nearer_if_ok : {A E : Type 0} {P Q : Type 0} (result : Result A E) → OnOk result P → (P → Q) → OnOk result Q
nearer_if_ok (Ok a) is then = then is
nearer_if_ok (Err e) is then = tt
