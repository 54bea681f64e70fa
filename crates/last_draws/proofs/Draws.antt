-- What is done for a window at once is such drawing as its client knows, and leaves the other windows as they are.
use Rattle.std.proofs.Common.{◌≡◌, ℕ, Bool, true, false, Some, None, List, [], ◌∷◌, refl, sym, ap, ◌∙◌, subst}
use Rattle.std.specs.Prelude.{Option}
use Rattle.xp_base.specs.Keyed.{HasDistinctKeys}
use Rattle.xp_base.specs.KeyedLaws.{KeyedFinds}
use Rattle.window_model.specs.Desktop.{Window, find_window}
use Rattle.capture_jobs.specs.Jobs.{EncodingJob, FinishedJob}
use Rattle.capture_jobs.specs.declared.answers.Filed.{Filed}
use Rattle.capture_jobs.specs.declared.answers.Filed.TheVariants as F
use Rattle.window_source.specs.declared.capturing.Mode.{Mode}
use Rattle.window_source.specs.declared.capturing.Mode.TheVariants as M
use Rattle.window_source.specs.declared.capturing.Caught.{Caught}
use Rattle.window_source.specs.declared.capturing.Caught.TheVariants as C
use Rattle.window_source.specs.Source.{SourceSeen}
use Rattle.window_source.specs.Capturing.{CaptureGives}
use Rattle.window_source.specs.Drawn.{NothingFiled}
use Rattle.client_outbox.specs.Reliefs.{is_busy}
use Rattle.client_delivery.specs.Attached.{source_key, find_source}
use Rattle.client_delivery.specs.Delivered.{IsTold}
use Rattle.attached_client.specs.Client.{ClientSeen}
use Rattle.attached_client.specs.Drawing.{Drawing, Capturing, Filing, Recalling, ClientDraws, DrawingKeeps}
use Rattle.attached_client.specs.Capturing.{CapturesWhere, ClientCaptures, FilesBy, FilesWhere, ClientFiles, with_source, recalled, CapturedIsDrawn, FiledIsDrawn}
use Rattle.last_draws.specs.DrawnThrough.{DrawsThrough}
use Rattle.last_draws.specs.Filing.{Call, FilesBy as FilesInTurn, FilesSome}
use Rattle.last_draws.proofs.Refused.{same_source}

-- drawings of a client, where each of its windows is the model's
abbrev pub Draws : List Window → ℕ → ClientSeen → ClientSeen → Type 0
Draws desk now c c' = (drawings : List Drawing) × DrawsThrough desk now drawings c c'

pub draws_first : (desk : List Window) (now : ℕ) (drawing : Drawing) (c next c' : ClientSeen) → ClientDraws desk now drawing c next → Draws desk now next c' → Draws desk now c c'
draws_first desk now drawing c next c' first rest = (drawing ∷ rest.0, (next, first, rest.1))

pub draws_nothing : (desk : List Window) (now : ℕ) (c c' : ClientSeen) → c' ≡ c → Draws desk now c c'
draws_nothing desk now c c' same = ([], same)

abbrev pub is_made : Option Caught → Bool
is_made None = false
is_made (Some (C.Jobs jobs)) = true
is_made (Some C.Unmapped) = false
is_made (Some C.Clean) = false
is_made (Some (C.Early t)) = false
is_made (Some (C.Congested n)) = false
is_made (Some (C.Heavy n)) = false
is_made (Some C.Spent) = false
is_made (Some C.NoMemory) = false

abbrev pub is_short : Option Caught → Bool
is_short None = false
is_short (Some (C.Jobs jobs)) = false
is_short (Some C.Unmapped) = false
is_short (Some C.Clean) = false
is_short (Some (C.Early t)) = false
is_short (Some (C.Congested n)) = false
is_short (Some (C.Heavy n)) = false
is_short (Some C.Spent) = false
is_short (Some C.NoMemory) = true

-- a refused capture, by what it gives
pub refused_source : (lossy : Bool) (first : ℕ) (busy : Bool) (pixels : List ℕ) (s s' : SourceSeen) (caught : Caught) → CaptureGives lossy first busy pixels s caught s' → is_made (Some caught) ≡ false → s' ≡ s
refused_source lossy first busy pixels s s' (C.Jobs jobs) gives made = absurd (cc made)
refused_source lossy first busy pixels s s' C.Unmapped gives made = gives
refused_source lossy first busy pixels s s' C.Clean gives made = gives
refused_source lossy first busy pixels s s' (C.Early t) gives made = gives
refused_source lossy first busy pixels s s' (C.Congested n) gives made = gives
refused_source lossy first busy pixels s s' (C.Heavy n) gives made = gives
refused_source lossy first busy pixels s s' C.Spent gives made = gives
refused_source lossy first busy pixels s s' C.NoMemory gives made = gives

module _ (finds : KeyedFinds SourceSeen) where
  pub refused_capture : (mode : Mode) (now first : ℕ) (window : Window) (c c' : ClientSeen) (answer : Option Caught) → HasDistinctKeys source_key c.seen.sources → ClientCaptures mode now first window c answer c'
      → is_made answer ≡ false → c' ≡ c
  refused_capture mode now first window c c' answer distinct captures made = go (find_source c.seen.sources window.wid) answer refl captures made
    where
      go : (o : Option SourceSeen) (answer : Option Caught) → find_source c.seen.sources window.wid ≡ o → CapturesWhere o mode now first window c answer c' → is_made answer ≡ false → c' ≡ c
      go None None found by made = by
      go None (Some caught) found by made = absurd by
      go (Some s) None found by made = absurd by
      go (Some s) (Some caught) found by made =
          let stays : by.source ≡ s = refused_source c.caps.lossy first (is_busy s.wid c.seen.out.packets) window.pixels s by.source caught by.gives made in
          by.client ∙ ap (λ (t : SourceSeen). with_source window.wid t c.seen.out c) stays ∙ same_source finds c window.wid s distinct found

  not_filed : (c c' : ClientSeen) (k : ℕ) (s s' : SourceSeen) (out : _) → HasDistinctKeys source_key c.seen.sources → find_source c.seen.sources k ≡ Some s → NothingFiled s s' c.seen.out out → c' ≡ with_source k s' out c → c' ≡ c
  not_filed c c' k s s' out distinct found none is = is ∙ ap (λ (t : SourceSeen). with_source k t out c) none.source ∙ ap (λ o. with_source k s o c) none.outbox ∙ same_source finds c k s distinct found

  -- one result, whatever was answered
  pub result_draws : FiledIsDrawn → (desk : List Window) (k now : ℕ) (c c' next : ClientSeen) (done : FinishedJob) (answer : Filed) → HasDistinctKeys source_key c.seen.sources → ClientFiles k now c done answer next
      → (ClientDraws desk now (Filing k done.job.number done.job.capture) c next → Draws desk now c c') → (next ≡ c → Draws desk now c c') → Draws desk now c c'
  result_draws drawn desk k now c c' next done answer distinct files some none = go (find_source c.seen.sources k) answer refl files
    where
      by_source : (s : SourceSeen) (answer : Filed) → find_source c.seen.sources k ≡ Some s → FilesBy k now s c done answer next → ClientFiles k now c done answer next → Draws desk now c c'
      by_source s F.Filed found by files = some (drawn desk k now c next done files)
      by_source s F.Late found by files = none (not_filed c next k s by.source by.out distinct found by.gives.1 by.client)
      by_source s (F.Foreign back) found by files = none (not_filed c next k s by.source by.out distinct found by.gives.2 by.client)
      by_source s (F.Back back) found by files = none (not_filed c next k s by.source by.out distinct found by.gives.1 by.client)

      go : (o : Option SourceSeen) (answer : Filed) → find_source c.seen.sources k ≡ o → FilesWhere o k now c done answer next → Draws desk now c c'
      go None answer found by = none by.1
      go (Some s) answer found by = by_source s answer found by (subst (λ (o : Option SourceSeen). FilesWhere o k now c done answer next) (sym found) by)

  module _ (keeps : DrawingKeeps) (captured : CapturedIsDrawn) (filed : FiledIsDrawn) (desk : List Window) (were_opened : ℕ → Bool) (sent : List ℕ) (now : ℕ) where
    pub results_draw : (k : ℕ) (calls : List Call) (c c' : ClientSeen) → IsTold desk were_opened c.seen sent → FilesInTurn k now calls c c' → Draws desk now c c'
    results_draw k [] c c' told same = draws_nothing desk now c c' same
    results_draw k (call ∷ calls) c c' told files =
        result_draws filed desk k now c c' files.0 call.done call.answer told.delivered.distinct files.1
        (λ first. draws_first desk now (Filing k call.done.job.number call.done.job.capture) c files.0 c' first (results_draw k calls files.0 c' (keeps desk were_opened now _ c files.0 sent first told) files.2))
        (λ same. subst (λ (d : ClientSeen). Draws desk now d c') same (results_draw k calls files.0 c' (subst (λ (d : ClientSeen). IsTold desk were_opened d.seen sent) (sym same) told) files.2))

    pub recall_draws : (k : ℕ) (c c' : ClientSeen) → IsTold desk were_opened c.seen sent → (IsTold desk were_opened (recalled k now c).seen sent → Draws desk now (recalled k now c) c') → Draws desk now c c'
    recall_draws k c c' told rest =
        let first : ClientDraws desk now (Recalling k) c (recalled k now c) = record { draws = refl; stays = refl } in
        draws_first desk now (Recalling k) c (recalled k now c) c' first (rest (keeps desk were_opened now (Recalling k) c (recalled k now c) sent first told))

    pub capture_draws : (mode : Mode) (first : ℕ) (window : Window) (jobs : List EncodingJob) (c next c' : ClientSeen) → find_window desk window.wid ≡ Some window → IsTold desk were_opened c.seen sent
        → ClientCaptures mode now first window c (Some (C.Jobs jobs)) next → (IsTold desk were_opened next.seen sent → Draws desk now next c') → Draws desk now c c'
    capture_draws mode first window jobs c next c' on told captures rest =
        let drawn = captured desk were_opened mode now first window jobs c next sent on told captures in
        draws_first desk now (Capturing window drawn.0 first) c next c' drawn.1 (rest (keeps desk were_opened now (Capturing window drawn.0 first) c next sent drawn.1 told))

    -- all that is done for a window, where jobs were made, and where the capture was refused
    pub jobs_draw : (window : Window) (jobs : List EncodingJob) (c c2 c3 : ClientSeen) → find_window desk window.wid ≡ Some window → IsTold desk were_opened c.seen sent
        → ClientCaptures M.Last now 1 window (recalled window.wid now c) (Some (C.Jobs jobs)) c2 → FilesSome window.wid now c2 c3 → Draws desk now c c3
    jobs_draw window jobs c c2 c3 on told captures files = recall_draws window.wid c c3 told
        (λ told1. capture_draws M.Last 1 window jobs (recalled window.wid now c) c2 c3 on told1 captures (λ told2. results_draw window.wid files.0 c2 c3 told2 files.1))

    pub refused_draws : (window : Window) (answer : Option Caught) (c c2 : ClientSeen) → IsTold desk were_opened c.seen sent → ClientCaptures M.Last now 1 window (recalled window.wid now c) answer c2
        → is_made answer ≡ false → Draws desk now c c2
    refused_draws window answer c c2 told captures made = recall_draws window.wid c c2 told
        (λ told1. draws_nothing desk now (recalled window.wid now c) c2 (refused_capture M.Last now 1 window (recalled window.wid now c) c2 answer told1.delivered.distinct captures made))
