-- Results that are filed one after another.
use Rattle.std.proofs.Common.{◌≡◌, ℕ, ◌<◌, List, [], ◌∷◌, length, refl, sym, ap, ◌∙◌, arith}
use Rattle.std.specs.Prelude.{slice_index_or}
use Rattle.std.specs.List.{remove}
use Rattle.capture_jobs.specs.Jobs.{EncodingJob, FinishedJob}
use Rattle.capture_jobs.specs.declared.answers.Filed.{Filed}
use Rattle.attached_client.specs.Client.{ClientSeen}
use Rattle.attached_client.specs.Capturing.{ClientFiles}
use Rattle.last_draws.specs.Filing.{Call, FilesSome}

-- one call more at the front
pub one_more : (k now : ℕ) (done : FinishedJob) (answer : Filed) (c next c' : ClientSeen) → ClientFiles k now c done answer next → FilesSome k now next c' → FilesSome k now c c'
one_more k now done answer c next c' files rest = let call : Call = record { done = done; answer = answer } in (call ∷ rest.0, (next, files, rest.1))

pub no_more : (k now : ℕ) (c : ClientSeen) → FilesSome k now c c
no_more k now c = ([], refl)

-- the first of some jobs, and the others
pub front_and_rest : (items rest : List EncodingJob) (job : EncodingJob) → 0 < length items → job ≡ slice_index_or items 0 job → rest ≡ remove items 0 → items ≡ job ∷ rest
front_and_rest [] rest job some first others = absurd (omega (arith, some))
front_and_rest (j ∷ items) rest job some first others = ap (λ (i : EncodingJob). i ∷ items) (sym first) ∙ ap (λ (l : List EncodingJob). job ∷ l) (sym others)
