-- The rule of the queue of jobs: of what it holds, oldest first, and of what each of its passes knows. This project's own.
use Rattle.std.specs.Prelude.{ℕ, ◌≡◌, ◌+◌, ◌-◌, Bool, List, [], ◌∷◌, ◌++◌, length}
use Rattle.std.specs.List.{AllByRecursion}
use mathlib.Core.Option.{some}
use lib.ListN.{get_elem?}
use Rattle.xp_base.specs.Lists.{IsSubsequence}
use Rattle.capture_jobs.specs.Jobs.{EncodingJob}
use Rattle.encode_pool.specs.Counting.{how_many, how_many_in, total}
use Rattle.encode_pool.specs.declared.queue_view.Standing.{Standing}
use Rattle.encode_pool.specs.declared.queue_view.Standing.TheVariants as S
use Rattle.encode_pool.specs.declared.queue_view.QueueView.{QueueView}

-- the view of the first pass, of a further one and of one that was taken in, as each begins
abbrev pub view_of : Standing → QueueView
view_of standing = record { standing = standing; popped = []; pushed = []; taken = []; split_off = 0 }

-- a view after a push and a pop of the job, a split, and the taking in of another pass
abbrev pub with_pushed : QueueView → EncodingJob → QueueView
with_pushed v job = record v { pushed = v.pushed ++ job ∷ [] }

abbrev pub with_popped : QueueView → EncodingJob → QueueView
with_popped v job = record v { popped = v.popped ++ job ∷ [] }

abbrev pub with_split : QueueView → QueueView
with_split v = record v { split_off = v.split_off + 1 }

abbrev pub with_joined : QueueView → QueueView → QueueView
with_joined v w = record v { taken = v.taken ++ w.popped ∷ []; split_off = v.split_off - 1 }

-- 1 of a further pass that was not taken in
abbrev pub further : Standing → ℕ
further S.First = 0
further S.Further = 1
further S.Spent = 0

-- the first pass has this number, and these are its lists and its count
pub record IsOwner (first : ℕ) (pushed : List EncodingJob) (taken : List (List EncodingJob)) (split_off port : ℕ) (v : QueueView) : Type 0 where
  pub alone : port ≡ first
  pub pushes : v.pushed ≡ pushed
  pub takes : v.taken ≡ taken
  pub splits : v.split_off ≡ split_off

-- a pass: the first one has these; what it popped stands in this order in what left the queue; one that was taken in has nothing
pub record Fits (first : ℕ) (pushed gone : List EncodingJob) (taken : List (List EncodingJob)) (split_off port : ℕ) (v : QueueView) : Type 0 where
  pub owner : v.standing ≡ S.First → IsOwner first pushed taken split_off port v
  pub part : IsSubsequence v.popped gone
  pub empty : v.standing ≡ S.Spent → v.popped ≡ []

-- what the queue holds is the end of what was pushed; what stands before it, gone, has as many jobs of each kind as the passes and the
-- lists taken in together, each of which stands in gone in its order; and the count is that of the further passes
pub record Conserves (items : List EncodingJob) (views : List QueueView) : Type 0 where
  pub first : ℕ
  pub pushed : List EncodingJob
  pub gone : List EncodingJob
  pub taken : List (List EncodingJob)
  pub split_off : ℕ
  pub held : pushed ≡ gone ++ items
  pub fits : (port : ℕ) (v : QueueView) → get_elem? views port ≡ some v → Fits first pushed gone taken split_off port v
  pub parts : AllByRecursion (λ part. IsSubsequence part gone) taken
  pub counted : (such : EncodingJob → Bool) → how_many such gone ≡ how_many_in such taken + total (λ v. how_many such v.popped) views
  pub further_passes : split_off ≡ total (λ v. further v.standing) views

-- a moment at which the queue held these jobs, and the pass knew this
pub record IsMoment (v : QueueView) (items : List EncodingJob) : Type 0 where
  pub views : List QueueView
  pub port : ℕ
  pub conserved : Conserves items views
  pub here : get_elem? views port ≡ some v

-- at some moment it held so many jobs
abbrev pub HeldSoMany : ℕ → QueueView → Type 0
HeldSoMany n v = (items : List EncodingJob) × (length items ≡ n) × IsMoment v items
