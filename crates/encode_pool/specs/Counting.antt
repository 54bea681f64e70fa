-- How many jobs there are of a kind. This project's own.
use Rattle.std.specs.Prelude.{ℕ, ◌+◌, Bool, List, [], ◌∷◌, if◌then◌else◌}
use Rattle.capture_jobs.specs.Jobs.{EncodingJob}

-- in one list
abbrev pub how_many : (EncodingJob → Bool) → List EncodingJob → ℕ
how_many such [] = 0
how_many such (j ∷ jobs) = (if such j then 1 else 0) + how_many such jobs

-- in several together
abbrev pub how_many_in : (EncodingJob → Bool) → List (List EncodingJob) → ℕ
how_many_in such [] = 0
how_many_in such (jobs ∷ lists) = how_many such jobs + how_many_in such lists

-- f of each, added up
abbrev pub total : {A : Type 0} → (A → ℕ) → List A → ℕ
total f [] = 0
total f (a ∷ items) = f a + total f items
