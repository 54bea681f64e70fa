-- Draws by their places in the list.
use Rattle.std.specs.Prelude.{ℕ, ◌<◌, ◌≤◌, ◌^◌, List, length, slice_index_or}
use Rattle.delivery_model.specs.Window.{Sent}

abbrev pub no_draw : Sent
no_draw = record { sequence = 0; rect = record { x = 0; y = 0; w = 0; h = 0 } }

-- the number of the draw at place i
abbrev pub number_at : List Sent → ℕ → ℕ
number_at draws i = let draw = slice_index_or draws i no_draw in draw.sequence

-- the numbers rise, so no two draws have one number
abbrev pub AreRising : List Sent → Type 0
AreRising draws = (i j : ℕ) → i < j → j < length draws → number_at draws i < number_at draws j

-- every number is below this one
abbrev pub AllBelow : ℕ → List Sent → Type 0
AllBelow n draws = (i : ℕ) → i < length draws → number_at draws i < n

-- the draws as they are kept: their numbers rise and are such as a client can say, and there are at most 2 ^ 31 of them
pub record IsTracked (draws : List Sent) : Type 0 where
  pub rising : AreRising draws
  pub small : AllBelow (2 ^ 63) draws
  pub few : length draws ≤ 2 ^ 31
