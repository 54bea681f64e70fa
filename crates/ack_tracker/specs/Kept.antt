-- What is kept of the draws: their rectangles by their numbers, in no order.
use Rattle.std.specs.Prelude.{ℕ, ◌≤◌, ◌^◌, List, [], ◌∷◌, length, nat_eq}
use Rattle.std.specs.List.{IsDistinct}
use Rattle.std.specs.Map.{keys_of}
use Rattle.xp_base.specs.Points.{Rectangle}
use Rattle.delivery_model.specs.Window.{Sent}
use Rattle.ack_tracker.specs.Unacknowledged.{sent_as, placed}
use Rattle.ack_tracker.specs.Places.{AllBelow}

-- the draws by rising number
abbrev pub in_order : List (ℕ × Rectangle) → List Sent
in_order [] = []
in_order (e ∷ entries) = placed (in_order entries) (sent_as e.0 e.1)

-- no two have one number, the numbers are such as a client can say, and there are at most 2 ^ 31 of them
pub record IsKept (entries : List (ℕ × Rectangle)) : Type 0 where
  pub distinct : IsDistinct nat_eq (keys_of entries)
  pub small : AllBelow (2 ^ 63) (in_order entries)
  pub few : length entries ≤ 2 ^ 31
