-- One point: what each waiting item leaves there, and what stays right while they are written. This project's own.
use Rattle.std.specs.Prelude.{◌≡◌, Bool, true, false, ◌||◌, Option, Some, None, List, [], ◌∷◌}

-- an item at the point: what stands there after it (right, or not; none, as it was), and whether the item relieves the point
pub record Mark : Type 0 where
  pub leaves : Option Bool
  pub relieves : Bool

abbrev pub over : Option Bool → Bool → Bool
over None was = was
over (Some right) was = right

abbrev pub any_relieves : List Mark → Bool
any_relieves [] = false
any_relieves (m ∷ ms) = m.relieves || any_relieves ms

-- now, and after each item, the point is right unless it is owed: something behind relieves it, or it is owed at the base
abbrev pub StaysRight : Bool → List Mark → Bool → Type 0
StaysRight base [] right = base ≡ false → right ≡ true
StaysRight base (m ∷ ms) right =
    ((m.relieves || (any_relieves ms || base)) ≡ false → right ≡ true) × StaysRight base ms (over m.leaves right)
