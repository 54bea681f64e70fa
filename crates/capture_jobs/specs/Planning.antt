-- The plan of a capture: which rectangles of a set of points are captured, and how each is coded. This project's own.
use Rattle.std.specs.Prelude.{ℕ, ◌≡◌, ◌<◌, ◌≤◌, Bool, ◌&&◌, not, nat_le, List, [], ◌∷◌, map, length, if◌then◌else◌}
use Rattle.xp_base.specs.declared.coding.Coding.{Coding}
use Rattle.xp_base.specs.declared.coding.Coding.TheVariants as C
use Rattle.xp_base.specs.Points.{Rectangle, area}
use Rattle.rect_regions.specs.PointSets.{IsBounds}
use Rattle.rect_regions.specs.Bands.{IsRowBands}
use Rattle.delivery_model.specs.Events.{Planned}

-- lossy exactly where the client allows it, the capture is no refresh, and the rectangle has at least 4,096 pixels
abbrev pub coding_for : Bool → Bool → Rectangle → Coding
coding_for refresh lossy r = if (lossy && not refresh) && nat_le 4096 (area r) then C.Lossy else C.Exact

abbrev pub planned_for : Bool → Bool → Rectangle → Planned
planned_for refresh lossy r = record { rect = r; coding = coding_for refresh lossy r }

abbrev pub one_each : Bool → Bool → List Rectangle → List Planned
one_each refresh lossy rects = map (planned_for refresh lossy) rects

abbrev pub one_exact : Rectangle → List Planned
one_exact r = record { rect = r; coding = C.Exact } ∷ []

-- one exact rectangle, the least that holds the set
abbrev pub IsBounding : (ℕ → ℕ → Bool) → List Planned → Type 0
IsBounding set plan = (r : Rectangle) × IsBounds set r × (plan ≡ one_exact r)

-- where the set's row-band list has at most 32 rectangles, they are captured one each, in its order; else one for all
pub record IsPlanOf (set : ℕ → ℕ → Bool) (refresh lossy : Bool) (plan : List Planned) : Type 0 where
  pub rects : List Rectangle
  pub bands : IsRowBands set rects
  pub few : length rects ≤ 32 → plan ≡ one_each refresh lossy rects
  pub many : 32 < length rects → IsBounding set plan
