-- What row-band lists come to.
use Rattle.std.specs.Prelude.{ℕ, ◌≡◌, Bool, List}
use Rattle.xp_base.specs.Points.{Rectangle}
use Rattle.rect_regions.specs.PointSets.{has, SamePoints}
use Rattle.rect_regions.specs.Bands.{IsRowBands, IsBanded}

-- two row-band lists of one set are equal
abbrev pub HasOneList : Type 0
HasOneList = (set : ℕ → ℕ → Bool) (one other : List Rectangle) → IsRowBands set one → IsRowBands set other → one ≡ other

-- two row-band lists with the same points are equal
abbrev pub EqualByPoints : Type 0
EqualByPoints = (one other : List Rectangle) → IsBanded one → IsBanded other → SamePoints (has one) (has other) → one ≡ other
