use Rattle.std.proofs.Common.{◌≡◌, ℕ, Bool, List, ap, ◌∙◌}
use Rattle.rect_regions.specs.Combinations.{combined}
use Rattle.rect_regions.specs.BitRows.{has_mark, marks_of}
use Rattle.rect_regions.proofs.Marks.{has_mark-made}
use Rattle.rect_regions.proofs.bit_region.BitRegion.combined.Goals as goal

pub returns : goal.returns
returns g c =
    let set : ℕ → ℕ → Bool = combined c.args.combination (has_mark c.args.self.now) (g.T.PointTest.test c.args.other.now) in
    let is : c.in_ok-marks.marks.items ≡ marks_of c.args.wide c.args.high set = c.in_ok-marks.ensures in
    λ x y. ap (λ (l : List Bool). has_mark (record { wide = c.args.wide; high = c.args.high; marks = l }) x y) is ∙ has_mark-made c.args.wide c.args.high set x y c.requires.all
