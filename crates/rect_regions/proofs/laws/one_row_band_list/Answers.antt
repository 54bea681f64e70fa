use Rattle.rect_regions.proofs.Uniqueness.{one_list}
use Rattle.rect_regions.proofs.laws.one_row_band_list.Goals as goal

pub returns : goal.returns
returns c = one_list
