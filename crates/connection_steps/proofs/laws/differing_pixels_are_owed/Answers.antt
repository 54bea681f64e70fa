use Rattle.connection_steps.proofs.Sending.{owes_what_differs}
use Rattle.connection_steps.proofs.laws.differing_pixels_are_owed.Goals as goal

pub returns : goal.returns
returns c = owes_what_differs c.each_differing_pixel_is_owed.ensures
