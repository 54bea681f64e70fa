use Rattle.xp_base.proofs.KeyedLemmas.{keyed_finds_lem}
use Rattle.client_delivery.proofs.Differing.{owes_what_differs}
use Rattle.client_delivery.proofs.owing.each_differing_pixel_is_owed.Goals as goal

pub returns : goal.returns
returns c = owes_what_differs (keyed_finds_lem _) c.form_gives_invariant.ensures c.points_are_their_tests.ensures.point c.a_part_shows_nothing.ensures
