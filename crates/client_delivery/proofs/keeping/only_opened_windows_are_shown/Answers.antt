use Rattle.client_delivery.proofs.Differing.{shows_opened}
use Rattle.client_delivery.proofs.keeping.only_opened_windows_are_shown.Goals as goal

pub returns : goal.returns
returns c = shows_opened c.a_part_shows_nothing.ensures
