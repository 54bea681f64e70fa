use Rattle.line_changes.proofs.Lines.{line_changes}
use Rattle.line_changes.proofs.laws.a_line_changes_the_desktop_so.Goals as goal

pub returns : goal.returns
returns c = line_changes c.keyed_finds.ensures c.filled_shows.ensures c.placed_shows.ensures c.drawn_sizes.ensures
