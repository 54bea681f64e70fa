use Rattle.std.proofs.Common.{◌≡◌, ◌≤◌}
use Rattle.window_source.specs.Owed.{owes}
use Rattle.window_source.proofs.OwedLemmas.{count_first}
use Rattle.window_source.proofs.source.WindowSource.owed_count.Given as goal

abbrev pub invariant-loop-place : goal.invariant-loop-place
invariant-loop-place g l = record {
  counted : l.count ≡ count_first (owes g.R.Points.has l.self l.out.waiting.packets) l.self.wide l.self.high l.place;
  few : l.count ≤ l.place;
}
