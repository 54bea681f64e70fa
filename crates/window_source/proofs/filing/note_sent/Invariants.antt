use Rattle.std.proofs.Common.{◌≡◌, ◌≤◌, ◌+◌, ◌++◌, take, length}
use Rattle.window_source.specs.Kept.{AreSentBefore}
use Rattle.window_source.specs.Drafts.{sent_from}
use Rattle.window_source.proofs.filing.note_sent.Given as goal

abbrev pub invariant-loop-k : goal.invariant-loop-k
invariant-loop-k g l = record {
  sent : l.acks.draws ≡ l.initial.acks.draws ++ sent_from l.next (take l.k l.jobs.jobs);
  before : AreSentBefore (l.next + l.k) l.acks.draws;
  longer : length l.acks.draws ≡ length l.initial.acks.draws + l.k;
  room : l.count ≤ l.acks.room + l.k;
}
