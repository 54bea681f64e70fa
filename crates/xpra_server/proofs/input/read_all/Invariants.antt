use Rattle.std.proofs.Common.{◌≡◌, ◌+◌, ◌-◌, vec_len}
use Rattle.xp_base.specs.Told.{HandsOut}
use Rattle.xpra_server.proofs.input.read_all.Given as goal

abbrev pub invariant-reads : goal.invariant-reads
invariant-reads g l = record {
  so_far : HandsOut (g.S.Source.source l.initial.input).left (g.S.Source.source l.input).left l.text.items;
  well : (g.S.Source.source l.input).faults ≡ (g.S.Source.source l.initial.input).faults;
}

abbrev pub decreases-reads : goal.decreases-reads
decreases-reads g l = l.limit + 1 - vec_len l.text
