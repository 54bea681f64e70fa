use Rattle.std.proofs.Common.{◌≡◌, ◌++◌, take, drop}
use Rattle.client_outbox.specs.Reliefs.{with_reliefs}
use Rattle.client_outbox.proofs.Changed.{IsPart}
use Rattle.client_outbox.proofs.outbox.Outbox.put_clipped.Given as goal

abbrev pub invariant-loop-i : goal.invariant-loop-i
invariant-loop-i g l =
    let old = l.initial.self-inside in
    let now = l.self-inside in
    record {
      part : IsPart old.packets.items now.packets.items l.i;
      together : with_reliefs l.wid old.packets.items l.initial.reliefs.items ≡ take l.i now.packets.items ++ with_reliefs l.wid (drop l.i old.packets.items) l.reliefs.items;
      taken : now.taken ≡ old.taken;
      weight : now.weight ≡ old.weight;
      room : now.packets.cap ≡ old.packets.cap;
    }
