use Rattle.std.proofs.Common.{◌≡◌, take}
use Rattle.client_outbox.specs.Reliefs.{Emptied, ReliefsChange}
use Rattle.client_outbox.proofs.Changed.{IsPart}
use Rattle.client_outbox.proofs.outbox.Outbox.forget.Given as goal

abbrev pub invariant-loop-i : goal.invariant-loop-i
invariant-loop-i g l =
    let old = l.initial.self-inside in
    let now = l.self-inside in
    record {
      part : IsPart old.packets.items now.packets.items l.i;
      changed : ReliefsChange (Emptied g.R.Points.has) l.wid (take l.i old.packets.items) (take l.i now.packets.items);
      taken : now.taken ≡ old.taken;
      weight : now.weight ≡ old.weight;
      room : now.packets.cap ≡ old.packets.cap;
    }
