use Rattle.std.proofs.Common.{arith, ap, ◌∙◌, sym}
use Rattle.std.proofs.Math.ListN.{length-set}
use Rattle.std.specs.Option.{option_map}
use Rattle.std.specs.Prelude.{Option}
use Rattle.client_connection.specs.Clients.{ClientSeen, plain, damaged}
use Rattle.session_core.proofs.Slots.{changed_more}
use Rattle.session_core.proofs.paint.damage_all.Goals as goal

pub loop-slot-preserved : goal.loop-slot-preserved
loop-slot-preserved c = record {
  sized = length-set c.loop-slot.slot-items c.loop-slot.slot-index c.damage_slot.new.slot ∙ c.loop-slot.invariant.sized;
  done = changed_more (option_map (damaged c.args.wid c.args.r)) _ _ c.loop-slot.slot-index c.slot-item.result c.damage_slot.new.slot (omega arith) c.loop-slot.invariant.sized c.loop-slot.invariant.done c.slot-item.is (c.damage_slot.ensures ∙ ap (λ (s : Option ClientSeen). option_map (damaged c.args.wid c.args.r) (option_map plain s)) (sym c.slot-item.is));
}
