use Rattle.std.proofs.Common.{◌≡◌, ◌≢◌, arith, ap, ◌∙◌, sym, List, get_or, get_or-set_other}
use Rattle.std.proofs.Math.ListN.{length-set}
use Rattle.std.specs.Option.{option_map}
use Rattle.std.specs.Prelude.{Option}
use Rattle.client_connection.specs.Clients.{ClientSeen, plain, announced}
use Rattle.session_core.proofs.Slots.{changed_more}
use Rattle.session_core.proofs.opening.announce_all.Goals as goal

pub announce_slot-requires : goal.announce_slot-requires
announce_slot-requires c =
    let was : get_or c.loop-slot.slot-items c.loop-slot.slot-index c.slot-item.result ≡ get_or c.args.clients.now.items c.loop-slot.slot-index c.slot-item.result =
    c.loop-slot.invariant.rest c.loop-slot.slot-index c.slot-item.result (omega arith) ∙ ap (λ (xs : List (Option ClientSeen)). get_or xs c.loop-slot.slot-index c.slot-item.result) c.deref_mut-slot-items.ensures.value in
    rw was (c.requires c.loop-slot.slot-index c.slot-item.result (omega arith))

pub loop-slot-preserved : goal.loop-slot-preserved
loop-slot-preserved c = record {
  rest = λ k d later. let other : k ≢ c.loop-slot.slot-index = omega arith in get_or-set_other c.loop-slot.slot-items c.loop-slot.slot-index k c.announce_slot.new.slot d other ∙ c.loop-slot.invariant.rest k d (omega arith);
  sized = length-set c.loop-slot.slot-items c.loop-slot.slot-index c.announce_slot.new.slot ∙ c.loop-slot.invariant.sized;
  done = changed_more (option_map (announced c.args.geometry.now)) _ _ c.loop-slot.slot-index c.slot-item.result c.announce_slot.new.slot (omega arith) c.loop-slot.invariant.sized c.loop-slot.invariant.done c.slot-item.is (c.announce_slot.ensures ∙ ap (λ (s : Option ClientSeen). option_map (announced c.args.geometry.now) (option_map plain s)) (sym c.slot-item.is));
}
