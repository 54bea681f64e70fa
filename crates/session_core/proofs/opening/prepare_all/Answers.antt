use Rattle.std.proofs.Common.{inl, inr, ◌<◌, arith, ap, ◌∙◌, sym, subst, length, get_or, set, get_or-set_other, get_or-set_same}
use Rattle.std.proofs.Math.ListN.{length-set}
use Rattle.std.proofs.lemmas.Bool.{cases_eq}
use Rattle.std.specs.Option.{option_map}
use Rattle.std.specs.Prelude.{Option, IfSome}
use Rattle.client_connection.specs.Clients.{ClientSeen, plain, IsReady}
use Rattle.session_core.proofs.Slots.{replaced_same}
use Rattle.session_core.proofs.opening.prepare_all.Goals as goal

pub returns-in_err-prepare_slot-clause-same : goal.returns-in_err-prepare_slot-clause-same
returns-in_err-prepare_slot-clause-same c =
    replaced_same c.loop-i.clients.items c.loop-i.i c.prepare_slot.new.slot c.index_mut-slot.result.now
    (c.prepare_slot.ensures.same ∙ ap (option_map plain) c.index_mut-slot.ensures.value) ∙ c.loop-i.invariant.same

pub loop-i-preserved : goal.loop-i-preserved
loop-i-preserved c =
    let new : Option ClientSeen = c.prepare_slot.new.slot in
    let within : c.loop-i.i < length c.loop-i.clients.items = omega arith in
    record {
      sized = length-set c.loop-i.clients.items c.loop-i.i c.prepare_slot.new.slot ∙ c.loop-i.invariant.sized;
      same = replaced_same c.loop-i.clients.items c.loop-i.i c.prepare_slot.new.slot c.index_mut-slot.result.now
          (c.prepare_slot.ensures.same ∙ ap (option_map plain) c.index_mut-slot.ensures.value) ∙ c.loop-i.invariant.same;
      ready = λ k d low. elim (cases_eq k c.loop-i.i) [
        | inl is ↦
            subst (λ (s : Option ClientSeen). IfSome s (IsReady c.args.geometry.now))
            (sym (ap (λ n. get_or (set c.loop-i.clients.items c.loop-i.i new) n d) is ∙ get_or-set_same c.loop-i.clients.items c.loop-i.i new d within)) c.in_ok-prepare_slot.ensures.ready
        | inr other ↦
            subst (λ (s : Option ClientSeen). IfSome s (IsReady c.args.geometry.now))
            (sym (get_or-set_other c.loop-i.clients.items c.loop-i.i k new d other)) (c.loop-i.invariant.ready k d (omega arith))
      ];
    }
