use Rattle.std.proofs.Common.{ap, ◌∙◌, sym, arith, map}
use Rattle.std.specs.Option.{is_some}
use Rattle.session_core.specs.State.{is_unended}
use Rattle.client_connection.specs.Told.{IsToldFor}
use Rattle.client_connection.specs.Given.{IsKnown}
use Rattle.session_core.proofs.Each.{each_nobody}
use Rattle.session_core.proofs.state.Session.new.Goals as goal

pub invariant_of-result : goal.invariant_of-result
invariant_of-result g c = record {
  session = record {
    within = omega arith;
    painted = c.new.ensures ∙ sym (c.desk_at_start.ensures c.args.paints);
    known = grind (arith, c.requires.fresh.count, c.new-2.ensures.items);
    ended = grind (arith, c.requires.fresh.count, c.new-3.ensures.items);
    numbered = omega (arith, c.requires.fresh.count);
    live = ap (map is_some) c.new-2.ensures.items ∙ sym (ap (map is_unended) c.new-3.ensures.items);
  };
  told = each_nobody (λ d r. IsToldFor c.new.result d r.sent) (g.B.Bay.connection c.args.bay) _ c.new-2.ensures.items;
  known = each_nobody (IsKnown g.B.Bay.tells c.args.paints c.new.result) (g.B.Bay.connection c.args.bay) _ c.new-2.ensures.items;
}
