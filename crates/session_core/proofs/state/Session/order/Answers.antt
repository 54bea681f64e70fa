use Rattle.std.proofs.Common.{refl}
use Rattle.session_core.proofs.Steadies.{steady_same, order_count}
use Rattle.session_core.proofs.state.Session.order.Goals as goal

pub invariant_of-self : goal.invariant_of-self
invariant_of-self g c = steady_same (g.B.Bay.connection c.order.new.self) _ _ _ c.self.invariant refl refl (order_count _ _ _ c.order.result c.order.ensures.answer) (λ d other. c.order.ensures.connections d)
