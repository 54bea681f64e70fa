use Rattle.std.proofs.Common.{subst}
use Rattle.session_state.specs.Views.{known}
use Rattle.whole_session.specs.Session.{SessionSeen}
use Rattle.whole_session.specs.Ending.{AbandonsTo}
use Rattle.whole_session.proofs.Endings.{begins_here, abandons_to}
use Rattle.whole_session.proofs.session.Session.abandon.Goals as goal

pub close_all-requires : goal.close_all-requires
close_all-requires g c = record { settling = (begins_here (known g.B.Bay.tells g.B.Bay.provider g.B.Bay.connection) c.settling_keeps_a_session.ensures.begins c.self.inside.paints c.self.inside.place c.self.inside.state c.self.invariant) }

pub returns : goal.returns
returns g c = subst (λ (s : SessionSeen _). AbandonsTo (known g.B.Bay.tells g.B.Bay.provider g.B.Bay.connection) s.seen c.into_parts-desk.result.1.items c.into_parts-desk.result.2) c.self.view_is
    (abandons_to (known g.B.Bay.tells g.B.Bay.provider g.B.Bay.connection) c.settling_keeps_a_session.ensures.keeps c.settling_keeps_a_session.ensures.begins c.all_ended.ensures c.self.inside.paints c.self.inside.place c.self.inside.state c.close_all.new.state c.self.invariant c.into_parts-desk.result.1.items c.into_parts-desk.result.2 c.close_all.ensures.through c.close_all.ensures.closed c.into_parts-desk.ensures.ends c.into_parts-desk.ensures.bay)
