use Rattle.std.proofs.Common.{ap, ◌∙◌, subst}
use Rattle.session_state.specs.Views.{known}
use Rattle.whole_session.specs.Session.{SessionSeen}
use Rattle.whole_session.specs.Ending.{SettlesTo, EndRightly}
use Rattle.whole_session.proofs.Endings.{begins_here, settling_on, settles_to, desk_stays, end_rightly}
use Rattle.whole_session.proofs.session.Session.settle.Goals as goal

pub settle-how-requires : goal.settle-how-requires
settle-how-requires g c = record { settling = (begins_here (known g.B.Bay.tells g.B.Bay.provider g.B.Bay.connection) c.settling_keeps_a_session.ensures.begins c.self.inside.paints c.self.inside.place c.self.inside.state c.self.invariant) }

pub close_all-requires : goal.close_all-requires
close_all-requires g c = record { settling = settling_on (known g.B.Bay.tells g.B.Bay.provider g.B.Bay.connection) c.settling_keeps_a_session.ensures.keeps c.self.inside.state c.settle-how.new.state (begins_here (known g.B.Bay.tells g.B.Bay.provider g.B.Bay.connection) c.settling_keeps_a_session.ensures.begins c.self.inside.paints c.self.inside.place c.self.inside.state c.self.invariant) c.settle-how.ensures.through }

pub returns-clause-desk : goal.returns-clause-desk
returns-clause-desk g c = c.into_parts-desk.ensures.desk ∙ desk_stays (known g.B.Bay.tells g.B.Bay.provider g.B.Bay.connection) c.settling_keeps_a_session.ensures.keeps c.settling_keeps_a_session.ensures.begins c.all_ended.ensures c.self.inside.paints c.self.inside.place c.self.inside.state c.settle-how.new.state c.close_all.new.state c.self.invariant c.settle-how.result c.into_parts-desk.result.1.items c.into_parts-desk.result.2
    c.settle-how.ensures.through c.settle-how.ensures.settled c.close_all.ensures.through c.close_all.ensures.closed c.into_parts-desk.ensures.ends c.into_parts-desk.ensures.bay ∙ ap (λ (s : SessionSeen _). s.seen.desk) c.self.view_is

pub returns-clause-settles : goal.returns-clause-settles
returns-clause-settles g c = subst (λ (s : SessionSeen _). SettlesTo (known g.B.Bay.tells g.B.Bay.provider g.B.Bay.connection) s.seen c.settle-how.result c.into_parts-desk.result.1.items c.into_parts-desk.result.2) c.self.view_is (settles_to (known g.B.Bay.tells g.B.Bay.provider g.B.Bay.connection) c.settling_keeps_a_session.ensures.keeps c.settling_keeps_a_session.ensures.begins c.all_ended.ensures c.self.inside.paints c.self.inside.place c.self.inside.state c.settle-how.new.state c.close_all.new.state c.self.invariant c.settle-how.result c.into_parts-desk.result.1.items c.into_parts-desk.result.2
    c.settle-how.ensures.through c.settle-how.ensures.settled c.close_all.ensures.through c.close_all.ensures.closed c.into_parts-desk.ensures.ends c.into_parts-desk.ensures.bay)

pub returns-clause-causes : goal.returns-clause-causes
returns-clause-causes g c = subst (λ (s : SessionSeen _). EndRightly (known g.B.Bay.tells g.B.Bay.provider g.B.Bay.connection) s.seen.desk c.into_parts-desk.result.1.items c.into_parts-desk.result.2) c.self.view_is
    (end_rightly (known g.B.Bay.tells g.B.Bay.provider g.B.Bay.connection) c.settling_keeps_a_session.ensures.keeps c.settling_keeps_a_session.ensures.begins c.all_ended.ensures c.self.inside.paints c.self.inside.place c.self.inside.state c.settle-how.new.state c.close_all.new.state c.self.invariant c.settle-how.result c.into_parts-desk.result.1.items c.into_parts-desk.result.2
    c.settle-how.ensures.through c.settle-how.ensures.settled c.close_all.ensures.through c.close_all.ensures.closed c.into_parts-desk.ensures.ends c.into_parts-desk.ensures.bay c.ends_of_settling_have_causes.ensures.all)
