use Rattle.std.proofs.Common.{take}
use Rattle.paint_script.specs.Validity.{has_opened}
use Rattle.session_steps.specs.Steady.{Stepping}
use Rattle.session_state.specs.Views.{known}
use Rattle.whole_session.proofs.Desktops.{accepts_desk, steps_on}
use Rattle.whole_session.proofs.session.Session.accept.Goals as goal

pub invariant_of-self : goal.invariant_of-self
invariant_of-self g c = steps_on (known g.B.Bay.tells g.B.Bay.provider g.B.Bay.connection) c.self.inside.paints c.self.inside.place c.self.inside.state c.accept.new.self c.self.invariant (accepts_desk (known g.B.Bay.tells g.B.Bay.provider g.B.Bay.connection) c.accept.result c.self.inside.state c.accept.new.self c.accept.ensures)
    (c.an_accept_keeps_a_session.ensures (known g.B.Bay.tells g.B.Bay.provider g.B.Bay.connection) Stepping (has_opened (take c.self.inside.place c.self.inside.paints)) c.self.inside.state c.accept.new.self c.accept.result c.accept.ensures (c.self.invariant).steady)
