use Rattle.std.proofs.Common.{take}
use Rattle.paint_script.specs.Validity.{has_opened}
use Rattle.session_steps.specs.Steady.{Stepping}
use Rattle.session_state.specs.Views.{known}
use Rattle.whole_session.proofs.Desktops.{receives_desk, steps_on}
use Rattle.whole_session.proofs.session.Session.receive.Goals as goal

pub invariant_of-self : goal.invariant_of-self
invariant_of-self g c = steps_on (known g.B.Bay.tells g.B.Bay.provider g.B.Bay.connection) c.self.inside.paints c.self.inside.place c.self.inside.state c.receive.new.self c.self.invariant (receives_desk (known g.B.Bay.tells g.B.Bay.provider g.B.Bay.connection) c.args.c c.receive.result c.self.inside.state c.receive.new.self c.receive.ensures)
    (c.a_read_keeps_a_session.ensures (known g.B.Bay.tells g.B.Bay.provider g.B.Bay.connection) Stepping (has_opened (take c.self.inside.place c.self.inside.paints)) c.args.c c.self.inside.state c.receive.new.self c.receive.result c.receive.ensures (c.self.invariant).steady)
