use Rattle.session_core.proofs.Lives.{session_plain}
use Rattle.session_core.proofs.state.Session.is_painted.Goals as goal

pub returns-clause-kept : goal.returns-clause-kept
returns-clause-kept g c = rw (← c.self.view_is) (session_plain c.self.inside.clients.items c.self.invariant.session)

pub returns-clause-told : goal.returns-clause-told
returns-clause-told g c = rw (← c.self.view_is) c.self.invariant.told

pub returns-clause-known : goal.returns-clause-known
returns-clause-known g c = rw (← c.self.view_is) c.self.invariant.known
