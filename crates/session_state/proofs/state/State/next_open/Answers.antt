use Rattle.std.proofs.Common.{subst}
use Rattle.connection_table.specs.Tables.{IsNextOpen, NoneFrom}
use Rattle.session_steps.specs.Seen.{Seen}
use Rattle.session_state.proofs.Drawings.{viewed_next, viewed_none}
use Rattle.session_state.proofs.state.State.next_open.Goals as goal

pub returns-in-Some-clause-some : goal.returns-in-Some-clause-some
returns-in-Some-clause-some g c = subst (λ (s : Seen _). IsNextOpen s.slots c.args.from c.in-Some.number) c.self.view_is (viewed_next c.self.inside.table.slots c.args.from c.in-Some.number c.in-Some.ensures.some)

pub returns-in-None-clause-none : goal.returns-in-None-clause-none
returns-in-None-clause-none g c none = subst (λ (s : Seen _). NoneFrom s.slots c.args.from) c.self.view_is (viewed_none c.self.inside.table.slots c.args.from (c.next_open.ensures.none c.in-None.is))
