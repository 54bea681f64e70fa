use Rattle.std.proofs.Common.{ap, sym, subst}
use Rattle.session_core.specs.Causes.{EndsHaveCauses, EndedStay}
use Rattle.session_core.specs.State.{Seen}
use Rattle.session_core.proofs.Going.{windows_right}
use Rattle.session_core.proofs.state.Session.settle.Goals as goal

pub returns-clause-causes : goal.returns-clause-causes
returns-clause-causes g c =
    let after = c.settle_all-how.new.self in
    subst (λ (s : Seen g.row.B.Denot). EndsHaveCauses g.B.Bay.tells c.args.self.lines c.args.self.desk (g.B.Bay.connection s.bay) c.args.self.ends s.ends) (sym c.self.view_is)
    (windows_right g.B.Bay.tells after.lines c.args.self.lines after.desk c.args.self.desk (g.B.Bay.connection after.bay) c.args.self.ends after.ends (sym c.settle_all-how.ensures.windows.lines) (sym c.settle_all-how.ensures.windows.desk) c.settle_all-how.ensures.turn.causes)

pub returns-clause-settles : goal.returns-clause-settles
returns-clause-settles g c = (
  c.settle_all-how.new.self,
  c.settle_all-how.ensures.turn.settling,
  ap (λ (s : Seen g.row.B.Denot). s.ends) (sym c.self.view_is),
  ap (λ (s : Seen g.row.B.Denot). s.bay) (sym c.self.view_is),
)

pub returns-clause-stays : goal.returns-clause-stays
returns-clause-stays g c =
    subst (λ (s : Seen g.row.B.Denot). EndedStay (g.B.Bay.connection c.args.self.bay) (g.B.Bay.connection s.bay) c.args.self.ends) (sym c.self.view_is) c.settle_all-how.ensures.turn.stays
