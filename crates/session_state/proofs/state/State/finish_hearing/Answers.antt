use Rattle.std.proofs.Common.{set, ap, ◌∙◌}
use Rattle.connection_table.specs.Tables.{Open}
use Rattle.open_connection.specs.Connection.{connection_in}
use Rattle.session_steps.specs.Seen.{Seen}
use Rattle.session_state.specs.Views.{slots_in}
use Rattle.session_state.proofs.Viewed.{view_set}
use Rattle.session_state.proofs.Seeing.{moved_to, goes_on}
use Rattle.session_state.proofs.state.State.finish_hearing.Goals as goal

pub returns-in-GoesOn-clause-gives : goal.returns-in-GoesOn-clause-gives
returns-in-GoesOn-clause-gives g c = goes_on c.args.c (connection_in c.args.connection) c.args.count
    (record { desk = c.self.inside.desk; clock = c.self.inside.clock; slots = slots_in c.self.inside.table.slots; ignored = c.self.inside.ignored; greeted = c.self.inside.greeted; accept_failed = c.self.inside.accept_failed; bay = c.self.inside.bay })
    c.args.self.now (slots_in c.put_back.new.self.slots) c.self.inside.bay (g.B.Bay.connection c.args.self.now.bay c.args.c.0) (g.B.Bay.connection c.self.inside.bay c.args.c.0) c.args.heard c.in-GoesOn.ignored c.in-GoesOn.is
    (ap (λ (s : Seen _). g.B.Bay.connection s.bay c.args.c.0) (c.self.view_is ∙ c.count_ignored.ensures))
    (moved_to _ _ _ _ _ (c.self.view_is ∙ c.count_ignored.ensures)
    (ap slots_in c.put_back.ensures ∙ view_set c.self.inside.table.slots c.args.c.0 (Open c.args.connection) ∙ ap (λ (s : Seen _). set s.slots c.args.c.0 (Open (connection_in c.args.connection))) (c.self.view_is ∙ c.count_ignored.ensures)))
