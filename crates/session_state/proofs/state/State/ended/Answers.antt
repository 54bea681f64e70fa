use Rattle.std.proofs.Common.{ap, sym, ◌∙◌}
use Rattle.std.specs.Prelude.{slice_get}
use Rattle.connection_table.specs.Tables.{ending}
use Rattle.session_steps.specs.Seen.{Seen}
use Rattle.session_state.proofs.Viewed.{view_ended}
use Rattle.session_state.proofs.state.State.ended.Goals as goal

pub returns : goal.returns
returns g c = c.ended.ensures ∙ sym (view_ended c.self.inside.table.slots c.args.c.0) ∙ ap (λ (s : Seen _). ending (slice_get s.slots c.args.c.0)) c.self.view_is
