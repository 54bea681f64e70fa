use Rattle.std.proofs.Common.{sym, ap, ◌∙◌}
use Rattle.connection_table.specs.Tables.{ends_of}
use Rattle.session_steps.specs.Seen.{Seen}
use Rattle.session_state.proofs.Viewed.{view_ends}
use Rattle.session_state.proofs.state.State.into_parts.Goals as goal

pub returns-clause-ends : goal.returns-clause-ends
returns-clause-ends g c = c.into_ends.ensures ∙ sym (view_ends c.self.inside.table.slots) ∙ ap (λ (s : Seen _). ends_of s.slots) c.self.view_is
