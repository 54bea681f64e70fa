use Rattle.std.proofs.Common.{sym, ap, ◌∙◌}
use Rattle.std.specs.Prelude.{option_copied}
use Rattle.std.specs.Option.{option_map}
use Rattle.connection_table.specs.Tables.{open_at}
use Rattle.open_connection.specs.Connection.{connection_in}
use Rattle.session_steps.specs.Seen.{Seen}
use Rattle.session_steps.specs.Drawing.{is_clear_where}
use Rattle.session_state.proofs.Viewed.{view_open}
use Rattle.session_state.proofs.state.State.is_clear.Goals as goal

pub returns-in-Some : goal.returns-in-Some
returns-in-Some g c =
    let here = sym c.get.ensures ∙ ap option_copied c.in-Some.is in
    c.is_clear.ensures
    ∙ sym (ap is_clear_where (ap (λ (s : Seen _). open_at s.slots c.args.c.0) (sym c.self.view_is) ∙ view_open c.self.inside.table.slots c.args.c.0 ∙ ap (option_map connection_in) here))

pub returns-in-None : goal.returns-in-None
returns-in-None g c =
    let here = sym c.get.ensures ∙ ap option_copied c.in-None.is in
    sym (ap is_clear_where (ap (λ (s : Seen _). open_at s.slots c.args.c.0) (sym c.self.view_is) ∙ view_open c.self.inside.table.slots c.args.c.0 ∙ ap (option_map connection_in) here))
