use Rattle.std.proofs.Common.{Some, List, sym, ap, ◌∙◌}
use Rattle.std.specs.Prelude.{is_ok, slice_get}
use Rattle.std.proofs.lemmas.Option.{slice_get-get_or}
use Rattle.window_model.specs.Desktop.{Window}
use Rattle.connection_table.specs.Tables.{Away, Open}
use Rattle.open_connection.specs.Connection.{connection_in}
use Rattle.session_state.specs.Views.{slots_in}
use Rattle.session_state.proofs.Viewed.{view_set}
use Rattle.session_state.proofs.Sends.{seen_open}
use Rattle.session_state.proofs.Drawings.{where_ok, draws_so}
use Rattle.session_state.proofs.state.State.draw.Goals as goal

pub returns : goal.returns
returns g c = draws_so c.args.c c.args.place (is_ok c.draw-drawn.result) _ c.args.self.now (slots_in c.take.new.self.slots) (slots_in c.put_back.new.self.slots) c.in-Some.window.now (connection_in c.in-Some-take.connection) (connection_in c.draw-drawn.new.self)
    c.self.view_is (ap (λ (d : List Window). slice_get d c.args.place) (sym c.as_slice.ensures) ∙ slice_get-get_or c.as_slice.result.now c.args.place c.in-Some.window.now c.in-Some.ensures.lookup.3.0 ∙ ap (λ (w : Window). Some w) (sym c.in-Some.ensures.lookup.1))
    (seen_open c.self.inside.table.slots c.args.c.0 c.in-Some-take.connection c.take.result c.take.ensures.value c.in-Some-take.is)
    (ap slots_in c.in-Some-take.ensures.out ∙ view_set c.self.inside.table.slots c.args.c.0 Away) (ap slots_in c.put_back.ensures ∙ view_set c.take.new.self.slots c.args.c.0 (Open c.draw-drawn.new.self))
    c.draw-drawn.ensures.drawn (where_ok c.draw-drawn.result c.draw-drawn.ensures.nearer)
