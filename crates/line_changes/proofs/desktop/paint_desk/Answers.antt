use Rattle.std.proofs.Common.{rules, ◌≡◌, w32, to_z, of_z, sym, ap, ◌∙◌}
use Rattle.std.proofs.lemmas.Int.{to_z-of_z}
use Rattle.window_model.specs.Desktop.{moved_on}
use Rattle.paint_script.specs.Painting.{painted}
use Rattle.line_changes.proofs.desktop.paint_desk.Goals as goal

pub returns-in-Move-clause-ok : goal.returns-in-Move-clause-ok
returns-in-Move-clause-ok c =
    let x : to_z w32 (of_z w32 c.in-Move.x) ≡ c.in-Move.x = to_z-of_z w32 c.in-Move.x (search rules) in
    let y : to_z w32 (of_z w32 c.in-Move.y) ≡ c.in-Move.y = to_z-of_z w32 c.in-Move.y (search rules) in
    c.place.ensures ∙ ap (λ z. moved_on c.args.desk.now c.in-Move.wid z (to_z w32 (of_z w32 c.in-Move.y))) x ∙ ap (λ z. moved_on c.args.desk.now c.in-Move.wid c.in-Move.x z) y ∙ ap (painted c.args.desk.now) (sym c.in-Move.is)
