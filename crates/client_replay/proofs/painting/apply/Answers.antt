use Rattle.std.proofs.Common.{sym, ap, ◌∙◌, to_z, of_z, w32, rules}
use Rattle.std.specs.Prelude.{Some}
use Rattle.std.proofs.lemmas.Int.{to_z-of_z}
use Rattle.window_model.specs.Desktop.{moved_on}
use Rattle.packet_kinds.specs.Effects.{effect}
use Rattle.client_replay.proofs.Draws.{on_ok, draw_effect}
use Rattle.client_replay.proofs.painting.apply.Goals as goal

pub returns-in-WindowMoveResize-clause-ok : goal.returns-in-WindowMoveResize-clause-ok
returns-in-WindowMoveResize-clause-ok c =
    let x = to_z-of_z w32 c.in-WindowMoveResize.x (search rules) in
    let y = to_z-of_z w32 c.in-WindowMoveResize.y (search rules) in
    ap (effect c.args.desk.now) c.in-WindowMoveResize.is
    ∙ ap (λ z. Some (moved_on c.args.desk.now c.in-WindowMoveResize.wid z c.in-WindowMoveResize.y)) (sym x)
    ∙ ap (λ z. Some (moved_on c.args.desk.now c.in-WindowMoveResize.wid (to_z w32 (of_z w32 c.in-WindowMoveResize.x)) z)) (sym y)
    ∙ ap Some (sym c.place.ensures)

pub returns-in-Some-clause-ok : goal.returns-in-Some-clause-ok
returns-in-Some-clause-ok c =
    on_ok _ _
    (λ drawn.
    draw_effect c.args.desk.now c.draw.new.desk c.args.message.now c.in-Draw.wid c.in-Draw.x c.in-Draw.y c.in-Draw.w c.in-Draw.h c.in-Draw.coding c.in-Draw.bytes
    c.in-Draw.packet_sequence c.in-Draw.rowstride c.in-Some.r c.as_slice.result.now c.in-Draw.is c.requires.effect c.in-Some.ensures.some c.as_slice.ensures drawn)
    c.draw.result c.draw.ensures.ok
