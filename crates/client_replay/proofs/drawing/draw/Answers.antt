use Rattle.std.proofs.Common.{◌≡◌, ◌*◌, take, sym, ap, subst, ◌∙◌}
use Rattle.std.specs.Prelude.{length}
use Rattle.xp_base.specs.Points.{Rectangle}
use Rattle.rgb_encoders.specs.Decoded.{decoded}
use Rattle.rgb_encoders.proofs.Points.{length-decoded}
use Rattle.client_replay.proofs.Draws.{unseen_draw, seen_draw}
use Rattle.client_replay.proofs.drawing.draw.Goals as goal

pub returns-in_default-clause-ok : goal.returns-in_default-clause-ok
returns-in_default-clause-ok c = sym (unseen_draw c.args.desk.now c.args.wid c.args.r c.args.coding c.args.stride c.args.bytes.now c.len-windows.ensures.kept c.requires c.in_default.ensures)

pub put-requires-clause-sized : goal.put-requires-clause-sized
put-requires-clause-sized c =
    let front = subst (λ (p : Rectangle). c.in-Ok.pixels ≡ decoded c.args.coding p.w p.h c.args.stride (take (c.args.stride * p.h) c.args.bytes.now)) c.part.view_is c.in-Ok.ensures.1 in
    ap length front ∙ length-decoded c.args.coding c.in-Some.part.w c.in-Some.part.h c.args.stride _

pub returns-in-Ok-clause-ok : goal.returns-in-Ok-clause-ok
returns-in-Ok-clause-ok c =
    let front = subst (λ (p : Rectangle). c.in-Ok.pixels ≡ decoded c.args.coding p.w p.h c.args.stride (take (c.args.stride * p.h) c.args.bytes.now)) c.part.view_is c.in-Ok.ensures.1 in
    c.put.ensures
    ∙ seen_draw c.args.desk.now c.args.wid c.args.r c.args.coding c.args.stride c.args.bytes.now c.len-windows.ensures.kept c.requires c.in-Some.part c.in-Ok.pixels c.in-Some.ensures front
