use Rattle.std.proofs.Common.{◌∙◌, arith, w32}
use Rattle.std.proofs.lemmas.Int.{to_z-of_z}
use Rattle.window_model.proofs.Windows.{IsWindow-fresh}
use Rattle.window_model.proofs.window.Win.new.Goals as goal

pub invariant_of-result : goal.invariant_of-result
invariant_of-result c =
    let pixels = c.new-pixels.ensures ∙ c.in_ok-blank_pixels.ensures in
    let number = c.get-number.ensures.value in
    let is = IsWindow-fresh c.args.wid c.args.x c.args.y c.args.w c.args.h (rw (← number) c.get-number.ensures.some) (omega (arith, number, c.get-number.type_inv)) c.requires.across c.requires.down c.requires.wide c.requires.high in
    rw (to_z-of_z w32 c.args.x c.ranges.x, to_z-of_z w32 c.args.y c.ranges.y, pixels) is

pub returns-clause-kept : goal.returns-clause-kept
returns-clause-kept c =
    let pixels = c.new-pixels.ensures ∙ c.in_ok-blank_pixels.ensures in
    let number = c.get-number.ensures.value in
    let is = IsWindow-fresh c.args.wid c.args.x c.args.y c.args.w c.args.h (rw (← number) c.get-number.ensures.some) (omega (arith, number, c.get-number.type_inv)) c.requires.across c.requires.down c.requires.wide c.requires.high in
    rw (to_z-of_z w32 c.args.x c.ranges.x, to_z-of_z w32 c.args.y c.ranges.y, pixels) is
