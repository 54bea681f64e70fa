use Rattle.std.proofs.Common.{◌∙◌, sym, ap}
use Rattle.window_model.specs.Drawing.{placed}
use Rattle.window_model.proofs.Windows.{IsWindow-placed}
use Rattle.window_model.proofs.window.Win.put.Goals as goal

pub invariant_of-self : goal.invariant_of-self
invariant_of-self c =
    let numbers = c.as_slice-2.ensures ∙ sym c.as_slice.ensures in
    let pixels = c.new-3.ensures ∙ c.copy_rows.ensures ∙ ap (placed c.self.inside.w c.args.r c.as_slice-2.result.now) (c.into_vec-pixels.ensures ∙ c.replace.ensures.value) in
    rw (pixels, numbers) (IsWindow-placed _ c.args.r c.as_slice.result.now c.see_colours.ensures c.self.invariant)

pub returns-clause-kept : goal.returns-clause-kept
returns-clause-kept c =
    let numbers = c.as_slice-2.ensures ∙ sym c.as_slice.ensures in
    let pixels = c.new-3.ensures ∙ c.copy_rows.ensures ∙ ap (placed c.self.inside.w c.args.r c.as_slice-2.result.now) (c.into_vec-pixels.ensures ∙ c.replace.ensures.value) in
    rw (pixels, numbers) (IsWindow-placed _ c.args.r c.as_slice.result.now c.see_colours.ensures c.self.invariant)
