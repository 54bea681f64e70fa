use Rattle.std.proofs.Common.{◌∙◌, ap}
use Rattle.window_model.specs.Drawing.{filled}
use Rattle.window_model.proofs.Windows.{IsWindow-filled}
use Rattle.window_model.proofs.window.Win.fill.Goals as goal

pub invariant_of-self : goal.invariant_of-self
invariant_of-self c =
    let pixels = c.new-3.ensures ∙ c.fill_rows.ensures ∙ ap (filled c.self.inside.w c.args.r c.args.p) (c.into_vec-pixels.ensures ∙ c.replace.ensures.value) in
    rw pixels (IsWindow-filled _ c.args.r c.args.p (rw (← c.get-number.ensures.value) c.get-number.ensures.small) c.self.invariant)

pub returns-clause-kept : goal.returns-clause-kept
returns-clause-kept c =
    let pixels = c.new-3.ensures ∙ c.fill_rows.ensures ∙ ap (filled c.self.inside.w c.args.r c.args.p) (c.into_vec-pixels.ensures ∙ c.replace.ensures.value) in
    rw pixels (IsWindow-filled _ c.args.r c.args.p (rw (← c.get-number.ensures.value) c.get-number.ensures.small) c.self.invariant)
