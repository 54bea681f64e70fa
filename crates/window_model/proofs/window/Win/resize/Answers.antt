use Rattle.std.proofs.Common.{◌≡◌, sym, ap, ◌∙◌}
use Rattle.window_model.specs.Drawing.{resized}
use Rattle.window_model.specs.Desktop.{Window}
use Rattle.window_model.proofs.Windows.{IsWindow-resized}
use Rattle.window_model.proofs.window.Win.resize.Goals as goal

pub invariant_of-self : goal.invariant_of-self
invariant_of-self c =
    let made : c.args.pixels ≡ resized c.self.inside.w c.self.inside.h c.args.w c.args.h c.self.inside.pixels =
    c.requires.made ∙ ap (λ (z : Window). resized z.w z.h c.args.w c.args.h z.pixels) (sym c.self.view_is) in
    rw made (IsWindow-resized _ c.args.w c.args.h c.requires.wide c.requires.high c.self.invariant)

pub returns-clause-kept : goal.returns-clause-kept
returns-clause-kept c =
    let made : c.args.pixels ≡ resized c.self.inside.w c.self.inside.h c.args.w c.args.h c.self.inside.pixels =
    c.requires.made ∙ ap (λ (z : Window). resized z.w z.h c.args.w c.args.h z.pixels) (sym c.self.view_is) in
    rw made (IsWindow-resized _ c.args.w c.args.h c.requires.wide c.requires.high c.self.invariant)
