use Rattle.std.proofs.Common.{◌≡◌, ◌∙◌, ap, List}
use Rattle.std.specs.Option.{option_copied}
use Rattle.std.specs.List.{slice_get}
use Rattle.script_lines.specs.declared.paint.Paint.{Paint}
use Rattle.paint_script.proofs.Desks.{next_desk, end_desk}
use Rattle.paint_script.proofs.paints.Paints.line.Goals as goal

pub returns-clause-next : goal.returns-clause-next
returns-clause-next c =
    let here : option_copied c.line_at.result ≡ slice_get c.args.self.now c.args.place =
    c.line_at.ensures ∙ ap (λ (lines : List Paint). slice_get lines c.args.place) (c.as_slice.ensures.value ∙ c.self.view_is) in
    next_desk c.args.self.now c.args.place c.line_at.result here

pub returns-clause-last : goal.returns-clause-last
returns-clause-last c =
    let here : option_copied c.line_at.result ≡ slice_get c.args.self.now c.args.place =
    c.line_at.ensures ∙ ap (λ (lines : List Paint). slice_get lines c.args.place) (c.as_slice.ensures.value ∙ c.self.view_is) in
    end_desk c.args.self.now c.args.place c.line_at.result here
