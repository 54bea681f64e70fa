use Rattle.std.proofs.Common.{◌∙◌, ap, sym, cond, eqb, arith}
use Rattle.std.proofs.lemmas.List.Edits.{map_over_more}
use Rattle.std.specs.Prelude.{slice_set}
use Rattle.paint_script.specs.declared.opening.Opening.{Opening}
use Rattle.paint_script.specs.Faults.{with_size}
use Rattle.paint_script.proofs.changes.resize.Goals as goal

pub loop-o-preserved : goal.loop-o-preserved
loop-o-preserved c =
    ap (slice_set c.loop-o.o-items c.loop-o.o-index)
    (c.resized.ensures ∙ ap (λ (o : Opening). cond (eqb o.wid c.args.wid) (with_size c.args.w c.args.h o) o) (sym c.o-item.is))
    ∙ map_over_more (λ (o : Opening). cond (eqb o.wid c.args.wid) (with_size c.args.w c.args.h o) o) _ _ c.loop-o.o-index c.o-item.result (omega arith) c.loop-o.invariant c.o-item.is
