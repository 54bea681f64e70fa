use Rattle.std.proofs.Common.{◌∙◌, ap, List, Bool, false, get_or}
use Rattle.std.proofs.lemmas.List.{get_or-replicate}
use Rattle.paint_script.proofs.changes.no_marks.Goals as goal

pub returns-clause-clear : goal.returns-clause-clear
returns-clause-clear c = λ k within. ap (λ (ms : List Bool). get_or ms k false) (c.in_ok-vec.ensures.items_if_clones_equal (λ y e. e)) ∙ get_or-replicate c.args.count k false false within
