use Rattle.std.proofs.Common.{◌≡◌, ◌∙◌, sym, ap, List, ◌++◌, ◌∷◌, [], Some}
use Rattle.xp_base.specs.Keyed.{keyed_push_some}
use Rattle.paint_script.specs.declared.opening.Opening.{Opening}
use Rattle.paint_script.specs.Faults.{find_open}
use Rattle.paint_script.specs.Kept.{without}
use Rattle.paint_script.proofs.changes.raise.Goals as goal

pub returns-in_ok-push : goal.returns-in_ok-push
returns-in_ok-push c =
    let found : c.find_open-raised.result ≡ Some c.in-Some.o = c.in-Some.is in
    c.in_ok-push.ensures.items ∙ ap (λ (ws : List Opening). ws ++ c.in-Some.o ∷ []) c.close.ensures
    ∙ ap (keyed_push_some (without c.args.windows.now.items c.args.wid)) (sym found ∙ c.find_open-raised.ensures ∙ ap (λ ws. find_open ws c.args.wid) c.as_slice.ensures.value)

pub returns-in_default : goal.returns-in_default
returns-in_default c = c.close.ensures
    ∙ ap (keyed_push_some (without c.args.windows.now.items c.args.wid)) (sym c.in_default.is ∙ c.find_open-raised.ensures ∙ ap (λ ws. find_open ws c.args.wid) c.as_slice.ensures.value)
