use Rattle.std.proofs.Common.{◌*◌, ◌/◌, ap, ◌∙◌}
use Rattle.std.proofs.Math.Nat.{mod-add-mod}
use Rattle.window_model.specs.Generator.{next_state}
use Rattle.window_model.proofs.generator.Generator.next.Goals as goal

pub returns-clause-state : goal.returns-clause-state
unfolding next_state
returns-clause-state c = mod-add-mod (c.self.inside.state * 6364136223846793005) 18446744073709551616 1442695040888963407 ∙ ap next_state c.self.view_is

pub returns-clause-value : goal.returns-clause-value
unfolding next_state
returns-clause-value c =
    ap (λ z. z / 8589934592) (mod-add-mod (c.self.inside.state * 6364136223846793005) 18446744073709551616 1442695040888963407 ∙ ap next_state c.self.view_is)
