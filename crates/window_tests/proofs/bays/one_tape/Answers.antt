use Rattle.std.proofs.Common.{◌≤◌, ◌++◌, ◌∷◌, [], ap, ◌∙◌}
use Rattle.link_bay.specs.declared.inbound.Inbound.{Inbound}
use Rattle.window_tests.proofs.Singles.{all_single}
use Rattle.window_tests.proofs.bays.one_tape.Goals as goal

pub new-requires-clause-pieces : goal.new-requires-clause-pieces
new-requires-clause-pieces c = all_single (λ (i : Inbound). 1 ≤ i.piece) c.args.tape c.push.new.self.items (c.in_ok-push.ensures.items ∙ ap (λ tapes. tapes ++ c.args.tape ∷ []) c.new-tapes.ensures.items) c.requires
