use Rattle.std.proofs.Common.{◌∙◌, ap, arith, ◌++◌, ◌∷◌, [], Some}
use Rattle.client_connection.specs.declared.ends.End.TheVariants.{Unended}
use Rattle.session_core.proofs.Steadies.{steady_same, steady_accepted}
use Rattle.session_core.proofs.state.Session.accept.Goals as goal

pub invariant_of-self-in-Conn : goal.invariant_of-self-in-Conn
invariant_of-self-in-Conn g c =
    let answer = c.in-Conn.ensures.answer in
    let counted = ap (λ p. p.count) answer.2 in
    steady_accepted _ c.new.result _ _ _ c.self.invariant c.new.ensures
    (c.push_reserved.ensures.items ∙ ap (λ cs. cs ++ Some c.new.result ∷ []) c.reserve.ensures.items)
    (c.push_reserved-in-Conn.ensures.items ∙ ap (λ es. es ++ Unended ∷ []) c.reserve-else-is_err.ensures.items)
    counted (omega (arith, c.in-Conn.ensures.numbered)) c.in-Conn.ensures.others answer.3

pub invariant_of-self-in-Nobody : goal.invariant_of-self-in-Nobody
invariant_of-self-in-Nobody g c =
    steady_same _ _ _ _ c.self.invariant c.reserve.ensures.items c.reserve-else-is_err.ensures.items (ap (λ p. p.count) c.in-Nobody.ensures.answer.2) c.in-Nobody.ensures.others

pub invariant_of-self-in-Failed : goal.invariant_of-self-in-Failed
invariant_of-self-in-Failed g c =
    steady_same _ _ _ _ c.self.invariant c.reserve.ensures.items c.reserve-else-is_err.ensures.items (ap (λ p. p.count) c.in-Failed.ensures.answer.1) c.in-Failed.ensures.others

pub invariant_of-self-in-NoMemory : goal.invariant_of-self-in-NoMemory
invariant_of-self-in-NoMemory g c =
    steady_same _ _ _ _ c.self.invariant c.reserve.ensures.items c.reserve-else-is_err.ensures.items (ap (λ p. p.count) c.in-NoMemory.ensures.answer) c.in-NoMemory.ensures.others
