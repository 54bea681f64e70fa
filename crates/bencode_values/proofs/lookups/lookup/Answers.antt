use Rattle.std.proofs.Common.{◌≡◌, ◌-◌, suc, None, Some, drop, sym, ap, subst, ◌∙◌, arith}
use Rattle.bencode_values.specs.declared.value.Pair.{Pair}
use Rattle.bencode_values.specs.Lookup.{is_text, last_value}
use Rattle.bencode_values.proofs.Looking.{last_found}
use Rattle.bencode_values.proofs.lookups.lookup.Goals as goal

pub returns-then-is_key : goal.returns-then-is_key
returns-then-is_key c =
    let some = c.loop-at-test.true in let inside = c.loop-at.auto.at in
    let next : c.loop-at.at ≡ suc (c.loop-at.at - 1) = omega arith in
    let here = c.index-list-at.is in
    ap (λ (p : Pair). Some p.value) here
    ∙ sym (last_found c.args.key.now c.as_slice-list.result.now (c.loop-at.at - 1) c.index-list-at.result (omega arith)
    (subst (λ n. last_value c.args.key.now (drop n c.as_slice-list.result.now) ≡ None) next c.loop-at.invariant)
    (ap (λ (p : Pair). is_text c.args.key.now p.key) (sym here) ∙ sym c.if-is_key.ensures))
    ∙ ap (last_value c.args.key.now) c.as_slice-list.ensures
