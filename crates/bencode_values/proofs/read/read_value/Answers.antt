use Rattle.std.proofs.Common.{◌≡◌, [], Err, refl, ap, subst, ◌∙◌, arith}
use Rattle.bencode_values.specs.Reading.{Reads}
use Rattle.bencode_values.specs.declared.reading.Read.{Read}
use Rattle.bencode_values.specs.declared.reading.Read.TheVariants as R
use Rattle.bencode_values.proofs.Top.{are_bytes_at, told, nothing_else, read_of}
use Rattle.bencode_values.proofs.read.read_value.Goals as goal

pub returns-in-Ok-clause-told : goal.returns-in-Ok-clause-told
returns-in-Ok-clause-told c = subst (λ r. Reads c.args.bytes.now (read_of r)) c.in-Ok.is
    (told c.args.bytes.now c.value_at.result (are_bytes_at c.args.bytes.now (λ i. omega (arith, c.type_inv.bytes i))) (c.value_at.ensures.comes [] refl tt))

pub returns-in-Err-Short-clause-told : goal.returns-in-Err-Short-clause-told
returns-in-Err-Short-clause-told c = subst (λ r. Reads c.args.bytes.now (read_of r)) (c.in-Err-Short.is ∙ ap Err c.in-Err-Short.field-0-is)
    (told c.args.bytes.now c.value_at.result (are_bytes_at c.args.bytes.now (λ i. omega (arith, c.type_inv.bytes i))) (c.value_at.ensures.comes [] refl tt))

pub returns-in-Err-Bad-clause-told : goal.returns-in-Err-Bad-clause-told
returns-in-Err-Bad-clause-told c = subst (λ r. Reads c.args.bytes.now (read_of r)) (c.in-Err-Bad.is ∙ ap Err c.in-Err-Bad.field-0-is)
    (told c.args.bytes.now c.value_at.result (are_bytes_at c.args.bytes.now (λ i. omega (arith, c.type_inv.bytes i))) (c.value_at.ensures.comes [] refl tt))

pub returns-in-Ok-clause-only : goal.returns-in-Ok-clause-only
returns-in-Ok-clause-only c = subst (λ r. (answer : Read) → Reads c.args.bytes.now answer → (answer ≡ R.NoMemory → ⊥) → (read_of r ≡ R.NoMemory → ⊥) → read_of r ≡ answer) c.in-Ok.is
    (nothing_else c.args.bytes.now c.value_at.result (are_bytes_at c.args.bytes.now (λ i. omega (arith, c.type_inv.bytes i))) (c.value_at.ensures.comes [] refl tt))

pub returns-in-Err-Short-clause-only : goal.returns-in-Err-Short-clause-only
returns-in-Err-Short-clause-only c = subst (λ r. (answer : Read) → Reads c.args.bytes.now answer → (answer ≡ R.NoMemory → ⊥) → (read_of r ≡ R.NoMemory → ⊥) → read_of r ≡ answer) (c.in-Err-Short.is ∙ ap Err c.in-Err-Short.field-0-is)
    (nothing_else c.args.bytes.now c.value_at.result (are_bytes_at c.args.bytes.now (λ i. omega (arith, c.type_inv.bytes i))) (c.value_at.ensures.comes [] refl tt))

pub returns-in-Err-Bad-clause-only : goal.returns-in-Err-Bad-clause-only
returns-in-Err-Bad-clause-only c = subst (λ r. (answer : Read) → Reads c.args.bytes.now answer → (answer ≡ R.NoMemory → ⊥) → (read_of r ≡ R.NoMemory → ⊥) → read_of r ≡ answer) (c.in-Err-Bad.is ∙ ap Err c.in-Err-Bad.field-0-is)
    (nothing_else c.args.bytes.now c.value_at.result (are_bytes_at c.args.bytes.now (λ i. omega (arith, c.type_inv.bytes i))) (c.value_at.ensures.comes [] refl tt))
