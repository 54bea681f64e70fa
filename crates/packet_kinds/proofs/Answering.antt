-- What a reader answers for want of memory, and what follows from an answer.
use Rattle.std.proofs.Common.{◌≡◌, ℕ, sym, subst}
use Rattle.std.specs.Prelude.{Result, Ok, Err, IfOk}
use Rattle.std.specs.Result.{IsErrAnd}
use Rattle.packet_kinds.specs.declared.fault.KindFault.{KindFault}
use Rattle.packet_kinds.specs.declared.fault.KindFault.TheVariants as F
use Rattle.packet_kinds.specs.Answers.{Answers}

pub no_memory : {M : Type 0} (says : Result M ℕ) (m : M) (result : Result M KindFault) → says ≡ Ok m → IsErrAnd result (λ fault. fault ≡ F.NoMemory) → Answers says result
no_memory says m (Ok n) e is = absurd is
no_memory says m (Err fault) e is = subst (λ f. Answers says (Err f)) (sym is) (m, e)

-- what is so of a result is so of what follows from it
pub ok_then : {A E : Type 0} (P Q : A → Type 0) → ((a : A) → P a → Q a) → (r : Result A E) → IfOk r P → IfOk r Q
ok_then P Q next (Ok a) h = next a h
ok_then P Q next (Err e) h = tt
