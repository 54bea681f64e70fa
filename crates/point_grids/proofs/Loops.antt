-- One step of a loop.
use Rattle.std.proofs.Common.{◌≡◌, ℕ, ◌+◌, ◌*◌, ◌/◌, ◌<◌, ◌≤◌, subst, [], ◌∷◌, ◌++◌, map, arith}
use Rattle.std.specs.List.{range_with_len}
use Rattle.std.proofs.lemmas.List.FromFn.{map-range_with_len_more}
use Rattle.std.proofs.lemmas.Nat.{div_below}
use Rattle.std.proofs.Math.Nat.{mul_comm}

pub one_more : {X : Type 0} (f : ℕ → X) (n : ℕ) → map f (range_with_len 0 (n + 1)) ≡ map f (range_with_len 0 n) ++ f n ∷ []
one_more f n = map-range_with_len_more f 0 n n (omega arith)

pub row_below : (k wide high : ℕ) → 1 ≤ wide → high ≤ 4096 → k < wide * high → k / wide < 4096
row_below k wide high some limit below = let row : k / wide < high = div_below k wide high (omega arith) (subst (λ (n : ℕ). k < n) (mul_comm wide high) below) in omega arith
