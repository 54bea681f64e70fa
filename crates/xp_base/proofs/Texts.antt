-- How long printed numbers and packets' items may be.
use Rattle.std.proofs.Common.{ℕ, ◌^◌, ◌<◌, ◌≤◌, length, arith}
use Rattle.std.specs.Fmt.{decimal, signed_decimal}
use Rattle.std.proofs.lemmas.Fmt.{length-decimal-le, length_signed_le}
use lib.IntN.{ℤ}
use lib.Signed.{mag}

pub number_short : (n : ℕ) → n < 2 ^ 64 → length (decimal n) ≤ 20
number_short n small = length-decimal-le 20 n (omega arith) (omega arith) small

pub signed_short : (z : ℤ) → mag z < 2 ^ 63 → length (signed_decimal z) ≤ 21
signed_short z small = length_signed_le 20 z (omega arith) small
