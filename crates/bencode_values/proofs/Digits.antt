-- Marks and decimal digits.
use Rattle.std.proofs.Common.{◌≡◌, ℕ, ◌+◌, ◌*◌, ◌/◌, ◌%◌, ◌^◌, ◌<◌, ◌≤◌, List, [], ◌∷◌, ◌++◌, map, refl, sym, ap, ◌∙◌, arith}
use Rattle.std.specs.Fmt.{decimal}
use Rattle.std.specs.Int.Digits.{digits_of}
use Rattle.std.proofs.lemmas.Fmt.{decimal-digits_of}
use Rattle.std.proofs.lemmas.Int.Digits.{digits_of_step}
use Rattle.std.proofs.lemmas.Bool.Decides.{nat_tests}
use Rattle.bencode_values.specs.declared.mark.Mark.{Mark}
use Rattle.bencode_values.specs.declared.mark.Mark.TheVariants as M
use Rattle.bencode_values.specs.Marks.{mark_of}

-- the byte that a mark stands for
abbrev pub IsMark : Mark → ℕ → Type 0
IsMark M.Int b = b ≡ 105
IsMark M.List b = b ≡ 108
IsMark M.Dict b = b ≡ 100
IsMark M.End b = b ≡ 101
IsMark M.Colon b = b ≡ 58
IsMark M.Minus b = b ≡ 45
IsMark (M.Digit d) b = (d ≤ 9) × (b ≡ 48 + d)
IsMark M.Other b = Unit {0}

pub mark_is : (b : ℕ) → IsMark (mark_of b) b
mark_is b = grind (arith, nat_tests)

pub mark-digit : (d : ℕ) → d ≤ 9 → mark_of (48 + d) ≡ M.Digit d
mark-digit d h = grind (arith, nat_tests)

map_push : (f : ℕ → ℕ) (xs : List ℕ) (x : ℕ) → map f (xs ++ x ∷ []) ≡ map f xs ++ f x ∷ []
map_push f [] x = refl
map_push f (y ∷ xs) x = ap (λ l. f y ∷ l) (map_push f xs x)

-- one digit more
pub decimal_push : (k d : ℕ) → 0 < k → d ≤ 9 → 10 * k + d < 2 ^ 64 → decimal (10 * k + d) ≡ decimal k ++ (48 + d) ∷ []
decimal_push k d positive digit small =
    let quotient : (10 * k + d) / 10 ≡ k = omega arith in
    let remainder : (10 * k + d) % 10 ≡ d = omega arith in
    decimal-digits_of (10 * k + d) (omega arith) small
    ∙ ap (map (λ e. 48 + e)) (digits_of_step 10 (10 * k + d) (omega arith) (omega arith))
    ∙ ap (λ q. map (λ e. 48 + e) (digits_of 10 q ++ (10 * k + d) % 10 ∷ [])) quotient
    ∙ ap (λ r. map (λ e. 48 + e) (digits_of 10 k ++ r ∷ [])) remainder
    ∙ map_push (λ e. 48 + e) (digits_of 10 k) d
    ∙ ap (λ l. l ++ (48 + d) ∷ []) (sym (decimal-digits_of k positive (omega arith)))
