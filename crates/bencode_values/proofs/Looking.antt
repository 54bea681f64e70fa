-- The last pair with a key.
use Rattle.std.proofs.Common.{◌≡◌, ℕ, suc, zero, ◌<◌, true, cond, None, Some, List, [], ◌∷◌, ap, ◌∙◌, length, drop, get_or, arith}
use Rattle.bencode_values.specs.declared.value.Pair.{Pair}
use Rattle.bencode_values.specs.Lookup.{is_text, later, last_value}

pub last_found : (text : List ℕ) (ps : List Pair) (at : ℕ) (d : Pair) → at < length ps → last_value text (drop (suc at) ps) ≡ None → is_text text (get_or ps at d).key ≡ true
    → last_value text ps ≡ Some (get_or ps at d).value
last_found text [] at d less none here = absurd (omega arith)
last_found text (p ∷ ps) zero d less none here = ap (λ o. later o (cond (is_text text p.key) (Some p.value) None)) none ∙ ap (λ t. later None (cond t (Some p.value) None)) here
last_found text (p ∷ ps) (suc at) d less none here = ap (λ o. later o (cond (is_text text p.key) (Some p.value) None)) (last_found text ps at d (omega arith) none here)
