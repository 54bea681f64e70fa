-- What a writer got of a piece, write by write.
use Rattle.std.proofs.Common.{◌≡◌, ℕ, ◌-◌, List, ◌++◌, length, take, drop, sym, ap, ◌∙◌, append_assoc, take-append-drop}
use Rattle.std.proofs.lemmas.List.{take_rest}

-- bytes from the front of the rest join the part that is gone
pub moves_front : (all part rest : List ℕ) (n : ℕ) → all ≡ part ++ rest → all ≡ (part ++ take n rest) ++ take (length rest - n) (drop n rest)
moves_front all part rest n e =
    e ∙ ap (λ l. part ++ l) (sym (take-append-drop n rest)) ∙ sym (append_assoc part (take n rest) (drop n rest)) ∙ ap (λ l. (part ++ take n rest) ++ l) (sym (take_rest rest n))
