-- A list handed out piece by piece.
use Rattle.std.proofs.Common.{◌≡◌, ℕ, ◌+◌, List, ◌++◌, take, drop, sym, ap, ◌∙◌}
use Rattle.std.proofs.lemmas.List.{take-append-drop, drop-drop}

-- what is left is the next piece and the rest behind it
pub drop-piece : (items : List ℕ) (place count : ℕ) → drop place items ≡ take count (drop place items) ++ drop (place + count) items
drop-piece items place count =
    sym (take-append-drop count (drop place items)) ∙ ap (λ rest. take count (drop place items) ++ rest) (drop-drop count place items)
