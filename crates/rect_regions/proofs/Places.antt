-- Places in lists of rectangles.
use Rattle.std.proofs.Common.{◌≡◌, ℕ, zero, suc, ◌+◌, ◌<◌, ◌≤◌, List, [], ◌∷◌, ◌++◌, map, length, get_or, set, take, drop, sym, ap, ◌∙◌, arith, append_assoc}
use Rattle.std.proofs.lemmas.List.{map-append, drop_more, take_more, take_more_set, drop-set-lt, drop-append-le, length-take-le, append-nil, drop_all, take_all}
use Rattle.xp_base.specs.Points.{Rectangle}
use Rattle.rect_regions.specs.Bands.{Each}

pub Each-at : {A : Type 0} (P : A → Type 0) (xs : List A) (i : ℕ) (d : A) → Each P xs → i < length xs → P (get_or xs i d)
Each-at P [] i d each low = absurd (omega arith)
Each-at P (x ∷ xs) zero d each low = each.0
Each-at P (x ∷ xs) (suc i) d each low = Each-at P xs i d each.1 (omega arith)

pub Each-drop_at : {A : Type 0} (P : A → Type 0) (xs : List A) (from i : ℕ) (d : A) → Each P (drop from xs) → from ≤ i → i < length xs → P (get_or xs i d)
Each-drop_at P xs zero i d each high low = Each-at P xs i d each low
Each-drop_at P [] (suc from) i d each high low = absurd (omega arith)
Each-drop_at P (x ∷ xs) (suc from) zero d each high low = absurd (omega arith)
Each-drop_at P (x ∷ xs) (suc from) (suc i) d each high low = Each-drop_at P xs from i d each (omega arith) (omega arith)

-- the next item is as it was
pub same_next : (now init : List Rectangle) (i : ℕ) (d : Rectangle) → i < length now → length now ≡ length init → drop i now ≡ drop i init → get_or now i d ≡ get_or init i d
same_next now init i d low sized rest =
    let one = drop_more now i d low in
    let other = drop_more init i d (omega arith) in
    cc

pub lengthen_more : (f : Rectangle → Rectangle) (from i : ℕ) (now init : List Rectangle) (d r : Rectangle) → from ≤ i → i < length now → length now ≡ length init
    → take i now ≡ take from init ++ map f (drop from (take i init)) → drop i now ≡ drop i init → r ≡ get_or now i d
    → take (i + 1) (set now i (f r)) ≡ take from init ++ map f (drop from (take (i + 1) init))
lengthen_more f from i now init d r high low sized done rest is =
    let here : i < length init = omega arith in
    let item : r ≡ get_or init i d = is ∙ same_next now init i d low sized rest in
    let cut : length (take i init) ≡ i = length-take-le i init (omega arith) in
    let within : from ≤ length (take i init) = omega arith in
    let parts : drop from (take (i + 1) init) ≡ drop from (take i init) ++ get_or init i d ∷ [] =
    ap (drop from) (take_more init i d here) ∙ drop-append-le from (take i init) (get_or init i d ∷ []) within in
    take_more_set now i (f r) low
    ∙ ap (λ (xs : List Rectangle). xs ++ f r ∷ []) done
    ∙ append_assoc (take from init) (map f (drop from (take i init))) (f r ∷ [])
    ∙ ap (λ (xs : List Rectangle). take from init ++ xs) (ap (λ (s : Rectangle). map f (drop from (take i init)) ++ f s ∷ []) item ∙ sym (map-append f (drop from (take i init)) (get_or init i d ∷ [])) ∙ ap (map f) (sym parts))

pub lengthen_rest : (i : ℕ) (now init : List Rectangle) (r : Rectangle) → i < length now → length now ≡ length init → drop i now ≡ drop i init → drop (i + 1) (set now i r) ≡ drop (i + 1) init
lengthen_rest i now init r low sized rest =
    let one = drop_more now i r low in
    let other = drop_more init i r (omega arith) in
    let same = drop-set-lt (i + 1) now i r (omega arith) in
    cc

pub lengthen_first : (f : Rectangle → Rectangle) (from : ℕ) (init : List Rectangle) → from ≤ length init → take from init ≡ take from init ++ map f (drop from (take from init))
lengthen_first f from init within =
    let none : drop from (take from init) ≡ [] = drop_all from (take from init) (omega (arith, length-take-le from init within)) in
    sym (ap (λ (xs : List Rectangle). take from init ++ map f xs) none ∙ append-nil (take from init))

pub lengthen_all : (f : Rectangle → Rectangle) (from i : ℕ) (now init : List Rectangle) → from ≤ length init → length init ≤ i → length now ≡ length init
    → take i now ≡ take from init ++ map f (drop from (take i init)) → now ≡ take from init ++ map f (drop from init)
lengthen_all f from i now init within past sized done =
    sym (take_all i now (omega arith)) ∙ done ∙ ap (λ (xs : List Rectangle). take from init ++ map f (drop from xs)) (take_all i init past)
