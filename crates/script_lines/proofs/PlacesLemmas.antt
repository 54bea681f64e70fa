-- The words of a line, read at their places.
use Rattle.std.proofs.Common.{◌≡◌, inl, inr, ℕ, zero, suc, ◌+◌, ◌%◌, ◌<◌, ◌≤◌, Bool, true, false, ◌&&◌, Option, Some, None, Result, Ok, Err, List, [], ◌∷◌, length, drop, get_or, cond, eqb, leb, refl, sym, ap, ◌∙◌, arith}
use Rattle.std.specs.List.{slice_get}
use Rattle.std.proofs.lemmas.Bool.{cases_eq, ne_eqb, eq-eqb, le-leb, and_parts}
use Rattle.script_lines.specs.declared.why.Why.{Why}
use Rattle.script_lines.specs.declared.why.Why.TheVariants as why
use Rattle.script_lines.specs.Arguments.{Argument, is_spelled, is_within, first_word, are_spelled, are_within, judged, read}
use Rattle.script_lines.specs.Numbers.{is_hex, is_between, are_digits}
use Rattle.script_lines.specs.Places.{first, both, only, rank, no_value}

eqb-suc : (m n : ℕ) → eqb (suc m) (suc n) ≡ eqb m n
eqb-suc m n =
    elim (cases_eq m n) [
      | inl same ↦ eq-eqb (suc m) (suc n) (ap suc same) ∙ sym (eq-eqb m n same)
      | inr other ↦ ne_eqb (suc m) (suc n) (λ e. other (omega arith)) ∙ sym (ne_eqb m n other)
    ]

no_words : {A : Type 0} (n : ℕ) (a b : A) → cond (eqb 0 (suc n)) a b ≡ b
no_words n a b = ap (λ t. cond t a b) (ne_eqb 0 (suc n) (λ e. absurd (omega arith)))

words_left : {A : Type 0} (n : ℕ) (a b : A) → cond (eqb (suc n) 0) a b ≡ b
words_left n a b = ap (λ t. cond t a b) (ne_eqb (suc n) 0 (λ e. absurd (omega arith)))

more_left : {A : Type 0} (n : ℕ) (a b : A) → cond (eqb (suc (suc n)) 1) a b ≡ b
more_left n a b = ap (λ t. cond t a b) (ne_eqb (suc (suc n)) 1 (λ e. absurd (omega arith)))

count_first : {A B : Type 0} (r : Result B Why) → both {A = A} (Err why.Count) r ≡ Err why.Count
count_first (Ok b) = refl
count_first (Err w) = ap (λ t. Err (cond t why.Count w)) (le-leb 0 (rank w) (omega arith))

both_judged : {A B : Type 0} (c s i s' i' : Bool) (x : A) (y : B)
    → both (judged s i x) (cond c (judged s' i' y) (Err why.Count)) ≡ cond c (judged (s && s') (i && i') (x, y)) (Err why.Count)
both_judged false false i s' i' x y = refl
both_judged false true false s' i' x y = refl
both_judged false true true s' i' x y = refl
both_judged true false i false i' x y = refl
both_judged true false i true false x y = refl
both_judged true false i true true x y = refl
both_judged true true false false i' x y = refl
both_judged true true false true false x y = refl
both_judged true true false true true x y = refl
both_judged true true true false i' x y = refl
both_judged true true true true false x y = refl
both_judged true true true true true x y = refl

read-cons : {A B : Type 0} (a : Argument) (v : List ℕ → A) (places : List Argument) (u : List (List ℕ) → B) (ws : List (List ℕ))
    → both (first a v (slice_get ws 0)) (read places u (drop 1 ws)) ≡ read (a ∷ places) (λ ws. (v (first_word ws), u (drop 1 ws))) ws
unfolding read
read-cons a v places u [] = count_first _ ∙ sym (no_words (length places) _ _)
read-cons a v places u (w ∷ ws) =
    both_judged (eqb (length ws) (length places)) (is_spelled a w) (is_within a w) (are_spelled places ws) (are_within places ws) (v w) (u ws)
    ∙ ap (λ c. cond c (judged (is_spelled a w && are_spelled places ws) (is_within a w && are_within places ws) (v w, u ws)) (Err why.Count)) (sym (eqb-suc (length ws) (length places)))

and_true : (b : Bool) → (b && true) ≡ b
and_true true = refl
and_true false = refl

read-last : {A : Type 0} (a : Argument) (v : List ℕ → A) (ws : List (List ℕ))
    → only (first a v (slice_get ws 0)) (drop 1 ws) ≡ read (a ∷ []) (λ ws. v (first_word ws)) ws
unfolding read
read-last a v [] = refl
read-last a v (w ∷ []) = sym (ap (λ s. judged s (is_within a w && true) (v w)) (and_true (is_spelled a w)) ∙ ap (λ i. judged (is_spelled a w) i (v w)) (and_true (is_within a w)))
read-last a v (w ∷ w' ∷ ws) = words_left (length ws) _ _ ∙ sym (more_left (length ws) _ _)

pub read-none : (ws : List (List ℕ)) → only (Ok tt) ws ≡ read [] no_value ws
unfolding read
read-none ws = refl

-- ---- as the reader comes to them

pub read_one : {A : Type 0} (a : Argument) (v : List ℕ → A) (ws ws' : List (List ℕ)) (x r : Result A Why)
    → x ≡ first a v (slice_get ws 0) → ws' ≡ drop 1 ws → r ≡ only x ws' → r ≡ read (a ∷ []) (λ words. v (first_word words)) ws
read_one a v ws ws' x r p q e = e ∙ ap (λ y. only y ws') p ∙ ap (only (first a v (slice_get ws 0))) q ∙ read-last a v ws

pub read_next : {A B : Type 0} (a : Argument) (v : List ℕ → A) (places : List Argument) (u : List (List ℕ) → B) (ws ws' : List (List ℕ)) (x : Result A Why) (y : Result B Why) (r : Result (A × B) Why)
    → x ≡ first a v (slice_get ws 0) → ws' ≡ drop 1 ws → y ≡ read places u ws' → r ≡ both x y → r ≡ read (a ∷ places) (λ words. (v (first_word words), u (drop 1 words))) ws
read_next a v places u ws ws' x y r p q f e =
    e ∙ ap (λ z. both z y) p ∙ ap (both (first a v (slice_get ws 0))) (f ∙ ap (read places u) q) ∙ read-cons a v places u ws

-- ---- another value of the same words

ok_judged : {A B : Type 0} (c s i : Bool) (x z : A) (y : B) → cond c (judged s i x) (Err why.Count) ≡ Ok z → (cond c (judged s i y) (Err why.Count) ≡ Ok y) × (x ≡ z)
ok_judged true true true x z y e = (refl, cc)
ok_judged true true false x z y e = absurd cc
ok_judged true false i x z y e = absurd cc
ok_judged false s i x z y e = absurd cc

err_judged : {A B : Type 0} (c s i : Bool) (x : A) (y : B) (w : Why) → cond c (judged s i x) (Err why.Count) ≡ Err w → cond c (judged s i y) (Err why.Count) ≡ Err w
err_judged true true true x y w e = absurd cc
err_judged true true false x y w e = cc
err_judged true false i x y w e = cc
err_judged false s i x y w e = cc

pub read_ok : {A B : Type 0} (places : List Argument) (v : List (List ℕ) → A) (u : List (List ℕ) → B) (ws : List (List ℕ)) (x : A)
    → read places v ws ≡ Ok x → (read places u ws ≡ Ok (u ws)) × (v ws ≡ x)
unfolding read
read_ok places v u ws x e = ok_judged (eqb (length ws) (length places)) (are_spelled places ws) (are_within places ws) (v ws) x (u ws) e

pub read_err : {A B : Type 0} (places : List Argument) (v : List (List ℕ) → A) (u : List (List ℕ) → B) (ws : List (List ℕ)) (w : Why)
    → read places v ws ≡ Err w → read places u ws ≡ Err w
unfolding read
read_err places v u ws w e = err_judged (eqb (length ws) (length places)) (are_spelled places ws) (are_within places ws) (v ws) (u ws) w e

spelled_judged : {A : Type 0} (c s i : Bool) (x z : A) → cond c (judged s i x) (Err why.Count) ≡ Ok z → (s ≡ true) × (i ≡ true)
spelled_judged true true true x z e = (refl, refl)
spelled_judged true true false x z e = absurd cc
spelled_judged true false i x z e = absurd cc
spelled_judged false s i x z e = absurd cc

-- what was read was spelled and in its ranges
pub read_right : {A : Type 0} (places : List Argument) (v : List (List ℕ) → A) (ws : List (List ℕ)) (x : A)
    → read places v ws ≡ Ok x → (are_spelled places ws ≡ true) × (are_within places ws ≡ true)
unfolding read
read_right places v ws x e = spelled_judged (eqb (length ws) (length places)) (are_spelled places ws) (are_within places ws) (v ws) x e

pub first_is : (ws : List (List ℕ)) (word : List ℕ) → slice_get ws 0 ≡ Some word → first_word ws ≡ word
first_is [] word e = absurd cc
first_is (w ∷ ws) word e = cc

pub spelled_hex : (word : List ℕ) → is_hex word ≡ true → are_digits 16 word ≡ true
unfolding is_hex
spelled_hex word e = (and_parts (is_between 2 65536 (length word) && eqb (length word % 2) 0) (are_digits 16 word) e).1
