-- Values: induction, their spellings and their limits, case by case.
use Rattle.std.proofs.Common.{◌≡◌, ℕ, ℤ, ◌+◌, ◌-◌, ◌<◌, ◌≤◌, Bool, true, ◌&&◌, List, [], ◌∷◌, ◌++◌, map, refl, sym, ap, subst, ◌∙◌, arith}
use Rattle.std.specs.List.{concat, list_all, AllByRecursion}
use Rattle.std.proofs.lemmas.Bool.{and_parts, and_from}
use Rattle.bencode_values.specs.declared.value.Key.{Key}
use Rattle.bencode_values.specs.declared.value.Value.{Value}
use Rattle.bencode_values.specs.declared.value.Value.TheVariants as V
use Rattle.bencode_values.specs.declared.value.Pair.{Pair}
use Rattle.bencode_values.specs.declared.value.Value.TheOpen.{Value-F, Pair-F}
use Rattle.bencode_values.specs.declared.value.Value.TheViews.{roll-Value, roll-Pair}
use Rattle.bencode_values.specs.declared.value.Value.TheFolds.{ind-Value, map-Value, fold-roll-Value, fold-roll-Pair}
use Rattle.bencode_values.specs.Grammar.{value_step, pair_step, spelled, spelled_pair, spelled_int, spelled_bytes, spelled_key, depth_of, depth_of_pair, depth_step, greatest, parts_fit, pair_fits, fits_step, key_fits, is_in_range, is_string, Fits, PairFits}

pub spelled-Int : (n : ℤ) → spelled (V.Int n) ≡ spelled_int n
spelled-Int n = ap spelled (sym (V.rolls-Int n)) ∙ fold-roll-Value (List ℕ) (List ℕ) value_step pair_step (Value-F.Int n)

pub spelled-Bytes : (text : List ℕ) → spelled (V.Bytes text) ≡ spelled_bytes text
spelled-Bytes text = ap spelled (sym (V.rolls-Bytes text)) ∙ fold-roll-Value (List ℕ) (List ℕ) value_step pair_step (Value-F.Bytes text)

pub spelled-List : (vs : List Value) → spelled (V.List vs) ≡ 108 ∷ (concat (map spelled vs) ++ 101 ∷ [])
spelled-List vs = ap spelled (sym (V.rolls-List vs)) ∙ fold-roll-Value (List ℕ) (List ℕ) value_step pair_step (Value-F.List vs)

pub spelled-Dict : (ps : List Pair) → spelled (V.Dict ps) ≡ 100 ∷ (concat (map spelled_pair ps) ++ 101 ∷ [])
spelled-Dict ps = ap spelled (sym (V.rolls-Dict ps)) ∙ fold-roll-Value (List ℕ) (List ℕ) value_step pair_step (Value-F.Dict ps)

pub spelled_pair-record : (k : Key) (v : Value) → spelled_pair (record { key = k; value = v }) ≡ spelled_key k ++ spelled v
spelled_pair-record k v = fold-roll-Pair (List ℕ) (List ℕ) value_step pair_step (record { key = k; value = v })

depth-Int : (n : ℤ) → depth_of (V.Int n) ≡ 0
depth-Int n = ap depth_of (sym (V.rolls-Int n)) ∙ fold-roll-Value ℕ ℕ depth_step (λ p. p.value) (Value-F.Int n)

depth-Bytes : (text : List ℕ) → depth_of (V.Bytes text) ≡ 0
depth-Bytes text = ap depth_of (sym (V.rolls-Bytes text)) ∙ fold-roll-Value ℕ ℕ depth_step (λ p. p.value) (Value-F.Bytes text)

depth-List : (vs : List Value) → depth_of (V.List vs) ≡ 1 + greatest (map depth_of vs)
depth-List vs = ap depth_of (sym (V.rolls-List vs)) ∙ fold-roll-Value ℕ ℕ depth_step (λ p. p.value) (Value-F.List vs)

depth-Dict : (ps : List Pair) → depth_of (V.Dict ps) ≡ 1 + greatest (map depth_of_pair ps)
depth-Dict ps = ap depth_of (sym (V.rolls-Dict ps)) ∙ fold-roll-Value ℕ ℕ depth_step (λ p. p.value) (Value-F.Dict ps)

depth_pair-record : (k : Key) (v : Value) → depth_of_pair (record { key = k; value = v }) ≡ depth_of v
depth_pair-record k v = fold-roll-Pair ℕ ℕ depth_step (λ p. p.value) (record { key = k; value = v })

abbrev both : Pair-F Bool Bool → Bool
both p = key_fits p.key && p.value

parts-Int : (n : ℤ) → parts_fit (V.Int n) ≡ is_in_range n
parts-Int n = ap parts_fit (sym (V.rolls-Int n)) ∙ fold-roll-Value Bool Bool fits_step both (Value-F.Int n)

parts-Bytes : (text : List ℕ) → parts_fit (V.Bytes text) ≡ is_string text
parts-Bytes text = ap parts_fit (sym (V.rolls-Bytes text)) ∙ fold-roll-Value Bool Bool fits_step both (Value-F.Bytes text)

parts-List : (vs : List Value) → parts_fit (V.List vs) ≡ list_all (λ part. part) (map parts_fit vs)
parts-List vs = ap parts_fit (sym (V.rolls-List vs)) ∙ fold-roll-Value Bool Bool fits_step both (Value-F.List vs)

parts-Dict : (ps : List Pair) → parts_fit (V.Dict ps) ≡ list_all (λ part. part) (map pair_fits ps)
parts-Dict ps = ap parts_fit (sym (V.rolls-Dict ps)) ∙ fold-roll-Value Bool Bool fits_step both (Value-F.Dict ps)

parts_pair-record : (k : Key) (v : Value) → pair_fits (record { key = k; value = v }) ≡ key_fits k && parts_fit v
parts_pair-record k v = fold-roll-Pair Bool Bool fits_step both (record { key = k; value = v })

module _ (P : Value → Type 0) (Q : Pair → Type 0) where
  values_of : (vs : List ((v : Value) × P v)) → AllByRecursion P (map (λ e. e.0) vs)
  values_of [] = tt
  values_of (e ∷ vs) = (e.1, values_of vs)

  pairs_of : (ps : List ((p : Pair) × Q p)) → AllByRecursion Q (map (λ e. e.0) ps)
  pairs_of [] = tt
  pairs_of (e ∷ ps) = (e.1, pairs_of ps)

  module _ (int : (n : ℤ) → P (V.Int n)) (bytes : (text : List ℕ) → P (V.Bytes text)) (list : (vs : List Value) → AllByRecursion P vs → P (V.List vs))
      (dict : (ps : List Pair) → AllByRecursion Q ps → P (V.Dict ps)) (pair : (k : Key) (v : Value) → P v → Q (record { key = k; value = v })) where
    layer : (y : Value-F ((v : Value) × P v) ((p : Pair) × Q p)) → P (roll-Value (map-Value _ _ _ _ (λ e. e.0) (λ e. e.0) y))
    layer (Value-F.Int n) = subst P (sym (V.rolls-Int n)) (int n)
    layer (Value-F.Bytes text) = subst P (sym (V.rolls-Bytes text)) (bytes text)
    layer (Value-F.List vs) = subst P (sym (V.rolls-List (map (λ e. e.0) vs))) (list (map (λ e. e.0) vs) (values_of vs))
    layer (Value-F.Dict ps) = subst P (sym (V.rolls-Dict (map (λ e. e.0) ps))) (dict (map (λ e. e.0) ps) (pairs_of ps))

    -- a claim of all values and pairs, by their forms
    pub induction : (v : Value) → P v
    induction = ind-Value P Q
        (λ x y is. subst (λ z. P (roll-Value z)) is (layer y))
        (λ x y is. subst (λ z. Q (roll-Pair z)) is (pair y.key y.value.0 y.value.1))

-- within the limits, form by form
greatest-le : {A : Type 0} (f : A → ℕ) (room : ℕ) (xs : List A) → AllByRecursion (λ x. f x ≤ room) xs → greatest (map f xs) ≤ room
greatest-le f room [] h = omega arith
greatest-le f room (x ∷ xs) h = let rest = greatest-le f room xs h.1 in let first = h.0 in omega arith

each-le : {A : Type 0} (f : A → ℕ) (room : ℕ) (xs : List A) → greatest (map f xs) ≤ room → AllByRecursion (λ x. f x ≤ room) xs
each-le f room [] h = tt
each-le f room (x ∷ xs) h = (omega arith, each-le f room xs (omega arith))

pub fits-Int : (room : ℕ) (n : ℤ) → is_in_range n ≡ true → Fits room (V.Int n)
fits-Int room n h = record { depth = rw (depth-Int n) (omega arith); parts = parts-Int n ∙ h }

pub fits-Bytes : (room : ℕ) (text : List ℕ) → is_string text ≡ true → Fits room (V.Bytes text)
fits-Bytes room text h = record { depth = rw (depth-Bytes text) (omega arith); parts = parts-Bytes text ∙ h }

values_fit : (room : ℕ) (vs : List Value) → AllByRecursion (Fits room) vs → (greatest (map depth_of vs) ≤ room) × (list_all (λ part. part) (map parts_fit vs) ≡ true)
values_fit room [] h = (omega arith, refl)
values_fit room (v ∷ vs) h =
    let rest = values_fit room vs h.1 in let first = h.0.depth in
    (omega arith, and_from _ _ h.0.parts rest.1)

pairs_fit : (room : ℕ) (ps : List Pair) → AllByRecursion (PairFits room) ps → (greatest (map depth_of_pair ps) ≤ room) × (list_all (λ part. part) (map pair_fits ps) ≡ true)
pairs_fit room [] h = (omega arith, refl)
pairs_fit room (p ∷ ps) h =
    let rest = pairs_fit room ps h.1 in let first = h.0.depth in
    (omega arith, and_from _ _ h.0.parts rest.1)

fit_values : (room : ℕ) (vs : List Value) → greatest (map depth_of vs) ≤ room → list_all (λ part. part) (map parts_fit vs) ≡ true → AllByRecursion (Fits room) vs
fit_values room [] h parts = tt
fit_values room (v ∷ vs) h parts =
    let both_parts = and_parts _ _ parts in
    (record { depth = omega arith; parts = both_parts.0 }, fit_values room vs (omega arith) both_parts.1)

fit_pairs : (room : ℕ) (ps : List Pair) → greatest (map depth_of_pair ps) ≤ room → list_all (λ part. part) (map pair_fits ps) ≡ true → AllByRecursion (PairFits room) ps
fit_pairs room [] h parts = tt
fit_pairs room (p ∷ ps) h parts =
    let both_parts = and_parts _ _ parts in
    (record { depth = omega arith; parts = both_parts.0 }, fit_pairs room ps (omega arith) both_parts.1)

pub fits-List : (room : ℕ) (vs : List Value) → AllByRecursion (Fits room) vs → Fits (room + 1) (V.List vs)
fits-List room vs h =
    let each = values_fit room vs h in let depth = depth-List vs in
    record { depth = omega arith; parts = parts-List vs ∙ each.1 }

pub fits-Dict : (room : ℕ) (ps : List Pair) → AllByRecursion (PairFits room) ps → Fits (room + 1) (V.Dict ps)
fits-Dict room ps h =
    let each = pairs_fit room ps h in let depth = depth-Dict ps in
    record { depth = omega arith; parts = parts-Dict ps ∙ each.1 }

pub fits-pair : (room : ℕ) (k : Key) (v : Value) → key_fits k ≡ true → Fits room v → PairFits room (record { key = k; value = v })
fits-pair room k v key h =
    let depth = depth_pair-record k v in
    record { depth = let e = h.depth in omega arith; parts = parts_pair-record k v ∙ and_from _ _ key h.parts }

pub of_Int : (room : ℕ) (n : ℤ) → Fits room (V.Int n) → is_in_range n ≡ true
of_Int room n h = sym (parts-Int n) ∙ h.parts

pub of_Bytes : (room : ℕ) (text : List ℕ) → Fits room (V.Bytes text) → is_string text ≡ true
of_Bytes room text h = sym (parts-Bytes text) ∙ h.parts

pub of_List : (room : ℕ) (vs : List Value) → Fits room (V.List vs) → (0 < room) × AllByRecursion (Fits (room - 1)) vs
of_List room vs h =
    let depth = depth-List vs in let bound = h.depth in
    (omega arith, fit_values (room - 1) vs (omega arith) (sym (parts-List vs) ∙ h.parts))

pub of_Dict : (room : ℕ) (ps : List Pair) → Fits room (V.Dict ps) → (0 < room) × AllByRecursion (PairFits (room - 1)) ps
of_Dict room ps h =
    let depth = depth-Dict ps in let bound = h.depth in
    (omega arith, fit_pairs (room - 1) ps (omega arith) (sym (parts-Dict ps) ∙ h.parts))

pub of_pair : (room : ℕ) (k : Key) (v : Value) → PairFits room (record { key = k; value = v }) → (key_fits k ≡ true) × Fits room v
of_pair room k v h =
    let depth = depth_pair-record k v in let bound = h.depth in
    let parts = and_parts _ _ (sym (parts_pair-record k v) ∙ h.parts) in
    (parts.0, record { depth = omega arith; parts = parts.1 })
