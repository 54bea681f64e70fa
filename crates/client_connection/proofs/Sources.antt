-- The source of a window, found by its number, after the sources changed.
use Rattle.std.proofs.Common.{◌≡◌, ◌≢◌, inl, inr, ℕ, zero, suc, ◌<◌, Bool, true, false, List, [], ◌∷◌, ◌++◌, Option, Some, None, length, map, get_or, set, cond, eqb, refl, sym, ap, ◌∙◌, subst, arith}
use Rattle.std.specs.Prelude.{All, position, is_some, find, slice_get}
use Rattle.std.specs.Option.{option_map}
use Rattle.std.specs.List.{list_any, position_or_len}
use Rattle.std.proofs.lemmas.Bool.{cases_Bool, cases_eq, eqb-true, eq-eqb, cond-true, cond-false}
use Rattle.std.proofs.lemmas.Bool.Decides.{nat_tests}
use Rattle.std.proofs.lemmas.Option.{cond_some, slice_get-get_or}
use Rattle.std.proofs.lemmas.List.Elements.{All-head, All-tail}
use Rattle.std.proofs.lemmas.List.Folds.{find-set, find_at}
use Rattle.std.proofs.lemmas.List.Quantifiers.{position-Some}
use Rattle.std.proofs.Math.Seq.{map-set_same}
use Rattle.window_model.specs.Desktop.{Window, has_window}
use Rattle.client_connection.specs.declared.source.Source.{Source}
use Rattle.client_connection.specs.Told.{AreSources}
use Rattle.client_connection.specs.Delivery.{find_source}

abbrev or_this : {A : Type 0} → A → Option A → A
or_this d None = d
or_this d (Some a) = a

-- what two equal options hold is equal
pub some_same : {A : Type 0} (a b : A) → Some a ≡ Some b → a ≡ b
some_same a b is = ap (or_this a) is

-- what is found is one of all, and passes the test
pub found_one : {A : Type 0} (P : A → Type 0) (test : A → Bool) (xs : List A) (a : A) → All P xs → find test xs ≡ Some a → P a × (test a ≡ true)
found_one P test [] a all found = absurd (cc found)
found_one P test (x ∷ xs) a all found = elim (cases_Bool (test x)) [
  | inl here ↦
      let same : x ≡ a = some_same x a (sym (cond-true _ _ _ here) ∙ found) in
      subst (λ y. P y × (test y ≡ true)) same (All-head P x xs all, here)
  | inr elsewhere ↦ found_one P test xs a (All-tail P x xs all) (sym (cond-false _ _ _ elsewhere) ∙ found)
]

-- a change of each source that keeps its number
pub find_source-map : (f : Source → Source) → ((s : Source) → (f s).wid ≡ s.wid) → (sources : List Source) (k : ℕ) → find_source (map f sources) k ≡ option_map f (find_source sources k)
find_source-map f keeps [] k = refl
find_source-map f keeps (s ∷ sources) k = elim (cases_Bool (eqb s.wid k)) [
  | inl here ↦ cond-true _ _ _ (ap (λ n. eqb n k) (keeps s) ∙ here) ∙ sym (ap (option_map f) (cond-true _ _ _ here))
  | inr elsewhere ↦ cond-false _ _ _ (ap (λ n. eqb n k) (keeps s) ∙ elsewhere) ∙ find_source-map f keeps sources k ∙ sym (ap (option_map f) (cond-false _ _ _ elsewhere))
]

pub numbers-map : (f : Source → Source) → ((s : Source) → (f s).wid ≡ s.wid) → (sources : List Source) → map (λ (s : Source). s.wid) (map f sources) ≡ map (λ (s : Source). s.wid) sources
numbers-map f keeps [] = refl
numbers-map f keeps (s ∷ sources) = rw (keeps s, numbers-map f keeps sources) refl

-- whether one has the number
has_number : (numbers : List ℕ) (k : ℕ) → Bool
has_number numbers k = list_any (λ n. eqb n k) numbers

source_there : (sources : List Source) (k : ℕ) → is_some (find_source sources k) ≡ list_any (λ n. eqb n k) (map (λ (s : Source). s.wid) sources)
source_there [] k = refl
source_there (s ∷ sources) k = elim (cases_Bool (eqb s.wid k)) [
  | inl here ↦ rw here refl
  | inr elsewhere ↦ rw elsewhere (source_there sources k)
]

window_there : (desk : List Window) (k : ℕ) → has_window desk k ≡ list_any (λ n. eqb n k) (map (λ (w : Window). w.wid) desk)
window_there [] k = refl
window_there (w ∷ desk) k = elim (cases_Bool (eqb w.wid k)) [
  | inl here ↦ rw here refl
  | inr elsewhere ↦ rw elsewhere (window_there desk k)
]

-- a client has a source of a window exactly where the desktop has the window
pub source_where : (desk : List Window) (sources : List Source) (k : ℕ) → AreSources desk sources → is_some (find_source sources k) ≡ has_window desk k
source_where desk sources k are = source_there sources k ∙ ap (list_any (λ n. eqb n k)) are ∙ sym (window_there desk k)

pub none_of : {A : Type 0} (o : Option A) → is_some o ≡ false → o ≡ None
none_of None is = refl
none_of (Some a) is = absurd (cc is)

-- a source was put at the end, whose number none before it has
pub find_source-push : (sources : List Source) (s : Source) (k : ℕ) → find_source sources s.wid ≡ None → find_source (sources ++ s ∷ []) k ≡ cond (eqb k s.wid) (Some s) (find_source sources k)
find_source-push [] s k missing = grind (arith, nat_tests)
find_source-push (t ∷ sources) s k missing = elim (cases_eq t.wid s.wid) [
  | inl same ↦ absurd (grind (arith, nat_tests, same))
  | inr other ↦
      let later : find_source sources s.wid ≡ None = grind (arith, nat_tests, other) in
      let rest = find_source-push sources s k later in
      grind (arith, nat_tests, rest, other)
]

-- another number than that of the source that was replaced
find-other : (sources : List Source) (i : ℕ) (s d : Source) (k : ℕ) → i < length sources → s.wid ≢ k → (get_or sources i d).wid ≢ k → find_source (set sources i s) k ≡ find_source sources k
find-other [] i s d k within new old = absurd (omega (arith, within))
find-other (t ∷ sources) zero s d k within new old =
    let a : eqb s.wid k ≡ false = grind (arith, nat_tests, new) in
    let b : eqb t.wid k ≡ false = grind (arith, nat_tests, old) in
    rw (a, b) refl
find-other (t ∷ sources) (suc i) s d k within new old =
    ap (cond (eqb t.wid k) (Some t)) (find-other sources i s d k (omega (arith, within)) new old)

-- the source with that number was replaced by one with the same
pub find_source-set : (sources : List Source) (wid place : ℕ) (s s' : Source) (k : ℕ) → position (λ (t : Source). eqb t.wid wid) sources ≡ Some place → slice_get sources place ≡ Some s → s'.wid ≡ wid
    → find_source (set sources place s') k ≡ cond (eqb k wid) (Some s') (find_source sources k)
find_source-set sources wid place s s' k found there same =
    let place_is = cond_some _ _ place found in
    let at = position-Some (λ (t : Source). eqb t.wid wid) sources place s found in
    let number : (get_or sources place s).wid ≡ wid = eqb-true (get_or sources place s).wid wid at.1 in
    elim (cases_eq k wid) [
      | inl here ↦
          let test : eqb s'.wid k ≡ true = eq-eqb s'.wid k (same ∙ sym here) in
          let first : place ≡ position_or_len (λ (t : Source). eqb t.wid k) sources = sym place_is.1 ∙ ap (λ n. position_or_len (λ (t : Source). eqb t.wid n) sources) (sym here) in
          find-set (λ (t : Source). eqb t.wid k) sources place s' first at.0 test ∙ sym (cond-true (eqb k wid) (Some s') (find_source sources k) (eq-eqb k wid here))
      | inr other ↦
          let new : s'.wid ≢ k = λ e. other (sym e ∙ same) in
          let old : (get_or sources place s).wid ≢ k = λ e. other (sym e ∙ number) in
          let apart : eqb k wid ≡ false = grind (arith, nat_tests, other) in
          find-other sources place s' s k at.0 new old ∙ sym (cond-false (eqb k wid) (Some s') (find_source sources k) apart)
    ]

-- it is the source of that number
pub wid_at : (sources : List Source) (wid place : ℕ) (s : Source) → position (λ (t : Source). eqb t.wid wid) sources ≡ Some place → slice_get sources place ≡ Some s → s.wid ≡ wid
wid_at sources wid place s found there =
    let at = position-Some (λ (t : Source). eqb t.wid wid) sources place s found in
    let same : s ≡ get_or sources place s = some_same s (get_or sources place s) (sym there ∙ slice_get-get_or sources place s at.0) in
    ap (λ (t : Source). t.wid) same ∙ eqb-true (get_or sources place s).wid wid at.1

-- the numbers stay where a source is replaced by one of the same number
pub numbers-set : (sources : List Source) (wid place : ℕ) (s s' : Source) → position (λ (t : Source). eqb t.wid wid) sources ≡ Some place → slice_get sources place ≡ Some s → s'.wid ≡ s.wid
    → map (λ (t : Source). t.wid) (set sources place s') ≡ map (λ (t : Source). t.wid) sources
numbers-set sources wid place s s' found there same =
    let at = position-Some (λ (t : Source). eqb t.wid wid) sources place s found in
    let here : s ≡ get_or sources place s = some_same s (get_or sources place s) (sym there ∙ slice_get-get_or sources place s at.0) in
    map-set_same (λ (t : Source). t.wid) sources place s' s (same ∙ ap (λ (t : Source). t.wid) here)

-- and was found before
pub find_source-at : (sources : List Source) (wid place : ℕ) (s : Source) → position (λ (t : Source). eqb t.wid wid) sources ≡ Some place → slice_get sources place ≡ Some s → find_source sources wid ≡ Some s
find_source-at sources wid place s found there =
    find_at (λ (t : Source). eqb t.wid wid) sources ∙ ap (slice_get sources) (cond_some _ _ place found).1 ∙ there
