-- What becomes of the ends where a connection is accepted, and where one ends.
use Rattle.std.proofs.Common.{◌≡◌, inl, inr, ℕ, zero, suc, ◌+◌, ◌<◌, Bool, true, false, List, [], ◌∷◌, ◌++◌, length, take, get_or, set, get_or-set_other, Option, Some, None, refl, ap, ◌∙◌, sym, arith, map}
use Rattle.std.proofs.Math.ListN.{length-set, get_or-append}
use Rattle.std.proofs.lemmas.Bool.{cases_eq}
use Rattle.std.proofs.lemmas.List.{length-append, get_or_default}
use Rattle.std.proofs.lemmas.List.Sums.{sum_by-set, sum_by-append, sum_by-cons}
use Rattle.std.specs.Prelude.{count_by, is_some, cond, IsSome, Result, Ok, Err}
use Rattle.client_connection.specs.declared.ends.End.{End}
use Rattle.client_connection.specs.declared.ends.End.TheVariants.{Settled, Unended}
use Rattle.session_core.specs.State.{is_unended, open_count, open_client}
use Rattle.session_core.specs.Ends.{KeepsEnds, NoMoreShort, EndsOne, AllEnded, LeavesEnds, rounds_end}
use Rattle.session_core.proofs.Lives.{set_twice}

-- as many connections are open as have the end `Unended`
pub open_count_is : {A : Type 0} (clients : List (Option A)) (ends : List End) → map is_some clients ≡ map is_unended ends → open_count clients ≡ count_by is_unended ends
open_count_is clients ends live = counted clients ∙ ap (λ (tests : List Bool). count_by (λ b. b) tests) live ∙ sym (counted_ends ends)
  where
    counted : {A : Type 0} (clients : List (Option A)) → count_by is_some clients ≡ count_by (λ b. b) (map is_some clients)
    counted [] = refl
    counted (c ∷ clients) = sum_by-cons (λ x. cond (is_some x) 1 0) c clients ∙ ap (λ n. cond (is_some c) 1 0 + n) (counted clients) ∙ sym (sum_by-cons (λ b. cond b 1 0) (is_some c) (map is_some clients))

    counted_ends : (ends : List End) → count_by is_unended ends ≡ count_by (λ b. b) (map is_unended ends)
    counted_ends [] = refl
    counted_ends (e ∷ ends) = sum_by-cons (λ x. cond (is_unended x) 1 0) e ends ∙ ap (λ n. cond (is_unended e) 1 0 + n) (counted_ends ends) ∙ sym (sum_by-cons (λ b. cond b 1 0) (is_unended e) (map is_unended ends))

-- one more is open
pub open_more : (ends : List End) → count_by is_unended (ends ++ Unended ∷ []) ≡ count_by is_unended ends + 1
open_more ends = sum_by-append (λ e. cond (is_unended e) 1 0) ends (Unended ∷ [])

-- one less is open
pub open_less : (old new : List End) (e : End) → EndsOne old e new → count_by is_unended new + 1 ≡ count_by is_unended old
open_less old new e one =
    let f : End → ℕ = λ x. cond (is_unended x) 1 0 in
    let was : f (get_or old one.number e) ≡ 1 = ap (λ b. cond b 1 0) one.unended in
    let is : f e ≡ 0 = ap (λ b. cond b 1 0) one.closed in
    let changed = sum_by-set f old one.number e e one.within in
    rw one.changed (omega (arith, changed, was, is))

pub keeps_same : (ends : List End) → KeepsEnds ends ends
keeps_same ends = record { longer = omega arith; stay = λ k e within ended. refl }

pub keeps_on : (old now new : List End) → KeepsEnds old now → KeepsEnds now new → KeepsEnds old new
keeps_on old now new first next = record {
  longer = omega (arith, first.longer, next.longer);
  stay = λ k e within ended.
      let same = first.stay k e within ended in
      let still : is_unended (get_or now k e) ≡ false = ap is_unended same ∙ ended in
      next.stay k e (omega (arith, within, first.longer)) still ∙ same;
}

pub keeps_accepted : (ends : List End) → KeepsEnds ends (ends ++ Unended ∷ [])
keeps_accepted ends = record {
  longer = omega (arith, length-append ends (Unended ∷ []));
  stay = λ k e within ended. get_or-append ends (Unended ∷ []) e k within;
}

pub keeps_one : (old new : List End) (e : End) → EndsOne old e new → KeepsEnds old new
keeps_one old new e one = rw one.changed (record {
  longer = omega (arith, length-set old one.number e);
  stay = λ k d within ended. elim (cases_eq k one.number) [
    | inl is ↦ absurd (cc (one_of k d is within ended, ended))
    | inr other ↦ get_or-set_other old one.number k e d other
  ];
})
  where
    one_of : (k : ℕ) (d : End) → k ≡ one.number → k < length old → is_unended (get_or old k d) ≡ false → is_unended (get_or old k d) ≡ true
    one_of k d is within ended = ap (λ n. is_unended (get_or old n d)) is ∙ ap is_unended (get_or_default old one.number d e one.within) ∙ one.unended

pub short_same : (ends : List End) → NoMoreShort ends ends
short_same ends = λ k e within is. (within, is)

pub short_on : (old now new : List End) → NoMoreShort old now → NoMoreShort now new → NoMoreShort old new
short_on old now new first next = λ k e within is. let was = next k e within is in first k e was.0 was.1

-- an open connection has the end `Unended`
pub open_unended : {A : Type 0} (clients : List (Option A)) (ends : List End) (k : ℕ) (e : End) → map is_some clients ≡ map is_unended ends → IsSome (open_client clients k)
    → (k < length ends) × (is_unended (get_or ends k e) ≡ true)
open_unended [] ends k e live some = absurd (cc some)
open_unended (c ∷ clients) [] k e live some = absurd (cc live)
open_unended (None ∷ clients) (x ∷ ends) zero e live some = absurd (cc some)
open_unended (Some c ∷ clients) (x ∷ ends) zero e live some = (omega arith, sym (heads live))
  where
    heads : true ∷ map is_some clients ≡ is_unended x ∷ map is_unended ends → true ≡ is_unended x
    heads is = cc is
open_unended (c ∷ clients) (x ∷ ends) (suc k) e live some =
    let less = open_unended clients ends k e (tails live) some in (omega (arith, less.0), less.1)
  where
    tails : is_some c ∷ map is_some clients ≡ is_unended x ∷ map is_unended ends → map is_some clients ≡ map is_unended ends
    tails is = cc is

-- a connection that is not open has another end
pub unopened : {A : Type 0} (clients : List (Option A)) (ends : List End) (k : ℕ) (e : End) → map is_some clients ≡ map is_unended ends → is_unended e ≡ false → (IsSome (open_client clients k) → ⊥) → is_unended (get_or ends k e) ≡ false
unopened clients [] k e live closed none = closed
unopened [] (x ∷ ends) k e live closed none = absurd (cc live)
unopened (None ∷ clients) (x ∷ ends) zero e live closed none = sym (heads live)
  where
    heads : false ∷ map is_some clients ≡ is_unended x ∷ map is_unended ends → false ≡ is_unended x
    heads is = cc is
unopened (Some c ∷ clients) (x ∷ ends) zero e live closed none = absurd (none refl)
unopened (c ∷ clients) (x ∷ ends) (suc k) e live closed none = unopened clients ends k e (tails live) closed none
  where
    tails : is_some c ∷ map is_some clients ≡ is_unended x ∷ map is_unended ends → map is_some clients ≡ map is_unended ends
    tails is = cc is

pub rounds_closed : {A : Type 0} (k : ℕ) (old now : List End) (rounds : Result A End) → LeavesEnds k old rounds now → is_unended (rounds_end rounds) ≡ false
rounds_closed k old now (Ok done) leaves = refl
rounds_closed k old now (Err e) leaves = leaves.0

-- nobody is open
pub all_ended : {A : Type 0} (clients : List (Option A)) (ends : List End) → map is_some clients ≡ map is_unended ends → open_count clients ≡ 0 → AllEnded ends
all_ended clients ends live none = each ends (sym (open_count_is clients ends live) ∙ none)
  where
    each : (ends : List End) → count_by is_unended ends ≡ 0 → AllEnded ends
    each [] none k d within = absurd (omega (arith, within))
    each (e ∷ ends) none zero d within = first (is_unended e) (sym (sum_by-cons (λ x. cond (is_unended x) 1 0) e ends) ∙ none)
      where
        first : (b : Bool) → cond b 1 0 + count_by is_unended ends ≡ 0 → b ≡ false
        first true none = absurd (omega (arith, none))
        first false none = refl
    each (e ∷ ends) none (suc k) d within = each ends (omega (arith, none, sum_by-cons (λ x. cond (is_unended x) 1 0) e ends)) k d (omega (arith, within))

-- where none of the first so many is open
pub none_before : {A : Type 0} (clients : List (Option A)) (place k : ℕ) → open_count (take place clients) ≡ 0 → k < place → open_client clients k ≡ None
none_before [] place k none low = refl
none_before (c ∷ clients) zero k none low = absurd (omega (arith, low))
none_before (None ∷ clients) (suc place) zero none low = refl
none_before (Some c ∷ clients) (suc place) zero none low = absurd (omega (arith, none, sum_by-cons (λ o. cond (is_some o) 1 0) (Some c) (take place clients)))
none_before (c ∷ clients) (suc place) (suc k) none low = none_before clients place k (omega (arith, none, sum_by-cons (λ o. cond (is_some o) 1 0) c (take place clients))) (omega (arith, low))

-- a connection that was open has ended after its rounds, as they end it or as it is dropped then
pub dropped_changed : {A : Type 0} (k : ℕ) (old now new : List End) (rounds : Result A End) → LeavesEnds k old rounds now → new ≡ set now k (rounds_end rounds) → new ≡ set old k (rounds_end rounds)
dropped_changed k old now new (Ok done) leaves is = is ∙ ap (λ es. set es k Settled) leaves
dropped_changed k old now new (Err e) (closed, inl same) is = is ∙ ap (λ es. set es k e) same
dropped_changed k old now new (Err e) (closed, inr gone) is = is ∙ ap (λ es. set es k e) gone ∙ set_twice old k e e

unfoldable pub one_dropped : {A : Type 0} (k : ℕ) (old now new : List End) (rounds : Result A End) → k < length old → is_unended (get_or old k (rounds_end rounds)) ≡ true → LeavesEnds k old rounds now
    → new ≡ set now k (rounds_end rounds) → EndsOne old (rounds_end rounds) new
one_dropped k old now new rounds within unended leaves is = record {
  number = k;
  within = within;
  unended = unended;
  closed = rounds_closed k old now rounds leaves;
  changed = dropped_changed k old now new rounds leaves is;
}

pub left_changed : {A : Type 0} (k : ℕ) (old now : List End) (rounds : Result A End) → is_unended (get_or old k (rounds_end rounds)) ≡ true → LeavesEnds k old rounds now → is_unended (get_or now k (rounds_end rounds)) ≡ false
    → now ≡ set old k (rounds_end rounds)
left_changed k old now (Ok done) unended leaves gone = absurd (cc (ap (λ es. is_unended (get_or es k Settled)) leaves, unended, gone))
left_changed k old now (Err e) unended (closed, inl same) gone = absurd (cc (ap (λ es. is_unended (get_or es k e)) same, unended, gone))
left_changed k old now (Err e) unended (closed, inr ended) gone = ended

unfoldable pub one_left : {A : Type 0} (k : ℕ) (old now : List End) (rounds : Result A End) → k < length old → is_unended (get_or old k (rounds_end rounds)) ≡ true → LeavesEnds k old rounds now
    → is_unended (get_or now k (rounds_end rounds)) ≡ false → EndsOne old (rounds_end rounds) now
one_left k old now rounds within unended leaves gone = record {
  number = k;
  within = within;
  unended = unended;
  closed = rounds_closed k old now rounds leaves;
  changed = left_changed k old now rounds unended leaves gone;
}
