-- What keeps a point right.
use Rattle.std.proofs.Common.{◌≡◌, ◌⊎◌, inl, inr, Bool, true, false, ◌||◌, Option, Some, None, List, [], ◌∷◌, ◌++◌, refl, sym, arith}
use Rattle.std.proofs.lemmas.Bool.{or_parts, cases_Bool, false≢true}
use Rattle.std.proofs.lemmas.Bool.Decides.{nat_tests}
use Rattle.delivery_model.specs.Marks.{Mark, over, any_relieves, StaysRight}

pub any-append : (ms ks : List Mark) → any_relieves (ms ++ ks) ≡ (any_relieves ms || any_relieves ks)
any-append [] ks = refl
any-append (m ∷ ms) ks = grind (arith, nat_tests, any-append ms ks)

-- where the point is owed at the base anything stays right
pub stays_owed : (ms : List Mark) (right : Bool) → StaysRight true ms right
stays_owed [] right = λ free. absurd (false≢true (sym free))
stays_owed (m ∷ ms) right = ((λ free. absurd (false≢true (sym (or_parts _ _ (or_parts _ _ free).1).1))), stays_owed ms (over m.leaves right))

-- what is written after an item makes up for what stands before it
pub over_better : (l : Option Bool) (right now : Bool) → (right ≡ true → now ≡ true) → over l right ≡ true → over l now ≡ true
over_better None right now better is = better is
over_better (Some b) right now better is = is

-- the point may be right where it was not, and owed where it was not
pub stays_better : (base more : Bool) (ms : List Mark) (right now : Bool) → (base ≡ true → more ≡ true) → (right ≡ true → now ≡ true) → StaysRight base ms right → StaysRight more ms now
stays_better base more [] right now owed better stays = λ free. better (stays (grind (arith, nat_tests)))
stays_better base more (m ∷ ms) right now owed better stays =
    ((λ free. better (stays.0 (less free))), stays_better base more ms (over m.leaves right) (over m.leaves now) owed (over_better m.leaves right now better) stays.1)
  where
    less : (m.relieves || (any_relieves ms || more)) ≡ false → (m.relieves || (any_relieves ms || base)) ≡ false
    less free = grind (arith, nat_tests)

-- nothing behind relieves it, so it is right now
pub right_now : (base : Bool) (ms : List Mark) (right : Bool) → StaysRight base ms right → (any_relieves ms || base) ≡ false → right ≡ true
right_now base [] right stays free = stays free
right_now base (m ∷ ms) right stays free = stays.0 (grind (arith, nat_tests))

-- the last items are cancelled, and what they relieve is owed
pub stays_cancelled : (base : Bool) (ms js : List Mark) (right : Bool) → StaysRight base (ms ++ js) right → StaysRight (any_relieves js || base) ms right
stays_cancelled base [] js right stays = λ free. right_now base js right stays free
stays_cancelled base (m ∷ ms) js right stays = ((λ free. stays.0 (same free)), stays_cancelled base ms js (over m.leaves right) stays.1)
  where
    same : (m.relieves || (any_relieves ms || (any_relieves js || base))) ≡ false → (m.relieves || (any_relieves (ms ++ js) || base)) ≡ false
    same free = grind (arith, nat_tests, any-append ms js)

-- one more item: it relieves what was owed at the base and is no longer, and leaves the point right unless it is owed
pub stays_append : (base less : Bool) (ms : List Mark) (m : Mark) (right : Bool) → (base ≡ true → (m.relieves || less) ≡ true)
    → ((u : Bool) → (base ≡ false → u ≡ true) → less ≡ false → over m.leaves u ≡ true) → StaysRight base ms right → StaysRight less (ms ++ m ∷ []) right
stays_append base less [] m right owed leaves stays = ((λ free. stays (grind (arith, nat_tests))), leaves right stays)
stays_append base less (k ∷ ms) m right owed leaves stays = ((λ free. stays.0 (same free)), stays_append base less ms m (over k.leaves right) owed leaves stays.1)
  where
    same : (k.relieves || (any_relieves (ms ++ m ∷ []) || less)) ≡ false → (k.relieves || (any_relieves ms || base)) ≡ false
    same free = grind (arith, nat_tests, any-append ms (m ∷ []))

-- a new item leaves the point right or as it was, and right where it relieves it
pub record IsGood (m : Mark) : Type 0 where
  pub leaves : (u : Bool) → u ≡ true → over m.leaves u ≡ true
  pub relieves : m.relieves ≡ true → (u : Bool) → over m.leaves u ≡ true

abbrev pub AllGood : List Mark → Type 0
AllGood [] = Unit {0}
AllGood (m ∷ ms) = IsGood m × AllGood ms

pub stays_new : (base : Bool) (ms : List Mark) (right : Bool) → AllGood ms → ((any_relieves ms || base) ≡ false → right ≡ true) → StaysRight base ms right
stays_new base [] right good now = now
stays_new base (m ∷ ms) right good now = ((λ free. now (grind (arith, nat_tests))), stays_new base ms (over m.leaves right) good.1 (λ free. next free (cases_Bool m.relieves)))
  where
    next : (any_relieves ms || base) ≡ false → (m.relieves ≡ true) ⊎ (m.relieves ≡ false) → over m.leaves right ≡ true
    next free (inl relieves) = good.0.relieves relieves right
    next free (inr none) = good.0.leaves right (now (grind (arith, nat_tests)))

-- a capture: the new items relieve what was owed at the base and is no longer
pub stays_captured : (base less : Bool) (ms new : List Mark) (right : Bool) → AllGood new → (base ≡ true → (any_relieves new || less) ≡ true) → StaysRight base ms right → StaysRight less (ms ++ new) right
stays_captured base less [] new right good owed stays = stays_new less new right good (λ free. stays (grind (arith, nat_tests)))
stays_captured base less (m ∷ ms) new right good owed stays = ((λ free. stays.0 (same free)), stays_captured base less ms new (over m.leaves right) good owed stays.1)
  where
    same : (m.relieves || (any_relieves (ms ++ new) || less)) ≡ false → (m.relieves || (any_relieves ms || base)) ≡ false
    same free = grind (arith, nat_tests, any-append ms new)

-- an item in the midst gives way to one that leaves no less and relieves no less
pub stays_swapped : (base : Bool) (ms : List Mark) (m k : Mark) (js : List Mark) (right : Bool) → (m.relieves ≡ true → k.relieves ≡ true) → ((u : Bool) → over m.leaves u ≡ true → over k.leaves u ≡ true)
    → StaysRight base (ms ++ m ∷ js) right → StaysRight base (ms ++ k ∷ js) right
stays_swapped base [] m k js right relief better stays =
    ((λ free. stays.0 (grind (arith, nat_tests))), stays_better base base js (over m.leaves right) (over k.leaves right) (λ is. is) (better right) stays.1)
stays_swapped base (q ∷ ms) m k js right relief better stays = ((λ free. stays.0 (same free)), stays_swapped base ms m k js (over q.leaves right) relief better stays.1)
  where
    same : (q.relieves || (any_relieves (ms ++ k ∷ js) || base)) ≡ false → (q.relieves || (any_relieves (ms ++ m ∷ js) || base)) ≡ false
    same free = grind (arith, nat_tests, any-append ms (m ∷ js), any-append ms (k ∷ js))

-- an item behind which nothing relieves the point leaves it right
pub right_after : (base : Bool) (ms : List Mark) (m : Mark) (js : List Mark) (right : Bool) → StaysRight base (ms ++ m ∷ js) right → (any_relieves js || base) ≡ false → (u : Bool) × (over m.leaves u ≡ true)
right_after base [] m js right stays free = (right, right_now base js (over m.leaves right) stays.1 free)
right_after base (q ∷ ms) m js right stays free = right_after base ms m js (over q.leaves right) stays.1 free
