-- What plans come to, rectangle by rectangle.
use Rattle.std.proofs.Common.{◌≡◌, ℕ, ◌+◌, ◌-◌, ◌<◌, ◌≤◌, Bool, true, false, ◌||◌, List, [], ◌∷◌, length, All, ⊎_elim, refl, sym, ap, ◌∙◌, subst, arith, true≢false}
use Rattle.std.specs.List.{list_any}
use Rattle.std.proofs.lemmas.Bool.{cases_lt}
use Rattle.std.proofs.lemmas.List.{length-map}
use Rattle.std.proofs.lemmas.Bool.Decides.{nat_tests}
use Rattle.std.proofs.lemmas.List.Elements.{All-nil, All-cons, All-weaker}
use Rattle.xp_base.specs.declared.coding.Coding.TheVariants as C
use Rattle.xp_base.specs.Points.{Rectangle, IsRectangle, LiesIn, is_in, is_within}
use Rattle.rect_regions.specs.PointSets.{has, SamePoints, HasNone, IsBounds}
use Rattle.rect_regions.specs.Bands.{Each, GoesBefore, IsOrdered, IsRowBands}
use Rattle.rect_regions.specs.BitRows.{AllWithin}
use Rattle.delivery_model.specs.Grids.{has as is_marked}
use Rattle.delivery_model.specs.Window.{Window}
use Rattle.delivery_model.specs.Events.{Planned, is_empty, region_taken}
use Rattle.delivery_model.specs.Plans.{AreApart, IsPlan}
use Rattle.delivery_model.specs.Point.{is_exact}
use Rattle.capture_jobs.specs.Planning.{coding_for, planned_for, one_each, one_exact, IsPlanOf}

-- of two rectangles one of which goes before the other none has a point of the other
apart_two : (r s : Rectangle) (x y : ℕ) → GoesBefore r s → is_in r x y ≡ true → is_in s x y ≡ false
apart_two r s x y before on = ⊎_elim (λ beside. grind (arith, nat_tests)) (λ above. grind (arith, nat_tests)) before

-- a rectangle whose points are in a window lies in it
lies_in : (wide high : ℕ) (r : Rectangle) → IsRectangle r → ((x y : ℕ) → is_in r x y ≡ true → is_within wide high x y ≡ true) → LiesIn wide high r
lies_in wide high r sized inside =
    let corner : is_in r (r.x + r.w - 1) (r.y + r.h - 1) ≡ true = grind (arith, nat_tests, sized.wide, sized.high) in
    let there = inside (r.x + r.w - 1) (r.y + r.h - 1) corner in
    record { across = grind (arith, nat_tests, sized.wide); down = grind (arith, nat_tests, sized.high) }

-- a refresh is exact
exact_refresh : (refresh lossy : Bool) (r : Rectangle) → refresh ≡ true → coding_for refresh lossy r ≡ C.Exact
exact_refresh true true r is = refl
exact_refresh true false r is = refl
exact_refresh false lossy r is = absurd (true≢false (sym is))

-- a rectangle and others, at a point
first_has : (r : Rectangle) (rects : List Rectangle) (x y : ℕ) → is_in r x y ≡ true → has (r ∷ rects) x y ≡ true
first_has r rects x y on = ap (λ (b : Bool). b || has rects x y) on

or_true : (a b : Bool) → b ≡ true → (a || b) ≡ true
or_true true b on = refl
or_true false b on = on

later_has : (r : Rectangle) (rects : List Rectangle) (x y : ℕ) → has rects x y ≡ true → has (r ∷ rects) x y ≡ true
later_has r rects x y on = or_true (is_in r x y) (has rects x y) on

-- a lossy rectangle has points of the set alone
abbrev TakesOnly : (ℕ → ℕ → Bool) → Planned → Type 0
TakesOnly set p = p.coding ≡ C.Lossy → (x y : ℕ) → is_in p.rect x y ≡ true → set x y ≡ true

module _ (refresh lossy : Bool) where
  points_each : (rects : List Rectangle) (x y : ℕ) → list_any (λ (p : Planned). is_in p.rect x y) (one_each refresh lossy rects) ≡ has rects x y
  points_each [] x y = refl
  points_each (r ∷ rects) x y = ap (λ (b : Bool). is_in r x y || b) (points_each rects x y)

  later_apart : (r : Rectangle) (rects : List Rectangle) (x y : ℕ) → Each (GoesBefore r) rects → is_in r x y ≡ true → has rects x y ≡ false
  later_apart r [] x y before on = refl
  later_apart r (s ∷ rects) x y before on = ap (λ (b : Bool). b || has rects x y) (apart_two r s x y before.0 on) ∙ later_apart r rects x y before.1 on

  apart_each : (rects : List Rectangle) → IsOrdered rects → AreApart (one_each refresh lossy rects)
  apart_each [] ordered = tt
  apart_each (r ∷ rects) ordered = ((λ x y on. points_each rects x y ∙ later_apart r rects x y ordered.0 on), apart_each rects ordered.1)

  within_each : (wide high : ℕ) (rects : List Rectangle) → Each IsRectangle rects → AllWithin wide high (has rects)
      → All (λ (p : Planned). LiesIn wide high p.rect) (one_each refresh lossy rects)
  within_each wide high [] sized inside = All-nil (λ (p : Planned). LiesIn wide high p.rect)
  within_each wide high (r ∷ rects) sized inside =
      All-cons (λ (p : Planned). LiesIn wide high p.rect) (planned_for refresh lossy r) (one_each refresh lossy rects)
      (lies_in wide high r sized.0 (λ x y on. inside x y (first_has r rects x y on)))
      (within_each wide high rects sized.1 (λ x y on. inside x y (later_has r rects x y on)))

  takes_each : (set : ℕ → ℕ → Bool) (rects : List Rectangle) → ((x y : ℕ) → has rects x y ≡ true → set x y ≡ true) → All (TakesOnly set) (one_each refresh lossy rects)
  takes_each set [] taken = All-nil (TakesOnly set)
  takes_each set (r ∷ rects) taken =
      All-cons (TakesOnly set) (planned_for refresh lossy r) (one_each refresh lossy rects)
      (λ _ x y on. taken x y (first_has r rects x y on))
      (takes_each set rects (λ x y on. taken x y (later_has r rects x y on)))

  exact_each : (rects : List Rectangle) → refresh ≡ true → All (λ (p : Planned). p.coding ≡ C.Exact) (one_each refresh lossy rects)
  exact_each [] is = All-nil (λ (p : Planned). p.coding ≡ C.Exact)
  exact_each (r ∷ rects) is =
      All-cons (λ (p : Planned). p.coding ≡ C.Exact) (planned_for refresh lossy r) (one_each refresh lossy rects) (exact_refresh refresh lossy r is) (exact_each rects is)

-- what is asked of a plan, of the points of a set rather than of a window's
record Suits (wide high : ℕ) (set : ℕ → ℕ → Bool) (again : Bool) (plan : List Planned) : Type 0 where
  within : All (λ (p : Planned). LiesIn wide high p.rect) plan
  apart : AreApart plan
  covers : (x y : ℕ) → set x y ≡ true → list_any (λ (p : Planned). is_in p.rect x y) plan ≡ true
  lossy : All (TakesOnly set) plan
  refresh : again ≡ true → All (λ (p : Planned). p.coding ≡ C.Exact) plan

suits_each : (wide high : ℕ) (set : ℕ → ℕ → Bool) (refresh lossy : Bool) (rects : List Rectangle) → IsRowBands set rects → AllWithin wide high set
    → Suits wide high set refresh (one_each refresh lossy rects)
suits_each wide high set refresh lossy rects bands inside = record {
  within = within_each refresh lossy wide high rects bands.sized (λ x y on. inside x y (sym (bands.points x y) ∙ on));
  apart = apart_each refresh lossy rects bands.ordered;
  covers = λ x y on. points_each refresh lossy rects x y ∙ (bands.points x y ∙ on);
  lossy = takes_each refresh lossy set rects (λ x y on. sym (bands.points x y) ∙ on);
  refresh = exact_each refresh lossy rects;
}

-- the least rectangle that holds points of a window lies in it
bounds_lie : (wide high : ℕ) (set : ℕ → ℕ → Bool) (r : Rectangle) → IsBounds set r → AllWithin wide high set → LiesIn wide high r
bounds_lie wide high set r bounds inside =
    let right = inside bounds.right.0 bounds.right.1 bounds.right.3 in
    let bottom = inside bounds.bottom.0 bounds.bottom.1 bounds.bottom.3 in
    let edge = bounds.right.2 in
    let base = bounds.bottom.2 in
    record { across = grind (arith, nat_tests); down = grind (arith, nat_tests) }

suits_bounding : (wide high : ℕ) (set : ℕ → ℕ → Bool) (refresh : Bool) (r : Rectangle) → IsBounds set r → AllWithin wide high set → Suits wide high set refresh (one_exact r)
suits_bounding wide high set refresh r bounds inside = let only : Planned = record { rect = r; coding = C.Exact } in record {
  within = All-cons (λ (p : Planned). LiesIn wide high p.rect) only [] (bounds_lie wide high set r bounds inside) (All-nil (λ (p : Planned). LiesIn wide high p.rect));
  apart = ((λ x y on. refl), tt);
  covers = λ x y on. ap (λ (b : Bool). b || false) (bounds.holds x y on);
  lossy = All-cons (TakesOnly set) only [] (λ is x y on. absurd (true≢false (ap is_exact is))) (All-nil (TakesOnly set));
  refresh = λ is. All-cons (λ (p : Planned). p.coding ≡ C.Exact) only [] refl (All-nil (λ (p : Planned). p.coding ≡ C.Exact));
}

suits : (wide high : ℕ) (set : ℕ → ℕ → Bool) (refresh lossy : Bool) (plan : List Planned) → IsPlanOf set refresh lossy plan → AllWithin wide high set → Suits wide high set refresh plan
suits wide high set refresh lossy plan made inside = ⊎_elim
    (λ (more : 32 < length made.rects). let b = made.many more in subst (Suits wide high set refresh) (sym b.2) (suits_bounding wide high set refresh b.0 b.1 inside))
    (λ (few : length made.rects ≤ 32). subst (Suits wide high set refresh) (sym (made.few few)) (suits_each wide high set refresh lossy made.rects made.bands inside))
    (cases_lt 32 (length made.rects))

pub plans_suit : (w : Window) (set : ℕ → ℕ → Bool) (lossy : Bool) (plan : List Planned) → IsPlanOf set (is_empty w.pending) lossy plan
    → SamePoints set (is_marked (region_taken w)) → AllWithin w.desk.wide w.desk.high set → IsPlan w plan
plans_suit w set lossy plan made same inside = let s = suits w.desk.wide w.desk.high set (is_empty w.pending) lossy plan made inside in record {
  within = s.within;
  apart = s.apart;
  covers = λ x y on. s.covers x y (same x y ∙ on);
  lossy = All-weaker (TakesOnly set) (TakesOnly (is_marked (region_taken w))) (λ p takes is x y on. sym (same x y) ∙ takes is x y on) plan s.lossy;
  refresh = s.refresh;
}

pub plans_short : (set : ℕ → ℕ → Bool) (refresh lossy : Bool) (plan : List Planned) → IsPlanOf set refresh lossy plan → length plan ≤ 32
plans_short set refresh lossy plan made = ⊎_elim
    (λ (more : 32 < length made.rects). let b = made.many more in rw (ap length b.2) (omega arith))
    (λ (few : length made.rects ≤ 32). rw (ap length (made.few few) ∙ length-map made.rects (planned_for refresh lossy)) few)
    (cases_lt 32 (length made.rects))

-- where the row-band list has a rectangle there is a point
pub some_point : (set : ℕ → ℕ → Bool) (rects : List Rectangle) → IsRowBands set rects → 0 < length rects → HasNone set → ⊥
some_point set [] bands some none = omega (arith, some)
some_point set (r ∷ rects) bands some none =
    let sized = bands.sized.0 in
    let corner : is_in r r.x r.y ≡ true = grind (arith, nat_tests, sized.wide, sized.high) in
    true≢false (sym (first_has r rects r.x r.y corner) ∙ (bands.points r.x r.y ∙ none r.x r.y))
