-- A batch as a part of the model's window, from call to call. What is known of sets made point by point are laws of `delivery_model`.
use Rattle.std.proofs.Common.{◌≡◌, ℕ, ◌+◌, ◌≤◌, Bool, true, false, ◌&&◌, ◌||◌, inl, inr, refl, sym, ◌∙◌, ap, subst, arith, cond}
use Rattle.std.specs.Prelude.{min, ◌-◌, nat_le, not, nat_lt}
use Rattle.std.proofs.lemmas.Bool.{cases_Bool, false≢true, lt-ltb}
use Rattle.std.proofs.lemmas.Bool.Decides.{nat_tests}
use Rattle.xp_base.specs.declared.due.Due.{Due}
use Rattle.xp_base.specs.declared.due.Due.TheVariants as D
use Rattle.xp_base.specs.Points.{Rectangle, LiesIn, is_in, is_within, clip, whole}
use Rattle.rect_regions.specs.PointSets.{SamePoints, HasNone, united}
use Rattle.rect_regions.specs.BitRows.{AllWithin}
use Rattle.delivery_model.specs.Grids.{Points, Grid, points, has as has_mark}
use Rattle.delivery_model.specs.Window.{Window}
use Rattle.delivery_model.specs.Events.{is_empty, started, put_pending, damaged}
use Rattle.delivery_model.specs.Refusals.{earliest}
use Rattle.delivery_model.specs.Laws.{PointsHave, PointsAreAlike, EmptyHasNone, NoneIsEmpty}
use Rattle.damage_batch.specs.Pending.{BatchSeen, IsFresh, Puts, IsDue}
use Rattle.damage_batch.specs.Delivery.{IsBatchOf, TellsDue}

pub record PointLaws : Type 0 where
  pub have : PointsHave
  pub alike : PointsAreAlike
  pub empty : EmptyHasNone
  pub none : NoneIsEmpty

lies_within : (wide high : ℕ) (r : Rectangle) (x y : ℕ) → LiesIn wide high r → is_in r x y ≡ true → is_within wide high x y ≡ true
lies_within wide high r x y lies inside = let across = lies.across in let down = lies.down in grind (arith, nat_tests)

-- a side of a rectangle, clipped
side_clipped : (from size most at : ℕ) → (nat_le from at && nat_lt at (from + (min (from + size) most - from))) ≡ ((nat_le from at && nat_lt at (from + size)) && nat_lt at most)
side_clipped from size most at = grind (arith, nat_tests)

and_swapped : (a b c d : Bool) → ((a && c) && (b && d)) ≡ ((a && b) && (c && d))
and_swapped false b c d = refl
and_swapped true true c d = refl
and_swapped true false true d = refl
and_swapped true false false d = refl

clip_has : (wide high : ℕ) (r : Rectangle) (x y : ℕ) → is_in (clip wide high r) x y ≡ (is_in r x y && is_within wide high x y)
clip_has wide high r x y = rw (side_clipped r.x r.w wide x, side_clipped r.y r.h high y) (and_swapped (nat_le r.x x && nat_lt x (r.x + r.w)) (nat_le r.y y && nat_lt y (r.y + r.h)) (nat_lt x wide) (nat_lt y high))

right_of_and : (b c : Bool) → (b && c) ≡ true → c ≡ true
right_of_and true c both = both
right_of_and false c both = absurd (false≢true both)

and_true : (b : Bool) → (b && true) ≡ b
and_true true = refl
and_true false = refl

or_nothing : (b : Bool) → (b || false) ≡ b
or_nothing true = refl
or_nothing false = refl

not_lt : (m n : ℕ) → n ≤ m → nat_lt m n ≡ false
not_lt m n least = grind (arith, nat_tests)

whole_is_within : (wide high x y : ℕ) → is_in (whole wide high) x y ≡ is_within wide high x y
whole_is_within wide high x y = grind (arith, nat_tests)

module _ (laws : PointLaws) where
  empty_none : (wide high : ℕ) (set : ℕ → ℕ → Bool) → AllWithin wide high set → is_empty (points wide high set) ≡ true → HasNone set
  empty_none wide high set within empty x y = elim (cases_Bool (set x y)) [
    | inl there ↦ laws.empty wide high set empty x y (within x y there)
    | inr outside ↦ outside
  ]

  none_empty : (wide high : ℕ) (set : ℕ → ℕ → Bool) → HasNone set → is_empty (points wide high set) ≡ true
  none_empty wide high set none = laws.none wide high set (λ x y inside. none x y)

  some_left : (wide high : ℕ) (set : ℕ → ℕ → Bool) → AllWithin wide high set → (HasNone set → ⊥) → is_empty (points wide high set) ≡ false
  some_left wide high set within some = elim (cases_Bool (is_empty (points wide high set))) [
    | inl empty ↦ absurd (some (empty_none wide high set within empty))
    | inr left ↦ left
  ]

  left_some : (wide high : ℕ) (set : ℕ → ℕ → Bool) → is_empty (points wide high set) ≡ false → HasNone set → ⊥
  left_some wide high set left none = false≢true (sym left ∙ none_empty wide high set none)

  module _ {R : Type 0} (has : R → ℕ → ℕ → Bool) where
    since_put : (wide0 high0 wide high now : ℕ) (old new : BatchSeen R) (pending : R) → AllWithin wide0 high0 (has old.pending) → AllWithin wide high (has pending) → Puts has old pending now new
        → cond (is_empty (points wide0 high0 (has old.pending)) && not (is_empty (points wide high (has pending)))) now old.since ≡ new.since
    since_put wide0 high0 wide high now old new pending before after puts = elim (cases_Bool (is_empty (points wide0 high0 (has old.pending)))) [
      | inr some ↦ rw some (sym (puts.since.goes_on (left_some wide0 high0 (has old.pending) some)))
      | inl none ↦ elim (cases_Bool (is_empty (points wide high (has pending)))) [
        | inl nothing ↦ rw (none, nothing) (sym (puts.since.nothing (empty_none wide high (has pending) after nothing)))
        | inr some ↦ rw (none, some) (sym (puts.since.begins (empty_none wide0 high0 (has old.pending) before none) (left_some wide high (has pending) some)))
      ]
    ]

    pub put_pends : (wide0 high0 wide high now : ℕ) (w : Window) (old new : BatchSeen R) (pending : R) → IsBatchOf has wide0 high0 old w → AllWithin wide high (has pending) → Puts has old pending now new
        → IsBatchOf has wide high new (put_pending (points wide high (has pending)) now w)
    put_pends wide0 high0 wide high now w old new pending of within puts =
        let same : new.pending ≡ pending = ap (λ (b : BatchSeen R). b.pending) puts.kept in
        record {
          within = rw same within;
          pending = rw same refl;
          since = rw (of.pending, of.since) (since_put wide0 high0 wide high now old new pending of.within within puts);
          delay = of.delay ∙ sym (ap (λ (b : BatchSeen R). b.delay) puts.kept);
        }

    more_within : (wide high : ℕ) (part : ℕ → ℕ → Bool) (before pending : R) → AllWithin wide high (has before) → AllWithin wide high part → SamePoints (has pending) (united (has before) part) → AllWithin wide high (has pending)
    more_within wide high part before pending within inside more x y there = elim (cases_Bool (has before x y)) [
      | inl was ↦ within x y was
      | inr was ↦ inside x y (rw was at (sym (more x y) ∙ there))
    ]

    same_damage : (wide high : ℕ) (set : Points) (r : Rectangle) (part : ℕ → ℕ → Bool) (before pending : R) (x y : ℕ) → set ≡ points wide high (has before) → SamePoints (has pending) (united (has before) part)
        → part x y ≡ is_in r x y → is_within wide high x y ≡ true → (has_mark set x y || is_in r x y) ≡ has pending x y
    same_damage wide high set r part before pending x y is more same inside = rw (is, laws.have wide high (has before) x y, inside, more x y, same) refl

    -- a part of the window that is the rectangle's
    part_pends : (r : Rectangle) (part : ℕ → ℕ → Bool) (now : ℕ) (w : Window) (old new : BatchSeen R) (pending : R) → IsBatchOf has w.desk.wide w.desk.high old w → AllWithin w.desk.wide w.desk.high part
        → ((x y : ℕ) → is_within w.desk.wide w.desk.high x y ≡ true → part x y ≡ is_in r x y) → SamePoints (has pending) (united (has old.pending) part) → Puts has old pending now new
        → IsBatchOf has w.desk.wide w.desk.high new (damaged r now w)
    part_pends r part now w old new pending of inside same more puts =
        let wide : ℕ = w.desk.wide in
        let high : ℕ = w.desk.high in
        let test : ℕ → ℕ → Bool = λ x y. has_mark w.pending x y || is_in r x y in
        let alike : points wide high test ≡ points wide high (has pending) = laws.alike wide high test (has pending) (λ x y there. same_damage wide high w.pending r part old.pending pending x y of.pending more (same x y there) there) in
        let put = put_pends wide high wide high now w old new pending of (more_within wide high part old.pending pending of.within inside more) puts in
        subst (λ (s : Points). IsBatchOf has wide high new (put_pending s now w)) (sym alike) put

    pub damage_pends : (r : Rectangle) (now : ℕ) (w : Window) (old new : BatchSeen R) (pending : R) → IsBatchOf has w.desk.wide w.desk.high old w → LiesIn w.desk.wide w.desk.high r
        → SamePoints (has pending) (united (has old.pending) (is_in r)) → Puts has old pending now new → IsBatchOf has w.desk.wide w.desk.high new (damaged r now w)
    damage_pends r now w old new pending of lies more puts = part_pends r (is_in r) now w old new pending of (λ x y there. lies_within w.desk.wide w.desk.high r x y lies there) (λ x y there. refl) more puts

    pub clipped_pends : (r : Rectangle) (now : ℕ) (w : Window) (old new : BatchSeen R) (pending : R) → IsBatchOf has w.desk.wide w.desk.high old w
        → SamePoints (has pending) (united (has old.pending) (is_in (clip w.desk.wide w.desk.high r))) → Puts has old pending now new → IsBatchOf has w.desk.wide w.desk.high new (damaged r now w)
    clipped_pends r now w old new pending of more puts =
        let wide : ℕ = w.desk.wide in
        let high : ℕ = w.desk.high in
        part_pends r (is_in (clip wide high r)) now w old new pending of
        (λ x y there. right_of_and (is_in r x y) (is_within wide high x y) (sym (clip_has wide high r x y) ∙ there))
        (λ x y there. clip_has wide high r x y ∙ (ap (λ (b : Bool). is_in r x y && b) there ∙ and_true (is_in r x y))) more puts

    pub beside_none : (r : Rectangle) (now : ℕ) (w : Window) (b : BatchSeen R) → IsBatchOf has w.desk.wide w.desk.high b w → HasNone (is_in (clip w.desk.wide w.desk.high r)) → IsBatchOf has w.desk.wide w.desk.high b (damaged r now w)
    beside_none r now w b of none = clipped_pends r now w b b b.pending of
        (λ x y. sym (ap (λ (p : Bool). has b.pending x y || p) (none x y) ∙ or_nothing (has b.pending x y)))
        (record { kept = refl; since = record { begins = λ empty some. absurd (some empty); goes_on = λ some. refl; nothing = λ empty. refl } })

    fresh_has : (wide high : ℕ) (fresh pending : R) → HasNone (has fresh) → SamePoints (has pending) (united (has fresh) (is_in (whole wide high))) → (x y : ℕ) → has pending x y ≡ is_within wide high x y
    fresh_has wide high fresh pending none more x y = rw (more x y, none x y) (whole_is_within wide high x y)

    fresh_since : (wide high now : ℕ) (fresh b : BatchSeen R) (pending : R) → IsFresh has now fresh → AllWithin wide high (has pending) → Puts has fresh pending now b → b.since ≡ now
    fresh_since wide high now fresh b pending new within puts = elim (cases_Bool (is_empty (points wide high (has pending)))) [
      | inl nothing ↦ puts.since.nothing (empty_none wide high (has pending) within nothing) ∙ new.since
      | inr some ↦ puts.since.begins new.none (left_some wide high (has pending) some)
    ]

    pub start_pends : (desk : Grid) (now : ℕ) (fresh b : BatchSeen R) (pending : R) → IsFresh has now fresh → SamePoints (has pending) (united (has fresh.pending) (is_in (whole desk.wide desk.high)))
        → Puts has fresh pending now b → IsBatchOf has desk.wide desk.high b (started desk now)
    start_pends desk now fresh b pending new more puts =
        let wide : ℕ = desk.wide in
        let high : ℕ = desk.high in
        let all = fresh_has wide high fresh.pending pending new.none more in
        let within : AllWithin wide high (has pending) = λ x y there. sym (all x y) ∙ there in
        let same : b.pending ≡ pending = ap (λ (b : BatchSeen R). b.pending) puts.kept in
        record {
          within = rw same within;
          pending = rw same (laws.alike wide high (λ x y. true) (has pending) (λ x y inside. sym (all x y ∙ inside)));
          since = sym (fresh_since wide high now fresh b pending new within puts);
          delay = sym (ap (λ (b : BatchSeen R). b.delay) puts.kept ∙ new.delay);
        }

    damage_earliest : (w : Window) → is_empty w.pending ≡ false → earliest w ≡ w.pending_since + w.delay
    damage_earliest w some = rw some refl

    pub due_told : (wide high now : ℕ) (w : Window) (b : BatchSeen R) (d : Due) → IsBatchOf has wide high b w → IsDue has b now d → TellsDue now w d
    due_told wide high now w b D.Clean of due = rw of.pending (none_empty wide high (has b.pending) due)
    due_told wide high now w b (D.Early t) of due =
        let some : is_empty w.pending ≡ false = rw of.pending (some_left wide high (has b.pending) of.within due.0) in
        let from : earliest w ≡ t = damage_earliest w some ∙ (rw (of.since, of.delay) (sym due.1)) in
        (some, from, rw from (lt-ltb now t due.2))
    due_told wide high now w b D.Now of due =
        let some : is_empty w.pending ≡ false = rw of.pending (some_left wide high (has b.pending) of.within due.0) in
        let from : earliest w ≡ b.since + b.delay = damage_earliest w some ∙ (rw (of.since, of.delay) refl) in
        (some, rw from (not_lt now (b.since + b.delay) due.1))
