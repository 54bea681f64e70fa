-- The lossy points as a part of the model's window, from call to call. What is known of sets made point by point are laws of
-- `delivery_model`.
use Rattle.std.proofs.Common.{◌≡◌, ℕ, ◌+◌, ◌≤◌, Bool, true, false, ◌&&◌, ◌||◌, inl, inr, length, refl, sym, ◌∙◌, ap, arith}
use Rattle.std.specs.Prelude.{not, nat_lt}
use Rattle.std.proofs.lemmas.Bool.{cases_Bool, false≢true, lt-ltb}
use Rattle.std.proofs.lemmas.Bool.Decides.{nat_tests}
use Rattle.xp_base.specs.declared.coding.Coding.{Coding}
use Rattle.xp_base.specs.declared.coding.Coding.TheVariants as C
use Rattle.xp_base.specs.declared.due.Due.{Due}
use Rattle.xp_base.specs.declared.due.Due.TheVariants as D
use Rattle.xp_base.specs.Points.{Rectangle, LiesIn, is_in, is_within, survives}
use Rattle.rect_regions.specs.PointSets.{SamePoints, HasNone, united, shared, without}
use Rattle.rect_regions.specs.BitRows.{AllWithin}
use Rattle.delivery_model.specs.Grids.{Points, Grid, points, has as has_mark}
use Rattle.delivery_model.specs.Window.{Job, Window}
use Rattle.delivery_model.specs.Events.{is_empty, started, lossy_queued, lossy_since_queued, relief_queued, queued, resized}
use Rattle.delivery_model.specs.Refusals.{earliest, is_clean, is_busy}
use Rattle.delivery_model.specs.Laws.{PointsHave, PointsAreAlike, EmptyHasNone, NoneIsEmpty}
use Rattle.lossy_refresh.specs.LossyPoints.{LossySeen, IsFresh, Repairs, Coarsens, Queues, keeping, IsDue}
use Rattle.lossy_refresh.specs.Delivery.{IsLossyOf, TellsDue}

pub record PointLaws : Type 0 where
  pub have : PointsHave
  pub alike : PointsAreAlike
  pub empty : EmptyHasNone
  pub none : NoneIsEmpty

lies_within : (wide high : ℕ) (r : Rectangle) (x y : ℕ) → LiesIn wide high r → is_in r x y ≡ true → is_within wide high x y ≡ true
lies_within wide high r x y lies inside = let across = lies.across in let down = lies.down in grind (arith, nat_tests)

not_lt : (m n : ℕ) → n ≤ m → nat_lt m n ≡ false
not_lt m n least = grind (arith, nat_tests)

left_of_and : (b c : Bool) → (b && c) ≡ true → b ≡ true
left_of_and true c both = refl
left_of_and false c both = absurd (false≢true both)

right_of_and : (b c : Bool) → (b && c) ≡ true → c ≡ true
right_of_and true c both = both
right_of_and false c both = absurd (false≢true both)

or_nothing : (b : Bool) → (b || false) ≡ b
or_nothing true = refl
or_nothing false = refl

module _ (laws : PointLaws) where
  empty_none : (wide high : ℕ) (set : ℕ → ℕ → Bool) → AllWithin wide high set → is_empty (points wide high set) ≡ true → HasNone set
  empty_none wide high set within empty x y = elim (cases_Bool (set x y)) [
    | inl there ↦ laws.empty wide high set empty x y (within x y there)
    | inr outside ↦ outside
  ]

  none_empty : (wide high : ℕ) (set : ℕ → ℕ → Bool) → HasNone set → is_empty (points wide high set) ≡ true
  none_empty wide high set none = laws.none wide high set (λ x y inside. none x y)

  some_left : (wide high : ℕ) (set : ℕ → ℕ → Bool) → AllWithin wide high set → (HasNone set → ⊥) → is_empty (points wide high set) ≡ false
  some_left wide high set within some = elim (cases_Bool (is_empty (points wide high set))) [
    | inl empty ↦ absurd (some (empty_none wide high set within empty))
    | inr left ↦ left
  ]

  module _ {R : Type 0} (has : R → ℕ → ℕ → Bool) where
    -- the points of the window's set, within the window
    mark : (wide high : ℕ) (set : Points) (these : R) (x y : ℕ) → set ≡ points wide high (has these) → is_within wide high x y ≡ true → has_mark set x y ≡ has these x y
    mark wide high set these x y is inside = rw (is, laws.have wide high (has these) x y, inside) refl

    pub start_exact : (desk : Grid) (now : ℕ) (l : LossySeen R) → IsFresh has l → IsLossyOf has desk.wide desk.high l (started desk now)
    start_exact desk now l new = record {
      within = λ x y there. absurd (false≢true (sym (new.none x y) ∙ there));
      lossy = laws.alike desk.wide desk.high (λ x y. false) (has l.points) (λ x y inside. sym (new.none x y));
      since = sym new.since;
    }

    -- after an exact draw, and after a lossy one
    left_within : (wide high : ℕ) (r : Rectangle) (before after : R) → AllWithin wide high (has before) → SamePoints (has after) (without (has before) (is_in r)) → AllWithin wide high (has after)
    left_within wide high r before after within left x y there = within x y (left_of_and _ _ (sym (left x y) ∙ there))

    more_within : (wide high : ℕ) (r : Rectangle) (before after : R) → AllWithin wide high (has before) → LiesIn wide high r → SamePoints (has after) (united (has before) (is_in r)) → AllWithin wide high (has after)
    more_within wide high r before after within lies more x y there = elim (cases_Bool (has before x y)) [
      | inl was ↦ within x y was
      | inr was ↦ lies_within wide high r x y lies (rw was at (sym (more x y) ∙ there))
    ]

    still_lossy : (r : Rectangle) (now : ℕ) (w : Window) (old new : LossySeen R) (gone : R) → IsLossyOf has w.desk.wide w.desk.high old w → Repairs has r old new gone
        → lossy_queued w r C.Exact ≡ points w.desk.wide w.desk.high (has new.points)
    still_lossy r now w old new gone of repairs = laws.alike w.desk.wide w.desk.high (λ x y. has_mark w.lossy x y && not (is_in r x y)) (has new.points) (λ x y inside.
        rw (mark w.desk.wide w.desk.high w.lossy old.points x y of.lossy inside, repairs.left x y) refl)

    more_lossy : (r : Rectangle) (now : ℕ) (w : Window) (old new : LossySeen R) (gone : R) → IsLossyOf has w.desk.wide w.desk.high old w → Coarsens has r now old new gone
        → lossy_queued w r C.Lossy ≡ points w.desk.wide w.desk.high (has new.points)
    more_lossy r now w old new gone of coarsens = laws.alike w.desk.wide w.desk.high (λ x y. has_mark w.lossy x y || is_in r x y) (has new.points) (λ x y inside.
        rw (mark w.desk.wide w.desk.high w.lossy old.points x y of.lossy inside, coarsens.more x y) refl)

    queued_points : (coding : Coding) (r : Rectangle) (now : ℕ) (w : Window) (old new : LossySeen R) (gone : R) → IsLossyOf has w.desk.wide w.desk.high old w → Queues has r coding now old new gone
        → lossy_queued w r coding ≡ points w.desk.wide w.desk.high (has new.points)
    queued_points C.Exact r now w old new gone of queues = still_lossy r now w old new gone of queues
    queued_points C.Lossy r now w old new gone of queues = more_lossy r now w old new gone of queues

    queued_since : (coding : Coding) (r : Rectangle) (now : ℕ) (w : Window) (old new : LossySeen R) (gone : R) → IsLossyOf has w.desk.wide w.desk.high old w → Queues has r coding now old new gone
        → lossy_since_queued now w coding ≡ new.since
    queued_since C.Exact r now w old new gone of queues = of.since ∙ sym queues.since
    queued_since C.Lossy r now w old new gone of queues = sym queues.since

    queued_within : (coding : Coding) (r : Rectangle) (now : ℕ) (wide high : ℕ) (old new : LossySeen R) (gone : R) → AllWithin wide high (has old.points) → LiesIn wide high r → Queues has r coding now old new gone
        → AllWithin wide high (has new.points)
    queued_within C.Exact r now wide high old new gone within lies queues = left_within wide high r old.points new.points within queues.left
    queued_within C.Lossy r now wide high old new gone within lies queues = more_within wide high r old.points new.points within lies queues.more

    pub queued_lossy : (now : ℕ) (j : Job) (w : Window) (old new : LossySeen R) (gone : R) → IsLossyOf has w.desk.wide w.desk.high old w → LiesIn w.desk.wide w.desk.high j.capture.rect
        → Queues has j.capture.rect j.capture.coding now old new gone → IsLossyOf has w.desk.wide w.desk.high new (queued now j w)
    queued_lossy now j w old new gone of lies queues = record {
      within = queued_within j.capture.coding j.capture.rect now w.desk.wide w.desk.high old new gone of.within lies queues;
      lossy = queued_points j.capture.coding j.capture.rect now w old new gone of queues;
      since = queued_since j.capture.coding j.capture.rect now w old new gone of queues;
    }

    joined_exact : (r : Rectangle) (w : Window) (old new : LossySeen R) (gone relief joined : R) → IsLossyOf has w.desk.wide w.desk.high old w → Repairs has r old new gone → SamePoints (has joined) (united (has relief) (has gone))
        → (x y : ℕ) → is_within w.desk.wide w.desk.high x y ≡ true → (has_mark (points w.desk.wide w.desk.high (has relief)) x y || (has_mark w.lossy x y && is_in r x y)) ≡ has joined x y
    joined_exact r w old new gone relief joined of repairs both x y inside =
        rw (mark w.desk.wide w.desk.high (points w.desk.wide w.desk.high (has relief)) relief x y refl inside, mark w.desk.wide w.desk.high w.lossy old.points x y of.lossy inside, both x y, repairs.gone x y) refl

    pub relief_joined : (r : Rectangle) (coding : Coding) (now : ℕ) (w : Window) (old new : LossySeen R) (gone relief joined : R) → IsLossyOf has w.desk.wide w.desk.high old w → Queues has r coding now old new gone
        → SamePoints (has joined) (united (has relief) (has gone)) → relief_queued w r (points w.desk.wide w.desk.high (has relief)) coding ≡ points w.desk.wide w.desk.high (has joined)
    relief_joined r C.Exact now w old new gone relief joined of queues both =
        laws.alike w.desk.wide w.desk.high (λ x y. has_mark (points w.desk.wide w.desk.high (has relief)) x y || (has_mark w.lossy x y && is_in r x y)) (has joined) (joined_exact r w old new gone relief joined of queues both)
    relief_joined r C.Lossy now w old new gone relief joined of queues both =
        laws.alike w.desk.wide w.desk.high (has relief) (has joined) (λ x y inside. rw (both x y, queues.gone x y) (sym (or_nothing (has relief x y))))

    kept_same : (wide0 high0 wide high : ℕ) (set : Points) (before kept : R) (x y : ℕ) → AllWithin wide0 high0 (has before) → set ≡ points wide0 high0 (has before) → SamePoints (has kept) (shared (has before) (is_within wide high))
        → is_within wide high x y ≡ true → (has_mark set x y && survives wide0 high0 wide high x y) ≡ has kept x y
    kept_same wide0 high0 wide high set before kept x y within is some inside = elim (cases_Bool (is_within wide0 high0 x y)) [
      | inl there ↦ rw (mark wide0 high0 set before x y is there, some x y, there, inside) refl
      | inr outside ↦
          let none : has before x y ≡ false = elim (cases_Bool (has before x y)) [
            | inl was ↦ absurd (false≢true (sym outside ∙ within x y was))
            | inr was ↦ was
          ] in
          rw (is, laws.have wide0 high0 (has before) x y, some x y, none, outside) refl
    ]

    pub kept_resized : (wide high now : ℕ) (w : Window) (old new : LossySeen R) (kept : R) → IsLossyOf has w.desk.wide w.desk.high old w → SamePoints (has kept) (shared (has old.points) (is_within wide high))
        → new ≡ keeping kept old → IsLossyOf has wide high new (resized wide high now w)
    kept_resized wide high now w old new kept of some is =
        let same : new.points ≡ kept = ap (λ (l : LossySeen R). l.points) is in
        record {
          within = rw same (λ x y there. right_of_and _ _ (sym (some x y) ∙ there));
          lossy = rw same (laws.alike wide high (λ x y. has_mark w.lossy x y && survives w.desk.wide w.desk.high wide high x y) (has kept)
              (λ x y inside. kept_same w.desk.wide w.desk.high wide high w.lossy old.points kept x y of.within of.lossy some inside));
          since = of.since ∙ sym (ap (λ (l : LossySeen R). l.since) is);
        }

    refresh_earliest : (w : Window) → is_empty w.pending ≡ true → earliest w ≡ w.lossy_since + 250
    refresh_earliest w none = rw none refl

    refresh_waits : (w : Window) (busy : Bool) → is_empty w.pending ≡ true → busy ≡ (nat_lt 0 (length w.jobs) || is_busy w.packets) → is_clean w ≡ (is_empty w.lossy || busy)
    refresh_waits w busy none is = rw (none, is) refl

    some_waits : (w : Window) (busy : Bool) → is_empty w.pending ≡ true → busy ≡ (nat_lt 0 (length w.jobs) || is_busy w.packets) → busy ≡ false → is_empty w.lossy ≡ false → is_clean w ≡ false
    some_waits w busy none is idle some = refresh_waits w busy none is ∙ rw (some, idle) refl

    clean_waits : (w : Window) (busy : Bool) → is_empty w.pending ≡ true → busy ≡ (nat_lt 0 (length w.jobs) || is_busy w.packets) → (is_empty w.lossy || busy) ≡ true → is_clean w ≡ true
    clean_waits w busy none is clean = refresh_waits w busy none is ∙ clean

    or_busy : (b busy : Bool) → busy ≡ true → (b || busy) ≡ true
    or_busy true busy is = refl
    or_busy false busy is = is

    pub due_told : (wide high now : ℕ) (busy : Bool) (w : Window) (l : LossySeen R) (d : Due) → IsLossyOf has wide high l w → is_empty w.pending ≡ true
        → busy ≡ (nat_lt 0 (length w.jobs) || is_busy w.packets) → IsDue has l now busy d → TellsDue now w d
    due_told wide high now busy w l D.Clean of none is (inl stays) = clean_waits w busy none is (or_busy (is_empty w.lossy) busy stays)
    due_told wide high now busy w l D.Clean of none is (inr nothing) =
        let empty : is_empty w.lossy ≡ true = rw of.lossy (none_empty wide high (has l.points) nothing) in
        clean_waits w busy none is (rw empty refl)
    due_told wide high now busy w l (D.Early t) of none is due =
        let some : is_empty w.lossy ≡ false = rw of.lossy (some_left wide high (has l.points) of.within due.1) in
        let from : earliest w ≡ t = refresh_earliest w none ∙ (rw of.since (sym due.2)) in
        (some_waits w busy none is due.0 some, from, rw from (lt-ltb now t due.3))
    due_told wide high now busy w l D.Now of none is due =
        let some : is_empty w.lossy ≡ false = rw of.lossy (some_left wide high (has l.points) of.within due.1) in
        let from : earliest w ≡ l.since + 250 = refresh_earliest w none ∙ (rw of.since refl) in
        (some_waits w busy none is due.0 some, rw from (not_lt now (l.since + 250) due.2))
