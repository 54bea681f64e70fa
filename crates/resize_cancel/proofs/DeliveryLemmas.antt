-- Giving back and a resize in the model's window. What is known of sets made point by point are laws of `delivery_model`.
use Rattle.std.proofs.Common.{◌≡◌, ℕ, Bool, true, false, ◌&&◌, ◌||◌, List, [], ◌∷◌, inl, inr, refl, sym, ◌∙◌, subst}
use Rattle.std.specs.Prelude.{not}
use Rattle.std.proofs.lemmas.Bool.{cases_Bool}
use Rattle.xp_base.specs.Points.{is_within, survives}
use Rattle.rect_regions.specs.BitRows.{AllWithin}
use Rattle.delivery_model.specs.Grids.{Points, points, has as has_mark}
use Rattle.delivery_model.specs.Window.{Window}
use Rattle.delivery_model.specs.Events.{jobs_relieve, put_pending, given_back, resized}
use Rattle.delivery_model.specs.Laws.{PointsHave, PointsAreAlike}
use Rattle.draw_sequencer.specs.InHand.{HeldJob, relieve}
use Rattle.damage_batch.specs.Pending.{BatchSeen, Puts}
use Rattle.damage_batch.specs.Delivery.{IsBatchOf}
use Rattle.damage_batch.specs.Laws.{PutIsPending}
use Rattle.resize_cancel.specs.Cancelled.{GivesBack, CarriedSeen, IsCarried}
use Rattle.resize_cancel.specs.Delivery.{jobs_seen, AreJobsOf}

and_false : (w : Bool) → false ≡ (w && false)
and_false true = refl
and_false false = refl

spread : (w a b : Bool) → ((w && a) || (w && b)) ≡ (w && (a || b))
spread true a b = refl
spread false a b = refl

first_true : (a b : Bool) → (a && b) ≡ true → a ≡ true
first_true true b both = refl
first_true false b both = both

-- a point of the new size: in both sizes it pends where it did or a job relieves it, and else it is new
pends_so : (w0 w p r : Bool) → w ≡ true → (not (w0 && w) || ((w0 && p) || (w0 && r))) ≡ (w && (not w0 || (p || r)))
pends_so true w p r inside = rw inside refl
pends_so false w p r inside = rw inside refl

module _ {R : Type 0} (has : R → ℕ → ℕ → Bool) (have : PointsHave) where
  pub reliefs_seen : (wide high : ℕ) (jobs : List (HeldJob R)) (x y : ℕ) → jobs_relieve (jobs_seen has wide high jobs) x y ≡ (is_within wide high x y && relieve has jobs x y)
  reliefs_seen wide high [] x y = and_false (is_within wide high x y)
  reliefs_seen wide high (j ∷ jobs) x y = rw (have wide high (has j.relief) x y, reliefs_seen wide high jobs x y) (spread (is_within wide high x y) (has j.relief x y) (relieve has jobs x y))

  either_within : (wide high : ℕ) (one other : ℕ → ℕ → Bool) → AllWithin wide high one → AllWithin wide high other → (x y : ℕ) → (one x y || other x y) ≡ true → is_within wide high x y ≡ true
  either_within wide high one other first second x y there = elim (cases_Bool (one x y)) [
    | inl here ↦ first x y here
    | inr no_point ↦ second x y (rw no_point at there)
  ]

  module _ (alike : PointsAreAlike) (puts : PutIsPending has) where
    same_given : (now : ℕ) (w : Window) (jobs : List (HeldJob R)) (old new : BatchSeen R) → IsBatchOf has w.desk.wide w.desk.high old w → AreJobsOf has w.desk.wide w.desk.high jobs w → GivesBack has jobs old now new
        → (x y : ℕ) → is_within w.desk.wide w.desk.high x y ≡ true → (has_mark w.pending x y || jobs_relieve w.jobs x y) ≡ has new.pending x y
    same_given now w jobs old new of held gives x y inside =
        rw (of.pending, held.held, have w.desk.wide w.desk.high (has old.pending) x y, reliefs_seen w.desk.wide w.desk.high jobs x y, inside) (sym (gives.points x y))

    pub given_pends : (now : ℕ) (w : Window) (jobs : List (HeldJob R)) (old new : BatchSeen R) → IsBatchOf has w.desk.wide w.desk.high old w → AreJobsOf has w.desk.wide w.desk.high jobs w → GivesBack has jobs old now new
        → IsBatchOf has w.desk.wide w.desk.high new (given_back now w)
    given_pends now w jobs old new of held gives =
        let wide : ℕ = w.desk.wide in
        let high : ℕ = w.desk.high in
        let within : AllWithin wide high (has new.pending) = λ x y there. either_within wide high (has old.pending) (relieve has jobs) of.within held.within x y (sym (gives.points x y) ∙ there) in
        let test : ℕ → ℕ → Bool = λ x y. has_mark w.pending x y || jobs_relieve w.jobs x y in
        let same : points wide high test ≡ points wide high (has new.pending) = alike wide high test (has new.pending) (same_given now w jobs old new of held gives) in
        let none : Window = record w { jobs = [] } in
        let put : IsBatchOf has wide high new (put_pending (points wide high (has new.pending)) now none) = puts wide high wide high now none old new new.pending (record { within = of.within; pending = of.pending; since = of.since; delay = of.delay }) within gives.put in
        subst (λ (s : Points). IsBatchOf has wide high new (put_pending s now none)) (sym same) put

    same_carried : (w h : ℕ) (window : Window) (jobs : List (HeldJob R)) (old : BatchSeen R) (lossy : R) (c : CarriedSeen R) → IsBatchOf has window.desk.wide window.desk.high old window → AreJobsOf has window.desk.wide window.desk.high jobs window
        → IsCarried has window.desk.wide window.desk.high w h jobs old.pending lossy c
        → (x y : ℕ) → is_within w h x y ≡ true → (not (survives window.desk.wide window.desk.high w h x y) || (has_mark window.pending x y || jobs_relieve window.jobs x y)) ≡ has c.pending x y
    same_carried w h window jobs old lossy c of held carried x y inside =
        rw (of.pending, held.held, have window.desk.wide window.desk.high (has old.pending) x y, reliefs_seen window.desk.wide window.desk.high jobs x y)
        (pends_so (is_within window.desk.wide window.desk.high x y) (is_within w h x y) (has old.pending x y) (relieve has jobs x y) inside ∙ sym (carried.pending x y))

    pub carried_points : (w h now : ℕ) (window : Window) (jobs : List (HeldJob R)) (old : BatchSeen R) (lossy : R) (c : CarriedSeen R) → IsBatchOf has window.desk.wide window.desk.high old window → AreJobsOf has window.desk.wide window.desk.high jobs window
        → IsCarried has window.desk.wide window.desk.high w h jobs old.pending lossy c → points w h (has c.pending) ≡ (resized w h now window).pending
    carried_points w h now window jobs old lossy c of held carried =
        sym (alike w h (λ x y. not (survives window.desk.wide window.desk.high w h x y) || (has_mark window.pending x y || jobs_relieve window.jobs x y)) (has c.pending) (same_carried w h window jobs old lossy c of held carried))

    pub carried_pends : (w h now : ℕ) (window : Window) (jobs : List (HeldJob R)) (old new : BatchSeen R) (lossy : R) (c : CarriedSeen R) → IsBatchOf has window.desk.wide window.desk.high old window → AreJobsOf has window.desk.wide window.desk.high jobs window
        → IsCarried has window.desk.wide window.desk.high w h jobs old.pending lossy c → Puts has old c.pending now new → IsBatchOf has w h new (resized w h now window)
    carried_pends w h now window jobs old new lossy c of held carried put =
        let within : AllWithin w h (has c.pending) = λ x y there. first_true (is_within w h x y) _ (sym (carried.pending x y) ∙ there) in
        let test : ℕ → ℕ → Bool = λ x y. not (survives window.desk.wide window.desk.high w h x y) || (has_mark window.pending x y || jobs_relieve window.jobs x y) in
        let same : points w h test ≡ points w h (has c.pending) = alike w h test (has c.pending) (same_carried w h window jobs old lossy c of held carried) in
        let put_in = puts window.desk.wide window.desk.high w h now window old new c.pending of within put in
        record {
          within = put_in.within;
          pending = same ∙ put_in.pending;
          since = subst (λ (s : Points). (put_pending s now window).pending_since ≡ new.since) (sym same) put_in.since;
          delay = put_in.delay;
        }
