-- From the form that every event keeps, the parts of the invariant.
use Rattle.std.proofs.Common.{◌≡◌, ◌⊎◌, inl, inr, ℕ, Bool, true, false, ◌&&◌, ◌||◌, List, [], ◌∷◌, ◌++◌, Option, Some, None, map, refl, sym, ap, ◌∙◌, subst, arith}
use Rattle.std.specs.Prelude.{All, nat_eq}
use Rattle.std.proofs.lemmas.Bool.{cases_Bool, and_parts, or_parts, or_from, or_right, or_cases, false≢true, eqb-true, false_from_ne_true, cond-true, cond-false}
use Rattle.std.proofs.lemmas.Bool.Decides.{nat_tests}
use Rattle.std.proofs.lemmas.List.Elements.{All-nil, All-cons, All-head, All-tail, All-weaker}
use Rattle.xp_base.specs.declared.coding.Coding.TheVariants as C
use Rattle.xp_base.specs.Points.{LiesIn, is_in, is_within, survives}
use Rattle.delivery_model.specs.Grids.{has, number, shown_at}
use Rattle.delivery_model.specs.Window.{Job, Packet, NewWindow, WindowResized, Draws, Window}
use Rattle.delivery_model.specs.Client.{Size, size_of, size_after, sizes_after, in_size, is_lost}
use Rattle.delivery_model.specs.Owed.{packet_relieves, packets_relieve}
use Rattle.delivery_model.specs.Marks.{Mark, over, any_relieves, StaysRight}
use Rattle.delivery_model.specs.Point.{Drawing, Waiting, DrawsThere, Survives, Becomes, packet_at, packets_at, jobs_at, point_at, is_number, is_exact, job_mark, carried_mark, shown_mark, AllSurvive, FrontsAreFree, PointKept, zero_in}
use Rattle.delivery_model.specs.Kept.{JobFits, PacketFits, IsKept}
use Rattle.delivery_model.specs.Invariant.{ShownUnlessOwed, Item, draw_item, job_item, draws_of, items, any_item_relieves, from_start, NewestAreCurrent, owed_behind, IsWindowPacket, NothingInFront, IsSteady}
use Rattle.delivery_model.proofs.Grids.{has-inside}
use Rattle.delivery_model.proofs.MarkSteps.{any-append, right_now}
use Rattle.delivery_model.proofs.Lists.{any-jobs}

-- the reliefs of waiting packets, as marks
any-packet : (n : ℕ) (size : Option Size) (p : Packet) (x y : ℕ) → (carried_mark n (packet_at size p x y)).relieves ≡ packet_relieves p x y
any-packet n None (NewWindow w h) x y = refl
any-packet n (Some s) (NewWindow w h) x y = refl
any-packet n None (WindowResized w h) x y = refl
any-packet n (Some s) (WindowResized w h) x y = elim (cases_Bool (survives s.wide s.high w h x y)) [ inl is ↦ rw is refl | inr isnt ↦ rw isnt refl ]
any-packet n None (Draws d) x y = refl
any-packet n (Some s) (Draws d) x y = refl

pub any-packets : (n : ℕ) (size : Option Size) (packets : List Packet) (x y : ℕ) → any_relieves (map (carried_mark n) (packets_at size packets x y)) ≡ packets_relieve packets x y
any-packets n size [] x y = refl
any-packets n size (p ∷ packets) x y = rw (any-packet n size p x y, any-packets n (size_after size p) packets x y) refl

same_relief : (n : ℕ) (i : Waiting) → (shown_mark n i).relieves ≡ (carried_mark n i).relieves
same_relief n (DrawsThere there d) = refl
same_relief n Survives = refl
same_relief n (Becomes o) = refl

any-shown : (n : ℕ) (waiting : List Waiting) → any_relieves (map (shown_mark n) waiting) ≡ any_relieves (map (carried_mark n) waiting)
any-shown n [] = refl
any-shown n (i ∷ waiting) = rw (same_relief n i, any-shown n waiting) refl

is_number-true : (n : ℕ) (o : Option ℕ) → is_number n o ≡ true → o ≡ Some n
is_number-true n None right = absurd (false≢true right)
is_number-true n (Some m) right = ap (λ (k : ℕ). Some k) (eqb-true m n right)

-- shown unless owed
pub shown_unless_owed : (w : Window) → IsKept w → ShownUnlessOwed w
shown_unless_owed w kept x y within free =
    let p = kept.points x y within in
    is_number-true (number w.desk x y) (shown_at w.client x y)
    (right_now _ (map (shown_mark (number w.desk x y)) (packets_at (size_of w.client) w.packets x y)) (is_number (number w.desk x y) (shown_at w.client x y)) p.shown
    (rw (any-shown (number w.desk x y), any-packets, any-jobs) (grind (arith, nat_tests))))

-- the items of the invariant, as seen at the point
abbrev draw_as : ℕ → Drawing → Item
draw_as n d = record { covers = d.covers; current = nat_eq d.number n; exact = is_exact d.coding; relieves = d.relieves }

abbrev job_as : ℕ → Drawing → Item
job_as n d = record { covers = d.covers; current = nat_eq d.number n; exact = true; relieves = d.relieves }

abbrev draw_items : ℕ → List Waiting → List Item
draw_items n [] = []
draw_items n (DrawsThere there d ∷ waiting) = draw_as n d ∷ draw_items n waiting
draw_items n (Survives ∷ waiting) = draw_items n waiting
draw_items n (Becomes o ∷ waiting) = draw_items n waiting

items_draws : (w : Window) (size : Option Size) (packets : List Packet) (x y : ℕ)
    → map (draw_item w x y) (draws_of packets) ≡ draw_items (number w.desk x y) (packets_at size packets x y)
items_draws w size [] x y = refl
items_draws w None (NewWindow a b ∷ packets) x y = items_draws w (size_after None (NewWindow a b)) packets x y
items_draws w (Some s) (NewWindow a b ∷ packets) x y = items_draws w (Some s) packets x y
items_draws w None (WindowResized a b ∷ packets) x y = items_draws w None packets x y
items_draws w (Some s) (WindowResized a b ∷ packets) x y = elim (cases_Bool (survives s.wide s.high a b x y)) [
  | inl is ↦ rw is (items_draws w (size_after (Some s) (WindowResized a b)) packets x y)
  | inr isnt ↦ rw isnt (items_draws w (size_after (Some s) (WindowResized a b)) packets x y)
]
items_draws w None (Draws d ∷ packets) x y = ap (λ (is : List Item). draw_item w x y d ∷ is) (items_draws w None packets x y)
items_draws w (Some s) (Draws d ∷ packets) x y = ap (λ (is : List Item). draw_item w x y d ∷ is) (items_draws w (Some s) packets x y)

items_jobs : (w : Window) (jobs : List Job) (x y : ℕ) → map (job_item w x y) jobs ≡ map (job_as (number w.desk x y)) (jobs_at jobs x y)
items_jobs w [] x y = refl
items_jobs w (j ∷ jobs) x y = ap (λ (is : List Item). job_item w x y j ∷ is) (items_jobs w jobs x y)

from_start_none : (is : List Item) → any_item_relieves is ≡ false → from_start is ≡ is
from_start_none [] none = refl
from_start_none (i ∷ is) none = cond-false (any_item_relieves is) (from_start is) (i ∷ is) (or_parts _ _ none).1

-- one more item in front
start_one : (P : Item → Type 0) (i : Item) (is : List Item) → (any_item_relieves is ≡ false → P i) → All P (from_start is) → All P (from_start (i ∷ is))
start_one P i is holds all = elim (cases_Bool (any_item_relieves is)) [
  | inl later ↦ rw later all
  | inr none ↦ rw none (All-cons P i is (holds none) (subst (All P) (from_start_none is none) all))
]

any_items-append : (is js : List Item) → any_item_relieves (is ++ js) ≡ (any_item_relieves is || any_item_relieves js)
any_items-append [] js = refl
any_items-append (i ∷ is) js = grind (arith, nat_tests, any_items-append is js)

any_job_items : (n : ℕ) (jobs : List Drawing) → any_item_relieves (map (job_as n) jobs) ≡ any_relieves (map (job_mark n) jobs)
any_job_items n [] = refl
any_job_items n (j ∷ jobs) = ap (λ (b : Bool). j.relieves || b) (any_job_items n jobs)

any_draw_items : (n : ℕ) (waiting : List Waiting) → any_item_relieves (draw_items n waiting) ≡ any_relieves (map (carried_mark n) waiting)
any_draw_items n [] = refl
any_draw_items n (DrawsThere there d ∷ waiting) = ap (λ (b : Bool). d.relieves || b) (any_draw_items n waiting)
any_draw_items n (Survives ∷ waiting) = any_draw_items n waiting
any_draw_items n (Becomes o ∷ waiting) = any_draw_items n waiting

abbrev Current : Item → Type 0
Current i = i.covers ≡ true → i.current ≡ true

abbrev Exact : Item → Type 0
Exact i = i.covers ≡ true → i.exact ≡ true

-- from the start on each item over the point is current
jobs_current : (n : ℕ) (jobs : List Drawing) (v : Bool) → StaysRight false (map (job_mark n) jobs) v → All Current (from_start (map (job_as n) jobs))
jobs_current n [] v stays = All-nil Current
jobs_current n (j ∷ jobs) v stays = start_one Current (job_as n j) (map (job_as n) jobs) holds (jobs_current n jobs (over (job_mark n j).leaves v) stays.1)
  where
    holds : any_item_relieves (map (job_as n) jobs) ≡ false → Current (job_as n j)
    holds none inside =
        let right : over (job_mark n j).leaves v ≡ true = right_now false (map (job_mark n) jobs) (over (job_mark n j).leaves v) stays.1 (rw (← any_job_items n jobs) (rw none refl)) in
        rw inside at right

items_current : (n : ℕ) (waiting : List Waiting) (jobs : List Drawing) (v : Bool) → StaysRight false (map (carried_mark n) waiting ++ map (job_mark n) jobs) v
    → All Current (from_start (draw_items n waiting ++ map (job_as n) jobs))
items_current n [] jobs v stays = jobs_current n jobs v stays
items_current n (Survives ∷ waiting) jobs v stays = items_current n waiting jobs v stays.1
items_current n (Becomes o ∷ waiting) jobs v stays = items_current n waiting jobs false stays.1
items_current n (DrawsThere there d ∷ waiting) jobs v stays =
    start_one Current (draw_as n d) (draw_items n waiting ++ map (job_as n) jobs) holds (items_current n waiting jobs (over (carried_mark n (DrawsThere there d)).leaves v) stays.1)
  where
    holds : any_item_relieves (draw_items n waiting ++ map (job_as n) jobs) ≡ false → Current (draw_as n d)
    holds none inside =
        let parts : (any_item_relieves (draw_items n waiting) ≡ false) × (any_item_relieves (map (job_as n) jobs) ≡ false) = or_parts _ _ (sym (any_items-append (draw_items n waiting) (map (job_as n) jobs)) ∙ none) in
        let free : (any_relieves (map (carried_mark n) waiting ++ map (job_mark n) jobs) || false) ≡ false =
        grind (arith, nat_tests, any-append (map (carried_mark n) waiting) (map (job_mark n) jobs), any_draw_items n waiting, any_job_items n jobs, parts.0, parts.1) in
        let right : over (carried_mark n (DrawsThere there d)).leaves v ≡ true =
        right_now false (map (carried_mark n) waiting ++ map (job_mark n) jobs) (over (carried_mark n (DrawsThere there d)).leaves v) stays.1 free in
        rw inside at right

-- from the start on each waiting draw is exact
jobs_exact : (n : ℕ) (jobs : List Drawing) → All Exact (from_start (map (job_as n) jobs))
jobs_exact n [] = All-nil Exact
jobs_exact n (j ∷ jobs) = start_one Exact (job_as n j) (map (job_as n) jobs) (λ none inside. refl) (jobs_exact n jobs)

start_in_jobs : (is js : List Item) → any_item_relieves js ≡ true → from_start (is ++ js) ≡ from_start js
start_in_jobs [] js later = refl
start_in_jobs (i ∷ is) js later = cond-true (any_item_relieves (is ++ js)) (from_start (is ++ js)) (i ∷ (is ++ js)) (any_items-append is js ∙ or_right (any_item_relieves is) (any_item_relieves js) later) ∙ start_in_jobs is js later

draws_exact : (n : ℕ) (waiting : List Waiting) (jobs : List Drawing) (v : Bool) → StaysRight false (map (shown_mark n) waiting) v
    → All Exact (from_start (draw_items n waiting ++ map (job_as n) jobs))
draws_exact n [] jobs v stays = jobs_exact n jobs
draws_exact n (Survives ∷ waiting) jobs v stays = draws_exact n waiting jobs v stays.1
draws_exact n (Becomes o ∷ waiting) jobs v stays = draws_exact n waiting jobs (is_number n o) stays.1
draws_exact n (DrawsThere there d ∷ waiting) jobs v stays =
    start_one Exact (draw_as n d) (draw_items n waiting ++ map (job_as n) jobs) holds (draws_exact n waiting jobs (over (shown_mark n (DrawsThere there d)).leaves v) stays.1)
  where
    holds : any_item_relieves (draw_items n waiting ++ map (job_as n) jobs) ≡ false → Exact (draw_as n d)
    holds none inside =
        let parts : (any_item_relieves (draw_items n waiting) ≡ false) × (any_item_relieves (map (job_as n) jobs) ≡ false) = or_parts _ _ (sym (any_items-append (draw_items n waiting) (map (job_as n) jobs)) ∙ none) in
        let free : (any_relieves (map (shown_mark n) waiting) || false) ≡ false =
        grind (arith, nat_tests, any_draw_items n waiting, any-shown n waiting, parts.0) in
        let right : over (shown_mark n (DrawsThere there d)).leaves v ≡ true =
        right_now false (map (shown_mark n) waiting) (over (shown_mark n (DrawsThere there d)).leaves v) stays.1 free in
        let all : (there && (is_exact d.coding && nat_eq d.number n)) ≡ true = rw inside at right in
        (and_parts (is_exact d.coding) (nat_eq d.number n) (and_parts there (is_exact d.coding && nat_eq d.number n) all).1).0

pub newest_are_current : (w : Window) → IsKept w → NewestAreCurrent w
newest_are_current w kept x y within free =
    record {
      current = subst (λ (is : List Item). All Current (from_start is)) (sym same) (items_current n waiting jobs true (subst (λ (b : Bool). StaysRight b (map (carried_mark n) waiting ++ map (job_mark n) jobs) true) free p.carried));
      exact = λ sharp. subst (λ (is : List Item). All Exact (from_start is)) (sym same) (exact sharp (cases_Bool (any_relieves (map (job_mark n) jobs))));
    }
  where
    n : ℕ
    n = number w.desk x y

    waiting : List Waiting
    waiting = packets_at (size_of w.client) w.packets x y

    jobs : List Drawing
    jobs = jobs_at w.jobs x y

    p : PointKept (point_at w x y)
    p = kept.points x y within

    same : items w x y ≡ draw_items n waiting ++ map (job_as n) jobs
    same = rw (items_draws w (size_of w.client) w.packets x y, items_jobs w w.jobs x y) refl

    exact : has w.lossy x y ≡ false → (any_relieves (map (job_mark n) jobs) ≡ true) ⊎ (any_relieves (map (job_mark n) jobs) ≡ false) → All Exact (from_start (draw_items n waiting ++ map (job_as n) jobs))
    exact sharp (inl later) = rw (start_in_jobs (draw_items n waiting) (map (job_as n) jobs) (any_job_items n jobs ∙ later)) (jobs_exact n jobs)
    exact sharp (inr none) = draws_exact n waiting jobs (is_number n (shown_at w.client x y)) (subst (λ (b : Bool). StaysRight b (map (shown_mark n) waiting) (is_number n (shown_at w.client x y))) base p.shown)
      where
        base : ((has w.pending x y || any_relieves (map (job_mark n) jobs)) || has w.lossy x y) ≡ false
        base = or_from _ _ (or_from _ _ free none) sharp

-- in front of a packet by which a point is lost, and behind it
lost_becomes : (size : Option Size) (p : Packet) (x y : ℕ) → is_lost size p x y ≡ true → (o : Option ℕ) × (packet_at size p x y ≡ Becomes o)
lost_becomes None (NewWindow w h) x y lost = (_, refl)
lost_becomes (Some s) (NewWindow w h) x y lost = (_, refl)
lost_becomes None (WindowResized w h) x y lost = (_, refl)
lost_becomes (Some s) (WindowResized w h) x y lost = which (cases_Bool (survives s.wide s.high w h x y)) lost
  where
    which : (survives s.wide s.high w h x y ≡ true) ⊎ (survives s.wide s.high w h x y ≡ false) → is_lost (Some s) (WindowResized w h) x y ≡ true
        → (o : Option ℕ) × (packet_at (Some s) (WindowResized w h) x y ≡ Becomes o)
    which (inl is) lost = absurd (false≢true (rw is at lost))
    which (inr isnt) lost = (zero_in w h x y, rw isnt refl)
lost_becomes None (Draws d) x y lost = absurd (false≢true lost)
lost_becomes (Some s) (Draws d) x y lost = absurd (false≢true lost)

owed_after_lost : (n : ℕ) (size : Option Size) (front : List Packet) (p : Packet) (behind : List Packet) (jobs : List Mark) (pending : Bool) (x y : ℕ) (v : Bool)
    → is_lost (sizes_after size front) p x y ≡ true → StaysRight pending (map (carried_mark n) (packets_at size (front ++ p ∷ behind) x y) ++ jobs) v
    → (pending || (packets_relieve behind x y || any_relieves jobs)) ≡ true
owed_after_lost n size [] p behind jobs pending x y v lost stays = which (cases_Bool (pending || (packets_relieve behind x y || any_relieves jobs)))
  where
    becomes : (o : Option ℕ) × (packet_at size p x y ≡ Becomes o)
    becomes = lost_becomes size p x y lost

    after : StaysRight pending (map (carried_mark n) (packets_at (size_after size p) behind x y) ++ jobs) false
    after = rw becomes.1 at stays.1

    which : ((pending || (packets_relieve behind x y || any_relieves jobs)) ≡ true) ⊎ ((pending || (packets_relieve behind x y || any_relieves jobs)) ≡ false) → (pending || (packets_relieve behind x y || any_relieves jobs)) ≡ true
    which (inl is) = is
    which (inr free) = absurd (false≢true (right_now pending (map (carried_mark n) (packets_at (size_after size p) behind x y) ++ jobs) false after
        (rw (any-append, any-packets) (grind (arith, nat_tests)))))
owed_after_lost n size (q ∷ front) p behind jobs pending x y v lost stays = owed_after_lost n (size_after size q) front p behind jobs pending x y _ lost stays.1

not_all_survive : (size : Option Size) (front : List Packet) (p : Packet) (behind : List Packet) (x y : ℕ) → is_lost (sizes_after size front) p x y ≡ true
    → AllSurvive (packets_at size (front ++ p ∷ behind) x y) → ⊥
not_all_survive size [] p behind x y lost all = rw (lost_becomes size p x y lost).1 at all
not_all_survive size (q ∷ front) p behind x y lost all = not_all_survive (size_after size q) front p behind x y lost (tail (packet_at size q x y) all)
  where
    tail : (i : Waiting) → AllSurvive (i ∷ packets_at (size_after size q) (front ++ p ∷ behind) x y) → AllSurvive (packets_at (size_after size q) (front ++ p ∷ behind) x y)
    tail (DrawsThere there d) all = all
    tail Survives all = all
    tail (Becomes o) all = absurd all

free_before_lost : (n : ℕ) (size : Option Size) (front : List Packet) (p : Packet) (behind : List Packet) (x y : ℕ) → is_lost (sizes_after size front) p x y ≡ true
    → FrontsAreFree (packets_at size (front ++ p ∷ behind) x y) → packets_relieve front x y ≡ false
free_before_lost n size [] p behind x y lost fronts = refl
free_before_lost n size (q ∷ front) p behind x y lost fronts =
    or_from _ _ (sym (any-packet n size q x y) ∙ (parts (packet_at size q x y) fronts).0) (free_before_lost n (size_after size q) front p behind x y lost (parts (packet_at size q x y) fronts).1)
  where
    rest : List Waiting
    rest = packets_at (size_after size q) (front ++ p ∷ behind) x y

    parts : (i : Waiting) → FrontsAreFree (i ∷ rest) → ((carried_mark n i).relieves ≡ false) × FrontsAreFree rest
    parts (DrawsThere there d) fronts = (false_from_ne_true d.relieves (λ is. not_all_survive (size_after size q) front p behind x y lost (fronts.0 is)), fronts.1)
    parts Survives fronts = (refl, fronts)
    parts (Becomes o) fronts = (refl, fronts)

-- a relief lies in the window
relief_within : (w h : ℕ) (packets : List Packet) (x y : ℕ) → All (PacketFits w h) packets → packets_relieve packets x y ≡ true → is_within w h x y ≡ true
relief_within w h [] x y fits is = absurd (false≢true is)
relief_within w h (p ∷ packets) x y fits is = which (or_cases _ _ is) (relief_within w h packets x y (All-tail (PacketFits w h) p packets fits))
  where
    one : (q : Packet) → PacketFits w h q → packet_relieves q x y ≡ true → is_within w h x y ≡ true
    one (NewWindow a b) fit is = absurd (false≢true is)
    one (WindowResized a b) fit is = absurd (false≢true is)
    one (Draws d) fit is = rw (← fit.over.wide, ← fit.over.high) (has-inside d.relief x y is)

    which : (packet_relieves p x y ≡ true) ⊎ (packets_relieve packets x y ≡ true) → (packets_relieve packets x y ≡ true → is_within w h x y ≡ true) → is_within w h x y ≡ true
    which (inl here) later = one p (All-head (PacketFits w h) p packets fits) here
    which (inr there) later = later there

fits_front : (w h : ℕ) (front behind : List Packet) → All (PacketFits w h) (front ++ behind) → All (PacketFits w h) front
fits_front w h [] behind fits = All-nil (PacketFits w h)
fits_front w h (q ∷ front) behind fits = All-cons (PacketFits w h) q front (All-head (PacketFits w h) q (front ++ behind) fits) (fits_front w h front behind (All-tail (PacketFits w h) q (front ++ behind) fits))

module _ (w : Window) (kept : IsKept w) (front : List Packet) (p : Packet) (behind : List Packet) (is : w.packets ≡ front ++ p ∷ behind) where
  pub lost_owed : (x y : ℕ) → is_within w.desk.wide w.desk.high x y ≡ true → is_lost (sizes_after (size_of w.client) front) p x y ≡ true → owed_behind w behind x y ≡ true
  lost_owed x y within lost = rw (← any-jobs (number w.desk x y) w.jobs x y)
      (owed_after_lost (number w.desk x y) (size_of w.client) front p behind (map (job_mark (number w.desk x y)) (jobs_at w.jobs x y)) (has w.pending x y) x y true lost (rw is at (kept.points x y within).carried))

  pub lost_free : (x y : ℕ) → is_lost (sizes_after (size_of w.client) front) p x y ≡ true → packets_relieve front x y ≡ false
  lost_free x y lost = which (cases_Bool (is_within w.desk.wide w.desk.high x y))
    where
      which : (is_within w.desk.wide w.desk.high x y ≡ true) ⊎ (is_within w.desk.wide w.desk.high x y ≡ false) → packets_relieve front x y ≡ false
      which (inl within) = free_before_lost 0 (size_of w.client) front p behind x y lost (rw is at (kept.points x y within).fronts)
      which (inr outside) = false_from_ne_true (packets_relieve front x y)
          (λ there. false≢true (sym outside ∙ relief_within w.desk.wide w.desk.high front x y (fits_front w.desk.wide w.desk.high front (p ∷ behind) (rw is at kept.packets)) there))

announced_lost : (size : Option Size) (w h x y : ℕ) → is_lost size (NewWindow w h) x y ≡ true
announced_lost None w h x y = refl
announced_lost (Some s) w h x y = refl

-- a point outside one of the two sizes is lost by a resize
outside_lost : (size : Option Size) (p : Packet) → IsWindowPacket p → (x y : ℕ) → in_size size x y ≡ false → is_lost size p x y ≡ true
outside_lost None (NewWindow w h) window x y outside = refl
outside_lost (Some s) (NewWindow w h) window x y outside = refl
outside_lost None (WindowResized w h) window x y outside = refl
outside_lost (Some s) (WindowResized w h) window x y outside = which (cases_Bool (survives s.wide s.high w h x y))
  where
    which : (survives s.wide s.high w h x y ≡ true) ⊎ (survives s.wide s.high w h x y ≡ false) → is_lost (Some s) (WindowResized w h) x y ≡ true
    which (inl is) = absurd (false≢true (sym outside ∙ (and_parts _ _ is).0))
    which (inr isnt) = rw isnt refl
outside_lost size (Draws d) window x y outside = absurd window

resized_lost : (size : Option Size) (w h x y : ℕ) → is_within w h x y ≡ false → is_lost size (WindowResized w h) x y ≡ true
resized_lost None w h x y outside = refl
resized_lost (Some s) w h x y outside = which (cases_Bool (survives s.wide s.high w h x y))
  where
    which : (survives s.wide s.high w h x y ≡ true) ⊎ (survives s.wide s.high w h x y ≡ false) → is_lost (Some s) (WindowResized w h) x y ≡ true
    which (inl is) = absurd (false≢true (sym outside ∙ (and_parts _ _ is).1))
    which (inr isnt) = rw isnt refl

pub nothing_in_front : (w : Window) → IsKept w → NothingInFront w
nothing_in_front w kept = record {
  announced = λ front wide high behind is. record {
    free = λ x y. lost_free w kept front (NewWindow wide high) behind is x y (announced_lost (sizes_after (size_of w.client) front) wide high x y);
    owed = λ x y within. lost_owed w kept front (NewWindow wide high) behind is x y within (announced_lost (sizes_after (size_of w.client) front) wide high x y);
  };
  resized = λ front wide high behind is x y there. inside front wide high behind is x y there (cases_Bool (is_within wide high x y));
  grown = λ front p behind window is x y within outside. lost_owed w kept front p behind is x y within (outside_lost (sizes_after (size_of w.client) front) p window x y outside);
}
  where
    inside : (front : List Packet) (wide high : ℕ) (behind : List Packet) → w.packets ≡ front ++ WindowResized wide high ∷ behind → (x y : ℕ) → packets_relieve front x y ≡ true
        → (is_within wide high x y ≡ true) ⊎ (is_within wide high x y ≡ false) → is_within wide high x y ≡ true
    inside front wide high behind is x y there (inl within) = within
    inside front wide high behind is x y there (inr outside) = absurd (false≢true (sym
        (lost_free w kept front (WindowResized wide high) behind is x y (resized_lost (sizes_after (size_of w.client) front) wide high x y outside)) ∙ there))

pub is_steady : (w : Window) → IsKept w → IsSteady w
is_steady w kept = record {
  inside = All-weaker (JobFits w.desk.wide w.desk.high) (λ (j : Job). LiesIn w.desk.wide w.desk.high j.capture.rect) (λ j f. f.within) w.jobs kept.jobs;
  shown = shown_unless_owed w kept;
  current = newest_are_current w kept;
  fronts = nothing_in_front w kept;
  lossy = All-weaker (JobFits w.desk.wide w.desk.high) (λ (j : Job). j.capture.coding ≡ C.Lossy → (x y : ℕ) → is_in j.capture.rect x y ≡ true → has j.relief x y ≡ true) (λ j f. f.whole) w.jobs kept.jobs;
}
