-- Each event changes what is owed as stated.
use Rattle.std.proofs.Common.{◌≡◌, ◌⊎◌, inl, inr, ℕ, Bool, true, false, not, ◌&&◌, ◌||◌, List, [], ◌∷◌, ◌++◌, Option, Some, None, map, cond, refl, ap, ◌∙◌, arith}
use Rattle.std.specs.Prelude.{nat_eq}
use Rattle.std.specs.List.{list_any}
use Rattle.std.proofs.lemmas.Bool.{cases_Bool}
use Rattle.std.proofs.lemmas.Bool.Decides.{nat_tests}
use Rattle.std.proofs.lemmas.List.Elements.{All-head}
use Rattle.xp_base.specs.declared.coding.Coding.{Coding}
use Rattle.xp_base.specs.declared.coding.Coding.TheVariants as C
use Rattle.xp_base.specs.Points.{Rectangle, is_in, is_within, survives, whole}
use Rattle.delivery_model.specs.Grids.{Points, has, Grid}
use Rattle.delivery_model.specs.Window.{Job, Packet, NewWindow, WindowResized, Draws, Window}
use Rattle.delivery_model.specs.Events.{is_empty, jobs_relieve, started, damaged, painted, Planned, region_taken, captured, relief_queued, lossy_queued, queued, queue_ready, with_result, Filing, Late, Foreign, Filed, filing_of, capture_of, filed_as, with_relief, Event, Start, Paint, Capture, File, Write, Acknowledge, MapWindow, UnmapWindow, Recall, Resize, BufferRefresh, Close, changed, rect_sent, without_sent, counted, acknowledged_as, written_front, unmapped, given_back, resized}
use Rattle.delivery_model.specs.Plans.{IsPlan, IsEvent}
use Rattle.delivery_model.specs.Owed.{packet_relieves, packets_relieve, is_owed, owes}
use Rattle.delivery_model.specs.Changes.{owed_with, owed_without_front, owed_acknowledged, owed_after}
use Rattle.delivery_model.specs.Kept.{JobFits, IsKept}
use Rattle.delivery_model.proofs.Grids.{has-points_within, has-empty}
use Rattle.delivery_model.proofs.JobSteps.{jobs_of-relieve, has-relief_queued, has-lossy_queued, keeps_queued, keeps_result}

pub jobs_relieve-append : (jobs new : List Job) (x y : ℕ) → jobs_relieve (jobs ++ new) x y ≡ (jobs_relieve jobs x y || jobs_relieve new x y)
jobs_relieve-append [] new x y = refl
jobs_relieve-append (j ∷ jobs) new x y = grind (arith, nat_tests, jobs_relieve-append jobs new x y)

packets_relieve-append : (packets : List Packet) (p : Packet) (x y : ℕ) → packets_relieve (packets ++ p ∷ []) x y ≡ (packets_relieve packets x y || packet_relieves p x y)
packets_relieve-append [] p x y = grind (arith, nat_tests)
packets_relieve-append (q ∷ packets) p x y = grind (arith, nat_tests, packets_relieve-append packets p x y)

-- two windows of one size of which the same is owed within
owes_same : (v w : Window) (x y : ℕ) → v.desk.wide ≡ w.desk.wide → v.desk.high ≡ w.desk.high → (is_within w.desk.wide w.desk.high x y ≡ true → is_owed v x y ≡ is_owed w x y) → owes (Some v) x y ≡ owes (Some w) x y
owes_same v w x y wide high same = rw (wide, high) (at (cases_Bool (is_within w.desk.wide w.desk.high x y)))
  where
    at : (is_within w.desk.wide w.desk.high x y ≡ true) ⊎ (is_within w.desk.wide w.desk.high x y ≡ false) → (is_within w.desk.wide w.desk.high x y && is_owed v x y) ≡ (is_within w.desk.wide w.desk.high x y && is_owed w x y)
    at (inl within) = ap (λ (b : Bool). is_within w.desk.wide w.desk.high x y && b) (same within)
    at (inr outside) = rw outside refl

-- damage, of a window whose desktop may have other numbers
owed_damaged : (r : Rectangle) (now : ℕ) (w : Window) (x y : ℕ) → owes (Some (damaged r now w)) x y ≡ owed_with r w x y
owed_damaged r now w x y = at (cases_Bool (is_within w.desk.wide w.desk.high x y))
  where
    at : (is_within w.desk.wide w.desk.high x y ≡ true) ⊎ (is_within w.desk.wide w.desk.high x y ≡ false) → owes (Some (damaged r now w)) x y ≡ owed_with r w x y
    at (inl within) = rw (within, has-points_within w.desk.wide w.desk.high (λ x y. has w.pending x y || is_in r x y) x y within) (grind (arith, nat_tests))
    at (inr outside) = rw outside refl

pub owed_started : (desk : Grid) (now : ℕ) (x y : ℕ) → owes (Some (started desk now)) x y ≡ is_within desk.wide desk.high x y
owed_started desk now x y = at (cases_Bool (is_within desk.wide desk.high x y))
  where
    at : (is_within desk.wide desk.high x y ≡ true) ⊎ (is_within desk.wide desk.high x y ≡ false) → owes (Some (started desk now)) x y ≡ is_within desk.wide desk.high x y
    at (inl within) = rw (within, has-points_within desk.wide desk.high (λ x y. true) x y within) refl
    at (inr outside) = rw outside refl

owed_captured : (plan : List Planned) (first : ℕ) (w : Window) → IsPlan w plan → (x y : ℕ) → owes (Some (captured plan first w)) x y ≡ owes (Some w) x y
owed_captured plan first w planned x y = owes_same (captured plan first w) w x y refl refl same
  where
    taken : Bool → Points
    taken empty = cond empty w.lossy w.pending

    moved : (empty : Bool) → is_empty w.pending ≡ empty → ((z u : ℕ) → has (taken empty) z u ≡ true → list_any (λ (p : Planned). is_in p.rect z u) plan ≡ true)
        → ((false || (jobs_relieve w.jobs x y || (list_any (λ (p : Planned). is_in p.rect x y) plan && has (taken empty) x y))) || (packets_relieve w.packets x y || has w.lossy x y)) ≡ is_owed w x y
    moved true empty covers = grind (arith, nat_tests, has-empty w.pending x y empty)
    moved false empty covers = grind (arith, nat_tests, covers x y)

    same : is_within w.desk.wide w.desk.high x y ≡ true → is_owed (captured plan first w) x y ≡ is_owed w x y
    same within = rw (has-points_within w.desk.wide w.desk.high (λ x y. false) x y within, jobs_relieve-append, jobs_of-relieve w (region_taken w) first plan x y within)
        (moved (is_empty w.pending) refl planned.covers)

-- a filing moves what is owed from jobs to draws
owed_queued : (now : ℕ) (j : Job) (jobs : List Job) (w : Window) → JobFits w.desk.wide w.desk.high j → (x y : ℕ) → is_within w.desk.wide w.desk.high x y ≡ true
    → is_owed (record (queued now j w) { jobs = jobs }) x y ≡ is_owed (record w { jobs = j ∷ jobs }) x y
owed_queued now j jobs w fits x y within = rw packets_relieve-append (coded j.capture.coding refl)
  where
    coded : (coding : Coding) → j.capture.coding ≡ coding
        → ((has w.pending x y || jobs_relieve jobs x y) || ((packets_relieve w.packets x y || has (relief_queued w j.capture.rect j.relief coding) x y) || has (lossy_queued w j.capture.rect coding) x y))
        ≡ ((has w.pending x y || (has j.relief x y || jobs_relieve jobs x y)) || (packets_relieve w.packets x y || has w.lossy x y))
    coded C.Exact is = rw (has-relief_queued w j C.Exact x y within, has-lossy_queued w j C.Exact x y within) (grind (arith, nat_tests))
    coded C.Lossy is = rw (has-relief_queued w j C.Lossy x y within, has-lossy_queued w j C.Lossy x y within) (grind (arith, nat_tests, fits.whole is x y))

owed_ready : (now : ℕ) (jobs : List Job) (w : Window) → IsKept (record w { jobs = jobs }) → (x y : ℕ) → is_within w.desk.wide w.desk.high x y ≡ true
    → is_owed (queue_ready now jobs w) x y ≡ is_owed (record w { jobs = jobs }) x y
owed_ready now [] w kept x y within = refl
owed_ready now (j ∷ jobs) w kept x y within = which j.encoded
    (owed_ready now jobs (queued now j w) (keeps_queued now j jobs w kept) x y within ∙ owed_queued now j jobs w (All-head (JobFits w.desk.wide w.desk.high) j jobs kept.jobs) x y within)
  where
    which : (b : Bool) → is_owed (queue_ready now jobs (queued now j w)) x y ≡ is_owed (record w { jobs = j ∷ jobs }) x y
        → is_owed (cond b (queue_ready now jobs (queued now j w)) (record w { jobs = j ∷ jobs })) x y ≡ is_owed (record w { jobs = j ∷ jobs }) x y
    which true left = left
    which false left = refl

pub relieve-with_result : (jobs : List Job) (k x y : ℕ) → jobs_relieve (with_result jobs k) x y ≡ jobs_relieve jobs x y
relieve-with_result [] k x y = refl
relieve-with_result (j ∷ jobs) k x y = elim (cases_Bool (nat_eq j.number k)) [
  | inl same ↦ rw same refl
  | inr other ↦ rw other (ap (λ (b : Bool). has j.relief x y || b) (relieve-with_result jobs k x y))
]

desk_ready : (now : ℕ) (jobs : List Job) (w : Window) → (queue_ready now jobs w).desk ≡ w.desk
desk_ready now [] w = refl
desk_ready now (j ∷ jobs) w = which j.encoded (desk_ready now jobs (queued now j w))
  where
    which : (b : Bool) → (queue_ready now jobs (queued now j w)).desk ≡ w.desk → (cond b (queue_ready now jobs (queued now j w)) (record w { jobs = j ∷ jobs })).desk ≡ w.desk
    which true left = left
    which false left = refl

owed_filed_as : (f : Filing) (k now : ℕ) (w : Window) → IsKept w → (x y : ℕ) → owes (Some (filed_as f k now w)) x y ≡ owes (Some w) x y
owed_filed_as Late k now w kept x y = refl
owed_filed_as Foreign k now w kept x y = refl
owed_filed_as Filed k now w kept x y =
    owes_same (queue_ready now (with_result w.jobs k) w) w x y (ap (λ (g : Grid). g.wide) (desk_ready now (with_result w.jobs k) w)) (ap (λ (g : Grid). g.high) (desk_ready now (with_result w.jobs k) w))
    (λ within. owed_ready now (with_result w.jobs k) w (keeps_result k w kept) x y within ∙ (rw relieve-with_result refl))

owed_front : (lossy_shows : ℕ → ℕ) (packets : List Packet) (w : Window) (x y : ℕ) → w.packets ≡ packets → owes (Some (written_front lossy_shows packets w)) x y ≡ owed_without_front packets w x y
owed_front lossy_shows [] w x y is = refl
owed_front lossy_shows (p ∷ packets) w x y is = rw is (grind (arith, nat_tests))

owed_acknowledged_as : (o : Option Rectangle) (k : ℕ) (negative : Bool) (now : ℕ) (w : Window) (x y : ℕ) → owes (Some (acknowledged_as o k negative now w)) x y ≡ owed_acknowledged o negative w x y
owed_acknowledged_as None k negative now w x y = refl
owed_acknowledged_as (Some r) k true now w x y = owed_damaged r now (counted (without_sent w.unacknowledged k) w) x y
owed_acknowledged_as (Some r) k false now w x y = refl

owed_given_back : (now : ℕ) (w : Window) (x y : ℕ) → owes (Some (given_back now w)) x y ≡ owes (Some w) x y
owed_given_back now w x y = owes_same (given_back now w) w x y refl refl
    (λ within. rw (has-points_within w.desk.wide w.desk.high (λ x y. has w.pending x y || jobs_relieve w.jobs x y) x y within) (grind (arith, nat_tests)))

owed_unmapped : (now : ℕ) (w : Window) (x y : ℕ) → owes (Some (unmapped now w)) x y ≡ owes (Some w) x y
owed_unmapped now w x y = which w.mapped
  where
    which : (mapped : Bool) → owes (Some (cond mapped (record (given_back now w) { mapped = false }) w)) x y ≡ owes (Some w) x y
    which true = owed_given_back now w x y
    which false = refl

-- the waiting reliefs, cut
pub cut_relieve : (w h : ℕ) (kept : ℕ → ℕ → Bool) (packets : List Packet) (x y : ℕ) → is_within w h x y ≡ true → packets_relieve (map (with_relief w h kept) packets) x y ≡ (packets_relieve packets x y && kept x y)
cut_relieve w h kept [] x y within = refl
cut_relieve w h kept (NewWindow a b ∷ packets) x y within = cut_relieve w h kept packets x y within
cut_relieve w h kept (WindowResized a b ∷ packets) x y within = cut_relieve w h kept packets x y within
cut_relieve w h kept (Draws d ∷ packets) x y within =
    rw (has-points_within w h (λ x y. has d.relief x y && kept x y) x y within, cut_relieve w h kept packets x y within) (spread (has d.relief x y) (packets_relieve packets x y) (kept x y))
  where
    spread : (a b k : Bool) → ((a && k) || (b && k)) ≡ ((a || b) && k)
    spread a b k = grind (arith, nat_tests)

pub owed_resized : (w h now : ℕ) (old : Window) (x y : ℕ)
    → owes (Some (resized w h now old)) x y ≡ (is_within w h x y && (owes (Some old) x y || not (is_within old.desk.wide old.desk.high x y)))
owed_resized w h now old x y = at (cases_Bool (is_within w h x y))
  where
    both : ℕ → ℕ → Bool
    both = survives old.desk.wide old.desk.high w h

    all : (pending jobs packets lossy before : Bool)
        → (((not (before && true) || (pending || jobs)) || false) || (((packets && (before && true)) || false) || (lossy && (before && true))))
        ≡ ((before && ((pending || jobs) || (packets || lossy))) || not before)
    all pending jobs packets lossy before = grind (arith, nat_tests)

    at : (is_within w h x y ≡ true) ⊎ (is_within w h x y ≡ false)
        → owes (Some (resized w h now old)) x y ≡ (is_within w h x y && (owes (Some old) x y || not (is_within old.desk.wide old.desk.high x y)))
    at (inl within) = rw (
      packets_relieve-append,
      cut_relieve w h both old.packets x y within,
      has-points_within w h (λ x y. not (both x y) || (has old.pending x y || jobs_relieve old.jobs x y)) x y within,
      has-points_within w h (λ x y. has old.lossy x y && both x y) x y within,
      within,
    )
        (all (has old.pending x y) (jobs_relieve old.jobs x y) (packets_relieve old.packets x y) (has old.lossy x y) (is_within old.desk.wide old.desk.high x y))
    at (inr outside) = rw outside refl

owed_refreshed : (now : ℕ) (w : Window) (x y : ℕ) → owes (Some (damaged (whole w.desk.wide w.desk.high) now w)) x y ≡ is_within w.desk.wide w.desk.high x y
owed_refreshed now w x y = owed_damaged (whole w.desk.wide w.desk.high) now w x y ∙ grind (arith, nat_tests)

pub owed_changed : (lossy_shows : ℕ → ℕ) (e : Event) (w : Window) → IsEvent (Some w) e → IsKept w → (x y : ℕ) → owes (changed lossy_shows e w) x y ≡ owed_after e w x y
owed_changed lossy_shows (Start desk now) w event kept x y = refl
owed_changed lossy_shows (Paint r numbers now) w event kept x y = owed_damaged r now (record w { desk = painted r numbers w.desk }) x y
owed_changed lossy_shows (Capture plan first) w event kept x y = owed_captured plan first w event.planned x y
owed_changed lossy_shows (File k capture now) w event kept x y = owed_filed_as (filing_of (capture_of w.jobs k) capture) k now w kept x y
owed_changed lossy_shows (Write true) w event kept x y = owed_front lossy_shows w.packets w x y refl
owed_changed lossy_shows (Write false) w event kept x y = refl
owed_changed lossy_shows (Acknowledge k negative now) w event kept x y = owed_acknowledged_as (rect_sent w.unacknowledged k) k negative now w x y
owed_changed lossy_shows MapWindow w event kept x y = refl
owed_changed lossy_shows (UnmapWindow now) w event kept x y = owed_unmapped now w x y
owed_changed lossy_shows (Recall now) w event kept x y = owed_given_back now w x y
owed_changed lossy_shows (Resize wide high now) w event kept x y = owed_resized wide high now w x y
owed_changed lossy_shows (BufferRefresh now) w event kept x y = owed_refreshed now w x y
owed_changed lossy_shows Close w event kept x y = refl
