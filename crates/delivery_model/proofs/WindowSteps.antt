-- Each event but the filing of a result keeps the form.
use Rattle.std.proofs.Common.{◌≡◌, ◌⊎◌, inl, inr, ℕ, Bool, true, false, not, ◌&&◌, ◌||◌, List, [], ◌∷◌, ◌++◌, Option, Some, None, map, cond, refl, ap, ◌∙◌, arith}
use Rattle.std.specs.Prelude.{nat_eq, slice_index}
use Rattle.std.proofs.lemmas.Bool.{cases_Bool, and_parts, or_right, false≢true}
use Rattle.std.proofs.lemmas.Bool.Decides.{nat_tests}
use Rattle.std.proofs.lemmas.List.Elements.{All-nil, All-cons, All-tail, All-push, All-map, All-weaker}
use Rattle.xp_base.specs.declared.coding.Coding.{Coding}
use Rattle.xp_base.specs.declared.coding.Coding.TheVariants as C
use Rattle.xp_base.specs.Points.{Rectangle, is_in, is_within, survives}
use Rattle.xp_base.specs.Grid.{place_of}
use Rattle.delivery_model.specs.Grids.{has, Grid, number, shown_at, number_in}
use Rattle.delivery_model.specs.Window.{Packet, NewWindow, WindowResized, Draws, Sent, Window}
use Rattle.delivery_model.specs.Client.{shown, applied, size_of, size_after}
use Rattle.delivery_model.specs.Events.{jobs_relieve, started, damaged, painted, written_front, written, counted, acknowledged, acknowledged_as, rect_sent, without_sent, given_back, unmapped, with_relief, resized}
use Rattle.delivery_model.specs.Marks.{over}
use Rattle.delivery_model.specs.Point.{packet_at, packets_at, is_number, is_exact, shown_mark, PointKept}
use Rattle.delivery_model.specs.Kept.{PacketFits, IsKept}
use Rattle.delivery_model.proofs.Grids.{has-points, has-points_within, number-grid, shown-grid}
use Rattle.delivery_model.proofs.PointSteps.{kept_pending, kept_damaged, kept_cancelled, kept_survived, kept_written}
use Rattle.delivery_model.proofs.Lists.{sizes_after-append, packets_at-append, any-jobs, sizes-with_relief, packets-survived, fronts_none, none-lost}

pub keeps_started : (desk : Grid) (now : ℕ) → IsKept (started desk now)
keeps_started desk now = record {
  sized = refl;
  jobs = All-nil _;
  packets = All-cons (PacketFits desk.wide desk.high) (NewWindow desk.wide desk.high) [] (tt {0}) (All-nil (PacketFits desk.wide desk.high));
  pending = record { wide = refl; high = refl };
  lossy = record { wide = refl; high = refl };
  points = λ x y within. rw (has-points_within desk.wide desk.high (λ x y. true) x y within) (kept_pending (number desk x y) None _ [] _ tt);
}

-- damage: each point is pending now, or as it was
pub keeps_damaged : (r : Rectangle) (now : ℕ) (w : Window) → IsKept w → IsKept (damaged r now w)
keeps_damaged r now w kept = record {
  sized = kept.sized;
  jobs = kept.jobs;
  packets = kept.packets;
  pending = record { wide = refl; high = refl };
  lossy = kept.lossy;
  points = λ x y within. rw (has-points_within w.desk.wide w.desk.high (λ x y. has w.pending x y || is_in r x y) x y within)
      (kept_damaged _ _ _ _ _ (has w.pending x y) _ _ (which x y (cases_Bool (is_in r x y))) (kept.points x y within));
}
  where
    which : (x y : ℕ) → (is_in r x y ≡ true) ⊎ (is_in r x y ≡ false) → ((has w.pending x y || is_in r x y) ≡ true) ⊎ (((has w.pending x y || is_in r x y) ≡ has w.pending x y) × (number w.desk x y ≡ number w.desk x y))
    which x y (inl is) = inl (or_right (has w.pending x y) (is_in r x y) is)
    which x y (inr isnt) = inr (grind (arith, nat_tests), refl)

pub keeps_painted : (r : Rectangle) (numbers : List ℕ) (now : ℕ) (w : Window) → IsKept w → IsKept (damaged r now (record w { desk = painted r numbers w.desk }))
keeps_painted r numbers now w kept = record {
  sized = kept.sized;
  jobs = kept.jobs;
  packets = kept.packets;
  pending = record { wide = refl; high = refl };
  lossy = kept.lossy;
  points = λ x y within. rw (has-points_within w.desk.wide w.desk.high (λ x y. has w.pending x y || is_in r x y) x y within)
      (kept_damaged (number w.desk x y) _ _ _ _ (has w.pending x y) _ _ (which x y within (cases_Bool (is_in r x y))) (kept.points x y within));
}
  where
    which : (x y : ℕ) → is_within w.desk.wide w.desk.high x y ≡ true → (is_in r x y ≡ true) ⊎ (is_in r x y ≡ false)
        → ((has w.pending x y || is_in r x y) ≡ true) ⊎ (((has w.pending x y || is_in r x y) ≡ has w.pending x y) × (number (painted r numbers w.desk) x y ≡ number w.desk x y))
    which x y within (inl is) = inl (or_right (has w.pending x y) (is_in r x y) is)
    which x y within (inr isnt) = inr (
      grind (arith, nat_tests),
      number-grid w.desk.wide w.desk.high (λ x y. cond (is_in r x y) (slice_index numbers (place_of w.desk.wide x y)) (number w.desk x y)) x y within
          ∙ ap (λ (b : Bool). cond b (slice_index numbers (place_of w.desk.wide x y)) (number w.desk x y)) isnt,
    )

-- the client's size after a packet
size-applied : (lossy_shows : ℕ → ℕ) (client : Option Grid) (p : Packet) → size_of (applied lossy_shows client p) ≡ size_after (size_of client) p
size-applied lossy_shows None (NewWindow w h) = refl
size-applied lossy_shows None (WindowResized w h) = refl
size-applied lossy_shows None (Draws d) = refl
size-applied lossy_shows (Some g) (NewWindow w h) = refl
size-applied lossy_shows (Some g) (WindowResized w h) = refl
size-applied lossy_shows (Some g) (Draws d) = refl

-- what a packet leaves at a point is what the client then shows there
applied_right : (lossy_shows : ℕ → ℕ) (n : ℕ) (client : Option Grid) (p : Packet) (x y : ℕ)
    → over (shown_mark n (packet_at (size_of client) p x y)).leaves (is_number n (shown_at client x y)) ≡ true → is_number n (shown_at (applied lossy_shows client p) x y) ≡ true
applied_right lossy_shows n None (NewWindow w h) x y right = rw (shown-grid w h (λ x y. 0) x y) right
applied_right lossy_shows n (Some g) (NewWindow w h) x y right = absurd (false≢true right)
applied_right lossy_shows n None (WindowResized w h) x y right = absurd (false≢true right)
applied_right lossy_shows n (Some g) (WindowResized w h) x y right =
    rw (shown-grid w h (λ x y. cond (survives g.wide g.high w h x y) (number g x y) 0) x y) (which (cases_Bool (survives g.wide g.high w h x y)) right)
  where
    which : (survives g.wide g.high w h x y ≡ true) ⊎ (survives g.wide g.high w h x y ≡ false)
        → over (shown_mark n (packet_at (Some (record { wide = g.wide; high = g.high })) (WindowResized w h) x y)).leaves (is_number n (shown_at (Some g) x y)) ≡ true
        → is_number n (cond (is_within w h x y) (Some (cond (survives g.wide g.high w h x y) (number g x y) 0)) None) ≡ true
    which (inl is) right =
        let before : is_within g.wide g.high x y ≡ true = (and_parts _ _ is).0 in
        let after : is_within w h x y ≡ true = (and_parts (is_within g.wide g.high x y) (is_within w h x y) is).1 in
        rw (before, after) (rw (before, after) at right)
    which (inr isnt) right = rw isnt (rw isnt at right)
applied_right lossy_shows n None (Draws d) x y right = which (cases_Bool (is_in d.capture.rect x y)) right
  where
    which : (is_in d.capture.rect x y ≡ true) ⊎ (is_in d.capture.rect x y ≡ false) → over (shown_mark n (packet_at None (Draws d) x y)).leaves false ≡ true → false ≡ true
    which (inl is) right = rw is at right
    which (inr isnt) right = rw isnt at right
applied_right lossy_shows n (Some g) (Draws d) x y right =
    rw (shown-grid g.wide g.high (λ x y. cond (is_in d.capture.rect x y) (shown lossy_shows d.capture.coding (number_in d.capture.rect d.capture.pixels x y)) (number g x y)) x y) (which (cases_Bool (is_in d.capture.rect x y)) right)
  where
    which : (is_in d.capture.rect x y ≡ true) ⊎ (is_in d.capture.rect x y ≡ false)
        → over (shown_mark n (packet_at (Some (record { wide = g.wide; high = g.high })) (Draws d) x y)).leaves (is_number n (shown_at (Some g) x y)) ≡ true
        → is_number n (cond (is_within g.wide g.high x y) (Some (cond (is_in d.capture.rect x y) (shown lossy_shows d.capture.coding (number_in d.capture.rect d.capture.pixels x y)) (number g x y))) None) ≡ true
    which (inl is) right =
        let all : (is_within g.wide g.high x y && (is_exact d.capture.coding && nat_eq (number_in d.capture.rect d.capture.pixels x y) n)) ≡ true = rw is at right in
        let within : is_within g.wide g.high x y ≡ true = (and_parts _ _ all).0 in
        rw (is, within) (coded d.capture.coding (and_parts _ _ (and_parts _ _ all).1))
      where
        coded : (coding : Coding) → (is_exact coding ≡ true) × (nat_eq (number_in d.capture.rect d.capture.pixels x y) n ≡ true)
            → nat_eq (shown lossy_shows coding (number_in d.capture.rect d.capture.pixels x y)) n ≡ true
        coded C.Exact right = right.1
        coded C.Lossy right = absurd (false≢true right.0)
    which (inr isnt) right = rw isnt (rw isnt at right)

keeps_front : (lossy_shows : ℕ → ℕ) (packets : List Packet) (w : Window) → w.packets ≡ packets → IsKept w → IsKept (written_front lossy_shows packets w)
keeps_front lossy_shows [] w is kept = kept
keeps_front lossy_shows (p ∷ packets) w is kept = record {
  sized = rw size-applied (rw is at kept.sized);
  jobs = kept.jobs;
  packets = All-tail (PacketFits w.desk.wide w.desk.high) p packets (rw is at kept.packets);
  pending = kept.pending;
  lossy = kept.lossy;
  points = λ x y within. rw size-applied (kept_written (number w.desk x y) (shown_at w.client x y) _ (packet_at (size_of w.client) p x y) _ _ _ _
      (applied_right lossy_shows (number w.desk x y) w.client p x y) (rw is at (kept.points x y within)));
}

pub keeps_written : (lossy_shows : ℕ → ℕ) (wholly : Bool) (w : Window) → IsKept w → IsKept (written lossy_shows wholly w)
keeps_written lossy_shows true w kept = keeps_front lossy_shows w.packets w refl kept
keeps_written lossy_shows false w kept = kept

keeps_counted : (left : List Sent) (w : Window) → IsKept w → IsKept (counted left w)
keeps_counted left w kept = record { sized = kept.sized; jobs = kept.jobs; packets = kept.packets; pending = kept.pending; lossy = kept.lossy; points = kept.points }

keeps_acknowledged_as : (o : Option Rectangle) (k : ℕ) (negative : Bool) (now : ℕ) (w : Window) → IsKept w → IsKept (acknowledged_as o k negative now w)
keeps_acknowledged_as None k negative now w kept = kept
keeps_acknowledged_as (Some r) k true now w kept = keeps_damaged r now (counted (without_sent w.unacknowledged k) w) (keeps_counted (without_sent w.unacknowledged k) w kept)
keeps_acknowledged_as (Some r) k false now w kept = keeps_counted (without_sent w.unacknowledged k) w kept

pub keeps_acknowledged : (k : ℕ) (negative : Bool) (now : ℕ) (w : Window) → IsKept w → IsKept (acknowledged k negative now w)
keeps_acknowledged k negative now w kept = keeps_acknowledged_as (rect_sent w.unacknowledged k) k negative now w kept

pub keeps_marked : (mapped : Bool) (w : Window) → IsKept w → IsKept (record w { mapped = mapped })
keeps_marked mapped w kept = record { sized = kept.sized; jobs = kept.jobs; packets = kept.packets; pending = kept.pending; lossy = kept.lossy; points = kept.points }

pub keeps_given_back : (now : ℕ) (w : Window) → IsKept w → IsKept (given_back now w)
keeps_given_back now w kept = record {
  sized = kept.sized;
  jobs = All-nil _;
  packets = kept.packets;
  pending = record { wide = refl; high = refl };
  lossy = kept.lossy;
  points = λ x y within. rw (has-points_within w.desk.wide w.desk.high (λ x y. has w.pending x y || jobs_relieve w.jobs x y) x y within, ← any-jobs (number w.desk x y) w.jobs x y)
      (kept_cancelled _ _ _ _ _ _ (kept.points x y within));
}

pub keeps_unmapped : (now : ℕ) (w : Window) → IsKept w → IsKept (unmapped now w)
keeps_unmapped now w kept = which w.mapped
  where
    which : (mapped : Bool) → IsKept (cond mapped (record (given_back now w) { mapped = false }) w)
    which true = keeps_marked false (given_back now w) (keeps_given_back now w kept)
    which false = kept

-- a waiting draw whose relief was cut to what survives
fits_cut : (wide high w h : ℕ) (kept : ℕ → ℕ → Bool) (p : Packet) → PacketFits wide high p → PacketFits w h (with_relief w h kept p)
fits_cut wide high w h kept (NewWindow a b) fits = tt
fits_cut wide high w h kept (WindowResized a b) fits = tt
fits_cut wide high w h kept (Draws d) fits = record {
  over = record { wide = refl; high = refl };
  inside = λ x y there. fits.inside x y (and_parts _ _ (and_parts _ _ (rw (has-points w h (λ x y. has d.relief x y && kept x y) x y) at there)).1).0;
}

and_all : (b : Bool) → (b && true) ≡ b
and_all true = refl
and_all false = refl

pub keeps_resized : (w h now : ℕ) (old : Window) → IsKept old → IsKept (resized w h now old)
keeps_resized w h now old kept = record {
  sized = rw sizes_after-append (rw sizes-with_relief (rw kept.sized refl));
  jobs = All-nil _;
  packets = All-push (PacketFits w h) (map (with_relief w h both) old.packets) (WindowResized w h) (All-map (PacketFits w h) (with_relief w h both) old.packets
      (All-weaker (PacketFits old.desk.wide old.desk.high) (λ p. PacketFits w h (with_relief w h both p)) (fits_cut old.desk.wide old.desk.high w h both) old.packets kept.packets)) (tt {0});
  pending = record { wide = refl; high = refl };
  lossy = record { wide = refl; high = refl };
  points = λ x y within. rw (
    has-points_within w h (λ x y. not (both x y) || (has old.pending x y || jobs_relieve old.jobs x y)) x y within,
    has-points_within w h (λ x y. has old.lossy x y && both x y) x y within,
    number-grid w h (λ x y. cond (is_within old.desk.wide old.desk.high x y) (number old.desk x y) 0) x y within,
  )
      (at x y within (cases_Bool (both x y)));
}
  where
    both : ℕ → ℕ → Bool
    both = survives old.desk.wide old.desk.high w h

    at : (x y : ℕ) → is_within w h x y ≡ true → (both x y ≡ true) ⊎ (both x y ≡ false) → PointKept (record {
      number = cond (is_within old.desk.wide old.desk.high x y) (number old.desk x y) 0;
      shows = shown_at old.client x y;
      waiting = packets_at (size_of old.client) (map (with_relief w h both) old.packets ++ WindowResized w h ∷ []) x y;
      jobs = [];
      pending = not (both x y) || (has old.pending x y || jobs_relieve old.jobs x y);
      lossy = has old.lossy x y && both x y;
    })
    at x y within (inr lost) = rw lost (kept_pending _ _ _ [] _ (fronts_none (packets_at (size_of old.client) (map (with_relief w h both) old.packets ++ WindowResized w h ∷ []) x y) (none-lost w h both (size_of old.client) old.packets x y lost)))
    at x y within (inl is) =
        let inside : is_within old.desk.wide old.desk.high x y ≡ true = (and_parts _ _ is).0 in
        rw (packets_at-append, packets-survived w h both (size_of old.client) old.packets x y within is, sizes-with_relief, kept.sized) (rw (is, inside, and_all, ← any-jobs (number old.desk x y) old.jobs x y)
        (kept_survived (number old.desk x y) (shown_at old.client x y) (packets_at (size_of old.client) old.packets x y) _ (has old.lossy x y) (kept_cancelled _ _ _ _ _ _ (kept.points x y inside))))
