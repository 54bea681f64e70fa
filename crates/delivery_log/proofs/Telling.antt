-- What the tests of the situations tell: each part of the agreement, and the numbering.
use Rattle.std.proofs.Common.{◌≡◌, ◌⊎◌, inl, inr, ℕ, ◌+◌, Bool, true, false, not, ◌&&◌, ◌||◌, List, [], ◌∷◌, ◌++◌, map, length, refl, sym, ap, ◌∙◌, arith}
use Rattle.std.specs.Prelude.{All, nat_eq, nat_le}
use Rattle.std.specs.List.{list_any}
use Rattle.std.proofs.lemmas.Bool.{cases_Bool, and_parts, not-true, eqb-true, leb-true, false≢true}
use Rattle.std.proofs.lemmas.List.Elements.{All-nil, All-cons}
use Rattle.xp_base.specs.declared.coding.Coding.{Coding}
use Rattle.xp_base.specs.declared.coding.Coding.TheVariants as C
use Rattle.xp_base.specs.Points.{Rectangle}
use Rattle.delivery_model.specs.Window.{Job, Draw, Sent, Window}
use Rattle.delivery_model.specs.Events.{same_coding, same_rectangle}
use Rattle.delivery_model.specs.Invariant.{draws_of}
use Rattle.delivery_model.specs.Numbers.{Rise, IsNumbered}
use Rattle.delivery_log.specs.Log.{Entry}
use Rattle.delivery_log.specs.Stale.{is_capture, queued_draws, written_draws}
use Rattle.delivery_log.specs.Traces.{Trace, Hand, Seen, PointAgrees, FirstRelieves, NoneLossyBehind, NoneRelievesBehind, NoneBeforeBehind, any_repair, any_lossy, any_trace_relieves, any_hand_relieves, any_before, any_after_relieves, any_after_covers, is_repaired}
use Rattle.delivery_log.specs.Agreement.{Recorded, recorded, captured_jobs, queued_jobs, JobsAgree, DrawsAgree}
use Rattle.delivery_log.proofs.Situations.{rises, same_bool, same_numbers, same_records, ends_with, all_captured, jobs_agree, draws_agree, queued_there, first_relieves, none_lossy_behind, none_relieves_behind, none_before_behind, hand_there, is_numbered}

rises_tell : (low next : ℕ) (ks : List ℕ) → rises low next ks ≡ true → Rise low next ks
rises_tell low next [] is = leb-true low next is
rises_tell low next (k ∷ ks) is =
    let parts = and_parts (nat_le low k) (rises (k + 1) next ks) is in
    (leb-true low k parts.0, rises_tell (k + 1) next ks parts.1)

same_tell : (a b : Bool) → same_bool a b ≡ true → a ≡ b
same_tell true b is = sym is
same_tell false b is = sym (not-true b is)

-- two tests of which not both are true
not_both : (a b : Bool) → not (a && b) ≡ true → a ≡ true → b ≡ false
not_both a b none is = sym (ap (λ (c : Bool). c && b) is) ∙ not-true (a && b) none

-- the numbering
pub numbered_tells : (next : ℕ) (w : Window) → is_numbered next w ≡ true → IsNumbered next w
numbered_tells next w is = record {
  jobs = rises_tell 0 next job_numbers first.0;
  waiting = rises_tell 0 w.next_sequence waiting_numbers first.1;
  unacknowledged = rises_tell 0 w.next_sequence sent_numbers second.0;
  room = leb-true (w.next_sequence + length w.jobs) next second.1;
}
  where
    job_numbers : List ℕ
    job_numbers = map (λ (j : Job). j.number) w.jobs

    waiting_numbers : List ℕ
    waiting_numbers = map (λ (d : Draw). d.sequence) (draws_of w.packets)

    sent_numbers : List ℕ
    sent_numbers = map (λ (s : Sent). s.sequence) w.unacknowledged

    both : ((rises 0 next job_numbers && rises 0 w.next_sequence waiting_numbers) ≡ true) × ((rises 0 w.next_sequence sent_numbers && nat_le (w.next_sequence + length w.jobs) next) ≡ true)
    both = and_parts (rises 0 next job_numbers && rises 0 w.next_sequence waiting_numbers) (rises 0 w.next_sequence sent_numbers && nat_le (w.next_sequence + length w.jobs) next) is

    first : (rises 0 next job_numbers ≡ true) × (rises 0 w.next_sequence waiting_numbers ≡ true)
    first = and_parts (rises 0 next job_numbers) (rises 0 w.next_sequence waiting_numbers) both.0

    second : (rises 0 w.next_sequence sent_numbers ≡ true) × (nat_le (w.next_sequence + length w.jobs) next ≡ true)
    second = and_parts (rises 0 w.next_sequence sent_numbers) (nat_le (w.next_sequence + length w.jobs) next) both.1

-- part 2
numbers_tell : (ks js : List ℕ) → same_numbers ks js ≡ true → ks ≡ js
numbers_tell [] [] is = refl
numbers_tell [] (j ∷ js) is = absurd (false≢true is)
numbers_tell (k ∷ ks) [] is = absurd (false≢true is)
numbers_tell (k ∷ ks) (j ∷ js) is =
    let parts = and_parts (nat_eq k j) (same_numbers ks js) is in
    rw (eqb-true k j parts.0, numbers_tell ks js parts.1) refl

pub draws_tell : (log : List Entry) (w : Window) → draws_agree log w ≡ true → DrawsAgree log w
draws_tell log w is =
    let parts = and_parts (same_numbers (queued_draws log) (written_draws log ++ map (λ (d : Draw). d.sequence) (draws_of w.packets))) (rises 0 w.next_sequence (queued_draws log)) is in
    record {
      waiting = numbers_tell (queued_draws log) (written_draws log ++ map (λ (d : Draw). d.sequence) (draws_of w.packets)) parts.0;
      sequences = rises_tell 0 w.next_sequence (queued_draws log) parts.1;
    }

-- part 1
codings_tell : (a b : Coding) → same_coding a b ≡ true → a ≡ b
codings_tell C.Exact C.Exact is = refl
codings_tell C.Exact C.Lossy is = absurd (false≢true is)
codings_tell C.Lossy C.Exact is = absurd (false≢true is)
codings_tell C.Lossy C.Lossy is = refl

rectangles_tell : (r s : Rectangle) → same_rectangle r s ≡ true → r ≡ s
rectangles_tell r s is =
    let both = and_parts (nat_eq r.x s.x && nat_eq r.y s.y) (nat_eq r.w s.w && nat_eq r.h s.h) is in
    let places = and_parts (nat_eq r.x s.x) (nat_eq r.y s.y) both.0 in
    let sizes = and_parts (nat_eq r.w s.w) (nat_eq r.h s.h) both.1 in
    made r.x r.y r.w r.h s.x s.y s.w s.h (eqb-true r.x s.x places.0) (eqb-true r.y s.y places.1) (eqb-true r.w s.w sizes.0) (eqb-true r.h s.h sizes.1)
  where
    made : (a b c d e f g h : ℕ) → a ≡ e → b ≡ f → c ≡ g → d ≡ h → ◌≡◌ {A = Rectangle} (record { x = a; y = b; w = c; h = d }) (record { x = e; y = f; w = g; h = h })
    made a b c d e f g h across down wide high = rw (across, down, wide, high) refl

one_tells : (c d : Recorded) → (nat_eq c.number d.number && (same_rectangle c.rect d.rect && same_coding c.coding d.coding)) ≡ true → c ≡ d
one_tells c d is =
    let parts = and_parts (nat_eq c.number d.number) (same_rectangle c.rect d.rect && same_coding c.coding d.coding) is in
    let rest = and_parts (same_rectangle c.rect d.rect) (same_coding c.coding d.coding) parts.1 in
    made c.number d.number c.rect d.rect c.coding d.coding (eqb-true c.number d.number parts.0) (rectangles_tell c.rect d.rect rest.0) (codings_tell c.coding d.coding rest.1)
  where
    made : (k j : ℕ) (r s : Rectangle) (a b : Coding) → k ≡ j → r ≡ s → a ≡ b → ◌≡◌ {A = Recorded} (record { number = k; rect = r; coding = a }) (record { number = j; rect = s; coding = b })
    made k j r s a b number rect coding = rw (number, rect, coding) refl

records_tell : (cs ds : List Recorded) → same_records cs ds ≡ true → cs ≡ ds
records_tell [] [] is = refl
records_tell [] (d ∷ ds) is = absurd (false≢true is)
records_tell (c ∷ cs) [] is = absurd (false≢true is)
records_tell (c ∷ cs) (d ∷ ds) is =
    let parts = and_parts (nat_eq c.number d.number && (same_rectangle c.rect d.rect && same_coding c.coding d.coding)) (same_records cs ds) is in
    rw (one_tells c d parts.0, records_tell cs ds parts.1) refl

abbrev EndsWith : List Recorded → List Recorded → Type 0
EndsWith cs ds = (front : List Recorded) × (cs ≡ front ++ ds)

ends_tell : (cs ds : List Recorded) → ends_with cs ds ≡ true → EndsWith cs ds
ends_tell [] ds is = ([], records_tell [] ds is)
ends_tell (c ∷ cs) ds is = which (cases_Bool (same_records (c ∷ cs) ds)) (ends_tell cs ds)
  where
    which : (same_records (c ∷ cs) ds ≡ true) ⊎ (same_records (c ∷ cs) ds ≡ false) → (ends_with cs ds ≡ true → EndsWith cs ds) → EndsWith (c ∷ cs) ds
    which (inl all) later = ([], records_tell (c ∷ cs) ds all)
    which (inr other) later =
        let rest = later (sym (ap (λ (b : Bool). b || ends_with cs ds) other) ∙ is) in
        (c ∷ rest.0, ap (λ (es : List Recorded). c ∷ es) rest.1)

all_tell : (log : List Entry) (ks : List ℕ) → all_captured log ks ≡ true → All (λ (k : ℕ). list_any (is_capture k) log ≡ true) ks
all_tell log [] is = All-nil (λ (k : ℕ). list_any (is_capture k) log ≡ true)
all_tell log (k ∷ ks) is =
    let parts = and_parts (list_any (is_capture k) log) (all_captured log ks) is in
    All-cons (λ (k : ℕ). list_any (is_capture k) log ≡ true) k ks parts.0 (all_tell log ks parts.1)

abbrev SplitAt : ℕ → ℕ → List ℕ → List ℕ → Type 0
SplitAt low next ks js = (middle : ℕ) × (Rise low middle ks × Rise middle next js)

split_rise : (low next : ℕ) (ks js : List ℕ) → Rise low next (ks ++ js) → SplitAt low next ks js
split_rise low next [] js rises = (low, (omega arith, rises))
split_rise low next (k ∷ ks) js rises = let rest = split_rise (k + 1) next ks js rises.1 in (rest.0, ((rises.0, rest.1.0), rest.1.1))

pub jobs_tell : (next : ℕ) (log : List Entry) (w : Window) → jobs_agree next log w ≡ true → JobsAgree next log w
jobs_tell next log w is = record {
  captured = rises_tell 0 next numbers first.0;
  before = ends.0;
  in_hand = ends.1;
  low = halves.0;
  queued = halves.1.0;
  unqueued = halves.1.1;
  were_captured = all_tell log (queued_jobs log) second.1;
}
  where
    numbers : List ℕ
    numbers = map (λ (c : Recorded). c.number) (captured_jobs log)

    hand : List ℕ
    hand = map (λ (j : Job). j.number) w.jobs

    both : ((rises 0 next numbers && ends_with (captured_jobs log) (map recorded w.jobs)) ≡ true) × ((rises 0 next (queued_jobs log ++ hand) && all_captured log (queued_jobs log)) ≡ true)
    both = and_parts (rises 0 next numbers && ends_with (captured_jobs log) (map recorded w.jobs)) (rises 0 next (queued_jobs log ++ hand) && all_captured log (queued_jobs log)) is

    first : (rises 0 next numbers ≡ true) × (ends_with (captured_jobs log) (map recorded w.jobs) ≡ true)
    first = and_parts (rises 0 next numbers) (ends_with (captured_jobs log) (map recorded w.jobs)) both.0

    second : (rises 0 next (queued_jobs log ++ hand) ≡ true) × (all_captured log (queued_jobs log) ≡ true)
    second = and_parts (rises 0 next (queued_jobs log ++ hand)) (all_captured log (queued_jobs log)) both.1

    ends : EndsWith (captured_jobs log) (map recorded w.jobs)
    ends = ends_tell (captured_jobs log) (map recorded w.jobs) first.1

    halves : SplitAt 0 next (queued_jobs log) hand
    halves = split_rise 0 next (queued_jobs log) hand (rises_tell 0 next (queued_jobs log ++ hand) second.0)

-- parts 3 to 6 at a point
first_tells : (b : Bool) (ts : List Trace) → first_relieves b ts ≡ true → FirstRelieves b ts
first_tells true ts is = not-true (any_trace_relieves ts) is
first_tells false [] is = tt
first_tells false (t ∷ ts) is = which (cases_Bool t.repair) (first_tells false ts)
  where
    which : (t.repair ≡ true) ⊎ (t.repair ≡ false) → (first_relieves false ts ≡ true → FirstRelieves false ts) → FirstRelieves false (t ∷ ts)
    which (inl repair) later =
        let parts = and_parts t.relieves (not (any_trace_relieves ts)) (rw repair at is) in
        ((λ here. (parts.0, not-true (any_trace_relieves ts) parts.1)), λ isnt. absurd (false≢true (sym isnt ∙ repair)))
    which (inr isnt) later = ((λ repair. absurd (false≢true (sym isnt ∙ repair))), λ here. later (rw isnt at is))

last_tells : (ts : List Trace) → none_lossy_behind ts ≡ true → NoneLossyBehind ts
last_tells [] is = tt
last_tells (t ∷ ts) is =
    let parts = and_parts (not (t.repair && any_lossy ts)) (none_lossy_behind ts) is in
    (not_both t.repair (any_lossy ts) parts.0, last_tells ts parts.1)

behind_tells : (hs : List Hand) → none_relieves_behind hs ≡ true → NoneRelievesBehind hs
behind_tells [] is = tt
behind_tells (h ∷ hs) is =
    let parts = and_parts (not ((h.after && h.covers) && any_hand_relieves hs)) (none_relieves_behind hs) is in
    (not_both (h.after && h.covers) (any_hand_relieves hs) parts.0, behind_tells hs parts.1)

order_tells : (hs : List Hand) → none_before_behind hs ≡ true → NoneBeforeBehind hs
order_tells [] is = tt
order_tells (h ∷ hs) is =
    let parts = and_parts (not (h.after && any_before hs)) (none_before_behind hs) is in
    (not_both h.after (any_before hs) parts.0, order_tells hs parts.1)

pub point_tells : (p : Seen) → queued_there p ≡ true → first_relieves (any_repair p.written) p.waiting ≡ true → none_lossy_behind (p.written ++ p.waiting) ≡ true → hand_there p ≡ true → PointAgrees p
point_tells p queued first last hand = record {
  queued = same_tell (is_repaired (p.written ++ p.waiting)) (not ((p.pending || any_hand_relieves p.hand) || p.lossy)) queued;
  first = first_tells (any_repair p.written) p.waiting first;
  last = last_tells (p.written ++ p.waiting) last;
  before = λ is. sym (ap (λ (b : Bool). not b || (p.pending || any_after_relieves p.hand)) is) ∙ front.0;
  pending = not_both p.pending (any_after_covers p.hand) front.1;
  behind = behind_tells p.hand back.0;
  order = order_tells p.hand back.1;
}
  where
    both : (((not (any_before p.hand) || (p.pending || any_after_relieves p.hand)) && not (p.pending && any_after_covers p.hand)) ≡ true) × ((none_relieves_behind p.hand && none_before_behind p.hand) ≡ true)
    both = and_parts ((not (any_before p.hand) || (p.pending || any_after_relieves p.hand)) && not (p.pending && any_after_covers p.hand)) (none_relieves_behind p.hand && none_before_behind p.hand) hand

    front : ((not (any_before p.hand) || (p.pending || any_after_relieves p.hand)) ≡ true) × (not (p.pending && any_after_covers p.hand) ≡ true)
    front = and_parts (not (any_before p.hand) || (p.pending || any_after_relieves p.hand)) (not (p.pending && any_after_covers p.hand)) both.0

    back : (none_relieves_behind p.hand ≡ true) × (none_before_behind p.hand ≡ true)
    back = and_parts (none_relieves_behind p.hand) (none_before_behind p.hand) both.1
