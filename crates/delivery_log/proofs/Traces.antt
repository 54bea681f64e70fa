-- Each event keeps the agreement at one point, and the agreement says that a point is owed exactly where it is stale.
use Rattle.std.proofs.Common.{◌≡◌, ◌⊎◌, inl, inr, append_assoc, Bool, true, false, not, ◌&&◌, ◌||◌, List, [], ◌∷◌, ◌++◌, refl, sym, ap, ◌∙◌, subst, arith}
use Rattle.std.proofs.lemmas.Bool.{cases_Bool, or_parts, or_cases, and_parts, not-true, false≢true, false_from_ne_true}
use Rattle.std.proofs.lemmas.Bool.Decides.{nat_tests}
use Rattle.delivery_log.specs.Traces.{Trace, Hand, Seen, any_repair, any_lossy, any_trace_relieves, is_repaired, any_hand_relieves, any_before, any_after_relieves, any_after_covers, FirstRelieves, NoneLossyBehind, NoneRelievesBehind, NoneBeforeBehind, PointAgrees}

-- lists of draws
repairs-append : (ts us : List Trace) → any_repair (ts ++ us) ≡ (any_repair ts || any_repair us)
repairs-append [] us = refl
repairs-append (t ∷ ts) us = grind (arith, nat_tests, repairs-append ts us)

lossy-append : (ts us : List Trace) → any_lossy (ts ++ us) ≡ (any_lossy ts || any_lossy us)
lossy-append [] us = refl
lossy-append (t ∷ ts) us = grind (arith, nat_tests, lossy-append ts us)

reliefs-append : (ts us : List Trace) → any_trace_relieves (ts ++ us) ≡ (any_trace_relieves ts || any_trace_relieves us)
reliefs-append [] us = refl
reliefs-append (t ∷ ts) us = grind (arith, nat_tests, reliefs-append ts us)

-- where no lossy draw stands behind a repair, repaired is to have one
repaired_any : (ts : List Trace) → NoneLossyBehind ts → is_repaired ts ≡ any_repair ts
repaired_any [] none = refl
repaired_any (t ∷ ts) none = which (cases_Bool t.repair) (repaired_any ts none.1)
  where
    which : (t.repair ≡ true) ⊎ (t.repair ≡ false) → is_repaired ts ≡ any_repair ts → is_repaired (t ∷ ts) ≡ any_repair (t ∷ ts)
    which (inl is) rest = rw (is, none.0 is) refl
    which (inr isnt) rest = rw (isnt, rest) refl

not_repaired : (ts : List Trace) → any_repair ts ≡ false → is_repaired ts ≡ false
not_repaired [] none = refl
not_repaired (t ∷ ts) none = let parts = or_parts t.repair (any_repair ts) none in rw (parts.0, not_repaired ts parts.1) refl

first_none : (ts : List Trace) → any_repair ts ≡ false → FirstRelieves false ts
first_none [] none = tt
first_none (t ∷ ts) none = let parts = or_parts t.repair (any_repair ts) none in ((λ is. absurd (false≢true (sym parts.0 ∙ is))), (λ isnt. first_none ts parts.1))

last_none : (ts : List Trace) → any_repair ts ≡ false → NoneLossyBehind ts
last_none [] none = tt
last_none (t ∷ ts) none = let parts = or_parts t.repair (any_repair ts) none in ((λ is. absurd (false≢true (sym parts.0 ∙ is))), last_none ts parts.1)

last_front : (ts us : List Trace) → NoneLossyBehind (ts ++ us) → NoneLossyBehind ts
last_front [] us none = tt
last_front (t ∷ ts) us none = ((λ is. (or_parts (any_lossy ts) (any_lossy us) (sym (lossy-append ts us) ∙ none.0 is)).0), last_front ts us none.1)

last_append : (ts : List Trace) (t : Trace) → NoneLossyBehind ts → (any_repair ts ≡ true → t.lossy ≡ false) → NoneLossyBehind (ts ++ t ∷ [])
last_append [] t none free = ((λ is. refl), tt)
last_append (u ∷ ts) t none free = ((λ is. behind is), last_append ts t none.1 (λ is. free (later is)))
  where
    later : any_repair ts ≡ true → (u.repair || any_repair ts) ≡ true
    later is = grind (arith, nat_tests)

    behind : u.repair ≡ true → any_lossy (ts ++ t ∷ []) ≡ false
    behind is = grind (arith, nat_tests, lossy-append ts (t ∷ []), none.0 is, free (grind (arith, nat_tests)))

first_some : (ts : List Trace) → FirstRelieves false ts → any_repair ts ≡ true → any_trace_relieves ts ≡ true
first_some [] first some = absurd (false≢true some)
first_some (t ∷ ts) first some = which (cases_Bool t.repair) (λ isnt is. first_some ts (first.1 isnt) is)
  where
    which : (t.repair ≡ true) ⊎ (t.repair ≡ false) → (t.repair ≡ false → any_repair ts ≡ true → any_trace_relieves ts ≡ true) → any_trace_relieves (t ∷ ts) ≡ true
    which (inl is) rest = grind (arith, nat_tests, (first.0 is).0)
    which (inr isnt) rest = grind (arith, nat_tests, rest isnt (grind (arith, nat_tests)))

first_append : (ts : List Trace) (t : Trace) → FirstRelieves false ts → (any_repair ts ≡ true → t.relieves ≡ false) → (any_repair ts ≡ false → t.repair ≡ true → t.relieves ≡ true) → FirstRelieves false (ts ++ t ∷ [])
first_append [] t first free owed = ((λ is. (owed refl is, refl)), (λ isnt. tt))
first_append (u ∷ ts) t first free owed = ((λ is. ((first.0 is).0, none is)), (λ isnt. first_append ts t (first.1 isnt) (λ is. free (later isnt is)) (λ none is. owed (never isnt none) is)))
  where
    none : u.repair ≡ true → any_trace_relieves (ts ++ t ∷ []) ≡ false
    none is = grind (arith, nat_tests, reliefs-append ts (t ∷ []), (first.0 is).1, free (grind (arith, nat_tests)))

    later : u.repair ≡ false → any_repair ts ≡ true → (u.repair || any_repair ts) ≡ true
    later isnt is = grind (arith, nat_tests)

    never : u.repair ≡ false → any_repair ts ≡ false → (u.repair || any_repair ts) ≡ false
    never isnt none = grind (arith, nat_tests)

-- what a draw relieves plays no part in what it repairs
repaired_moved : (ts : List Trace) (t u : Trace) (us : List Trace) → u.repair ≡ t.repair → u.lossy ≡ t.lossy → is_repaired ((ts ++ u ∷ []) ++ us) ≡ is_repaired (ts ++ t ∷ us)
repaired_moved [] t u us repair lossy = rw repair refl
repaired_moved (v ∷ ts) t u us repair lossy = rw (lossy_moved ts, repaired_moved ts t u us repair lossy) refl
  where
    lossy_moved : (vs : List Trace) → any_lossy ((vs ++ u ∷ []) ++ us) ≡ any_lossy (vs ++ t ∷ us)
    lossy_moved [] = rw lossy refl
    lossy_moved (w ∷ vs) = ap (λ (b : Bool). w.lossy || b) (lossy_moved vs)

last_moved : (ts : List Trace) (t u : Trace) (us : List Trace) → u.repair ≡ t.repair → u.lossy ≡ t.lossy → NoneLossyBehind (ts ++ t ∷ us) → NoneLossyBehind ((ts ++ u ∷ []) ++ us)
last_moved [] t u us repair lossy none = ((λ is. none.0 (sym repair ∙ is)), none.1)
last_moved (v ∷ ts) t u us repair lossy none = ((λ is. lossy_moved ts ∙ none.0 is), last_moved ts t u us repair lossy none.1)
  where
    lossy_moved : (vs : List Trace) → any_lossy ((vs ++ u ∷ []) ++ us) ≡ any_lossy (vs ++ t ∷ us)
    lossy_moved [] = rw lossy refl
    lossy_moved (w ∷ vs) = ap (λ (b : Bool). w.lossy || b) (lossy_moved vs)

-- lists of jobs in hand
hands-append : (hs gs : List Hand) → any_hand_relieves (hs ++ gs) ≡ (any_hand_relieves hs || any_hand_relieves gs)
hands-append [] gs = refl
hands-append (h ∷ hs) gs = grind (arith, nat_tests, hands-append hs gs)

before-append : (hs gs : List Hand) → any_before (hs ++ gs) ≡ (any_before hs || any_before gs)
before-append [] gs = refl
before-append (h ∷ hs) gs = grind (arith, nat_tests, before-append hs gs)

after_relieves-append : (hs gs : List Hand) → any_after_relieves (hs ++ gs) ≡ (any_after_relieves hs || any_after_relieves gs)
after_relieves-append [] gs = refl
after_relieves-append (h ∷ hs) gs = grind (arith, nat_tests, after_relieves-append hs gs)

after_relieves_less : (hs : List Hand) → any_after_relieves hs ≡ true → any_hand_relieves hs ≡ true
after_relieves_less [] is = is
after_relieves_less (h ∷ hs) is = which (or_cases (h.after && h.relieves) (any_after_relieves hs) is) (after_relieves_less hs)
  where
    which : ((h.after && h.relieves) ≡ true) ⊎ (any_after_relieves hs ≡ true) → (any_after_relieves hs ≡ true → any_hand_relieves hs ≡ true) → (h.relieves || any_hand_relieves hs) ≡ true
    which (inl here) rest = rw ((and_parts h.after h.relieves here).1) refl
    which (inr there) rest = grind (arith, nat_tests, rest there)

behind_none : (hs : List Hand) → any_after_covers hs ≡ false → NoneRelievesBehind hs
behind_none [] none = tt
behind_none (h ∷ hs) none = let parts = or_parts (h.after && h.covers) (any_after_covers hs) none in ((λ is. absurd (false≢true (sym parts.0 ∙ is))), behind_none hs parts.1)

behind_append : (hs gs : List Hand) → NoneRelievesBehind hs → NoneRelievesBehind gs → (any_after_covers hs ≡ true → any_hand_relieves gs ≡ false) → NoneRelievesBehind (hs ++ gs)
behind_append [] gs none more free = more
behind_append (h ∷ hs) gs none more free = ((λ is. behind is), behind_append hs gs none.1 more (λ is. free (later is)))
  where
    later : any_after_covers hs ≡ true → ((h.after && h.covers) || any_after_covers hs) ≡ true
    later is = grind (arith, nat_tests)

    behind : (h.after && h.covers) ≡ true → any_hand_relieves (hs ++ gs) ≡ false
    behind is = grind (arith, nat_tests, hands-append hs gs, none.0 is, free (grind (arith, nat_tests)))

order_append : (hs gs : List Hand) → NoneBeforeBehind hs → NoneBeforeBehind gs → any_before gs ≡ false → NoneBeforeBehind (hs ++ gs)
order_append [] gs none more after = more
order_append (h ∷ hs) gs none more after = ((λ is. grind (arith, nat_tests, before-append hs gs, none.0 is)), order_append hs gs none.1 more after)

-- where all were captured after the origin, or all before it
pub order_after : (hs : List Hand) → any_before hs ≡ false → NoneBeforeBehind hs
order_after [] none = tt
order_after (h ∷ hs) none = let parts = or_parts (not h.after) (any_before hs) none in ((λ is. parts.1), order_after hs parts.1)

spread : (a b : Bool) → (a || b) ≡ false → (a || (false || b)) ≡ false
spread a b none = none

owed : (a w l : Bool) → false ≡ not (a || l) → (a || (w || l)) ≡ true
owed true w l is = refl
owed false w true is = grind (arith, nat_tests)
owed false w false is = absurd (false≢true is)

-- a point is owed exactly where the written draws do not repair it
pub owed_unless_repaired : (p : Seen) → PointAgrees p → ((p.pending || any_hand_relieves p.hand) || (any_trace_relieves p.waiting || p.lossy)) ≡ not (is_repaired p.written)
owed_unless_repaired p agrees = which (cases_Bool (any_repair p.written)) (cases_Bool (any_repair p.waiting))
  where
    all : (any_repair p.written || any_repair p.waiting) ≡ not ((p.pending || any_hand_relieves p.hand) || p.lossy)
    all = sym (repairs-append p.written p.waiting) ∙ sym (repaired_any (p.written ++ p.waiting) agrees.last) ∙ agrees.queued

    was : is_repaired p.written ≡ any_repair p.written
    was = repaired_any p.written (last_front p.written p.waiting agrees.last)

    which : (any_repair p.written ≡ true) ⊎ (any_repair p.written ≡ false) → (any_repair p.waiting ≡ true) ⊎ (any_repair p.waiting ≡ false)
        → ((p.pending || any_hand_relieves p.hand) || (any_trace_relieves p.waiting || p.lossy)) ≡ not (is_repaired p.written)
    which (inl done) later = rw (was, done, none) (spread (p.pending || any_hand_relieves p.hand) p.lossy free)
      where
        free : ((p.pending || any_hand_relieves p.hand) || p.lossy) ≡ false
        free = not-true _ (sym all ∙ rw done refl)

        none : any_trace_relieves p.waiting ≡ false
        none = subst (λ (b : Bool). FirstRelieves b p.waiting) done agrees.first
    which (inr none) (inl waits) = grind (arith, nat_tests, was, some)
      where
        some : any_trace_relieves p.waiting ≡ true
        some = first_some p.waiting (subst (λ (b : Bool). FirstRelieves b p.waiting) none agrees.first) waits
    which (inr none) (inr never) = rw (was, none) (owed (p.pending || any_hand_relieves p.hand) (any_trace_relieves p.waiting) p.lossy (rw (none, never) refl ∙ all))

-- the point's origin is now: no draw repairs it, no job in hand was captured after it, and it is pending
pub agrees_origin : (written waiting : List Trace) (hand : List Hand) (lossy : Bool) → any_repair written ≡ false → any_repair waiting ≡ false → any_after_covers hand ≡ false → NoneBeforeBehind hand
    → PointAgrees (record { written = written; waiting = waiting; hand = hand; pending = true; lossy = lossy })
agrees_origin written waiting hand lossy none never old order = record {
  queued = not_repaired (written ++ waiting) all;
  first = rw none (first_none waiting never);
  last = last_none (written ++ waiting) all;
  before = λ is. refl;
  pending = λ is. old;
  behind = behind_none hand old;
  order = order;
}
  where
    all : any_repair (written ++ waiting) ≡ false
    all = grind (arith, nat_tests, repairs-append written waiting)

-- a capture: the new jobs relieve what was pending
pub agrees_captured : (written waiting : List Trace) (hand new : List Hand) (pending lossy : Bool) → any_before new ≡ false → any_hand_relieves new ≡ pending → any_after_relieves new ≡ pending → NoneRelievesBehind new
    → PointAgrees (record { written = written; waiting = waiting; hand = hand; pending = pending; lossy = lossy })
    → PointAgrees (record { written = written; waiting = waiting; hand = hand ++ new; pending = false; lossy = lossy })
agrees_captured written waiting hand new pending lossy after relieved relieves apart agrees = record {
  queued = agrees.queued ∙ grind (arith, nat_tests, hands-append hand new);
  first = agrees.first;
  last = agrees.last;
  before = λ is. grind (arith, nat_tests, after_relieves-append hand new, agrees.before (sym (before-append hand new ∙ grind (arith, nat_tests)) ∙ is));
  pending = λ is. absurd (false≢true is);
  behind = behind_append hand new agrees.behind apart (λ is. covered is (cases_Bool pending));
  order = order_append hand new agrees.order (order_after new after) after;
}
  where
    covered : any_after_covers hand ≡ true → (pending ≡ true) ⊎ (pending ≡ false) → any_hand_relieves new ≡ false
    covered is (inl was) = absurd (false≢true (sym (agrees.pending was) ∙ is))
    covered is (inr free) = relieved ∙ free

-- a refresh: no job is in hand, nothing is pending, and the new jobs relieve what is lossy
pub agrees_refreshed : (written waiting : List Trace) (new : List Hand) (lossy : Bool) → any_before new ≡ false → any_hand_relieves new ≡ lossy → NoneRelievesBehind new
    → PointAgrees (record { written = written; waiting = waiting; hand = []; pending = false; lossy = lossy })
    → PointAgrees (record { written = written; waiting = waiting; hand = new; pending = false; lossy = lossy })
agrees_refreshed written waiting new lossy after relieved apart agrees = record {
  queued = agrees.queued ∙ grind (arith, nat_tests);
  first = agrees.first;
  last = agrees.last;
  before = λ is. absurd (false≢true (sym after ∙ is));
  pending = λ is. absurd (false≢true is);
  behind = apart;
  order = order_after new after;
}

-- all jobs in hand are cancelled, and what they relieve is pending
pub agrees_cancelled : (written waiting : List Trace) (hand : List Hand) (pending lossy : Bool)
    → PointAgrees (record { written = written; waiting = waiting; hand = hand; pending = pending; lossy = lossy })
    → PointAgrees (record { written = written; waiting = waiting; hand = []; pending = pending || any_hand_relieves hand; lossy = lossy })
agrees_cancelled written waiting hand pending lossy agrees = record {
  queued = agrees.queued ∙ grind (arith, nat_tests);
  first = agrees.first;
  last = agrees.last;
  before = λ is. absurd (false≢true is);
  pending = λ is. refl;
  behind = tt;
  order = tt;
}

-- the front draw is written
pub agrees_written : (written : List Trace) (t now : Trace) (waiting : List Trace) (hand : List Hand) (pending lossy : Bool) → now.repair ≡ t.repair → now.lossy ≡ t.lossy
    → PointAgrees (record { written = written; waiting = t ∷ waiting; hand = hand; pending = pending; lossy = lossy })
    → PointAgrees (record { written = written ++ now ∷ []; waiting = waiting; hand = hand; pending = pending; lossy = lossy })
agrees_written written t now waiting hand pending lossy repair coded agrees = record {
  queued = repaired_moved written t now waiting repair coded ∙ agrees.queued;
  first = rw (repairs-append written (now ∷ []), repair) (which (cases_Bool (any_repair written)) (cases_Bool t.repair));
  last = last_moved written t now waiting repair coded agrees.last;
  before = agrees.before;
  pending = agrees.pending;
  behind = agrees.behind;
  order = agrees.order;
}
  where
    which : (any_repair written ≡ true) ⊎ (any_repair written ≡ false) → (t.repair ≡ true) ⊎ (t.repair ≡ false) → FirstRelieves (any_repair written || (t.repair || false)) waiting
    which (inl done) now = rw done (or_parts t.relieves (any_trace_relieves waiting) (subst (λ (b : Bool). FirstRelieves b (t ∷ waiting)) done agrees.first)).1
    which (inr none) (inl is) = rw (none, is) ((subst (λ (b : Bool). FirstRelieves b (t ∷ waiting)) none agrees.first).0 is).1
    which (inr none) (inr isnt) = rw (none, isnt) ((subst (λ (b : Bool). FirstRelieves b (t ∷ waiting)) none agrees.first).1 isnt)

-- what the draw of a job is at the point
abbrev pub relief_at : Hand → Bool → Bool
relief_at h lossy = h.relieves || (h.exact && (lossy && h.covers))

abbrev pub lossy_at : Hand → Bool → Bool
lossy_at h lossy = (h.exact && (lossy && not h.covers)) || (not h.exact && (lossy || h.covers))

abbrev pub draw_of : Hand → Bool → Trace
draw_of h lossy = record { repair = h.after && (h.exact && h.covers); lossy = not h.exact && h.covers; relieves = relief_at h lossy }

-- the first job in hand becomes the last waiting draw
shape : (a l : Bool) → (a || true) ≡ not ((l && false) || false)
shape true true = refl
shape true false = refl
shape false true = refl
shape false false = refl

still : (w p a r l : Bool) → w ≡ not ((p || (r || a)) || l) → (p || a) ≡ true → (w || false) ≡ not ((p || a) || ((l && false) || false))
still w p a r l was owed = grind (arith, nat_tests)

same : (w p a r l after : Bool) → w ≡ not ((p || (r || a)) || l) → r ≡ false → (w || (after && false)) ≡ not ((p || a) || ((l && true) || false))
same w p a r l after was none = grind (arith, nat_tests)

lost : (w p a r l after : Bool) → w ≡ not ((p || (r || a)) || l) → r ≡ true → (w || (after && false)) ≡ not ((p || a) || (l || true))
lost w p a r l after was is = grind (arith, nat_tests)

kept : (w p a r l after : Bool) → w ≡ not ((p || (r || a)) || l) → r ≡ false → (w || (after && false)) ≡ not ((p || a) || (l || false))
kept w p a r l after was none = grind (arith, nat_tests)

module _ (written waiting : List Trace) (h : Hand) (hand : List Hand) (pending lossy : Bool) (inside : h.relieves ≡ true → h.covers ≡ true) (whole : h.exact ≡ false → h.covers ≡ true → h.relieves ≡ true)
    (agrees : PointAgrees (record { written = written; waiting = waiting; hand = h ∷ hand; pending = pending; lossy = lossy })) where
  repaired : (any_repair written || any_repair waiting) ≡ not ((pending || (h.relieves || any_hand_relieves hand)) || lossy)
  repaired = sym (repairs-append written waiting) ∙ sym (repaired_any (written ++ waiting) agrees.last) ∙ agrees.queued

  -- a repair is no longer pending, and no job behind it relieves the point
  repair_ends : (h.after && (h.exact && h.covers)) ≡ true → (pending ≡ false) × (any_hand_relieves hand ≡ false)
  repair_ends is = (which (cases_Bool pending), agrees.behind.0 (grind (arith, nat_tests)))
    where
      which : (pending ≡ true) ⊎ (pending ≡ false) → pending ≡ false
      which (inl was) = absurd (false≢true (sym (agrees.pending was) ∙ grind (arith, nat_tests)))
      which (inr free) = free

  -- an exact job that was captured before the origin leaves the point owed
  before_owed : h.after ≡ false → (pending || any_hand_relieves hand) ≡ true
  before_owed isnt = which (or_cases pending ((h.after && h.relieves) || any_after_relieves hand) (agrees.before (grind (arith, nat_tests))))
    where
      which : (pending ≡ true) ⊎ (((h.after && h.relieves) || any_after_relieves hand) ≡ true) → (pending || any_hand_relieves hand) ≡ true
      which (inl was) = rw was refl
      which (inr some) = grind (arith, nat_tests, after_relieves_less hand (grind (arith, nat_tests)))

  none_lossy : NoneLossyBehind ((written ++ waiting) ++ draw_of h lossy ∷ [])
  none_lossy = last_append (written ++ waiting) (draw_of h lossy) agrees.last (λ is. free (sym (repairs-append written waiting) ∙ is) (cases_Bool h.exact) (cases_Bool h.covers))
    where
      free : (any_repair written || any_repair waiting) ≡ true → (h.exact ≡ true) ⊎ (h.exact ≡ false) → (h.covers ≡ true) ⊎ (h.covers ≡ false) → (not h.exact && h.covers) ≡ false
      free is (inl exact) covers = rw exact refl
      free is (inr coarse) (inr outside) = rw (coarse, outside) refl
      free is (inr coarse) (inl there) = absurd (false≢true (grind (arith, nat_tests, repaired, whole coarse there)))

  unrelieved : h.covers ≡ false → h.relieves ≡ false
  unrelieved outside = false_from_ne_true h.relieves (λ is. false≢true (sym outside ∙ inside is))

  now_repaired : ((any_repair written || any_repair waiting) || (h.after && (h.exact && h.covers))) ≡ not ((pending || any_hand_relieves hand) || lossy_at h lossy)
  now_repaired = which (cases_Bool h.after) (cases_Bool h.exact) (cases_Bool h.covers)
    where
      which : (h.after ≡ true) ⊎ (h.after ≡ false) → (h.exact ≡ true) ⊎ (h.exact ≡ false) → (h.covers ≡ true) ⊎ (h.covers ≡ false)
          → ((any_repair written || any_repair waiting) || (h.after && (h.exact && h.covers))) ≡ not ((pending || any_hand_relieves hand) || lossy_at h lossy)
      which (inl after) (inl exact) (inl there) = let ends = repair_ends (rw (after, exact, there) refl) in rw (after, exact, there, ends.0, ends.1) (shape (any_repair written || any_repair waiting) lossy)
      which (inr before) (inl exact) (inl there) = rw (before, exact, there) (still (any_repair written || any_repair waiting) pending (any_hand_relieves hand) h.relieves lossy repaired (before_owed before))
      which after (inl exact) (inr outside) = rw (exact, outside) (same (any_repair written || any_repair waiting) pending (any_hand_relieves hand) h.relieves lossy h.after repaired (unrelieved outside))
      which after (inr coarse) (inl there) = rw (coarse, there) (lost (any_repair written || any_repair waiting) pending (any_hand_relieves hand) h.relieves lossy h.after repaired (whole coarse there))
      which after (inr coarse) (inr outside) = rw (coarse, outside) (kept (any_repair written || any_repair waiting) pending (any_hand_relieves hand) h.relieves lossy h.after repaired (unrelieved outside))

  free_relief : (any_repair written || any_repair waiting) ≡ true → relief_at h lossy ≡ false
  free_relief is = grind (arith, nat_tests, repaired)

  owed_relief : (any_repair written || any_repair waiting) ≡ false → (h.after && (h.exact && h.covers)) ≡ true → relief_at h lossy ≡ true
  owed_relief none is = let ends = repair_ends is in grind (arith, nat_tests, repaired, ends.0, ends.1)

  first_relieves : (b : Bool) → any_repair written ≡ b → FirstRelieves b waiting → FirstRelieves b (waiting ++ draw_of h lossy ∷ [])
  first_relieves true done first = grind (arith, nat_tests, reliefs-append waiting (draw_of h lossy ∷ []), free_relief (rw done refl))
  first_relieves false none first = first_append waiting (draw_of h lossy) first (λ is. free_relief (rw (none, is) refl)) (λ never is. owed_relief (rw (none, never) refl) is)

  pub agrees_queued : PointAgrees (record { written = written; waiting = waiting ++ draw_of h lossy ∷ []; hand = hand; pending = pending; lossy = lossy_at h lossy })
  agrees_queued = record {
    queued = rw (← append_assoc) (repaired_any ((written ++ waiting) ++ draw_of h lossy ∷ []) none_lossy ∙ repairs-append (written ++ waiting) (draw_of h lossy ∷ []) ∙ all);
    first = first_relieves (any_repair written) refl agrees.first;
    last = rw (← append_assoc) none_lossy;
    before = λ is. earlier is (cases_Bool h.after);
    pending = λ is. (or_parts (h.after && h.covers) (any_after_covers hand) (agrees.pending is)).1;
    behind = agrees.behind.1;
    order = agrees.order.1;
  }
    where
      all : (any_repair (written ++ waiting) || ((h.after && (h.exact && h.covers)) || false)) ≡ not ((pending || any_hand_relieves hand) || lossy_at h lossy)
      all = grind (arith, nat_tests, repairs-append written waiting, now_repaired)

      earlier : any_before hand ≡ true → (h.after ≡ true) ⊎ (h.after ≡ false) → (pending || any_after_relieves hand) ≡ true
      earlier is (inl after) = absurd (false≢true (sym (agrees.order.0 after) ∙ is))
      earlier is (inr before) = grind (arith, nat_tests, agrees.before (grind (arith, nat_tests)))
