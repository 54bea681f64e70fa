-- Each event keeps the form at one point.
use Rattle.std.proofs.Common.{◌≡◌, ◌⊎◌, inl, inr, ℕ, Bool, true, false, not, ◌&&◌, ◌||◌, List, [], ◌∷◌, ◌++◌, Option, None, map, refl, sym, ◌∙◌, arith, append_assoc, append-nil}
use Rattle.std.specs.Prelude.{nat_eq}
use Rattle.std.proofs.lemmas.Bool.{cases_Bool, or_parts, false≢true}
use Rattle.std.proofs.lemmas.Bool.Decides.{nat_tests}
use Rattle.std.proofs.lemmas.List.{map-append}
use Rattle.xp_base.specs.declared.coding.Coding.{Coding}
use Rattle.xp_base.specs.declared.coding.Coding.TheVariants as C
use Rattle.delivery_model.specs.Marks.{Mark, over, any_relieves}
use Rattle.delivery_model.specs.Point.{Drawing, Waiting, DrawsThere, Survives, Becomes, is_number, job_mark, carried_mark, shown_mark, AllSurvive, FrontsAreFree, PointKept}
use Rattle.delivery_model.proofs.MarkSteps.{any-append, stays_owed, stays_better, stays_cancelled, stays_append, AllGood, stays_captured, stays_swapped, right_after}

-- at a pending point anything is kept
pub kept_pending : (n : ℕ) (shows : Option ℕ) (waiting : List Waiting) (jobs : List Drawing) (lossy : Bool) → FrontsAreFree waiting
    → PointKept (record { number = n; shows = shows; waiting = waiting; jobs = jobs; pending = true; lossy = lossy })
kept_pending n shows waiting jobs lossy fronts = record {
  carried = stays_owed (map (carried_mark n) waiting ++ map (job_mark n) jobs) true;
  shown = stays_owed (map (shown_mark n) waiting) (is_number n shows);
  fronts = fronts;
}

-- damage: the point is pending, or as it was
pub kept_damaged : (n m : ℕ) (shows : Option ℕ) (waiting : List Waiting) (jobs : List Drawing) (pending now lossy : Bool) → (now ≡ true) ⊎ ((now ≡ pending) × (m ≡ n))
    → PointKept (record { number = n; shows = shows; waiting = waiting; jobs = jobs; pending = pending; lossy = lossy })
    → PointKept (record { number = m; shows = shows; waiting = waiting; jobs = jobs; pending = now; lossy = lossy })
kept_damaged n m shows waiting jobs pending now lossy (inl is) kept = rw is (kept_pending m shows waiting jobs lossy kept.fronts)
kept_damaged n m shows waiting jobs pending now lossy (inr same) kept = rw (same.0, same.1) kept

-- a capture: the new jobs have the desktop's number, and relieve the point where it was pending
pub kept_captured : (n : ℕ) (shows : Option ℕ) (waiting : List Waiting) (jobs new : List Drawing) (pending lossy : Bool) → AllGood (map (job_mark n) new)
    → (pending ≡ true → any_relieves (map (job_mark n) new) ≡ true)
    → PointKept (record { number = n; shows = shows; waiting = waiting; jobs = jobs; pending = pending; lossy = lossy })
    → PointKept (record { number = n; shows = shows; waiting = waiting; jobs = jobs ++ new; pending = false; lossy = lossy })
kept_captured n shows waiting jobs new pending lossy good relieved kept = record {
  carried = rw (map-append (job_mark n) jobs new) (rw (← append_assoc) (stays_captured pending false (map (carried_mark n) waiting ++ map (job_mark n) jobs) (map (job_mark n) new) true good (λ is. grind (arith, nat_tests, relieved is)) kept.carried));
  shown = stays_better _ _ (map (shown_mark n) waiting) (is_number n shows) (is_number n shows) still (λ is. is) kept.shown;
  fronts = kept.fronts;
}
  where
    still : ((pending || any_relieves (map (job_mark n) jobs)) || lossy) ≡ true → ((false || any_relieves (map (job_mark n) (jobs ++ new))) || lossy) ≡ true
    still is = rw (map-append (job_mark n) jobs new) (rw (any-append (map (job_mark n) jobs) (map (job_mark n) new)) (parts (cases_Bool pending) is))
      where
        parts : (pending ≡ true) ⊎ (pending ≡ false) → ((pending || any_relieves (map (job_mark n) jobs)) || lossy) ≡ true
            → ((any_relieves (map (job_mark n) jobs) || any_relieves (map (job_mark n) new)) || lossy) ≡ true
        parts (inl was) is = grind (arith, nat_tests, relieved was)
        parts (inr free) is = grind (arith, nat_tests)

-- the jobs in hand are cancelled, and what they relieve is pending
pub kept_cancelled : (n : ℕ) (shows : Option ℕ) (waiting : List Waiting) (jobs : List Drawing) (pending lossy : Bool)
    → PointKept (record { number = n; shows = shows; waiting = waiting; jobs = jobs; pending = pending; lossy = lossy })
    → PointKept (record { number = n; shows = shows; waiting = waiting; jobs = []; pending = pending || any_relieves (map (job_mark n) jobs); lossy = lossy })
kept_cancelled n shows waiting jobs pending lossy kept = record {
  carried = rw append-nil (stays_better (any_relieves (map (job_mark n) jobs) || pending) (pending || any_relieves (map (job_mark n) jobs)) (map (carried_mark n) waiting) true true (λ is. grind (arith, nat_tests)) (λ is. is)
      (stays_cancelled pending (map (carried_mark n) waiting) (map (job_mark n) jobs) true kept.carried));
  shown = stays_better _ _ (map (shown_mark n) waiting) (is_number n shows) (is_number n shows) (λ is. grind (arith, nat_tests)) (λ is. is) kept.shown;
  fronts = kept.fronts;
}

fronts-append : (waiting : List Waiting) (there : Bool) (d : Drawing) → FrontsAreFree waiting → FrontsAreFree (waiting ++ DrawsThere there d ∷ [])
fronts-append waiting there d free = go waiting free
  where
    survive : (ws : List Waiting) → AllSurvive ws → AllSurvive (ws ++ DrawsThere there d ∷ [])
    survive [] all = tt
    survive (DrawsThere t e ∷ ws) all = survive ws all
    survive (Survives ∷ ws) all = survive ws all
    survive (Becomes o ∷ ws) all = absurd all

    go : (ws : List Waiting) → FrontsAreFree ws → FrontsAreFree (ws ++ DrawsThere there d ∷ [])
    go [] free = ((λ is. tt), tt)
    go (DrawsThere t e ∷ ws) free = ((λ is. survive ws (free.0 is)), go ws free.1)
    go (Survives ∷ ws) free = go ws free
    go (Becomes o ∷ ws) free = go ws free

fronts-survives : (waiting : List Waiting) → FrontsAreFree waiting → FrontsAreFree (waiting ++ Survives ∷ [])
fronts-survives waiting free = go waiting free
  where
    survive : (ws : List Waiting) → AllSurvive ws → AllSurvive (ws ++ Survives ∷ [])
    survive [] all = tt
    survive (DrawsThere t e ∷ ws) all = survive ws all
    survive (Survives ∷ ws) all = survive ws all
    survive (Becomes o ∷ ws) all = absurd all

    go : (ws : List Waiting) → FrontsAreFree ws → FrontsAreFree (ws ++ Survives ∷ [])
    go [] free = tt
    go (DrawsThere t e ∷ ws) free = ((λ is. survive ws (free.0 is)), go ws free.1)
    go (Survives ∷ ws) free = go ws free
    go (Becomes o ∷ ws) free = go ws free

-- a resize that the point survives
pub kept_survived : (n : ℕ) (shows : Option ℕ) (waiting : List Waiting) (pending lossy : Bool)
    → PointKept (record { number = n; shows = shows; waiting = waiting; jobs = []; pending = pending; lossy = lossy })
    → PointKept (record { number = n; shows = shows; waiting = waiting ++ Survives ∷ []; jobs = []; pending = pending; lossy = lossy })
kept_survived n shows waiting pending lossy kept = record {
  carried = rw (append-nil, map-append) (stays_append pending pending (map (carried_mark n) waiting) (record { leaves = None; relieves = false }) true (λ is. is) (λ u stays free. stays free) (rw append-nil at kept.carried));
  shown = rw map-append (stays_append _ _ (map (shown_mark n) waiting) (record { leaves = None; relieves = false }) (is_number n shows) (λ is. is) (λ u stays free. stays free) kept.shown);
  fronts = fronts-survives waiting kept.fronts;
}

-- the front packet is written
pub kept_written : (n : ℕ) (shows now : Option ℕ) (i : Waiting) (waiting : List Waiting) (jobs : List Drawing) (pending lossy : Bool)
    → (over (shown_mark n i).leaves (is_number n shows) ≡ true → is_number n now ≡ true)
    → PointKept (record { number = n; shows = shows; waiting = i ∷ waiting; jobs = jobs; pending = pending; lossy = lossy })
    → PointKept (record { number = n; shows = now; waiting = waiting; jobs = jobs; pending = pending; lossy = lossy })
kept_written n shows now i waiting jobs pending lossy better kept = record {
  carried = stays_better pending pending _ _ true (λ is. is) (λ is. refl) kept.carried.1;
  shown = stays_better _ _ (map (shown_mark n) waiting) _ _ (λ is. is) better kept.shown.1;
  fronts = tail i kept.fronts;
}
  where
    tail : (j : Waiting) → FrontsAreFree (j ∷ waiting) → FrontsAreFree waiting
    tail (DrawsThere t e) free = free.1
    tail Survives free = free
    tail (Becomes o) free = free

-- an exact draw relieves the point where it was lossy too; a lossy one makes the point lossy
abbrev pub relief_at : Drawing → Coding → Bool → Bool
relief_at j C.Exact lossy = j.relieves || (lossy && j.covers)
relief_at j C.Lossy lossy = j.relieves

abbrev pub lossy_at : Drawing → Coding → Bool → Bool
lossy_at j C.Exact lossy = lossy && not j.covers
lossy_at j C.Lossy lossy = lossy || j.covers

-- what the draw leaves at the point
shown_right : (n : ℕ) (j : Drawing) (relief : Bool) (coding : Coding) (jobs : List Mark) (pending lossy : Bool) → j.coding ≡ coding
    → (j.relieves ≡ true → j.covers ≡ true) → ((any_relieves jobs || pending) ≡ false → (u : Bool) × (over (job_mark n j).leaves u ≡ true))
    → (j.covers ≡ true) ⊎ (j.covers ≡ false)
    → (u : Bool) → (((pending || (j.relieves || any_relieves jobs)) || lossy) ≡ false → u ≡ true) → ((pending || any_relieves jobs) || lossy_at j coding lossy) ≡ false
    → over (shown_mark n (DrawsThere true (record j { relieves = relief }))).leaves u ≡ true
shown_right n j relief C.Exact jobs pending lossy exact inside carried (inl there) u stays free =
    let right : (v : Bool) × (over (job_mark n j).leaves v ≡ true) = carried (grind (arith, nat_tests)) in
    let number : nat_eq j.number n ≡ true = rw there at right.1 in
    rw (there, exact) number
shown_right n j relief C.Lossy jobs pending lossy coded inside carried (inl there) u stays free =
    absurd (false≢true (sym (or_parts _ _ (or_parts _ _ free).1).1 ∙ there))
shown_right n j relief C.Exact jobs pending lossy exact inside carried (inr elsewhere) u stays free =
    rw elsewhere (stays (grind (arith, nat_tests)))
shown_right n j relief C.Lossy jobs pending lossy coded inside carried (inr elsewhere) u stays free =
    rw elsewhere (stays (grind (arith, nat_tests)))

still_owed : (j : Drawing) (coding : Coding) (jobs pending lossy : Bool) → (j.relieves ≡ true → j.covers ≡ true)
    → ((pending || (j.relieves || jobs)) || lossy) ≡ true → (relief_at j coding lossy || ((pending || jobs) || lossy_at j coding lossy)) ≡ true
still_owed j C.Exact jobs pending lossy inside is = grind (arith, nat_tests)
still_owed j C.Lossy jobs pending lossy inside is = grind (arith, nat_tests)

still_relieves : (j : Drawing) (coding : Coding) (lossy : Bool) → j.relieves ≡ true → relief_at j coding lossy ≡ true
still_relieves j C.Exact lossy is = rw is refl
still_relieves j C.Lossy lossy is = is

-- the first job in hand becomes a waiting draw
pub kept_queued : (n : ℕ) (shows : Option ℕ) (waiting : List Waiting) (j : Drawing) (jobs : List Drawing) (pending lossy : Bool) → (j.relieves ≡ true → j.covers ≡ true)
    → PointKept (record { number = n; shows = shows; waiting = waiting; jobs = j ∷ jobs; pending = pending; lossy = lossy })
    → PointKept (record { number = n; shows = shows; waiting = waiting ++ DrawsThere true (record j { relieves = relief_at j j.coding lossy }) ∷ []; jobs = jobs; pending = pending; lossy = lossy_at j j.coding lossy })
kept_queued n shows waiting j jobs pending lossy inside kept = record {
  carried = rw map-append (rw append_assoc (stays_swapped pending (map (carried_mark n) waiting) (job_mark n j) (job_mark n d) (map (job_mark n) jobs) true
      (λ is. still_relieves j j.coding lossy is) (λ u right. right) kept.carried));
  shown = rw map-append (stays_append _ _ (map (shown_mark n) waiting) (shown_mark n (DrawsThere true d)) (is_number n shows)
      (λ is. still_owed j j.coding (any_relieves (map (job_mark n) jobs)) pending lossy inside is)
      (shown_right n j d.relieves j.coding (map (job_mark n) jobs) pending lossy refl inside
      (λ free. right_after pending (map (carried_mark n) waiting) (job_mark n j) (map (job_mark n) jobs) true kept.carried free) (cases_Bool j.covers)) kept.shown);
  fronts = fronts-append waiting true d kept.fronts;
}
  where
    d : Drawing
    d = record j { relieves = relief_at j j.coding lossy }
