-- Once nothing is left to be drawn and nothing waits, a client is at rest.
use Rattle.std.proofs.Common.{◌≡◌, ℕ, zero, suc, Bool, true, false, ◌&&◌, ◌||◌, Some, None, List, [], ◌∷◌, refl, sym, ap, ◌∙◌, subst, arith}
use Rattle.std.specs.Prelude.{Option, not, ◌==◌, length, slice_index_or, if◌then◌else◌}
use Rattle.std.specs.List.{list_any, list_all}
use Rattle.std.proofs.lemmas.Bool.{eqb-true}
use Rattle.xp_base.specs.Points.{is_within}
use Rattle.xp_base.specs.Grid.{place_of}
use Rattle.delivery_model.specs.Grids.{Points, points, has}
use Rattle.delivery_model.specs.Window.{Job}
use Rattle.delivery_model.specs.Events.{is_empty, jobs_relieve}
use Rattle.delivery_model.specs.Laws.{EmptyHasNone}
use Rattle.window_source.specs.Source.{SourceSeen}
use Rattle.window_source.specs.Waiting.{Queued}
use Rattle.window_source.specs.Owed.{is_clear}
use Rattle.client_delivery.specs.Attached.{source_key, find_source}
use Rattle.client_delivery.specs.Owed.{owes, owes_in, source_owes}
use Rattle.attached_client.specs.Client.{ClientSeen}
use Rattle.connection_steps.specs.Resting.{IsAtRest, ClearRests}

-- ---- a set without points

both : (a b : Bool) → (a && b) ≡ true → (a ≡ true) × (b ≡ true)
both true true is = (refl, refl)
both true false is = absurd (cc is)
both false b is = absurd (cc is)

unmarked : (marks : List Bool) (n : ℕ) → list_any (λ m. m) marks ≡ false → slice_index_or marks n false ≡ false
unmarked [] n none = refl
unmarked (true ∷ marks) n none = absurd (cc none)
unmarked (false ∷ marks) zero none = refl
unmarked (false ∷ marks) (suc n) none = unmarked marks n none

no_point : (set : Points) (x y : ℕ) → is_empty set ≡ true → has set x y ≡ false
unfolding is_empty has
no_point set x y empty = rw (unmarked set.marks (place_of set.wide x y) (not_not (list_any (λ m. m) set.marks) empty)) (and_no (is_within set.wide set.high x y))
  where
    not_not : (b : Bool) → not b ≡ true → b ≡ false
    not_not true is = absurd (cc is)
    not_not false is = refl

    and_no : (b : Bool) → (b && false) ≡ false
    and_no true = refl
    and_no false = refl

-- ---- a source

no_job : (jobs : List Job) (x y : ℕ) → (length jobs == 0) ≡ true → jobs_relieve jobs x y ≡ false
no_job [] x y none = refl
no_job (j ∷ jobs) x y none = let long : length (j ∷ jobs) ≡ 0 = eqb-true (length (j ∷ jobs)) 0 none in absurd (omega (arith, long))

owes_none : (s : SourceSeen) (x y : ℕ) → has s.pending x y ≡ false → jobs_relieve s.jobs x y ≡ false → (is_within s.wide s.high x y ≡ true → has s.lossy x y ≡ false)
    → (is_within s.wide s.high x y && ((has s.pending x y || jobs_relieve s.jobs x y) || (false || has s.lossy x y))) ≡ false
owes_none s x y pending jobs lossy = go (is_within s.wide s.high x y) refl
  where
    go : (b : Bool) → is_within s.wide s.high x y ≡ b → (b && ((has s.pending x y || jobs_relieve s.jobs x y) || (false || has s.lossy x y))) ≡ false
    go false inside = refl
    go true inside = rw (pending, jobs, lossy inside) refl

pub clear_source : EmptyHasNone → (s : SourceSeen) (packets : List Queued) (x y : ℕ) → is_clear s ≡ true → s.mapped ≡ true → packets ≡ [] → source_owes s packets x y ≡ false
clear_source empty s packets x y clear mapped none =
    let parts : (length s.jobs == 0 && (is_empty s.pending && is_empty (points s.wide s.high (has s.lossy)))) ≡ true = rw mapped at clear in
    let jobs = both (length s.jobs == 0) (is_empty s.pending && is_empty (points s.wide s.high (has s.lossy))) parts in
    let sets = both (is_empty s.pending) (is_empty (points s.wide s.high (has s.lossy))) jobs.1 in
    rw none (owes_none s x y (no_point s.pending x y sets.0) (no_job s.jobs x y jobs.0) (empty s.wide s.high (has s.lossy) sets.1 x y))

-- ---- a client

found_clear : (sources : List SourceSeen) (k : ℕ) (s : SourceSeen) → list_all is_clear sources ≡ true → find_source sources k ≡ Some s → is_clear s ≡ true
found_clear [] k s clear found = absurd (cc found)
found_clear (t ∷ sources) k s clear found =
    let parts : (is_clear t ≡ true) × (list_all is_clear sources ≡ true) = both (is_clear t) (list_all is_clear sources) clear in
    here_or_there sources k t s (source_key t == k) parts.0 (found_clear sources k s parts.1) found
  where
    here_or_there : (sources : List SourceSeen) (k : ℕ) (t s : SourceSeen) (b : Bool) → is_clear t ≡ true → (find_source sources k ≡ Some s → is_clear s ≡ true)
        → (if b then Some t else find_source sources k) ≡ Some s → is_clear s ≡ true
    here_or_there sources k t s true here there found = let same : t ≡ s = cc found in subst (λ (u : SourceSeen). is_clear u ≡ true) same here
    here_or_there sources k t s false here there found = there found

pub clear_rests : EmptyHasNone → ClearRests
clear_rests empty client clear none = record {
  written = none;
  clear = λ wid x y s found mapped. ap (λ o. owes_in o client.seen.out.packets x y) found ∙ clear_source empty s client.seen.out.packets x y (found_clear client.seen.sources wid s clear found) mapped none;
}
