-- A window that is drawn at once comes nearer to rest.
use Rattle.std.proofs.Common.{◌≡◌, ℕ, zero, suc, ◌-◌, ◌≤◌, ◌⊎◌, inl, inr, Bool, true, false, ◌&&◌, ◌||◌, Some, None, List, [], ◌∷◌, map, length, refl, sym, ap, ◌∙◌, subst, arith}
use Rattle.std.specs.Prelude.{Option, not, ◌==◌, slice_index_or, IfSome}
use Rattle.std.specs.List.{list_any}
use Rattle.std.specs.Option.{option_map}
use Rattle.std.proofs.lemmas.Bool.{eqb-true}
use Rattle.xp_base.specs.Points.{is_within}
use Rattle.xp_base.specs.Grid.{place_of}
use Rattle.xp_base.specs.KeyedLaws.{KeyedFinds}
use Rattle.delivery_model.specs.Grids.{Points, points, has}
use Rattle.delivery_model.specs.Window.{Job, Packet, Window as Delivery}
use Rattle.delivery_model.specs.Events.{is_empty, jobs_relieve, jobs_of, region_taken, captured}
use Rattle.delivery_model.specs.Refusals.{CaptureAnswer, Unmapped, Clean, Early, Congested, Heavy, Spent, Allowed, is_clean, last_capture_answer}
use Rattle.delivery_model.specs.Laws.{NoneIsEmpty}
use Rattle.delivery_log.specs.Rest.{file_all}
use Rattle.delivery_log.specs.DrawnOut.{results_of, IsDrawnOut}
use Rattle.delivery_log.specs.Laws.{OrderedResultsDrawOut}
use Rattle.window_model.specs.Desktop.{Window}
use Rattle.capture_jobs.specs.Jobs.{EncodingJob}
use Rattle.capture_jobs.specs.declared.answers.Filed.TheVariants as F
use Rattle.encode_pool.specs.Finished.{finished}
use Rattle.client_outbox.specs.Reliefs.{is_busy}
use Rattle.window_source.specs.declared.capturing.Mode.TheVariants as M
use Rattle.window_source.specs.declared.capturing.Caught.{Caught}
use Rattle.window_source.specs.declared.capturing.Caught.TheVariants as C
use Rattle.window_source.specs.Source.{SourceSeen, window_of, after}
use Rattle.window_source.specs.Owed.{is_clear}
use Rattle.window_source.specs.Capturing.{carrying, told}
use Rattle.window_source.specs.Waiting.{Queued}
use Rattle.client_delivery.specs.Attached.{find_source}
use Rattle.client_delivery.specs.Steps.{GivingBack, quiet}
use Rattle.attached_client.specs.Client.{ClientSeen}
use Rattle.attached_client.specs.Capturing.{CapturesBy, CapturesWhere, ClientCaptures, FilesWhere, recalled}
use Rattle.last_draws.specs.DrawnThrough.{captures_left, IsNearerIn}
use Rattle.last_draws.specs.Filing.{FilesThrough}
use Rattle.last_draws.proofs.Refused.{with_found}
use Rattle.last_draws.proofs.Draws.{is_made, is_short, refused_source}
use Rattle.last_draws.proofs.Others.{recalled_found}

-- ---- sets and jobs

both : (a b : Bool) → (a && b) ≡ true → (a ≡ true) × (b ≡ true)
both true true is = (refl, refl)
both true false is = absurd (cc is)
both false b is = absurd (cc is)

unmarked : (marks : List Bool) (n : ℕ) → list_any (λ m. m) marks ≡ false → slice_index_or marks n false ≡ false
unmarked [] n none = refl
unmarked (true ∷ marks) n none = absurd (cc none)
unmarked (false ∷ marks) zero none = refl
unmarked (false ∷ marks) (suc n) none = unmarked marks n none

no_point : (set : Points) (x y : ℕ) → is_empty set ≡ true → has set x y ≡ false
unfolding is_empty has
no_point set x y empty = rw (unmarked set.marks (place_of set.wide x y) (not_not (list_any (λ m. m) set.marks) empty)) (and_no (is_within set.wide set.high x y))
  where
    not_not : (b : Bool) → not b ≡ true → b ≡ false
    not_not true is = absurd (cc is)
    not_not false is = refl

    and_no : (b : Bool) → (b && false) ≡ false
    and_no true = refl
    and_no false = refl

none_of : (jobs : List Job) → (length jobs == 0) ≡ true → jobs ≡ []
none_of [] none = refl
none_of (j ∷ jobs) none = let long : length (j ∷ jobs) ≡ 0 = eqb-true (length (j ∷ jobs)) 0 none in absurd (omega (arith, long))

-- ---- how many captures are left

abbrev is_drawn : SourceSeen → Bool
is_drawn s = length s.jobs == 0 && is_empty s.pending

clear_none : (s : SourceSeen) (n : ℕ) → is_clear s ≡ true → captures_left s ≤ n
clear_none s n clear = rw clear (omega arith)

drawn_one : (s : SourceSeen) → is_drawn s ≡ true → captures_left s ≤ 1
drawn_one s drawn = go (is_clear s) refl
  where
    go : (b : Bool) → is_clear s ≡ b → captures_left s ≤ 1
    go true clear = rw clear (omega arith)
    go false clear = rw (clear, drawn) (omega arith)

pending_two : (s : SourceSeen) → s.mapped ≡ true → is_drawn s ≡ false → captures_left s ≡ 2
pending_two s mapped drawn =
    let more : is_clear s ≡ false = rw mapped (unclear (length s.jobs == 0) (is_empty s.pending) (is_empty (points s.wide s.high (has s.lossy))) drawn) in
    rw (more, drawn) refl
  where
    unclear : (a b c : Bool) → (a && b) ≡ false → (a && (b && c)) ≡ false
    unclear true true c is = absurd (cc is)
    unclear true false c is = refl
    unclear false b c is = refl

unmapped_clear : (s : SourceSeen) → s.mapped ≡ false → is_clear s ≡ true
unmapped_clear s mapped = rw mapped refl

any_or : (b c : Bool) → c ≡ true → (b || c) ≡ true
any_or true c is = refl
any_or false c is = is

rest_clear : (s : SourceSeen) → s.jobs ≡ [] → is_empty s.pending ≡ true → is_empty (points s.wide s.high (has s.lossy)) ≡ true → is_clear s ≡ true
rest_clear s jobs pending lossy = any_or (not s.mapped) _ (rw (jobs, pending, lossy) refl)

module _ (none : NoneIsEmpty) where
  clean_clear : (s : SourceSeen) → s.jobs ≡ [] → is_clean (window_of s [] None []) ≡ true → is_clear s ≡ true
  clean_clear s jobs clean =
      let parts = both (is_empty s.pending) (is_empty s.lossy || (false || false)) (rw jobs at clean) in
      rest_clear s jobs parts.0 (none s.wide s.high (has s.lossy) (λ x y inside. no_point s.lossy x y (exact (is_empty s.lossy) parts.1)))
    where
      exact : (b : Bool) → (b || (false || false)) ≡ true → b ≡ true
      exact true is = refl
      exact false is = absurd (cc is)

  -- the model's answer at the end of a run
  last_says : (s : SourceSeen) → s.jobs ≡ [] → (is_clear s ≡ true) ⊎ ((s.mapped ≡ true) × (last_capture_answer 1 (window_of s [] None []) ≡ Allowed))
  last_says s jobs = by_mark s.mapped refl
    where
      by_clean : s.mapped ≡ true → (b : Bool) → is_clean (window_of s [] None []) ≡ b → (is_clear s ≡ true) ⊎ ((s.mapped ≡ true) × (last_capture_answer 1 (window_of s [] None []) ≡ Allowed))
      by_clean mapped true clean = inl (clean_clear s jobs clean)
      by_clean mapped false clean = inr (mapped, rw (mapped, clean) refl)

      by_mark : (b : Bool) → s.mapped ≡ b → (is_clear s ≡ true) ⊎ ((s.mapped ≡ true) × (last_capture_answer 1 (window_of s [] None []) ≡ Allowed))
      by_mark true mapped = by_clean mapped (is_clean (window_of s [] None [])) refl
      by_mark false mapped = inl (unmapped_clear s mapped)

  refused_clear : (s : SourceSeen) (caught : Caught) (a : CaptureAnswer) → s.jobs ≡ [] → told caught ≡ Some a → (Allowed ≡ a → ⊥) → IfSome (told caught) (λ a. last_capture_answer 1 (window_of s [] None []) ≡ a) → is_clear s ≡ true
  refused_clear s caught a jobs says other answer = go (last_says s jobs)
    where
      is : last_capture_answer 1 (window_of s [] None []) ≡ a
      is = subst (λ (o : Option CaptureAnswer). IfSome o (λ a. last_capture_answer 1 (window_of s [] None []) ≡ a)) says answer

      go : (is_clear s ≡ true) ⊎ ((s.mapped ≡ true) × (last_capture_answer 1 (window_of s [] None []) ≡ Allowed)) → is_clear s ≡ true
      go (inl clear) = clear
      go (inr allowed) = absurd (other (sym allowed.1 ∙ is))

  -- jobs given back where there is none
  given_back_empty : (now : ℕ) (s : SourceSeen) → is_drawn s ≡ true → is_empty (after (quiet (GivingBack now)) s).pending ≡ true
  given_back_empty now s drawn =
      let parts = both (length s.jobs == 0) (is_empty s.pending) drawn in
      none s.wide s.high (λ x y. has s.pending x y || jobs_relieve s.jobs x y) (λ x y inside. rw (no_point s.pending x y parts.1, none_of s.jobs parts.0) refl)

-- ---- the results of a capture

module _ (finds : KeyedFinds SourceSeen) (k now : ℕ) (pixels : List ℕ) (conn wid : ℕ) where
  -- where each of these jobs' results was filed, the window is that of the model after all of them
  record FilesAs (jobs : List Job) (c' : ClientSeen) (w : Delivery) : Type 0 where
    source : SourceSeen
    packets : List Packet
    found : find_source c'.seen.sources k ≡ Some source
    model : window_of source pixels None packets ≡ file_all now (results_of jobs) w

  filed_as : (jobs : List Job) (c c' : ClientSeen) (s : SourceSeen) (packets : List Packet) → find_source c.seen.sources k ≡ Some s → FilesThrough k now (map (carrying conn wid) jobs) c c'
      → FilesAs jobs c' (window_of s pixels None packets)
  filed_as [] c c' s packets found same = record { source = s; packets = packets; found = ap (λ (d : ClientSeen). find_source d.seen.sources k) same ∙ found; model = refl }
  filed_as (j ∷ jobs) c c' s packets found files =
      let by = subst (λ (o : Option SourceSeen). FilesWhere o k now c (finished (carrying conn wid j)) F.Filed files.0) found files.1 in
      let here : find_source files.0.seen.sources k ≡ Some by.source = ap (λ (d : ClientSeen). find_source d.seen.sources k) by.client ∙ with_found finds c k s by.source by.out found by.gives.1.wid_stays in
      let rest = filed_as jobs files.0 c' by.source _ here files.2 in
      record {
        source = rest.source;
        packets = rest.packets;
        found = rest.found;
        model = rest.model ∙ ap (λ (w : Delivery). file_all now (results_of jobs) w) (by.gives.1.event pixels None packets);
      }

module _ (finds : KeyedFinds SourceSeen) (none : NoneIsEmpty) (drawn : OrderedResultsDrawOut) (now : ℕ) (window : Window) (c : ClientSeen) (waits : c.seen.out.packets ≡ []) where
  abbrev back : SourceSeen → SourceSeen
  back s = after (quiet (GivingBack now)) s

  light : (s : SourceSeen) → is_busy s.wid c.seen.out.packets ≡ false
  light s = ap (λ (packets : List Queued). is_busy s.wid packets) waits

  found_back : (s : SourceSeen) → find_source c.seen.sources window.wid ≡ Some s → find_source (recalled window.wid now c).seen.sources window.wid ≡ Some (back s)
  found_back s found = recalled_found finds window.wid now c ∙ ap (option_map back) found

  none_back : find_source c.seen.sources window.wid ≡ None → find_source (recalled window.wid now c).seen.sources window.wid ≡ None
  none_back found = recalled_found finds window.wid now c ∙ ap (option_map back) found

  -- its jobs and their results
  drawn_nearer : (s s' : SourceSeen) → s.mapped ≡ true → s'.jobs ≡ [] → is_empty s'.pending ≡ true → (is_drawn s ≡ true → is_empty (points s'.wide s'.high (has s'.lossy)) ≡ true) → captures_left s' ≤ captures_left s - 1
  drawn_nearer s s' mapped jobs pending exact = go (is_drawn s) refl
    where
      go : (b : Bool) → is_drawn s ≡ b → captures_left s' ≤ captures_left s - 1
      go true is = clear_none s' (captures_left s - 1) (rest_clear s' jobs pending (exact is))
      go false is = let two = pending_two s mapped is in let one = drawn_one s' (rw (jobs, pending) refl) in omega (arith, two, one)

  pub jobs_nearer : (jobs : List EncodingJob) (c2 c3 : ClientSeen) → ClientCaptures M.Last now 1 window (recalled window.wid now c) (Some (C.Jobs jobs)) c2 → FilesThrough window.wid now jobs c2 c3
      → IsNearerIn (find_source c.seen.sources window.wid) (find_source c3.seen.sources window.wid)
  jobs_nearer jobs c2 c3 captures files = go (find_source c.seen.sources window.wid) refl
    where
      by_source : (s : SourceSeen) → find_source c.seen.sources window.wid ≡ Some s → CapturesBy M.Last now 1 window (back s) (recalled window.wid now c) (C.Jobs jobs) c2
          → IsNearerIn (Some s) (find_source c3.seen.sources window.wid)
      by_source s found by =
          let takes = by.gives.takes in
          let w : Delivery = window_of (back s) window.pixels None [] in
          let js : List Job = jobs_of w.desk (region_taken w) 1 takes.plan in
          let here : find_source c2.seen.sources window.wid ≡ Some by.source = ap (λ (d : ClientSeen). find_source d.seen.sources window.wid) by.client
          ∙ with_found finds (recalled window.wid now c) window.wid (back s) by.source c.seen.out (found_back s found) (ap (λ (t : SourceSeen). t.wid) takes.after) in
          let through : FilesThrough window.wid now (map (carrying s.conn s.wid) js) c2 c3 = subst (λ (l : List EncodingJob). FilesThrough window.wid now l c2 c3) takes.made files in
          let ends = filed_as finds window.wid now window.pixels s.conn s.wid js c2 c3 by.source [] here through in
          let model : window_of ends.source window.pixels None ends.packets ≡ file_all now (results_of js) (captured takes.plan 1 w) =
          ends.model ∙ ap (λ (t : SourceSeen). file_all now (results_of js) (window_of t window.pixels None [])) takes.after in
          let out : IsDrawnOut w (file_all now (results_of js) (captured takes.plan 1 w)) = drawn takes.plan 1 now w refl takes.planned in
          let mapped : s.mapped ≡ true = is_mapped s (by.answer [] (sym (light (back s)))) in
          subst (λ (o : Option SourceSeen). IsNearerIn (Some s) o) (sym ends.found) (drawn_nearer s ends.source mapped
          (ap (λ (v : Delivery). v.jobs) model ∙ out.drawn) (ap (λ (v : Delivery). is_empty v.pending) model ∙ out.taken)
          (λ is. ap (λ (v : Delivery). is_empty (points v.desk.wide v.desk.high (has v.lossy))) model ∙ out.exact (given_back_empty none now s is)))
        where
          is_mapped : (s : SourceSeen) → last_capture_answer 1 (window_of (back s) [] None []) ≡ Allowed → s.mapped ≡ true
          is_mapped s answer = by_mark s.mapped refl
            where
              by_mark : (b : Bool) → s.mapped ≡ b → s.mapped ≡ true
              by_mark true is = is
              by_mark false is = let not_mapped : Unmapped ≡ Allowed = rw is at answer in absurd (cc not_mapped)

      go : (o : Option SourceSeen) → find_source c.seen.sources window.wid ≡ o → IsNearerIn o (find_source c3.seen.sources window.wid)
      go None found = absurd (subst (λ (o : Option SourceSeen). CapturesWhere o M.Last now 1 window (recalled window.wid now c) (Some (C.Jobs jobs)) c2) (none_back found) captures)
      go (Some s) found = by_source s found (subst (λ (o : Option SourceSeen). CapturesWhere o M.Last now 1 window (recalled window.wid now c) (Some (C.Jobs jobs)) c2) (found_back s found) captures)

  -- what was refused for another cause than memory left nothing to be drawn
  pub refused_nearer : (answer : Option Caught) (c2 : ClientSeen) → ClientCaptures M.Last now 1 window (recalled window.wid now c) answer c2 → is_made answer ≡ false → is_short answer ≡ false
      → IsNearerIn (find_source c.seen.sources window.wid) (find_source c2.seen.sources window.wid)
  refused_nearer answer c2 captures made short = go (find_source c.seen.sources window.wid) refl
    where
      clear : (s : SourceSeen) (caught : Caught) → CapturesBy M.Last now 1 window (back s) (recalled window.wid now c) caught c2 → is_made (Some caught) ≡ false → is_short (Some caught) ≡ false → is_clear (back s) ≡ true
      clear s (C.Jobs jobs) by made short = absurd (cc made)
      clear s C.Unmapped by made short = refused_clear none (back s) C.Unmapped Unmapped refl refl (λ is. absurd (cc is)) (by.answer [] (sym (light (back s))))
      clear s C.Clean by made short = refused_clear none (back s) C.Clean Clean refl refl (λ is. absurd (cc is)) (by.answer [] (sym (light (back s))))
      clear s (C.Early t) by made short = refused_clear none (back s) (C.Early t) (Early t) refl refl (λ is. absurd (cc is)) (by.answer [] (sym (light (back s))))
      clear s (C.Congested n) by made short = refused_clear none (back s) (C.Congested n) (Congested n) refl refl (λ is. absurd (cc is)) (by.answer [] (sym (light (back s))))
      clear s (C.Heavy n) by made short = refused_clear none (back s) (C.Heavy n) (Heavy n) refl refl (λ is. absurd (cc is)) (by.answer [] (sym (light (back s))))
      clear s C.Spent by made short = refused_clear none (back s) C.Spent Spent refl refl (λ is. absurd (cc is)) (by.answer [] (sym (light (back s))))
      clear s C.NoMemory by made short = absurd (cc short)

      by_answer : (s : SourceSeen) (answer : Option Caught) → find_source c.seen.sources window.wid ≡ Some s → CapturesWhere (Some (back s)) M.Last now 1 window (recalled window.wid now c) answer c2
          → is_made answer ≡ false → is_short answer ≡ false → IsNearerIn (Some s) (find_source c2.seen.sources window.wid)
      by_answer s None found by made short = absurd by
      by_answer s (Some caught) found by made short =
          let stays : by.source ≡ back s = refused_source c.caps.lossy 1 (is_busy s.wid c.seen.out.packets) window.pixels (back s) by.source caught by.gives made in
          let here : find_source c2.seen.sources window.wid ≡ Some (back s) = ap (λ (d : ClientSeen). find_source d.seen.sources window.wid) by.client
          ∙ with_found finds (recalled window.wid now c) window.wid (back s) by.source c.seen.out (found_back s found) (ap (λ (t : SourceSeen). t.wid) stays) ∙ ap (λ (t : SourceSeen). Some t) stays in
          subst (λ (o : Option SourceSeen). IsNearerIn (Some s) o) (sym here) (clear_none (back s) (captures_left s - 1) (clear s caught by made short))

      by_none : (answer : Option Caught) → find_source c.seen.sources window.wid ≡ None → CapturesWhere None M.Last now 1 window (recalled window.wid now c) answer c2 → IsNearerIn None (find_source c2.seen.sources window.wid)
      by_none None found by = subst (λ (o : Option SourceSeen). IsNearerIn None o) (sym (ap (λ (d : ClientSeen). find_source d.seen.sources window.wid) by ∙ none_back found)) tt
      by_none (Some caught) found by = absurd by

      go : (o : Option SourceSeen) → find_source c.seen.sources window.wid ≡ o → IsNearerIn o (find_source c2.seen.sources window.wid)
      go None found = by_none answer found (subst (λ (o : Option SourceSeen). CapturesWhere o M.Last now 1 window (recalled window.wid now c) answer c2) (none_back found) captures)
      go (Some s) found = by_answer s answer found (subst (λ (o : Option SourceSeen). CapturesWhere o M.Last now 1 window (recalled window.wid now c) answer c2) (found_back s found) captures) made short
