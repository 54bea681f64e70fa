-- How each step of an attached client changes what it is owed.
use Rattle.std.proofs.Common.{◌≡◌, ◌≢◌, ◌⊎◌, inl, inr, ℕ, ◌<◌, Bool, true, false, ◌&&◌, ◌||◌, List, [], ◌∷◌, ◌++◌, Option, Some, None, map, drop, cond, eqb, refl, sym, ap, ◌∙◌, subst, arith}
use Rattle.std.specs.Prelude.{ℤ, not, is_some, AllPairs}
use Rattle.std.specs.Option.{option_map}
use Rattle.std.specs.List.{AllByRecursion, list_any}
use Rattle.std.proofs.lemmas.Bool.{eqb-true, false≢true, cond-true, cond-false}
use Rattle.std.proofs.lemmas.Bool.Decides.{nat_tests}
use Rattle.std.proofs.lemmas.List.Folds.{list_any-append}
use Rattle.xp_base.specs.Captures.{Captured}
use Rattle.xp_base.specs.Keyed.{keyed_change}
use Rattle.xp_base.specs.KeyedLaws.{KeyedFinds}
use Rattle.xp_base.specs.Points.{Rectangle, is_in, is_within, survives, whole}
use Rattle.rect_regions.specs.PointSets.{has as has_point}
use Rattle.window_model.specs.Desktop.{Window, IsDesktop, find_window, fresh_window}
use Rattle.delivery_model.specs.Grids.{Grid, has, points}
use Rattle.delivery_model.specs.Window.{Job, Window as Delivery, Packet, Sent}
use Rattle.delivery_model.specs.Events.{Capture, File, changed, captured, filed, damaged, resized, jobs_relieve, rect_sent}
use Rattle.delivery_model.specs.Owed.{is_owed, owes as model_owes}
use Rattle.delivery_model.specs.Laws.{EventsChangeOwed, PointsHave}
use Rattle.packet_kinds.specs.declared.to_client.ToClient.{ToClient}
use Rattle.packet_kinds.specs.declared.to_client.ToClient.TheVariants as T
use Rattle.client_outbox.specs.Outgoing.{Outgoing}
use Rattle.client_outbox.specs.Reliefs.{is_named, draws_in, relieve, Emptied, ClippedTo, ReliefsChange}
use Rattle.window_source.specs.Source.{SourceSeen, window_of, source_of, after}
use Rattle.window_source.specs.Waiting.{Queued, Waiting, Carries, says_to, waits_on, lossy_shows}
use Rattle.client_delivery.specs.Attached.{AttachedSeen, source_key, find_source, grid_of, started_source}
use Rattle.client_delivery.specs.Delivered.{packets_of, is_draw, delivery, IsTold}
use Rattle.client_delivery.specs.Owed.{source_owes, owes_in, owes}
use Rattle.client_delivery.specs.Steps.{structure, Puts, announces, Quiet, Mapping, Unmapping, GivingBack, Acknowledging, Refreshing, quiet, changes_source, Opens, Closes, Resizes, PutsAlone, writes}
use Rattle.client_delivery.specs.Owing.{is_in_source, has_place, PaintOwes, OpenOwes, CloseOwes, owed_resized, ResizeOwes, PutOwes, is_acknowledged_late, unacknowledged_of, quiet_owes, QuietOwes, front_relieves, owes_behind, WholeWriteOwes}
use Rattle.client_delivery.proofs.Parts.{unnamed, own}

pub or_false : (b : Bool) → (b || false) ≡ b
or_false true = refl
or_false false = refl

and_true : (b : Bool) → (b && true) ≡ b
and_true true = refl
and_true false = refl

and_false : (b : Bool) → (b && false) ≡ false
and_false true = refl
and_false false = refl

-- what a rectangle more makes of what is owed: in the window, pending, in a job's relief, in a draw's, lossy, in the rectangle
rectangle_more : (w p j r l i : Bool) → (w && (((w && (p || i)) || j) || (r || l))) ≡ ((w && ((p || j) || (r || l))) || (w && i))
rectangle_more false p j r l i = refl
rectangle_more true true j r l i = refl
rectangle_more true false true r l i = go i
  where
    go : (i : Bool) → ((i || true) || (r || l)) ≡ true
    go true = refl
    go false = refl
rectangle_more true false false true l true = refl
rectangle_more true false false true l false = refl
rectangle_more true false false false true true = refl
rectangle_more true false false false true false = refl
rectangle_more true false false false false true = refl
rectangle_more true false false false false false = refl

-- reliefs of jobs that become pending
jobs_back : (w p j r l : Bool) → (w && (((w && (p || j)) || false) || (r || l))) ≡ ((w && ((p || j) || (r || l))) || false)
jobs_back false p j r l = refl
jobs_back true p j r l = ap (λ b. b || (r || l)) (or_false (p || j)) ∙ sym (or_false ((p || j) || (r || l)))

-- a resize: in the old window and in the new one
resize_more : (o n p j r l : Bool) → (n && (((n && (not (o && n) || (p || j))) || false) || ((r && n) || (n && (l && (o && n)))))) ≡ (n && ((o && ((p || j) || (r || l))) || not o))
resize_more o false p j r l = refl
resize_more false true p j r l = refl
resize_more true true p j r l = ap (λ b. b || ((r && true) || (l && true))) (or_false (p || j)) ∙ ap (λ b. (p || j) || b) (ap (λ b. b || (l && true)) (and_true r) ∙ ap (λ b. r || b) (and_true l)) ∙ sym (or_false ((p || j) || (r || l)))

-- a window that begins
pub all_begins : (w r l : Bool) → (w && (((w && true) || false) || (r || l))) ≡ w
all_begins false r l = refl
all_begins true r l = refl

-- a packet that is no draw relieves nothing
put_relieves : (k : ℕ) (o o' : Outgoing (List Rectangle)) (m : ToClient) (x y : ℕ) → is_draw m ≡ false → Puts m o o' → relieve has_point k o'.packets x y ≡ relieve has_point k o.packets x y
put_relieves k o o' m x y plain put =
    ap (λ (q : Outgoing (List Rectangle)). relieve has_point k q.packets x y) put.put
    ∙ list_any-append (λ (p : Queued). draws_in k p && has_point p.relief x y) o.packets (put.packet ∷ [])
    ∙ ap (λ (w : Option ℕ). relieve has_point k o.packets x y || ((is_named w k && has_point put.packet.relief x y) || false)) (unnamed put.packet.wid put.packet.draw [] m plain put.carries.draw)
    ∙ or_false (relieve has_point k o.packets x y)

relieves_elsewhere : (Becomes : List Rectangle → List Rectangle → Type 0) (j k : ℕ) (old new : List Queued) (x y : ℕ) → eqb k j ≡ false → ReliefsChange Becomes j old new → relieve has_point k new x y ≡ relieve has_point k old x y
relieves_elsewhere Becomes j k [] [] x y other change = refl
relieves_elsewhere Becomes j k [] (q ∷ new) x y other change = absurd change
relieves_elsewhere Becomes j k (p ∷ old) [] x y other change = absurd change
relieves_elsewhere Becomes j k (p ∷ old) (q ∷ new) x y other change =
    ap (λ b. b || relieve has_point k new x y) (one p.wid refl (draws_in j p) refl)
    ∙ ap (λ b. (draws_in k p && has_point p.relief x y) || b) (relieves_elsewhere Becomes j k old new x y other change.1)
  where
    one : (o : Option ℕ) → p.wid ≡ o → (b : Bool) → draws_in j p ≡ b → (draws_in k q && has_point q.relief x y) ≡ (draws_in k p && has_point p.relief x y)
    one o is false none = ap (λ (r : Queued). draws_in k r && has_point r.relief x y) (change.0.others none)
    one None is true here = absurd (let e = sym (ap (λ (v : Option ℕ). is_named v j) is) ∙ here in cc e)
    one (Some i) is true here =
        let named : eqb i j ≡ true = sym (ap (λ (v : Option ℕ). is_named v j) is) ∙ here in
        let apart : eqb i k ≡ false = grind (arith, nat_tests, named, other) in
        let old_none : draws_in k p ≡ false = ap (λ (v : Option ℕ). is_named v k) is ∙ apart in
        let new_none : draws_in k q ≡ false = ap (λ (r : Queued). is_named r.wid k) change.0.kept ∙ old_none in
        ap (λ b. b && has_point q.relief x y) new_none ∙ sym (ap (λ b. b && has_point p.relief x y) old_none)

relieves_clipped : (w h k : ℕ) (old new : List Queued) (x y : ℕ) → ReliefsChange (ClippedTo has_point w h) k old new → relieve has_point k new x y ≡ (relieve has_point k old x y && is_within w h x y)
relieves_clipped w h k [] [] x y change = refl
relieves_clipped w h k [] (q ∷ new) x y change = absurd change
relieves_clipped w h k (p ∷ old) [] x y change = absurd change
relieves_clipped w h k (p ∷ old) (q ∷ new) x y change =
    ap (λ b. b || relieve has_point k new x y) (one (draws_in k p) refl)
    ∙ ap (λ b. ((draws_in k p && has_point p.relief x y) && is_within w h x y) || b) (relieves_clipped w h k old new x y change.1)
    ∙ spread (draws_in k p && has_point p.relief x y) (relieve has_point k old x y) (is_within w h x y)
  where
    spread : (a b c : Bool) → ((a && c) || (b && c)) ≡ ((a || b) && c)
    spread true true true = refl
    spread true true false = refl
    spread true false true = refl
    spread true false false = refl
    spread false b c = refl

    one : (b : Bool) → draws_in k p ≡ b → (draws_in k q && has_point q.relief x y) ≡ ((draws_in k p && has_point p.relief x y) && is_within w h x y)
    one true here = ap (λ (r : Queued). draws_in k r && has_point q.relief x y) change.0.kept ∙ ap (λ b. b && has_point q.relief x y) here ∙ change.0.changed here x y
        ∙ sym (ap (λ b. (b && has_point p.relief x y) && is_within w h x y) here)
    one false none = ap (λ (r : Queued). draws_in k r && has_point r.relief x y) (change.0.others none) ∙ ap (λ b. b && has_point p.relief x y) none ∙ sym (ap (λ b. (b && has_point p.relief x y) && is_within w h x y) none)

whole_rectangle : (w h x y : ℕ) → is_in (whole w h) x y ≡ is_within w h x y
whole_rectangle w h x y = grind (arith, nat_tests)

module _ (finds : KeyedFinds SourceSeen) (have : PointsHave) where
  found_after : (f : SourceSeen → SourceSeen) → ((s : SourceSeen) → (f s).wid ≡ s.wid) → (a : AttachedSeen) (wid k : ℕ)
      → find_source (keyed_change source_key a.sources wid f) k ≡ cond (eqb k wid) (option_map f (find_source a.sources k)) (find_source a.sources k)
  found_after f key a wid k = finds.changed source_key a.sources wid f k key

  -- a rectangle more
  damaged_owes : (s : SourceSeen) (r : Rectangle) (now : ℕ) (packets : List Queued) (x y : ℕ) → source_owes (after (damaged r now) s) packets x y ≡ (source_owes s packets x y || (is_within s.wide s.high x y && is_in r x y))
  damaged_owes s r now packets x y =
      ap (λ b. is_within s.wide s.high x y && ((b || jobs_relieve s.jobs x y) || (relieve has_point s.wid packets x y || has s.lossy x y))) (have s.wide s.high (λ i j. has s.pending i j || is_in r i j) x y)
      ∙ rectangle_more (is_within s.wide s.high x y) (has s.pending x y) (jobs_relieve s.jobs x y) (relieve has_point s.wid packets x y) (has s.lossy x y) (is_in r x y)

  pub paint_owes : PaintOwes
  paint_owes wid r now a k x y = ap (λ (o : Option SourceSeen). owes_in o a.out.packets x y) (found_after (after (damaged r now)) (λ s. refl) a wid k) ∙ go (eqb k wid) (find_source a.sources k)
    where
      go : (b : Bool) (o : Option SourceSeen) → owes_in (cond b (option_map (after (damaged r now)) o) o) a.out.packets x y ≡ (owes_in o a.out.packets x y || (b && (is_in_source o x y && is_in r x y)))
      go false o = sym (or_false (owes_in o a.out.packets x y))
      go true None = refl
      go true (Some s) = damaged_owes s r now a.out.packets x y

  given_back_owes : (s : SourceSeen) (packets : List Queued) (x y : ℕ)
      → (is_within s.wide s.high x y && ((has (points s.wide s.high (λ i j. has s.pending i j || jobs_relieve s.jobs i j)) x y || false) || (relieve has_point s.wid packets x y || has s.lossy x y))) ≡ (source_owes s packets x y || false)
  given_back_owes s packets x y =
      ap (λ b. is_within s.wide s.high x y && ((b || false) || (relieve has_point s.wid packets x y || has s.lossy x y))) (have s.wide s.high (λ i j. has s.pending i j || jobs_relieve s.jobs i j) x y)
      ∙ jobs_back (is_within s.wide s.high x y) (has s.pending x y) (jobs_relieve s.jobs x y) (relieve has_point s.wid packets x y) (has s.lossy x y)

  quiet_one : (q : Quiet) (s : SourceSeen) (a : AttachedSeen) (k x y : ℕ) → find_source a.sources k ≡ Some s → source_owes (after (quiet q) s) a.out.packets x y ≡ (source_owes s a.out.packets x y || quiet_owes q a k x y)
  quiet_one Mapping s a k x y found = sym (or_false (source_owes s a.out.packets x y))
  quiet_one (Unmapping now) s a k x y found = go s.mapped refl
    where
      go : (b : Bool) → s.mapped ≡ b → source_owes (after (quiet (Unmapping now)) s) a.out.packets x y ≡ (source_owes s a.out.packets x y || false)
      go true is = rw is (given_back_owes s a.out.packets x y)
      go false is = rw is (sym (or_false (source_owes s a.out.packets x y)))
  quiet_one (GivingBack now) s a k x y found = given_back_owes s a.out.packets x y
  quiet_one (Acknowledging number negative now) s a k x y found = rw found (go (rect_sent s.unacknowledged number) refl negative)
    where
      go : (o : Option Rectangle) → rect_sent s.unacknowledged number ≡ o → (late : Bool) → source_owes (after (quiet (Acknowledging number late now)) s) a.out.packets x y
          ≡ (source_owes s a.out.packets x y || (is_within s.wide s.high x y && is_acknowledged_late (rect_sent s.unacknowledged number) late x y))
      go None is late = rw is (sym (ap (λ b. source_owes s a.out.packets x y || b) (and_false (is_within s.wide s.high x y)) ∙ or_false (source_owes s a.out.packets x y)))
      go (Some r) is true = rw is (damaged_owes s r now a.out.packets x y)
      go (Some r) is false = rw is (sym (ap (λ b. source_owes s a.out.packets x y || b) (and_false (is_within s.wide s.high x y)) ∙ or_false (source_owes s a.out.packets x y)))
  quiet_one (Refreshing now) s a k x y found =
      damaged_owes s (whole s.wide s.high) now a.out.packets x y
      ∙ ap (λ b. source_owes s a.out.packets x y || (is_within s.wide s.high x y && b)) (whole_rectangle s.wide s.high x y)
      ∙ ap (λ b. source_owes s a.out.packets x y || b) (twice (is_within s.wide s.high x y) ∙ sym (ap (λ (o : Option SourceSeen). is_in_source o x y) found))
    where
      twice : (b : Bool) → (b && b) ≡ b
      twice true = refl
      twice false = refl

  pub quiet_owes_so : QuietOwes
  quiet_owes_so wid q a k x y = ap (λ (o : Option SourceSeen). owes_in o a.out.packets x y) (found_after (after (quiet q)) (λ s. refl) a wid k) ∙ go (eqb k wid) (find_source a.sources k) refl
    where
      none : (q : Quiet) → find_source a.sources k ≡ None → quiet_owes q a k x y ≡ false
      none Mapping is = refl
      none (Unmapping now) is = refl
      none (GivingBack now) is = refl
      none (Acknowledging number negative now) is = rw is refl
      none (Refreshing now) is = rw is refl

      go : (b : Bool) (o : Option SourceSeen) → find_source a.sources k ≡ o → owes_in (cond b (option_map (after (quiet q)) o) o) a.out.packets x y ≡ (owes_in (find_source a.sources k) a.out.packets x y || (b && quiet_owes q a k x y))
      go false o is = ap (λ (p : Option SourceSeen). owes_in p a.out.packets x y) (sym is) ∙ sym (or_false (owes_in (find_source a.sources k) a.out.packets x y))
      go true None is = sym (ap (λ (p : Option SourceSeen). owes_in p a.out.packets x y || quiet_owes q a k x y) is ∙ none q is)
      go true (Some s) is = quiet_one q s a k x y is ∙ ap (λ (p : Option SourceSeen). owes_in p a.out.packets x y || quiet_owes q a k x y) (sym is)

  pub put_owes : PutOwes
  put_owes m a a' k x y plain puts =
      ap (λ (ss : List SourceSeen). owes_in (find_source ss k) a'.out.packets x y) puts.sources ∙ go (find_source a.sources k)
    where
      go : (o : Option SourceSeen) → owes_in o a'.out.packets x y ≡ owes_in o a.out.packets x y
      go None = refl
      go (Some s) = ap (λ b. is_within s.wide s.high x y && ((has s.pending x y || jobs_relieve s.jobs x y) || (b || has s.lossy x y))) (put_relieves s.wid a.out a'.out m x y plain puts.put)

  pub close_owes : CloseOwes
  close_owes wid a a' k x y closes =
      ap (λ (ss : List SourceSeen). owes_in (find_source ss k) a'.out.packets x y) closes.sources
      ∙ ap (λ (o : Option SourceSeen). owes_in o a'.out.packets x y) (finds.removed source_key a.sources wid k) ∙ go (eqb k wid) refl (find_source a.sources k) refl
    where
      go : (b : Bool) → eqb k wid ≡ b → (o : Option SourceSeen) → find_source a.sources k ≡ o → owes_in (cond b None o) a'.out.packets x y ≡ (owes_in o a.out.packets x y && not b)
      go true is o found = sym (and_false (owes_in o a.out.packets x y))
      go false is None found = refl
      go false is (Some s) found =
          ap (λ b. is_within s.wide s.high x y && ((has s.pending x y || jobs_relieve s.jobs x y) || (b || has s.lossy x y)))
          (put_relieves s.wid closes.between a'.out (T.LostWindow wid) x y refl closes.put
          ∙ relieves_elsewhere (Emptied has_point) wid s.wid a.out.packets closes.between.packets x y (ap (λ i. eqb i wid) (finds.found source_key a.sources k s found) ∙ is) closes.reliefs)
          ∙ sym (and_true (source_owes s a.out.packets x y))

  pub open_owes : OpenOwes
  open_owes wid left top w h conn now a a' k x y missing opens =
      ap (λ (ss : List SourceSeen). owes_in (find_source ss k) a'.out.packets x y) opens.sources
      ∙ ap (λ (o : Option SourceSeen). owes_in o a'.out.packets x y) (finds.pushed source_key a.sources source k (ap is_some missing)) ∙ go (eqb k wid) refl (find_source a.sources k) refl
    where
      window : Window
      window = fresh_window wid left top w h

      source : SourceSeen
      source = started_source conn now window

      go : (b : Bool) → eqb k wid ≡ b → (o : Option SourceSeen) → find_source a.sources k ≡ o → owes_in (cond b (Some source) o) a'.out.packets x y ≡ (owes_in o a.out.packets x y || (b && is_within w h x y))
      go true is o found =
          ap (λ b. is_within w h x y && ((b || false) || (relieve has_point wid a'.out.packets x y || has source.lossy x y))) (have w h (λ i j. true) x y)
          ∙ all_begins (is_within w h x y) (relieve has_point wid a'.out.packets x y) (has source.lossy x y)
          ∙ sym (ap (λ (p : Option SourceSeen). owes_in p a.out.packets x y || is_within w h x y) (sym found ∙ ap (find_source a.sources) (eqb-true k wid is) ∙ missing))
      go false is None found = refl
      go false is (Some s) found =
          ap (λ b. is_within s.wide s.high x y && ((has s.pending x y || jobs_relieve s.jobs x y) || (b || has s.lossy x y))) (put_relieves s.wid a.out a'.out (announces window) x y refl opens.put)
          ∙ sym (or_false (source_owes s a.out.packets x y))

  pub resize_owes : ResizeOwes
  resize_owes wid w h now a a' s0 k x y there resizes =
      ap (λ (ss : List SourceSeen). owes_in (find_source ss k) a'.out.packets x y) resizes.sources
      ∙ ap (λ (o : Option SourceSeen). owes_in o a'.out.packets x y) (found_after (after (resized w h now)) (λ s. refl) a wid k) ∙ go (eqb k wid) refl (find_source a.sources k) refl
    where
      packets_then : (j : ℕ) → relieve has_point j a'.out.packets x y ≡ relieve has_point j resizes.between.packets x y
      packets_then j = put_relieves j resizes.between a'.out (T.WindowResized wid w h) x y refl resizes.put

      one : (s : SourceSeen) → s.wid ≡ wid → source_owes (after (resized w h now) s) a'.out.packets x y ≡ (is_within w h x y && (source_owes s a.out.packets x y || not (is_within s.wide s.high x y)))
      one s is =
          ap (λ b. is_within w h x y && ((b || false) || (relieve has_point s.wid a'.out.packets x y || has (after (resized w h now) s).lossy x y)))
          (have w h (λ i j. not (survives s.wide s.high w h i j) || (has s.pending i j || jobs_relieve s.jobs i j)) x y)
          ∙ ap (λ b. is_within w h x y && (((is_within w h x y && (not (survives s.wide s.high w h x y) || (has s.pending x y || jobs_relieve s.jobs x y))) || false) || (b || has (after (resized w h now) s).lossy x y)))
          (packets_then s.wid ∙ relieves_clipped w h s.wid a.out.packets resizes.between.packets x y (subst (λ i. ReliefsChange (ClippedTo has_point w h) i a.out.packets resizes.between.packets) (sym is) resizes.reliefs))
          ∙ ap (λ b. is_within w h x y && (((is_within w h x y && (not (survives s.wide s.high w h x y) || (has s.pending x y || jobs_relieve s.jobs x y))) || false) || ((relieve has_point s.wid a.out.packets x y && is_within w h x y) || b)))
          (have w h (λ i j. has s.lossy i j && survives s.wide s.high w h i j) x y)
          ∙ resize_more (is_within s.wide s.high x y) (is_within w h x y) (has s.pending x y) (jobs_relieve s.jobs x y) (relieve has_point s.wid a.out.packets x y) (has s.lossy x y)

      go : (b : Bool) → eqb k wid ≡ b → (o : Option SourceSeen) → find_source a.sources k ≡ o → owes_in (cond b (option_map (after (resized w h now)) o) o) a'.out.packets x y
          ≡ cond b (is_within w h x y && (owes_in (find_source a.sources k) a.out.packets x y || not (is_in_source (find_source a.sources k) x y))) (owes_in (find_source a.sources k) a.out.packets x y)
      go true is None found = absurd (let e = sym found ∙ ap (find_source a.sources) (eqb-true k wid is) ∙ there in cc e)
      go true is (Some s) found =
          one s (finds.found source_key a.sources k s found ∙ eqb-true k wid is)
          ∙ ap (λ (o : Option SourceSeen). is_within w h x y && (owes_in o a.out.packets x y || not (is_in_source o x y))) (sym found)
      go false is None found = ap (λ (o : Option SourceSeen). owes_in o a.out.packets x y) (sym found)
      go false is (Some s) found =
          ap (λ b. is_within s.wide s.high x y && ((has s.pending x y || jobs_relieve s.jobs x y) || (b || has s.lossy x y)))
          (packets_then s.wid ∙ relieves_elsewhere (ClippedTo has_point w h) wid s.wid a.out.packets resizes.between.packets x y (ap (λ i. eqb i wid) (finds.found source_key a.sources k s found) ∙ is) resizes.reliefs)
          ∙ ap (λ (o : Option SourceSeen). owes_in o a.out.packets x y) (sym found)

  pub whole_write_owes : WholeWriteOwes
  whole_write_owes a k x y = go (find_source a.sources k) refl a.out.packets
    where
      go : (o : Option SourceSeen) → find_source a.sources k ≡ o → (packets : List Queued) → owes_in o (drop 1 packets) x y ≡ cond (front_relieves packets k x y) (owes_behind o packets x y) (owes_in o packets x y)
      go None is packets = none (front_relieves packets k x y)
        where
          none : (b : Bool) → false ≡ cond b false false
          none true = refl
          none false = refl
      go (Some s) is [] = refl
      go (Some s) is (p ∷ packets) = one (draws_in k p && has_point p.relief x y) refl
        where
          one : (b : Bool) → (draws_in k p && has_point p.relief x y) ≡ b → source_owes s packets x y ≡ cond (draws_in k p && has_point p.relief x y) (source_owes s packets x y) (source_owes s (p ∷ packets) x y)
          one true relieved = sym (cond-true (draws_in k p && has_point p.relief x y) (source_owes s packets x y) (source_owes s (p ∷ packets) x y) relieved)
          one false free =
              ap (λ b. is_within s.wide s.high x y && ((has s.pending x y || jobs_relieve s.jobs x y) || ((b || relieve has_point s.wid packets x y) || has s.lossy x y)))
              (sym (ap (λ i. draws_in i p && has_point p.relief x y) (finds.found source_key a.sources k s is) ∙ free))
              ∙ sym (cond-false (draws_in k p && has_point p.relief x y) (source_owes s packets x y) (source_owes s (p ∷ packets) x y) free)
