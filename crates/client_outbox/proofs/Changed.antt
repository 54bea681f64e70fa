-- What a change of reliefs alone keeps.
use Rattle.std.proofs.Common.{◌≡◌, ℕ, ◌+◌, ◌<◌, ◌≤◌, Bool, true, false, List, [], ◌∷◌, ◌++◌, length, take, drop, get_or, refl, sym, ◌∙◌, ap, arith}
use Rattle.std.proofs.Common.{set, append_assoc}
use Rattle.std.proofs.lemmas.List.{append-nil, length-set, drop-set-lt, take_all, take_more, take_more_set, drop_more, drop_all}
use Rattle.std.proofs.lemmas.Bool.Decides.{nat_tests}
use Rattle.xp_base.specs.Points.{is_in, is_within}
use Rattle.client_outbox.specs.Outgoing.{WaitingPacket, IsPacket, all_bytes, IsBegun, AllFit, IsOutbox}
use Rattle.rect_regions.specs.PointSets.{SamePoints, shared}
use Rattle.client_outbox.specs.Reliefs.{ClippedTo, draws_in, reliefs_of, put_in, left_by, with_reliefs, EachBecomes, PacketChanges, ReliefsChange}

module _ {R : Type 0} (Becomes : R → R → Type 0) (wid : ℕ) where
  packet_kept : (p q : WaitingPacket R) → PacketChanges Becomes wid p q → IsPacket p → IsPacket q
  packet_kept p q change packet = rw change.kept (record { some = packet.some; named = packet.named })

  pub all_bytes_kept : (old new : List (WaitingPacket R)) → ReliefsChange Becomes wid old new → all_bytes new ≡ all_bytes old
  all_bytes_kept [] [] change = refl
  all_bytes_kept [] (q ∷ new) change = absurd change
  all_bytes_kept (p ∷ old) [] change = absurd change
  all_bytes_kept (p ∷ old) (q ∷ new) change =
      let bytes : q.bytes ≡ p.bytes = ap (λ (p : WaitingPacket R). p.bytes) change.0.kept in
      let rest = all_bytes_kept old new change.1 in
      cc

  fit_kept : (old new : List (WaitingPacket R)) → ReliefsChange Becomes wid old new → AllFit old → AllFit new
  fit_kept [] [] change fit = tt
  fit_kept [] (q ∷ new) change fit = absurd change
  fit_kept (p ∷ old) [] change fit = absurd change
  fit_kept (p ∷ old) (q ∷ new) change fit =
      let bytes : length q.bytes ≡ length p.bytes = ap (λ (p : WaitingPacket R). length p.bytes) change.0.kept in
      (packet_kept p q change.0 fit.0, rw bytes fit.1, fit_kept old new change.1 fit.2)

  begun_kept : (old new : List (WaitingPacket R)) (taken : ℕ) → ReliefsChange Becomes wid old new → IsBegun old taken → IsBegun new taken
  begun_kept [] [] taken change begun = begun
  begun_kept [] (q ∷ new) taken change begun = absurd change
  begun_kept (p ∷ old) [] taken change begun = absurd change
  begun_kept (p ∷ old) (q ∷ new) taken change begun =
      let bytes : length q.bytes ≡ length p.bytes = ap (λ (p : WaitingPacket R). length p.bytes) change.0.kept in
      rw bytes begun

  pub outbox_kept : (old new : List (WaitingPacket R)) (taken weight : ℕ) → ReliefsChange Becomes wid old new → IsOutbox old taken weight → IsOutbox new taken weight
  outbox_kept old new taken weight change kept = record {
    begun = begun_kept old new taken change kept.begun;
    fit = fit_kept old new change kept.fit;
    weighed = rw (all_bytes_kept old new change) kept.weighed;
  }

  -- one packet more is changed
  pub change_more : (old new : List (WaitingPacket R)) (p q : WaitingPacket R) → ReliefsChange Becomes wid old new → PacketChanges Becomes wid p q → ReliefsChange Becomes wid (old ++ p ∷ []) (new ++ q ∷ [])
  change_more [] [] p q change one = (one, tt)
  change_more [] (b ∷ new) p q change one = absurd change
  change_more (a ∷ old) [] p q change one = absurd change
  change_more (a ∷ old) (b ∷ new) p q change one = (change.0, change_more old new p q change.1 one)

  -- one set more became such a one
  pub becomes_more : (old new : List R) (r q : R) → EachBecomes Becomes old new → Becomes r q → EachBecomes Becomes (old ++ r ∷ []) (new ++ q ∷ [])
  becomes_more [] [] r q each one = (one, tt)
  becomes_more [] (b ∷ new) r q each one = absurd each
  becomes_more (a ∷ old) [] r q each one = absurd each
  becomes_more (a ∷ old) (b ∷ new) r q each one = (each.0, becomes_more old new r q each.1 one)

module _ {R : Type 0} (wid : ℕ) where
  pub reliefs_with : (packets : List (WaitingPacket R)) (p : WaitingPacket R) → reliefs_of wid (packets ++ p ∷ []) ≡ reliefs_of wid packets ++ reliefs_of wid (p ∷ [])
  reliefs_with [] p = refl
  reliefs_with (q ∷ packets) p = grind (arith, reliefs_with packets p)

  put_in_kept : (p : WaitingPacket R) (reliefs : List R) → PacketChanges (λ old new. Unit {0}) wid p (put_in wid p reliefs)
  put_in_kept p [] = record { kept = grind arith; changed = λ h. tt; others = λ h. grind arith }
  put_in_kept p (r ∷ reliefs) = record { kept = grind arith; changed = λ h. tt; others = λ h. grind arith }

  pub put_all_kept : (packets : List (WaitingPacket R)) (reliefs : List R) → ReliefsChange (λ old new. Unit {0}) wid packets (with_reliefs wid packets reliefs)
  put_all_kept [] reliefs = tt
  put_all_kept (p ∷ packets) reliefs = (put_in_kept p reliefs, put_all_kept packets (left_by wid p reliefs))

module _ {R : Type 0} where
  -- a loop over the places: those before i are changed, and those from i on are as they were
  pub record IsPart (old now : List (WaitingPacket R)) (i : ℕ) : Type 0 where
    pub sized : length now ≡ length old
    pub rest : drop i now ≡ drop i old

  -- what stands at place i, and what stands behind it
  record Stands (old now : List (WaitingPacket R)) (i : ℕ) (p : WaitingPacket R) : Type 0 where
    before : take (i + 1) old ≡ take i old ++ p ∷ []
    behind : drop i old ≡ p ∷ drop (i + 1) old
    rest : drop (i + 1) now ≡ drop (i + 1) old

  stands_at : (old now : List (WaitingPacket R)) (i : ℕ) (p : WaitingPacket R) → i < length old → IsPart old now i → p ≡ get_or now i p → Stands old now i p
  stands_at old now i p within part read =
      let there : i < length now = rw part.sized within in
      let ours = drop_more now i p there in
      let theirs = drop_more old i p within in
      let more = take_more old i p within in
      let same : get_or old i p ≡ p = cc (ours, theirs, part.rest, read) in
      record {
        before = rw same at more;
        behind = rw same at theirs;
        rest = cc (ours, theirs, part.rest);
      }

  pub part_step : (old now : List (WaitingPacket R)) (i : ℕ) (p q : WaitingPacket R) → i < length old → IsPart old now i → p ≡ get_or now i p → IsPart old (set now i q) (i + 1)
  part_step old now i p q within part read = record {
    sized = length-set now i q ∙ part.sized;
    rest = drop-set-lt (i + 1) now i q (omega arith) ∙ (stands_at old now i p within part read).rest;
  }

  pub change_step : (Becomes : R → R → Type 0) (wid : ℕ) (old now : List (WaitingPacket R)) (i : ℕ) (p q : WaitingPacket R) → i < length old → IsPart old now i → p ≡ get_or now i p → ReliefsChange Becomes wid (take i old) (take i now) → PacketChanges Becomes wid p q → ReliefsChange Becomes wid (take (i + 1) old) (take (i + 1) (set now i q))
  change_step Becomes wid old now i p q within part read change one =
      let there : i < length now = rw part.sized within in
      let before = (stands_at old now i p within part read).before in
      rw (before, take_more_set now i q there) (change_more Becomes wid _ _ p q change one)

  pub put_step : (wid : ℕ) (old now : List (WaitingPacket R)) (i : ℕ) (p : WaitingPacket R) (all reliefs : List R) → i < length old → IsPart old now i → p ≡ get_or now i p → with_reliefs wid old all ≡ take i now ++ with_reliefs wid (drop i old) reliefs
      → with_reliefs wid old all ≡ take (i + 1) (set now i (put_in wid p reliefs)) ++ with_reliefs wid (drop (i + 1) old) (left_by wid p reliefs)
  put_step wid old now i p all reliefs within part read together =
      let there : i < length now = rw part.sized within in
      let split = (stands_at old now i p within part read).behind in
      let whole : with_reliefs wid (drop i old) reliefs ≡ put_in wid p reliefs ∷ with_reliefs wid (drop (i + 1) old) (left_by wid p reliefs) = ap (λ (l : List (WaitingPacket R)). with_reliefs wid l reliefs) split in
      rw (take_more_set now i (put_in wid p reliefs) there, append_assoc) (together ∙ ap (λ (l : List (WaitingPacket R)). take i now ++ l) whole)

  pub change_end : (Becomes : R → R → Type 0) (wid : ℕ) (old now : List (WaitingPacket R)) (i : ℕ) → length old ≤ i → IsPart old now i → ReliefsChange Becomes wid (take i old) (take i now) → ReliefsChange Becomes wid old now
  change_end Becomes wid old now i whole part change =
      let there : length now ≤ i = rw part.sized whole in
      let all_old = take_all i old whole in
      let all_now = take_all i now there in
      rw (all_old, all_now) at change

  pub put_end : (wid : ℕ) (old now : List (WaitingPacket R)) (i : ℕ) (all reliefs : List R) → length old ≤ i → IsPart old now i → with_reliefs wid old all ≡ take i now ++ with_reliefs wid (drop i old) reliefs → now ≡ with_reliefs wid old all
  put_end wid old now i all reliefs whole part together =
      let there : length now ≤ i = rw part.sized whole in
      let none = drop_all i old whole in
      let all_now = take_all i now there in
      sym (rw (none, all_now, append-nil) at together)

  pub clip_step : (Becomes : R → R → Type 0) (wid : ℕ) (packets : List (WaitingPacket R)) (i : ℕ) (p : WaitingPacket R) (clips : List R) (c : R) → i < length packets → p ≡ get_or packets i p → draws_in wid p ≡ true → Becomes p.relief c
      → EachBecomes Becomes (reliefs_of wid (take i packets)) clips → EachBecomes Becomes (reliefs_of wid (take (i + 1) packets)) (clips ++ c ∷ [])
  clip_step Becomes wid packets i p clips c within read ours one each =
      let same : get_or packets i p ≡ p = sym read in
      let more : take (i + 1) packets ≡ take i packets ++ p ∷ [] = rw same at (take_more packets i p within) in
      let here : reliefs_of wid (p ∷ []) ≡ p.relief ∷ [] = grind arith in
      rw (more, reliefs_with wid (take i packets) p, here) (becomes_more Becomes wid _ _ p.relief c each one)

  pub skip_step : (Becomes : R → R → Type 0) (wid : ℕ) (packets : List (WaitingPacket R)) (i : ℕ) (p : WaitingPacket R) (clips : List R) → i < length packets → p ≡ get_or packets i p → draws_in wid p ≡ false
      → EachBecomes Becomes (reliefs_of wid (take i packets)) clips → EachBecomes Becomes (reliefs_of wid (take (i + 1) packets)) clips
  skip_step Becomes wid packets i p clips within read others each =
      let same : get_or packets i p ≡ p = sym read in
      let more : take (i + 1) packets ≡ take i packets ++ p ∷ [] = rw same at (take_more packets i p within) in
      let here : reliefs_of wid (p ∷ []) ≡ [] = grind arith in
      rw (more, reliefs_with wid (take i packets) p, here, append-nil) each

-- the rectangle of a size has the points within the size
pub whole_is_size : (w h x y : ℕ) → is_in (record { x = 0; y = 0; w = w; h = h }) x y ≡ is_within w h x y
whole_is_size w h x y = grind (arith, nat_tests)

-- a set's part in the rectangle of a size is the set clipped to the size
pub clipped_to : {R : Type 0} (has : R → ℕ → ℕ → Bool) (w h : ℕ) (r s c : R) → r ≡ s → SamePoints (has c) (shared (has r) (is_in (record { x = 0; y = 0; w = w; h = h }))) → ClippedTo has w h s c
clipped_to has w h r s c same part x y = rw (← same, ← whole_is_size w h x y) (part x y)
