-- What draws relieve, after a write and after a change of reliefs.
use Rattle.std.proofs.Common.{◌≡◌, ℕ, ◌≢◌, Bool, true, false, ◌&&◌, ◌||◌, Option, Some, None, List, [], ◌∷◌, refl, sym, ◌∙◌, ap, arith}
use mathlib.Core.Bool.{false≢true}
use Rattle.std.proofs.lemmas.Bool.Decides.{nat_tests}
use Rattle.xp_base.specs.Points.{is_within}
use Rattle.client_outbox.specs.Outgoing.{WaitingPacket}
use Rattle.client_outbox.specs.Reliefs.{is_named, draws_in, is_busy, relieve, reliefs_of, put_in, left_by, with_reliefs, Emptied, ClippedTo, EachBecomes, PacketChanges, ReliefsChange}
use Rattle.client_outbox.specs.Laws.{ReliefEnds, OnlyReliefs}
use Rattle.client_outbox.proofs.Changed.{all_bytes_kept}

pub relief_ends : {R : Type 0} (has : R → ℕ → ℕ → Bool) → ReliefEnds has
relief_ends has p packets taken n wid x y = record { part = λ part. grind (arith, nat_tests); whole = λ done. grind (arith, nat_tests) }

other_window : (o : Option ℕ) (wid v : ℕ) → is_named o wid ≡ true → v ≢ wid → is_named o v ≡ false
other_window None wid v named differ = absurd (false≢true named)
other_window (Some w) wid v named differ = grind (arith, nat_tests)

both_or : (a b k : Bool) → ((a && k) || (b && k)) ≡ ((a || b) && k)
both_or true true true = refl
both_or true true false = refl
both_or true false true = refl
both_or true false false = refl
both_or false b k = refl

module _ {R : Type 0} (has : R → ℕ → ℕ → Bool) (Becomes : R → R → Type 0) (wid : ℕ) where
  same_wid : (p q : WaitingPacket R) → PacketChanges Becomes wid p q → q.wid ≡ p.wid
  same_wid p q change = ap (λ (p : WaitingPacket R). p.wid) change.kept

  busy_kept : (old new : List (WaitingPacket R)) → ReliefsChange Becomes wid old new → (v : ℕ) → is_busy v new ≡ is_busy v old
  busy_kept [] [] change v = refl
  busy_kept [] (q ∷ new) change v = absurd change
  busy_kept (p ∷ old) [] change v = absurd change
  busy_kept (p ∷ old) (q ∷ new) change v =
      let wid_kept = same_wid p q change.0 in
      let rest = busy_kept old new change.1 v in
      rw (wid_kept, rest) refl

  one_other : (p q : WaitingPacket R) → PacketChanges Becomes wid p q → (v x y : ℕ) → v ≢ wid → (b : Bool) → draws_in wid p ≡ b → (draws_in v q && has q.relief x y) ≡ (draws_in v p && has p.relief x y)
  one_other p q change v x y differ true ours =
      let wid_kept = same_wid p q change in
      let elsewhere = other_window p.wid wid v ours differ in
      rw (wid_kept, elsewhere) refl
  one_other p q change v x y differ false theirs = ap (λ (p : WaitingPacket R). draws_in v p && has p.relief x y) (change.others theirs)

  others_kept : (old new : List (WaitingPacket R)) → ReliefsChange Becomes wid old new → (v x y : ℕ) → v ≢ wid → relieve has v new x y ≡ relieve has v old x y
  others_kept [] [] change v x y differ = refl
  others_kept [] (q ∷ new) change v x y differ = absurd change
  others_kept (p ∷ old) [] change v x y differ = absurd change
  others_kept (p ∷ old) (q ∷ new) change v x y differ =
      let one = one_other p q change.0 v x y differ (draws_in wid p) refl in
      let rest = others_kept old new change.1 v x y differ in
      rw (one, rest) refl

  pub only_reliefs : (old new : List (WaitingPacket R)) → ReliefsChange Becomes wid old new → OnlyReliefs has wid old new
  only_reliefs old new change = record {
    bytes = all_bytes_kept Becomes wid old new change;
    busy = busy_kept old new change;
    others = others_kept old new change;
  }

  module _ (x y : ℕ) (kept : Bool) (becomes : (r s : R) → Becomes r s → has s x y ≡ (has r x y && kept)) where
    one_changed : (p q : WaitingPacket R) → PacketChanges Becomes wid p q → (b : Bool) → draws_in wid p ≡ b → (draws_in wid q && has q.relief x y) ≡ ((draws_in wid p && has p.relief x y) && kept)
    one_changed p q change true ours =
        let wid_kept = same_wid p q change in
        let point = becomes p.relief q.relief (change.changed ours) in
        rw (wid_kept, ours) point
    one_changed p q change false theirs =
        let wid_kept = same_wid p q change in
        rw (wid_kept, theirs) refl

    pub relieve_changed : (old new : List (WaitingPacket R)) → ReliefsChange Becomes wid old new → relieve has wid new x y ≡ (relieve has wid old x y && kept)
    relieve_changed [] [] change = refl
    relieve_changed [] (q ∷ new) change = absurd change
    relieve_changed (p ∷ old) [] change = absurd change
    relieve_changed (p ∷ old) (q ∷ new) change =
        let one = one_changed p q change.0 (draws_in wid p) refl in
        let rest = relieve_changed old new change.1 in
        rw (one, rest) (both_or (draws_in wid p && has p.relief x y) (relieve has wid old x y) kept)

and_false : (b : Bool) → (b && false) ≡ false
and_false true = refl
and_false false = refl

pub forgotten_empty : {R : Type 0} (has : R → ℕ → ℕ → Bool) (wid : ℕ) (old new : List (WaitingPacket R)) → ReliefsChange (Emptied has) wid old new → (x y : ℕ) → relieve has wid new x y ≡ false
forgotten_empty has wid old new change x y =
    relieve_changed has (Emptied has) wid x y false (λ r s empty. empty x y ∙ sym (and_false (has r x y))) old new change ∙ and_false (relieve has wid old x y)

pub clipped_inside : {R : Type 0} (has : R → ℕ → ℕ → Bool) (wid w h : ℕ) (old new : List (WaitingPacket R)) → ReliefsChange (ClippedTo has w h) wid old new → (x y : ℕ) → relieve has wid new x y ≡ (relieve has wid old x y && is_within w h x y)
clipped_inside has wid w h old new change x y = relieve_changed has (ClippedTo has w h) wid x y (is_within w h x y) (λ r s clip. clip x y) old new change

module _ {R : Type 0} (Becomes : R → R → Type 0) (wid : ℕ) where
  clips_one : (p : WaitingPacket R) (packets : List (WaitingPacket R)) (clips : List R) (b : Bool) → draws_in wid p ≡ b → EachBecomes Becomes (reliefs_of wid (p ∷ packets)) clips
      → PacketChanges Becomes wid p (put_in wid p clips) × EachBecomes Becomes (reliefs_of wid packets) (left_by wid p clips)
  clips_one p packets [] true ours each =
      let none : EachBecomes Becomes (p.relief ∷ reliefs_of wid packets) [] = rw ours at each in
      absurd none
  clips_one p packets (c ∷ clips) true ours each =
      let one : EachBecomes Becomes (p.relief ∷ reliefs_of wid packets) (c ∷ clips) = rw ours at each in
      rw ours (record { kept = refl; changed = λ _. one.0; others = λ theirs. absurd (false≢true (sym theirs ∙ ours)) }, one.1)
  clips_one p packets clips false theirs each =
      let rest : EachBecomes Becomes (reliefs_of wid packets) clips = rw theirs at each in
      rw theirs (record { kept = refl; changed = λ ours. absurd (false≢true (sym theirs ∙ ours)); others = λ _. refl }, rest)

  pub clips_change : (packets : List (WaitingPacket R)) (clips : List R) → EachBecomes Becomes (reliefs_of wid packets) clips → ReliefsChange Becomes wid packets (with_reliefs wid packets clips)
  clips_change [] clips each = tt
  clips_change (p ∷ packets) clips each =
      let one = clips_one p packets clips (draws_in wid p) refl each in
      (one.0, clips_change packets (left_by wid p clips) one.1)
