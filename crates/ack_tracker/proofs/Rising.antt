-- Draws whose numbers rise.
use Rattle.std.proofs.Common.{◌≡◌, ℕ, zero, suc, true, false, ◌+◌, ◌<◌, ◌≤◌, List, [], ◌∷◌, length, Some, None, if◌then◌else◌, refl, ◌∙◌, ap, arith}
use Rattle.std.specs.Prelude.{nat_eq, nat_lt}
use Rattle.std.proofs.lemmas.Bool.Decides.{nat_tests}
use Rattle.delivery_model.specs.Window.{Sent}
use Rattle.delivery_model.specs.Events.{rect_sent, without_sent}
use Rattle.ack_tracker.specs.Unacknowledged.{sent_as, placed}
use Rattle.ack_tracker.specs.Places.{number_at, AreRising, AllBelow}

-- the numbers rise, and the first is at least n
abbrev pub Above : ℕ → List Sent → Type 0
Above n [] = Unit {0}
Above n (d ∷ draws) = (n ≤ d.sequence) × Above (d.sequence + 1) draws

pub above_less : (draws : List Sent) (n m : ℕ) → m ≤ n → Above n draws → Above m draws
above_less [] n m le above = tt
above_less (d ∷ draws) n m le above = (omega (arith, above.0), above.1)

pub above_absent : (draws : List Sent) (n k : ℕ) → Above n draws → k < n → rect_sent draws k ≡ None
above_absent [] n k above lt = refl
above_absent (d ∷ draws) n k above lt = grind (arith, nat_tests, above.0, above_absent draws (d.sequence + 1) k above.1)

pub above_at : (draws : List Sent) (n i : ℕ) → Above n draws → i < length draws → n ≤ number_at draws i
above_at [] n i above within = absurd (omega arith)
above_at (d ∷ draws) n zero above within = above.0
above_at (d ∷ draws) n (suc i) above within = omega (arith, above.0, above_at draws (d.sequence + 1) i above.1 (omega arith))

pub above_rises : (draws : List Sent) (n : ℕ) → Above n draws → AreRising draws
above_rises [] n above i j lt within = absurd (omega arith)
above_rises (d ∷ draws) n above i zero lt within = absurd (omega arith)
above_rises (d ∷ draws) n above zero (suc j) lt within = omega (arith, above_at draws (d.sequence + 1) j above.1 (omega arith))
above_rises (d ∷ draws) n above (suc i) (suc j) lt within = above_rises draws (d.sequence + 1) above.1 i j (omega arith) (omega arith)

pub rising_above : (draws : List Sent) (n : ℕ) → AreRising draws → ((i : ℕ) → i < length draws → n ≤ number_at draws i) → Above n draws
rising_above [] n rising least = tt
rising_above (d ∷ draws) n rising least =
    (least 0 (omega arith), rising_above draws (d.sequence + 1) (λ i j lt within. rising (suc i) (suc j) (omega arith) (omega arith)) (λ i within. omega (arith, rising 0 (suc i) (omega arith) (omega arith))))

pub above_placed : (draws : List Sent) (s : Sent) (n : ℕ) → n ≤ s.sequence → rect_sent draws s.sequence ≡ None → Above n draws → Above n (placed draws s)
above_placed [] s n le new above = (le, tt)
above_placed (d ∷ draws) s n le new above = grind (arith, nat_tests, above.0, above.1, above_placed draws s (d.sequence + 1))

pub above_without : (draws : List Sent) (k n : ℕ) → Above n draws → Above n (without_sent draws k)
above_without [] k n above = tt
above_without (d ∷ draws) k n above =
    let less = above_less draws (d.sequence + 1) n (omega (arith, above.0)) above.1 in
    let rest = above_without draws k (d.sequence + 1) above.1 in
    grind (arith, nat_tests, above.0)

same_sent : (d o : Sent) → d.sequence ≡ o.sequence → d.rect ≡ o.rect → d ≡ o
same_sent d o number rect = ap (λ k. sent_as k d.rect) number ∙ ap (λ r. sent_as o.sequence r) rect

-- draws whose numbers rise are known by what is found by each number
pub same_draws : (one other : List Sent) (n m : ℕ) → Above n one → Above m other → ((k : ℕ) → rect_sent one k ≡ rect_sent other k) → one ≡ other
same_draws [] [] n m above below same = refl
same_draws [] (o ∷ other) n m above below same = absurd (grind (arith, nat_tests, same o.sequence))
same_draws (d ∷ one) [] n m above below same = absurd (grind (arith, nat_tests, same d.sequence))
same_draws (d ∷ one) (o ∷ other) n m above below same =
    let absent_one = above_absent one (d.sequence + 1) in
    let absent_other = above_absent other (o.sequence + 1) in
    let number : d.sequence ≡ o.sequence = grind (arith, nat_tests, same d.sequence, same o.sequence, absent_one o.sequence above.1, absent_other d.sequence below.1) in
    let rect : d.rect ≡ o.rect = grind (arith, nat_tests, same d.sequence) in
    let rest = same_draws one other (d.sequence + 1) (o.sequence + 1) above.1 below.1 (λ k. grind (arith, nat_tests, same k, absent_one k above.1, absent_other k below.1)) in
    cc (same_sent d o number rect, rest)

below_cons : (d : Sent) (draws : List Sent) (n : ℕ) → d.sequence < n → AllBelow n draws → AllBelow n (d ∷ draws)
below_cons d draws n lt below zero within = lt
below_cons d draws n lt below (suc i) within = below i (omega arith)

below_tail : (d : Sent) (draws : List Sent) (n : ℕ) → AllBelow n (d ∷ draws) → AllBelow n draws
below_tail d draws n below i within = below (suc i) (omega arith)

pub below_placed : (draws : List Sent) (s : Sent) (n : ℕ) → s.sequence < n → AllBelow n draws → AllBelow n (placed draws s)
below_placed [] s n lt below = below_cons s [] n lt below
below_placed (d ∷ draws) s n lt below =
    let first = below 0 (omega arith) in
    elim (nat_lt s.sequence d.sequence) as (λ b. AllBelow n (if b then s ∷ (d ∷ draws) else d ∷ placed draws s)) [
      | true ↦ below_cons s (d ∷ draws) n lt below
      | false ↦ below_cons d (placed draws s) n first (below_placed draws s n lt (below_tail d draws n below))
    ]

pub below_without : (draws : List Sent) (k n : ℕ) → AllBelow n draws → AllBelow n (without_sent draws k)
below_without [] k n below = below
below_without (d ∷ draws) k n below =
    let first = below 0 (omega arith) in
    let tail = below_tail d draws n below in
    elim (nat_eq d.sequence k) as (λ b. AllBelow n (if b then draws else d ∷ without_sent draws k)) [
      | true ↦ tail
      | false ↦ below_cons d (without_sent draws k) n first (below_without draws k n tail)
    ]
