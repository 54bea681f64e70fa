-- The draws in order, and what a map of them by number comes to.
use Rattle.std.proofs.Common.{◌≡◌, ℕ, ℤ, pos, true, ◌+◌, ◌<◌, ◌≤◌, ◌^◌, List, [], ◌∷◌, length, Option, Some, None, if◌then◌else◌, cond, refl, sym, ◌∙◌, arith}
use Rattle.std.specs.Prelude.{nat_eq}
use Rattle.std.specs.Cmp.{nat_eq_equiv}
use Rattle.std.specs.List.{IsDistinct}
use Rattle.std.specs.Map.{keys_of, lookup}
use Rattle.std.proofs.lemmas.Bool.Decides.{nat_tests}
use Rattle.std.proofs.lemmas.Map.{lookup-none}
use Rattle.std.proofs.lemmas.Map.Entries.{none_past_head}
use Rattle.xp_base.specs.Points.{Rectangle}
use Rattle.delivery_model.specs.Window.{Sent}
use Rattle.delivery_model.specs.Events.{rect_sent, without_sent}
use Rattle.ack_tracker.specs.Unacknowledged.{sent_as, placed, rect_at, without_at}
use Rattle.ack_tracker.specs.Places.{IsTracked}
use Rattle.ack_tracker.specs.Kept.{in_order, IsKept}
use Rattle.ack_tracker.proofs.Rising.{Above, above_placed, above_without, above_rises, same_draws, below_placed, below_without}
use Rattle.ack_tracker.proofs.Walked.{rect_placed, length_placed, rect_without_above}

distinct_rest : (e : ℕ × Rectangle) (entries : List (ℕ × Rectangle)) → IsDistinct nat_eq (keys_of (e ∷ entries)) → IsDistinct nat_eq (keys_of entries)
unfolding IsDistinct
distinct_rest e entries distinct = distinct.1

head_absent : (e : ℕ × Rectangle) (entries : List (ℕ × Rectangle)) → IsDistinct nat_eq (keys_of (e ∷ entries)) → lookup (nat_eq e.0) entries ≡ None
head_absent e entries distinct = lookup-none (nat_eq e.0) entries (none_past_head nat_eq_equiv e.0 e entries distinct (grind (arith, nat_tests)))

pub rect_in_order : (entries : List (ℕ × Rectangle)) (k : ℕ) → IsDistinct nat_eq (keys_of entries) → rect_sent (in_order entries) k ≡ lookup (nat_eq k) entries
rect_in_order [] k distinct = refl
rect_in_order (e ∷ entries) k distinct =
    let rest = distinct_rest e entries distinct in
    let absent = rect_in_order entries e.0 rest ∙ head_absent e entries distinct in
    let put = rect_placed (in_order entries) (sent_as e.0 e.1) k absent in
    let found = rect_in_order entries k rest in
    grind (arith, nat_tests)

pub above_in_order : (entries : List (ℕ × Rectangle)) → IsDistinct nat_eq (keys_of entries) → Above 0 (in_order entries)
above_in_order [] distinct = tt
above_in_order (e ∷ entries) distinct =
    let rest = distinct_rest e entries distinct in
    above_placed (in_order entries) (sent_as e.0 e.1) 0 (omega arith) (rect_in_order entries e.0 rest ∙ head_absent e entries distinct) (above_in_order entries rest)

pub length_in_order : (entries : List (ℕ × Rectangle)) → length (in_order entries) ≡ length entries
length_in_order [] = refl
length_in_order (e ∷ entries) = omega (arith, length_placed (in_order entries) (sent_as e.0 e.1), length_in_order entries)

pub kept_tracked : (entries : List (ℕ × Rectangle)) → IsKept entries → IsTracked (in_order entries)
kept_tracked entries kept = record {
  rising = above_rises (in_order entries) 0 (above_in_order entries kept.distinct);
  small = kept.small;
  few = omega (arith, length_in_order entries, kept.few);
}

module _ (old new : List (ℕ × Rectangle)) (before : IsDistinct nat_eq (keys_of old)) (after : IsDistinct nat_eq (keys_of new)) where
  pub in_order_same : ((q : ℕ) → lookup (nat_eq q) new ≡ lookup (nat_eq q) old) → in_order new ≡ in_order old
  in_order_same same =
      same_draws (in_order new) (in_order old) 0 0 (above_in_order new after) (above_in_order old before) (λ q. rect_in_order new q after ∙ same q ∙ sym (rect_in_order old q before))

  pub in_order_put : (k : ℕ) (r : Rectangle) → rect_sent (in_order old) k ≡ None
      → ((q : ℕ) → lookup (nat_eq q) new ≡ cond (nat_eq k q) (Some r) (lookup (nat_eq q) old)) → in_order new ≡ placed (in_order old) (sent_as k r)
  in_order_put k r unused put =
      same_draws (in_order new) (placed (in_order old) (sent_as k r)) 0 0 (above_in_order new after) (above_placed (in_order old) (sent_as k r) 0 (omega arith) unused (above_in_order old before))
      (λ q. let found = rect_in_order new q after in
      let was = rect_in_order old q before in
      let then_found = rect_placed (in_order old) (sent_as k r) q unused in
      grind (arith, nat_tests, put q))

  pub in_order_without : (k : ℕ) → ((q : ℕ) → lookup (nat_eq q) new ≡ cond (nat_eq k q) None (lookup (nat_eq q) old)) → in_order new ≡ without_sent (in_order old) k
  in_order_without k taken =
      let above = above_in_order old before in
      same_draws (in_order new) (without_sent (in_order old) k) 0 0 (above_in_order new after) (above_without (in_order old) k 0 above)
      (λ q. let found = rect_in_order new q after in
      let was = rect_in_order old q before in
      let then_found = rect_without_above (in_order old) k q 0 above in
      grind (arith, nat_tests, taken q))

module _ (old new : List (ℕ × Rectangle)) (kept : IsKept old) (after : IsDistinct nat_eq (keys_of new)) where
  pub kept_same : length new ≡ length old → ((q : ℕ) → lookup (nat_eq q) new ≡ lookup (nat_eq q) old) → IsKept new
  kept_same sized same = record {
    distinct = after;
    small = rw (in_order_same old new kept.distinct after same) kept.small;
    few = omega (arith, sized, kept.few);
  }

  pub kept_put : (k : ℕ) (r : Rectangle) → k < 2 ^ 63 → length (in_order old) < 2 ^ 31 → rect_sent (in_order old) k ≡ None → length new ≤ length old + 1
      → ((q : ℕ) → lookup (nat_eq q) new ≡ cond (nat_eq k q) (Some r) (lookup (nat_eq q) old)) → IsKept new
  kept_put k r below fewer unused sized put = record {
    distinct = after;
    small = rw (in_order_put old new kept.distinct after k r unused put) (below_placed (in_order old) (sent_as k r) (2 ^ 63) below kept.small);
    few = omega (arith, length_in_order old, fewer, sized);
  }

  pub kept_without : (k : ℕ) → length new ≤ length old → ((q : ℕ) → lookup (nat_eq q) new ≡ cond (nat_eq k q) None (lookup (nat_eq q) old)) → IsKept new
  kept_without k sized taken = record {
    distinct = after;
    small = rw (in_order_without old new kept.distinct after k taken) (below_without (in_order old) k (2 ^ 63) kept.small);
    few = omega (arith, sized, kept.few);
  }

-- the same of a number that a client says
pub found_said : (entries : List (ℕ × Rectangle)) (draws : List Sent) → in_order entries ≡ draws → IsDistinct nat_eq (keys_of entries) → (z : ℤ) (k : ℕ) → z ≡ pos k
    → (found : Option Rectangle) → found ≡ lookup (nat_eq k) entries → rect_at draws z ≡ found
found_said entries draws same distinct z k said found is = rw (said, ← same) (rect_in_order entries k distinct ∙ sym is)

pub without_said : (old new : List (ℕ × Rectangle)) (draws : List Sent) → in_order old ≡ draws → IsDistinct nat_eq (keys_of old) → IsDistinct nat_eq (keys_of new)
    → (z : ℤ) (k : ℕ) → z ≡ pos k → ((q : ℕ) → lookup (nat_eq q) new ≡ cond (nat_eq k q) None (lookup (nat_eq q) old)) → in_order new ≡ without_at draws z
without_said old new draws same before after z k said taken = rw (said, ← same) (in_order_without old new before after k taken)
