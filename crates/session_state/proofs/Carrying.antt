-- What was made for a paint line is carried out from the last slot to the first.
use Rattle.std.proofs.Common.{◌≡◌, ◌≢◌, ℕ, suc, ◌<◌, ◌≤◌, ◌⊎◌, inl, inr, Option, Some, None, List, [], ◌∷◌, ◌++◌, length, refl, sym, ap, ◌∙◌, subst, arith}
use Rattle.std.specs.Prelude.{slice_get}
use Rattle.std.specs.Option.{option_map}
use Rattle.std.proofs.lemmas.Bool.{cases_eq}
use Rattle.std.proofs.lemmas.Option.{slice_get_past, slice_get_within}
use Rattle.attached_client.specs.declared.change.Change.{Change}
use Rattle.attached_client.specs.declared.change.Prepared.{Prepared}
use Rattle.connection_table.specs.Tables.{Slot, opened, open_at}
use Rattle.connection_ends.specs.declared.end.End.{End}
use Rattle.open_connection.specs.Connection.{OpenSeen, ConnectionSeen}
use Rattle.session_steps.specs.Painting.{ChangesSlots}
use Rattle.session_steps.specs.Slots.{Slots}
use Rattle.session_state.specs.Views.{slot_in, slots_in}
use Rattle.session_state.specs.Painting.{IsMadeOf, AreMade, ChangesAt, ChangesPlace, OtherSlotsStay, CarriesLast}
use Rattle.session_state.proofs.Sets.{append_last, append_other, append_long}
use Rattle.session_state.proofs.Viewed.{view_at, view_long}

-- one more was made, while the slots before it stayed
pub made_more : (change : Change) (now : ℕ) (slots slots' : List (Slot OpenSeen End)) (made : List (Option (Option Prepared))) (p : Option (Option Prepared)) → AreMade change now slots made
    → OtherSlotsStay (length made) slots slots' → IsMadeOf change now (open_at slots' (length made)) p → AreMade change now slots' (made ++ p ∷ [])
made_more change now slots slots' made p are others is j q found = go (cases_eq j (length made))
  where
    go : (j ≡ length made) ⊎ (j ≢ length made) → IsMadeOf change now (open_at slots' j) q
    go (inl here) =
        let same : p ≡ q = cc (sym (append_last made p) ∙ ap (λ k. slice_get (made ++ p ∷ []) k) (sym here) ∙ found) in
        subst (λ k. IsMadeOf change now (open_at slots' k) q) (sym here) (subst (IsMadeOf change now (open_at slots' (length made))) same is)
    go (inr apart) = subst (λ (o : Option OpenSeen). IsMadeOf change now o q) (sym (ap opened (others j apart))) (are j q (sym (append_other made p j apart) ∙ found))

-- place by place
pub all_change : (change : Change) (now : ℕ) (slots slots' : Slots) → ((j : ℕ) → ChangesAt change now (slice_get slots j) (slice_get slots' j)) → ChangesSlots change now slots slots'
all_change change now [] [] each = tt
all_change change now [] (s' ∷ slots') each = each 0
all_change change now (s ∷ slots) [] each = each 0
all_change change now (s ∷ slots) (s' ∷ slots') each = (each 0, all_change change now slots slots' (λ j. each (suc j)))

-- Where this much of what was made is still to be carried out: those slots are as they were, and all others changed.
pub record Carried (change : Change) (now : ℕ) (was slots : List (Slot OpenSeen End)) (made : List (Option (Option Prepared))) : Type 0 where
  pub are : AreMade change now slots made
  pub below : (j : ℕ) → j < length made → slice_get slots j ≡ slice_get was j
  pub above : (j : ℕ) → length made ≤ j → ChangesPlace change now j was slots

view_same : (slots slots' : List (Slot OpenSeen End)) (j : ℕ) → slice_get slots' j ≡ slice_get slots j → slice_get (slots_in slots') j ≡ slice_get (slots_in slots) j
view_same slots slots' j same = view_at slots' j ∙ ap (option_map slot_in) same ∙ sym (view_at slots j)

pub carried_none : (change : Change) (now : ℕ) (slots : List (Slot OpenSeen End)) (made : List (Option (Option Prepared))) → AreMade change now slots made → length made ≡ length slots → Carried change now slots slots made
carried_none change now slots made are all = record {
  are = are;
  below = λ j low. refl;
  above = λ j high.
      let long = view_long slots in
      let past : slice_get (slots_in slots) j ≡ None = slice_get_past (slots_in slots) j (omega (arith, high, long, all)) in
      subst (λ (s : Option (Slot ConnectionSeen End)). ChangesAt change now s s) (sym past) tt;
}

pub carried_all : (change : Change) (now : ℕ) (was slots : List (Slot OpenSeen End)) (made : List (Option (Option Prepared))) → Carried change now was slots made → length made ≡ 0 → ChangesSlots change now (slots_in was) (slots_in slots)
carried_all change now was slots made carried over = all_change change now (slots_in was) (slots_in slots) (λ j. carried.above j (omega (arith, over)))

module _ (change : Change) (now : ℕ) (was slots slots' : List (Slot OpenSeen End)) (made made' : List (Option (Option Prepared))) (carried : Carried change now was slots made) (last : CarriesLast change now slots made slots' made') where
  pub one_less : length made ≡ suc (length made')
  one_less = ap (λ (ps : List (Option (Option Prepared))). length ps) last.was ∙ append_long made' last.last

  less_are : AreMade change now slots' made'
  less_are j q found =
      let low = slice_get_within made' j q found in
      let apart : j ≢ length made' = omega (arith, low) in
      let there : slice_get made j ≡ Some q = ap (λ (ps : List (Option (Option Prepared))). slice_get ps j) last.was ∙ append_other made' last.last j apart ∙ found in
      subst (λ (o : Option OpenSeen). IsMadeOf change now o q) (sym (ap opened (last.others j apart))) (carried.are j q there)

  less_below : (j : ℕ) → j < length made' → slice_get slots' j ≡ slice_get was j
  less_below j low =
      let apart : j ≢ length made' = omega (arith, low) in
      let one = one_less in
      last.others j apart ∙ carried.below j (omega (arith, low, one))

  here : ChangesPlace change now (length made') was slots'
  here =
      let one = one_less in
      subst (λ (s : Option (Slot ConnectionSeen End)). ChangesAt change now s (slice_get (slots_in slots') (length made')))
      (view_same was slots (length made') (carried.below (length made') (omega (arith, one)))) last.changed

  less_above : (j : ℕ) → length made' ≤ j → ChangesPlace change now j was slots'
  less_above j high = go (cases_eq j (length made'))
    where
      go : (j ≡ length made') ⊎ (j ≢ length made') → ChangesPlace change now j was slots'
      go (inl same) = subst (λ k. ChangesPlace change now k was slots') (sym same) here
      go (inr apart) =
          let one = one_less in
          subst (λ (s : Option (Slot ConnectionSeen End)). ChangesAt change now (slice_get (slots_in was) j) s)
          (sym (view_same slots slots' j (last.others j apart))) (carried.above j (omega (arith, high, apart, one)))

  pub carried_more : Carried change now was slots' made'
  carried_more = record { are = less_are; below = less_below; above = less_above }
