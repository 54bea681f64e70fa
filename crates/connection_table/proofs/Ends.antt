-- The ends of a table.
use Rattle.std.proofs.Common.{◌≡◌, suc, List, [], ◌∷◌, Option, Some, None, refl, ap, ◌∙◌, arith}
use Rattle.slab.specs.Slab.{Slab, get}
use Rattle.connection_table.specs.declared.place.Place.{Place}
use Rattle.connection_table.specs.declared.place.Place.TheVariants as P
use Rattle.connection_table.specs.Tables.{Slot, Open, Away, Ended, ends_of, AllEnded}
use Rattle.connection_table.specs.Places.{slot_with, slots_of, ends_in}

module _ {T E : Type 0} where
  -- a place with a key gives no end
  no_end : (o : Option T) (slots : List (Slot T E)) → ends_of (slot_with o ∷ slots) ≡ ends_of slots
  no_end None slots = refl
  no_end (Some t) slots = refl

  -- the ends of the slots are those of the places
  pub ends_slots : (slab : Slab T) (places : List (Place E)) → ends_of (slots_of slab places) ≡ ends_in places
  ends_slots slab [] = refl
  ends_slots slab (P.Open key ∷ places) = no_end (get slab key) (slots_of slab places) ∙ ends_slots slab places
  ends_slots slab (P.Away ∷ places) = ends_slots slab places
  ends_slots slab (P.Ended e ∷ places) = ap (λ (es : List E). e ∷ es) (ends_slots slab places)

  pub all_ended_lem : AllEnded T E
  all_ended_lem [] none out = refl
  all_ended_lem (Open t ∷ slots) none out = absurd (omega (arith, none))
  all_ended_lem (Away ∷ slots) none out = absurd (out 0 refl)
  all_ended_lem (Ended e ∷ slots) none out = ap (λ (ss : List (Slot T E)). Ended e ∷ ss) (all_ended_lem slots (omega (arith, none)) (λ k. out (suc k)))
