-- One connection is taken out, perhaps changed, and put back.
use Rattle.std.proofs.Common.{◌≡◌, ◌≢◌, ℕ, zero, suc, Option, Some, None, List, [], ◌∷◌, set, refl, sym, ap, ◌∙◌, subst}
use Rattle.std.specs.Prelude.{slice_get}
use Rattle.std.specs.Option.{option_map}
use Rattle.attached_client.specs.declared.change.Change.{Change}
use Rattle.attached_client.specs.declared.change.Prepared.{Prepared}
use Rattle.attached_client.specs.Client.{Attachment, client_in}
use Rattle.connection_table.specs.Tables.{Slot, Open, Away, Ended, opened, open_at}
use Rattle.connection_ends.specs.declared.end.End.{End}
use Rattle.open_connection.specs.Connection.{OpenSeen, ConnectionSeen, connection_in}
use Rattle.open_connection.specs.Changing.{FitsIn, IsPreparedIn, ConnectionChanges}
use Rattle.session_steps.specs.Painting.{FitsSeen, AllFit}
use Rattle.session_state.specs.Views.{slot_in, slots_in}
use Rattle.session_state.specs.Painting.{IsMadeOf, ChangesAt}
use Rattle.session_state.proofs.Sets.{set_twice, set_same, set_there}
use Rattle.session_state.proofs.Viewed.{view_set, view_at, view_open, open_low}

pub set_other : {A : Type 0} (xs : List A) (n k : ℕ) (a : A) → k ≢ n → slice_get (set xs n a) k ≡ slice_get xs k
set_other [] n k a apart = refl
set_other (x ∷ xs) zero zero a apart = absurd (apart refl)
set_other (x ∷ xs) zero (suc k) a apart = refl
set_other (x ∷ xs) (suc n) zero a apart = refl
set_other (x ∷ xs) (suc n) (suc k) a apart = set_other xs n k a (λ same. apart (ap suc same))

pub slot_of_open : (slots : List (Slot OpenSeen End)) (k : ℕ) (o : OpenSeen) → open_at slots k ≡ Some o → slice_get slots k ≡ Some (Open o)
slot_of_open slots k o is = go (slice_get slots k) is
  where
    go : (s : Option (Slot OpenSeen End)) → opened s ≡ Some o → s ≡ Some (Open o)
    go None is = absurd (cc is)
    go (Some (Open p)) is = ap (λ (u : OpenSeen). let slot : Slot OpenSeen End = Open u in Some slot) (let same : p ≡ o = cc is in same)
    go (Some Away) is = absurd (cc is)
    go (Some (Ended e)) is = absurd (cc is)

module _ (slots away back : List (Slot OpenSeen End)) (k : ℕ) (o o' : OpenSeen) (at : open_at slots k ≡ Some o) (out : away ≡ set slots k Away) (put : back ≡ set away k (Open o')) where
  put_over : back ≡ set slots k (Open o')
  put_over = put ∙ ap (λ ss. set ss k (Open o')) out ∙ set_twice slots k Away (Open o')

  pub back_others : (j : ℕ) → j ≢ k → slice_get back j ≡ slice_get slots j
  back_others j apart = ap (λ ss. slice_get ss j) put_over ∙ set_other slots k j (Open o') apart

  pub back_there : slice_get back k ≡ Some (Open o')
  back_there = ap (λ ss. slice_get ss k) put_over ∙ set_there slots k (Open o') (open_low slots k o at)

  pub back_same : connection_in o' ≡ connection_in o → slots_in back ≡ slots_in slots
  back_same same = ap slots_in put_over ∙ view_set slots k (Open o') ∙ ap (λ (c : ConnectionSeen). set (slots_in slots) k (Open c)) same
      ∙ set_same (slots_in slots) k (Open (connection_in o)) (view_at slots k ∙ ap (option_map slot_in) (slot_of_open slots k o at))

  pub back_made : (change : Change) (now : ℕ) (p : Option Prepared) → IsPreparedIn change now o'.client p → IsMadeOf change now (open_at back k) (Some p)
  back_made change now p is = subst (λ (s : Option OpenSeen). IsMadeOf change now s (Some p)) (sym (ap opened back_there)) is

  pub back_changed : (change : Change) (now : ℕ) → ConnectionChanges change now (connection_in o) (connection_in o') → ChangesAt change now (slice_get (slots_in slots) k) (slice_get (slots_in back) k)
  back_changed change now is = subst (λ (s : Option (Slot ConnectionSeen End)). ChangesAt change now s (slice_get (slots_in back) k)) (sym (view_at slots k ∙ ap (option_map slot_in) (slot_of_open slots k o at)))
      (subst (λ (s : Option (Slot ConnectionSeen End)). ChangesAt change now (Some (Open (connection_in o))) s) (sym (view_at back k ∙ ap (option_map slot_in) back_there)) (connection_in o', refl, is))

-- one that is not open stays
pub shut_stays : (change : Change) (now : ℕ) (slots : List (Slot OpenSeen End)) (k : ℕ) → open_at slots k ≡ None → ChangesAt change now (slice_get (slots_in slots) k) (slice_get (slots_in slots) k)
shut_stays change now slots k is = subst (λ s. ChangesAt change now s s) (sym (view_at slots k)) (go (slice_get slots k) is)
  where
    go : (s : Option (Slot OpenSeen End)) → opened s ≡ None → ChangesAt change now (option_map slot_in s) (option_map slot_in s)
    go None is = tt
    go (Some (Open o)) is = absurd (cc is)
    go (Some Away) is = refl
    go (Some (Ended e)) is = refl

-- nothing was made of one that is not open
pub made_none : (change : Change) (now : ℕ) (o : Option OpenSeen) (p : Option (Option Prepared)) → p ≡ None → IsMadeOf change now o p → o ≡ None
made_none change now None p none made = refl
made_none change now (Some o) p none made = absurd (subst (IsMadeOf change now (Some o)) none made)

pub fits_there : (change : Change) (slots : List (Slot OpenSeen End)) (k : ℕ) (o : OpenSeen) → AllFit change (slots_in slots) → open_at slots k ≡ Some o → FitsIn change o.client
fits_there change slots k o fit at = go o.client refl
  where
    seen : FitsSeen change (option_map client_in o.client)
    seen = fit k (connection_in o) (view_open slots k ∙ ap (option_map connection_in) at)

    go : (c : Option Attachment) → o.client ≡ c → FitsIn change c
    go None is = tt
    go (Some a) is = subst (λ (c : Option Attachment). FitsSeen change (option_map client_in c)) is seen
