-- The slots of a session as its steps see them, while the table changes.
use Rattle.std.proofs.Common.{◌≡◌, ℕ, zero, suc, ◌<◌, Option, Some, None, List, [], ◌∷◌, ◌++◌, set, length, refl, sym, ap, ◌∙◌, cond, ◌+◌, arith}
use Rattle.std.specs.Prelude.{slice_get}
use Rattle.std.specs.Option.{option_map}
use Rattle.std.proofs.lemmas.List.{map-append, map-set, length-map}
use Rattle.std.proofs.lemmas.Option.{slice_get-map}
use Rattle.connection_table.specs.Tables.{Slot, Open, Away, Ended, is_open, opened, open_at, open_count, ending, ends_of}
use Rattle.connection_ends.specs.declared.end.End.{End}
use Rattle.open_connection.specs.Connection.{OpenSeen, ConnectionSeen, connection_in}
use Rattle.session_state.specs.Views.{slot_in, slots_in}
use Rattle.session_state.proofs.Sets.{set_there}

pub view_push : (slots : List (Slot OpenSeen End)) (s : Slot OpenSeen End) → slots_in (slots ++ s ∷ []) ≡ slots_in slots ++ slot_in s ∷ []
view_push slots s = map-append slot_in slots (s ∷ [])

pub view_set : (slots : List (Slot OpenSeen End)) (n : ℕ) (s : Slot OpenSeen End) → slots_in (set slots n s) ≡ set (slots_in slots) n (slot_in s)
view_set slots n s = map-set slot_in slots n s

pub view_at : (slots : List (Slot OpenSeen End)) (n : ℕ) → slice_get (slots_in slots) n ≡ option_map slot_in (slice_get slots n)
view_at slots n = slice_get-map slot_in slots n

pub view_long : (slots : List (Slot OpenSeen End)) → length (slots_in slots) ≡ length slots
view_long slots = length-map slots slot_in

pub view_count : (slots : List (Slot OpenSeen End)) → open_count (slots_in slots) ≡ open_count slots
view_count [] = refl
view_count (s ∷ slots) = ap (λ b. cond b 1 0 + open_count (slots_in slots)) (one s) ∙ ap (λ n. cond (is_open s) 1 0 + n) (view_count slots)
  where
    one : (s : Slot OpenSeen End) → is_open (slot_in s) ≡ is_open s
    one (Open o) = refl
    one Away = refl
    one (Ended e) = refl

-- where one is open
pub view_open : (slots : List (Slot OpenSeen End)) (n : ℕ) → open_at (slots_in slots) n ≡ option_map connection_in (open_at slots n)
view_open slots n = ap opened (view_at slots n) ∙ go (slice_get slots n)
  where
    go : (o : Option (Slot OpenSeen End)) → opened (option_map slot_in o) ≡ option_map connection_in (opened o)
    go None = refl
    go (Some (Open o)) = refl
    go (Some Away) = refl
    go (Some (Ended e)) = refl

-- how one has ended
pub view_ended : (slots : List (Slot OpenSeen End)) (n : ℕ) → ending (slice_get (slots_in slots) n) ≡ ending (slice_get slots n)
view_ended slots n = ap ending (view_at slots n) ∙ go (slice_get slots n)
  where
    go : (o : Option (Slot OpenSeen End)) → ending (option_map slot_in o) ≡ ending o
    go None = refl
    go (Some (Open o)) = refl
    go (Some Away) = refl
    go (Some (Ended e)) = refl

pub open_slot : (slots : List (Slot ConnectionSeen End)) (k : ℕ) (t : ConnectionSeen) → open_at slots k ≡ Some t → slice_get slots k ≡ Some (Open t)
open_slot slots k t is = go (slice_get slots k) is
  where
    go : (o : Option (Slot ConnectionSeen End)) → opened o ≡ Some t → o ≡ Some (Open t)
    go None is = absurd (cc is)
    go (Some (Open s)) is = ap (λ (u : ConnectionSeen). let slot : Slot ConnectionSeen End = Open u in Some slot) (let same : s ≡ t = cc is in same)
    go (Some Away) is = absurd (cc is)
    go (Some (Ended e)) is = absurd (cc is)

-- an open one is within
pub open_low : (slots : List (Slot OpenSeen End)) (n : ℕ) (o : OpenSeen) → open_at slots n ≡ Some o → n < length slots
open_low [] n o is = absurd (cc is)
open_low (s ∷ slots) zero o is = omega arith
open_low (s ∷ slots) (suc n) o is = let low = open_low slots n o is in omega (arith, low)

-- one that was taken out is there
pub taken_there : (slots slots' : List (Slot OpenSeen End)) (n : ℕ) (o : OpenSeen) → open_at slots n ≡ Some o → slots' ≡ set slots n Away → slice_get (slots_in slots') n ≡ Some Away
taken_there slots slots' n o is now = ap (λ ss. slice_get (slots_in ss) n) now ∙ ap (λ ss. slice_get ss n) (view_set slots n Away)
    ∙ set_there (slots_in slots) n Away (let low = open_low slots n o is in let long = view_long slots in omega (arith, low, long))

-- one that was taken out is seen so, and only such a one
pub view_away : (slots : List (Slot OpenSeen End)) (n : ℕ) → slice_get (slots_in slots) n ≡ Some Away → slice_get slots n ≡ Some Away
view_away slots n is = go (slice_get slots n) (sym (view_at slots n) ∙ is)
  where
    go : (o : Option (Slot OpenSeen End)) → option_map slot_in o ≡ Some Away → o ≡ Some Away
    go None is = absurd (cc is)
    go (Some (Open o)) is = absurd (cc is)
    go (Some Away) is = refl
    go (Some (Ended e)) is = absurd (cc is)

-- the ends of all that have ended
pub view_ends : (slots : List (Slot OpenSeen End)) → ends_of (slots_in slots) ≡ ends_of slots
view_ends [] = refl
view_ends (Open o ∷ slots) = view_ends slots
view_ends (Away ∷ slots) = view_ends slots
view_ends (Ended e ∷ slots) = ap (λ (es : List End). e ∷ es) (view_ends slots)
