-- Slots by their places: what acts on one connection leave of the others.
use Rattle.std.proofs.Common.{◌≡◌, ◌≢◌, ℕ, zero, suc, ◌<◌, ◌≤◌, Bool, true, false, Option, Some, None, List, [], ◌∷◌, set, length, cond, refl, sym, ap, ◌∙◌, arith}
use Rattle.std.specs.Prelude.{slice_get}
use Rattle.std.proofs.lemmas.List.{length-set}
use Rattle.xp_base.specs.declared.numbers.Conn.{Conn}
use Rattle.connection_table.specs.Tables.{Slot, Open, Away, Ended, is_open, opened, open_at, open_count}
use Rattle.connection_ends.specs.declared.end.End.{End}
use Rattle.connection_ends.specs.declared.end.End.TheVariants as E
use Rattle.attached_client.specs.Client.{ClientSeen}
use Rattle.open_connection.specs.Connection.{ConnectionSeen}
use Rattle.session_settling.specs.Settled.{is_lost}
use Rattle.session_steps.specs.Slots.{Slots, change_first, is_named, taken_over, overtaken}

-- ---- one slot is another

pub open_there : (slots : Slots) (k : ℕ) (t t' : ConnectionSeen) → open_at slots k ≡ Some t → open_at (set slots k (Open t')) k ≡ Some t'
open_there [] k t t' is = absurd (cc is)
open_there (s ∷ slots) zero t t' is = refl
open_there (s ∷ slots) (suc k) t t' is = open_there slots k t t' is

pub ended_there : (slots : Slots) (k : ℕ) (e : End) → open_at (set slots k (Ended e)) k ≡ None
ended_there [] k e = refl
ended_there (s ∷ slots) zero e = refl
ended_there (s ∷ slots) (suc k) e = ended_there slots k e

pub set_other : {A : Type 0} (xs : List A) (k : ℕ) (x : A) (j : ℕ) → j ≢ k → slice_get (set xs k x) j ≡ slice_get xs j
set_other [] k x j apart = refl
set_other (y ∷ xs) zero x zero apart = absurd (apart refl)
set_other (y ∷ xs) zero x (suc j) apart = refl
set_other (y ∷ xs) (suc k) x zero apart = refl
set_other (y ∷ xs) (suc k) x (suc j) apart = set_other xs k x j (λ same. apart (ap suc same))

pub open_slot : (slots : Slots) (k : ℕ) (t : ConnectionSeen) → open_at slots k ≡ Some t → slice_get slots k ≡ Some (Open t)
open_slot slots k t is = go (slice_get slots k) is
  where
    go : (o : Option (Slot ConnectionSeen End)) → opened o ≡ Some t → o ≡ Some (Open t)
    go None is = absurd (cc is)
    go (Some (Open s)) is = ap (λ (u : ConnectionSeen). let slot : Slot ConnectionSeen End = Open u in Some slot) (let same : s ≡ t = cc is in same)
    go (Some Away) is = absurd (cc is)
    go (Some (Ended e)) is = absurd (cc is)

-- ---- what stays but at one place: as many, none is opened, and no other one ends for want of memory

pub record StayBut (k : ℕ) (old new : Slots) : Type 0 where
  pub long : length new ≡ length old
  pub none : (j : ℕ) → open_at old j ≡ None → open_at new j ≡ None
  pub lost : (j : ℕ) (e : End) → j ≢ k → is_lost e ≡ true → slice_get new j ≡ Some (Ended e) → slice_get old j ≡ Some (Ended e)

pub stay_same : (k : ℕ) (slots : Slots) → StayBut k slots slots
stay_same k slots = record { long = refl; none = λ j is. is; lost = λ j e apart lost is. is }

pub stay_both : (k : ℕ) (a b c : Slots) → StayBut k a b → StayBut k b c → StayBut k a c
stay_both k a b c p q = record { long = q.long ∙ p.long; none = λ j is. q.none j (p.none j is); lost = λ j e apart lost is. p.lost j e apart lost (q.lost j e apart lost is) }

pub stay_put : (k : ℕ) (slots : Slots) (t : ConnectionSeen) (slot : Slot ConnectionSeen End) → open_at slots k ≡ Some t → StayBut k slots (set slots k slot)
stay_put k slots t slot is = record {
  long = length-set slots k slot;
  none = λ j none. ap opened (set_other slots k slot j (λ same. let bad : None ≡ Some t = sym none ∙ ap (open_at slots) same ∙ is in absurd (cc bad))) ∙ none;
  lost = λ j e apart lost now. sym (set_other slots k slot j apart) ∙ now;
}

-- ---- a later connection takes earlier ones over

pub first_there : {A : Type 0} (change : A → A) (n : ℕ) (xs : List A) → slice_get (change_first change n xs) n ≡ slice_get xs n
first_there change zero xs = refl
first_there change (suc n) [] = refl
first_there change (suc n) (x ∷ xs) = first_there change n xs

first_long : {A : Type 0} (change : A → A) (n : ℕ) (xs : List A) → length (change_first change n xs) ≡ length xs
first_long change zero xs = refl
first_long change (suc n) [] = refl
first_long change (suc n) (x ∷ xs) = ap suc (first_long change n xs)

module _ (c : Conn) (uuid : List ℕ) where
  over_none : (n : ℕ) (slots : Slots) (j : ℕ) → open_at slots j ≡ None → open_at (change_first (taken_over c uuid) n slots) j ≡ None
  over_none zero slots j none = none
  over_none (suc n) [] j none = refl
  over_none (suc n) (Open t ∷ slots) zero none = absurd (cc none)
  over_none (suc n) (Away ∷ slots) zero none = refl
  over_none (suc n) (Ended e ∷ slots) zero none = refl
  over_none (suc n) (s ∷ slots) (suc j) none = over_none n slots j none

  over_lost : (e : End) → is_lost e ≡ true → (n : ℕ) (slots : Slots) (j : ℕ) → slice_get (change_first (taken_over c uuid) n slots) j ≡ Some (Ended e) → slice_get slots j ≡ Some (Ended e)
  over_lost e lost zero slots j is = is
  over_lost e lost (suc n) [] j is = is
  over_lost e lost (suc n) (Open t ∷ slots) zero is = absurd (by_name (is_named uuid t.client) (let slot : taken_over c uuid (Open t) ≡ Ended e = cc is in slot))
    where
      by_name : (b : Bool) → cond b (Ended (E.TakenOver c)) (Open t) ≡ Ended e → ⊥
      by_name true bad = let same : E.TakenOver c ≡ e = cc bad in let wrong : false ≡ true = ap is_lost same ∙ lost in cc wrong
      by_name false bad = cc bad
  over_lost e lost (suc n) (Away ∷ slots) zero is = is
  over_lost e lost (suc n) (Ended e' ∷ slots) zero is = is
  over_lost e lost (suc n) (s ∷ slots) (suc j) is = over_lost e lost n slots j is

pub over_there : (c : Conn) (was : Bool) (after : Option ClientSeen) (slots : Slots) → slice_get (overtaken c was after slots) c.0 ≡ slice_get slots c.0
over_there c was None slots = refl
over_there c true (Some client) slots = refl
over_there c false (Some client) slots = first_there (taken_over c client.caps.uuid) c.0 slots

pub stay_over : (c : Conn) (was : Bool) (after : Option ClientSeen) (slots : Slots) → StayBut c.0 slots (overtaken c was after slots)
stay_over c was None slots = stay_same c.0 slots
stay_over c true (Some client) slots = stay_same c.0 slots
stay_over c false (Some client) slots = record {
  long = first_long (taken_over c client.caps.uuid) c.0 slots;
  none = λ j none. over_none c client.caps.uuid c.0 slots j none;
  lost = λ j e apart lost is. over_lost c client.caps.uuid e lost c.0 slots j is;
}

-- ---- how many are open

at_most_one : (b : Bool) → cond b 1 0 ≤ 1
at_most_one true = omega arith
at_most_one false = omega arith

-- an open slot that is opened by nothing
no_more : (s s' : Slot ConnectionSeen End) → (opened (Some s) ≡ None → opened (Some s') ≡ None) → cond (is_open s') 1 0 ≤ cond (is_open s) 1 0
no_more (Open t) s' none = at_most_one (is_open s')
no_more Away (Open t) none = let bad : Some t ≡ None = none refl in absurd (cc bad)
no_more Away Away none = omega arith
no_more Away (Ended e) none = omega arith
no_more (Ended e) (Open t) none = let bad : Some t ≡ None = none refl in absurd (cc bad)
no_more (Ended e) Away none = omega arith
no_more (Ended e) (Ended e') none = omega arith

pub no_more_open : (old new : Slots) → length new ≡ length old → ((j : ℕ) → open_at old j ≡ None → open_at new j ≡ None) → open_count new ≤ open_count old
no_more_open [] [] long none = omega arith
no_more_open [] (s' ∷ new) long none = absurd (cc long)
no_more_open (s ∷ old) [] long none = absurd (cc long)
no_more_open (s ∷ old) (s' ∷ new) long none =
    let here = no_more s s' (none 0) in
    let later = no_more_open old new (cc long) (λ j is. none (suc j) is) in
    omega (arith, here, later)

pub one_less_open : (old new : Slots) (k : ℕ) (t : ConnectionSeen) → length new ≡ length old → ((j : ℕ) → open_at old j ≡ None → open_at new j ≡ None) → open_at old k ≡ Some t → open_at new k ≡ None
    → open_count new < open_count old
one_less_open [] new k t long none was now = absurd (cc was)
one_less_open (s ∷ old) [] k t long none was now = absurd (cc long)
one_less_open (s ∷ old) (s' ∷ new) zero t long none was now =
    let later = no_more_open old new (cc long) (λ j is. none (suc j) is) in
    let here : is_open s ≡ true = is_there s was in
    let there : is_open s' ≡ false = is_none s' now in
    rw (here, there) (omega (arith, later))
  where
    is_there : (s : Slot ConnectionSeen End) → opened (Some s) ≡ Some t → is_open s ≡ true
    is_there (Open u) is = refl
    is_there Away is = absurd (cc is)
    is_there (Ended e) is = absurd (cc is)

    is_none : (s : Slot ConnectionSeen End) → opened (Some s) ≡ None → is_open s ≡ false
    is_none (Open u) is = absurd (cc is)
    is_none Away is = refl
    is_none (Ended e) is = refl
one_less_open (s ∷ old) (s' ∷ new) (suc k) t long none was now =
    let here = no_more s s' (none 0) in
    let later = one_less_open old new k t (cc long) (λ j is. none (suc j) is) was now in
    omega (arith, here, later)
