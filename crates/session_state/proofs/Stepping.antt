-- One more of the first slots changes.
use Rattle.std.proofs.Common.{◌≡◌, ℕ, zero, suc, ◌+◌, ◌<◌, Bool, true, false, Option, Some, None, List, [], ◌∷◌, set, length, refl, sym, ap, ◌∙◌, arith}
use Rattle.std.specs.Prelude.{slice_get}
use Rattle.xp_base.specs.declared.numbers.Conn.{Conn}
use Rattle.attached_client.specs.Client.{ClientSeen}
use Rattle.session_steps.specs.Slots.{Slots, change_first, taken_over, overtaken}
use Rattle.session_state.proofs.Sets.{first_more, first_there}

pub first_long : {A : Type 0} (change : A → A) (n : ℕ) (xs : List A) → length (change_first change n xs) ≡ length xs
first_long change zero xs = refl
first_long change (suc n) [] = refl
first_long change (suc n) (x ∷ xs) = ap suc (first_long change n xs)

-- an item within is there
there : {A : Type 0} (xs : List A) (n : ℕ) → n < length xs → (x : A) × (slice_get xs n ≡ Some x)
there [] n low = absurd (omega (arith, low))
there (x ∷ xs) zero low = (x, refl)
there (x ∷ xs) (suc n) low = there xs n (omega (arith, low))

pub one_more : {A : Type 0} (change : A → A) (n : ℕ) (xs was now : List A) → was ≡ change_first change n xs → n < length xs
    → ((x : A) → slice_get was n ≡ Some x → now ≡ set was n (change x)) → now ≡ change_first change (n + 1) xs
one_more change n xs was now is low sets =
    let item = there xs n low in
    let here : slice_get was n ≡ Some item.0 = ap (λ ys. slice_get ys n) is ∙ first_there change n xs ∙ item.1 in
    sets item.0 here ∙ ap (λ ys. set ys n (change item.0)) is ∙ sym (first_more change n xs item.0 item.1) ∙ ap (λ m. change_first change m xs) (let same : suc n ≡ n + 1 = omega arith in same)

-- the connection that takes others over is not among them
pub over_there : (c : Conn) (was : Bool) (after : Option ClientSeen) (slots : Slots) → slice_get (overtaken c was after slots) c.0 ≡ slice_get slots c.0
over_there c was None slots = refl
over_there c true (Some client) slots = refl
over_there c false (Some client) slots = first_there (taken_over c client.caps.uuid) c.0 slots
