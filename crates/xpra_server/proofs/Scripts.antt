-- The paint lines of a front part of a script.
use Rattle.std.proofs.Common.{◌≡◌, ℕ, ◌+◌, ◌≤◌, zero, suc, List, [], ◌∷◌, ◌++◌, length, take, Option, Some, None, Result, Ok, Err, refl, ap, ◌∙◌, sym, arith, add-one}
use Rattle.std.specs.Prelude.{slice_get, false}
use Rattle.std.specs.Result.{is_err}
use Rattle.std.proofs.lemmas.Option.{same_Some}
use Rattle.first_script.specs.declared.line.Line.{Line}
use Rattle.first_script.specs.declared.line.Line.TheVariants as L
use Rattle.first_script.specs.declared.paint.Paint.{Paint}
use Rattle.link_bay.specs.declared.order.Order.{Order}
use Rattle.first_script.specs.Validity.{paint_lines, peer_orders}
use Rattle.xp_base.specs.Told.{told_append}
use Rattle.std.proofs.lemmas.List.{append_assoc}
use Rattle.link_bay.specs.Provider.{ProviderRecord}
use Rattle.link_bay.specs.Answers.{OrderGives}
use Rattle.xp_base.specs.declared.memory.NoMemory.{NoMemory}

-- so many of the first lines are paint lines
abbrev pub painted_before : List Line → ℕ → ℕ
painted_before lines i = length (paint_lines (take i lines))

-- one more where the next line is one
pub painted_before_paint : (lines : List Line) (i : ℕ) (p : Paint) → slice_get lines i ≡ Some (L.Paint p) → painted_before lines (suc i) ≡ painted_before lines i + 1
painted_before_paint [] i p here = absurd (cc here)
painted_before_paint (x ∷ lines) zero p here = let is : x ≡ L.Paint p = same_Some x (L.Paint p) here in rw is refl
painted_before_paint (L.Paint q ∷ lines) (suc i) p here = omega (arith, painted_before_paint lines i p here)
painted_before_paint (L.Peer order ∷ lines) (suc i) p here = painted_before_paint lines i p here

-- as many where the next line is a peer line
pub painted_before_peer : (lines : List Line) (i : ℕ) (order : Order) → slice_get lines i ≡ Some (L.Peer order) → painted_before lines (suc i) ≡ painted_before lines i
painted_before_peer [] i order here = absurd (cc here)
painted_before_peer (x ∷ lines) zero order here = let is : x ≡ L.Peer order = same_Some x (L.Peer order) here in rw is refl
painted_before_peer (L.Paint q ∷ lines) (suc i) order here = omega (arith, painted_before_peer lines i order here)
painted_before_peer (L.Peer o ∷ lines) (suc i) order here = painted_before_peer lines i order here

-- no more than all
pub painted_before_all : (lines : List Line) (i : ℕ) → painted_before lines i ≤ length (paint_lines lines)
painted_before_all [] zero = omega arith
painted_before_all [] (suc i) = omega arith
painted_before_all (L.Paint q ∷ lines) zero = omega arith
painted_before_all (L.Paint q ∷ lines) (suc i) = omega (arith, painted_before_all lines i)
painted_before_all (L.Peer o ∷ lines) zero = omega arith
painted_before_all (L.Peer o ∷ lines) (suc i) = painted_before_all lines i

pub painted_next_paint : (lines : List Line) (i : ℕ) (p : Paint) → slice_get lines i ≡ Some (L.Paint p) → painted_before lines (i + 1) ≡ painted_before lines i + 1
painted_next_paint lines i p here = rw add-one (painted_before_paint lines i p here)

pub painted_next_peer : (lines : List Line) (i : ℕ) (order : Order) → slice_get lines i ≡ Some (L.Peer order) → painted_before lines (i + 1) ≡ painted_before lines i
painted_next_peer lines i order here = rw add-one (painted_before_peer lines i order here)

-- no peer was ordered by a paint line
pub asked_next_paint : (lines : List Line) (i : ℕ) (p : Paint) → slice_get lines i ≡ Some (L.Paint p) → peer_orders (take (i + 1) lines) ≡ peer_orders (take i lines)
asked_next_paint lines i p here = rw add-one (more lines i here)
  where
    more : (lines : List Line) (i : ℕ) → slice_get lines i ≡ Some (L.Paint p) → peer_orders (take (suc i) lines) ≡ peer_orders (take i lines)
    more [] i here = absurd (cc here)
    more (x ∷ lines) zero here = let is : x ≡ L.Paint p = same_Some x (L.Paint p) here in rw is refl
    more (L.Paint q ∷ lines) (suc i) here = more lines i here
    more (L.Peer o ∷ lines) (suc i) here = ap (λ os. o ∷ os) (more lines i here)

-- one more by a peer line
asked_next_peer : (lines : List Line) (i : ℕ) (order : Order) → slice_get lines i ≡ Some (L.Peer order) → peer_orders (take (i + 1) lines) ≡ peer_orders (take i lines) ++ order ∷ []
asked_next_peer lines i order here = rw add-one (more lines i here)
  where
    more : (lines : List Line) (i : ℕ) → slice_get lines i ≡ Some (L.Peer order) → peer_orders (take (suc i) lines) ≡ peer_orders (take i lines) ++ order ∷ []
    more [] i here = absurd (cc here)
    more (x ∷ lines) zero here = let is : x ≡ L.Peer order = same_Some x (L.Peer order) here in rw is refl
    more (L.Paint q ∷ lines) (suc i) here = more lines i here
    more (L.Peer o ∷ lines) (suc i) here = ap (λ os. o ∷ os) (more lines i here)

-- what is told was appended twice
told_twice : (told : Option (List Order)) (xs ys : List Order) → told_append (told_append told xs) ys ≡ told_append told (xs ++ ys)
told_twice None xs ys = refl
told_twice (Some told) xs ys = ap (λ (zs : List Order). Some zs) (append_assoc told xs ys)

pub asked_more : (first now next : Option (List Order)) (lines : List Line) (i : ℕ) (order : Order) → next ≡ told_append now (order ∷ []) → slice_get lines i ≡ Some (L.Peer order) → now ≡ told_append first (peer_orders (take i lines))
    → next ≡ told_append first (peer_orders (take (i + 1) lines))
asked_more first now next lines i order is here so_far =
    is ∙ ap (λ t. told_append t (order ∷ [])) so_far ∙ told_twice first (peer_orders (take i lines)) (order ∷ []) ∙ ap (told_append first) (sym (asked_next_peer lines i order here))

-- an order that was taken stands at the end of what was asked
pub order_asked : (old new : ProviderRecord) (order : Order) (answer : Result (Unit {0}) NoMemory) → is_err answer ≡ false → OrderGives old new order answer → new.asked ≡ told_append old.asked (order ∷ [])
order_asked old new order (Ok done) fine gives = ap (λ (p : ProviderRecord). p.asked) gives.1
order_asked old new order (Err none) fine gives = absurd (cc fine)

-- an order is no fault of the provider
pub order_faults : (old new : ProviderRecord) (order : Order) (answer : Result (Unit {0}) NoMemory) → OrderGives old new order answer → new.faults ≡ old.faults
order_faults old new order (Ok done) gives = ap (λ (p : ProviderRecord). p.faults) gives.1
order_faults old new order (Err none) gives = ap (λ (p : ProviderRecord). p.faults) gives

pub order_lulls : (old new : ProviderRecord) (order : Order) (answer : Result (Unit {0}) NoMemory) → OrderGives old new order answer → new.lulls ≡ old.lulls
order_lulls old new order (Ok done) gives = ap (λ (p : ProviderRecord). p.lulls) gives.1
order_lulls old new order (Err none) gives = ap (λ (p : ProviderRecord). p.lulls) gives
