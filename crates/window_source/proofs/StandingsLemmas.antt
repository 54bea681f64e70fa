-- Captures, compared by value.
use Rattle.std.proofs.Common.{◌≡◌, ◌≢◌, ℕ, Bool, true, false, ◌&&◌, Option, Some, None, List, inl, inr, cond, refl, sym, ◌∙◌, ap, subst, arith}
use Rattle.std.specs.Prelude.{nat_eq, bytes_eq}
use Rattle.std.proofs.lemmas.Bool.{cases_Bool, false≢true}
use Rattle.std.proofs.lemmas.Bool.Decides.{nat_tests}
use Rattle.std.proofs.lemmas.Slice.Eq.{bytes_eq-Decides}
use Rattle.xp_base.specs.Captures.{Captured}
use Rattle.xp_base.specs.Points.{Rectangle}
use Rattle.xp_base.specs.declared.coding.Coding.{Coding}
use Rattle.xp_base.specs.declared.coding.Coding.TheVariants as C
use Rattle.window_source.specs.declared.standing.Standing.TheVariants as S
use Rattle.window_source.specs.Standings.{standing_of}
use Rattle.delivery_model.specs.Events.{Filing, Late, Foreign, Filed, filing_of, same_rectangle, same_coding, same_capture}

both_first : (a b : Bool) → (a && b) ≡ true → a ≡ true
both_first true b both = refl
both_first false b both = absurd (false≢true both)

both_last : (a b : Bool) → (a && b) ≡ true → b ≡ true
both_last true b both = both
both_last false b both = absurd (false≢true both)

rectangle_itself : (r : Rectangle) → same_rectangle r r ≡ true
rectangle_itself r = grind (arith, nat_tests)

rectangles_same : (r s : Rectangle) → same_rectangle r s ≡ true → r ≡ s
rectangles_same r s is =
    let across : r.x ≡ s.x = grind (arith, nat_tests, is) in
    let down : r.y ≡ s.y = grind (arith, nat_tests, is) in
    let wide : r.w ≡ s.w = grind (arith, nat_tests, is) in
    let high : r.h ≡ s.h = grind (arith, nat_tests, is) in
    λ i. record { x = across i; y = down i; w = wide i; h = high i }

coding_itself : (c : Coding) → same_coding c c ≡ true
coding_itself C.Exact = refl
coding_itself C.Lossy = refl

codings_same : (c d : Coding) → same_coding c d ≡ true → c ≡ d
codings_same C.Exact C.Exact is = refl
codings_same C.Exact C.Lossy is = absurd (false≢true is)
codings_same C.Lossy C.Exact is = absurd (false≢true is)
codings_same C.Lossy C.Lossy is = refl

all_three : (a b c : Bool) → a ≡ true → b ≡ true → c ≡ true → (a && (b && c)) ≡ true
all_three a b c first second third = rw (first, second, third) refl

capture_itself : (c : Captured) → same_capture c c ≡ true
capture_itself c = all_three (same_rectangle c.rect c.rect) (same_coding c.coding c.coding) (bytes_eq c.pixels c.pixels) (rectangle_itself c.rect) (coding_itself c.coding) ((bytes_eq-Decides c.pixels c.pixels).1 refl)

pub captures_same : (c d : Captured) → same_capture c d ≡ true → c ≡ d
captures_same c d is =
    let rect : c.rect ≡ d.rect = rectangles_same c.rect d.rect (both_first (same_rectangle c.rect d.rect) _ is) in
    let rest : (same_coding c.coding d.coding && bytes_eq c.pixels d.pixels) ≡ true = both_last (same_rectangle c.rect d.rect) _ is in
    let coding : c.coding ≡ d.coding = codings_same c.coding d.coding (both_first (same_coding c.coding d.coding) _ rest) in
    let pixels : c.pixels ≡ d.pixels = (bytes_eq-Decides c.pixels d.pixels).0 (both_last (same_coding c.coding d.coding) _ rest) in
    λ i. record { rect = rect i; coding = coding i; pixels = pixels i }

-- the result of a job with this capture, or with another
pub filed_same : (c d : Captured) → c ≡ d → filing_of (Some c) d ≡ Filed
filed_same c d is = subst (λ (e : Captured). filing_of (Some c) e ≡ Filed) is (ap (λ b. cond b Filed Foreign) (capture_itself c))

pub filed_other : (c d : Captured) → c ≢ d → filing_of (Some c) d ≡ Foreign
filed_other c d differs = elim (cases_Bool (same_capture c d)) [
  | inl is ↦ absurd (differs (captures_same c d is))
  | inr is ↦ ap (λ b. cond b Filed Foreign) is
]

-- where a result is filed, a job in hand has its capture
pub filed_has : (o : Option Captured) (d : Captured) → filing_of o d ≡ Filed → o ≡ Some d
filed_has None d is = absurd (cc is)
filed_has (Some c) d is = go (same_capture c d) refl is
  where
    go : (b : Bool) → same_capture c d ≡ b → cond b Filed Foreign ≡ Filed → Some c ≡ Some d
    go true same is = ap (λ (e : Captured). Some e) (captures_same c d same)
    go false same is = absurd (cc is)

-- what the code says of a result
pub late_is : (f : Filing) → standing_of f ≡ S.Late → f ≡ Late
late_is Late is = refl
late_is Foreign is = absurd (cc is)
late_is Filed is = absurd (cc is)

pub foreign_is : (f : Filing) → standing_of f ≡ S.Foreign → f ≡ Foreign
foreign_is Late is = absurd (cc is)
foreign_is Foreign is = refl
foreign_is Filed is = absurd (cc is)

pub own_is : (f : Filing) → standing_of f ≡ S.Own → f ≡ Filed
own_is Late is = absurd (cc is)
own_is Foreign is = absurd (cc is)
own_is Filed is = refl
