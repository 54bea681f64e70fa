-- Captures that are equal part by part.
use Rattle.std.proofs.Common.{◌≡◌, ℕ, Bool, true, false, ◌&&◌, List, eqb, refl, sym, ◌∙◌, ap, rules, arith}
use mathlib.Core.Bool.{not}
use denote.Enum.Bare.{sameb, same_true}
use Rattle.std.proofs.lemmas.Bool.Decides.{nat_tests}
use Rattle.xp_base.specs.declared.coding.Coding.{Coding}
use Rattle.xp_base.specs.contracts.coding.Coding.{the_type}
use Rattle.xp_base.specs.Points.{Rectangle}
use Rattle.xp_base.specs.Captures.{Captured}

pub rect_same : (r s : Rectangle) → not (eqb r.x s.x && (eqb r.y s.y && (eqb r.w s.w && eqb r.h s.h))) ≡ false → r ≡ s
rect_same r s h =
    let across : r.x ≡ s.x = grind (arith, nat_tests) in
    let down : r.y ≡ s.y = grind (arith, nat_tests) in
    let wide : r.w ≡ s.w = grind (arith, nat_tests) in
    let high : r.h ≡ s.h = grind (arith, nat_tests) in
    ap (λ (x : ℕ). record r { x = x }) across ∙ (ap (λ (y : ℕ). record r { x = s.x; y = y }) down ∙ (ap (λ (w : ℕ). record { x = s.x; y = s.y; w = w; h = r.h }) wide ∙ ap (λ (h : ℕ). record { x = s.x; y = s.y; w = s.w; h = h }) high))

not_false : (b : Bool) → not b ≡ false → b ≡ true
not_false true h = refl
not_false false h = sym h

pub coding_same : (c d : Coding) → not (sameb the_type c d) ≡ false → c ≡ d
coding_same c d h = same_true the_type (search rules) c d (not_false _ h)

pub captured_same : (c d : Captured) → c.rect ≡ d.rect → c.coding ≡ d.coding → c.pixels ≡ d.pixels → c ≡ d
captured_same c d rect coding pixels =
    ap (λ (r : Rectangle). record c { rect = r }) rect ∙ (ap (λ (k : Coding). record { rect = d.rect; coding = k; pixels = c.pixels }) coding ∙ ap (λ (p : List ℕ). record { rect = d.rect; coding = d.coding; pixels = p }) pixels)
