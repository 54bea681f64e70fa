-- A band in the making, run by run from the left.
use Rattle.std.proofs.Common.{◌≡◌, ℕ, ◌+◌, ◌<◌, ◌≤◌, Bool, true, false, ◌&&◌, ◌||◌, List, [], ◌∷◌, ◌++◌, inl, inr, refl, sym, ap, ◌∙◌, arith, append_assoc, ltb, subst}
use Rattle.std.proofs.lemmas.Bool.Decides.{nat_tests}
use Rattle.std.proofs.lemmas.Bool.{cases_lt, cond-true, cond-false}
use Rattle.std.proofs.lemmas.List.{append-nil}
use Rattle.xp_base.specs.Points.{Rectangle, IsRectangle}
use Rattle.rect_regions.specs.Bands.{Each, GoesBefore}
use Rattle.rect_regions.specs.Making.{in_columns, HasRows, IsBand, AppendsBand, RunsSoFar, run_to, with_run}
use Rattle.rect_regions.proofs.Rects.{Each-append, Each-weaker, Each-both, columns-append, IsOrdered-append}

-- a row below a limit, where the limit does not matter
below_all : (b : Bool) (c limit : ℕ) → c < limit → b ≡ (b && ltb c limit)
below_all b c limit low = grind (arith, nat_tests)

below_none : (b : Bool) (c limit : ℕ) → limit ≤ c → (b && ltb c limit) ≡ false
below_none true c limit high = grind (arith, nat_tests)
below_none false c limit high = refl

and_none : (b c : Bool) → b ≡ false → (b && c) ≡ false
and_none true c h = cc
and_none false c h = refl

pub runs_begin : (old : List Rectangle) (top bottom : ℕ) (row : ℕ → Bool) → RunsSoFar old old top bottom row 0 0
runs_begin old top bottom row = record {
  band = [];
  parts = sym (append-nil old);
  shape = record { sized = tt; rows = tt; ordered = tt };
  ends = tt;
  same = λ c. sym (below_none (row c) c 0 (omega arith));
  under_way = λ c low high. absurd (omega arith);
  ahead = omega arith;
}

pub runs_on : (old new : List Rectangle) (top bottom : ℕ) (row : ℕ → Bool) (limit x until : ℕ) → x ≤ until → ((c : ℕ) → x ≤ c → c < until → row c ≡ true)
    → RunsSoFar old new top bottom row limit x → RunsSoFar old new top bottom row limit until
runs_on old new top bottom row limit x until later on runs = record {
  band = runs.band;
  parts = runs.parts;
  shape = runs.shape;
  ends = runs.ends;
  same = runs.same;
  under_way = λ c low high. elim (cases_lt c x) [ inl near ↦ runs.under_way c low near | inr far ↦ on c far high ];
  ahead = omega (arith, runs.ahead);
}

-- the limit may rise over columns that the row has not
limit_rises : (b : Bool) (x until c : ℕ) → x ≤ until → (x ≤ c → c < until → b ≡ false) → (b && ltb c x) ≡ (b && ltb c until)
limit_rises b x until c later off = elim (cases_lt c x) [
  | inl near ↦ sym (below_all b c x near) ∙ below_all b c until (omega arith)
  | inr far ↦ below_none b c x far ∙ elim (cases_lt c until) as (λ _. false ≡ (b && ltb c until)) [
    | inl within ↦ sym (and_none b (ltb c until) (off far within))
    | inr past ↦ sym (below_none b c until past)
  ]
]

pub runs_off : (old new : List Rectangle) (top bottom : ℕ) (row : ℕ → Bool) (x until : ℕ) → x ≤ until → ((c : ℕ) → x ≤ c → c < until → row c ≡ false)
    → RunsSoFar old new top bottom row x x → RunsSoFar old new top bottom row until until
runs_off old new top bottom row x until later off runs = record {
  band = runs.band;
  parts = runs.parts;
  shape = runs.shape;
  ends = Each-weaker (λ (r : Rectangle). r.x + r.w < x) (λ (r : Rectangle). r.x + r.w < until) (λ r h. omega arith) runs.band runs.ends;
  same = λ c. runs.same c ∙ limit_rises (row c) x until c later (off c);
  under_way = λ c low high. absurd (omega arith);
  ahead = omega arith;
}

run_columns : (b : Bool) (top bottom limit x until c : ℕ) → limit < x → x < until → (limit ≤ c → c < x → b ≡ true) → (x ≤ c → c < until → b ≡ false)
    → ((b && ltb c limit) || (in_columns (run_to top bottom limit x) c || false)) ≡ (b && ltb c until)
run_columns b top bottom limit x until c some later on off = elim (cases_lt c limit) [
  | inl left ↦ grind (arith, nat_tests)
  | inr right ↦ elim (cases_lt c x) [
    | inl inside ↦ let is = on right inside in grind (arith, nat_tests)
    | inr behind ↦ elim (cases_lt c until) [
      | inl gap ↦ let is = off behind gap in grind (arith, nat_tests)
      | inr past ↦ grind (arith, nat_tests)
    ]
  ]
]

run_shape : (top bottom limit x : ℕ) (band : List Rectangle) → top < bottom → bottom ≤ 4096 → limit < x → x ≤ 4096
    → IsBand top bottom band → Each (λ r. r.x + r.w < limit) band → IsBand top bottom (band ++ run_to top bottom limit x ∷ [])
run_shape top bottom limit x band rows low some within shape ends =
    let r = run_to top bottom limit x in
    let place : HasRows top bottom r = record { from_top = refl; to_bottom = omega arith } in
    let after : (s : Rectangle) → HasRows top bottom s → s.x + s.w < limit → Each (GoesBefore s) (r ∷ []) =
    λ s at end. (inl (sym at.from_top, omega (arith, at.from_top, at.to_bottom), end), tt) in
    record {
      sized = Each-append IsRectangle band (r ∷ []) shape.sized (record { wide = omega arith; high = omega arith; across = omega arith; down = omega arith }, tt);
      rows = Each-append (HasRows top bottom) band (r ∷ []) shape.rows (place, tt);
      ordered = IsOrdered-append band (r ∷ []) shape.ordered (tt, tt)
          (Each-both (HasRows top bottom) (λ (s : Rectangle). s.x + s.w < limit) (λ s. Each (GoesBefore s) (r ∷ [])) after band shape.rows ends);
    }

pub runs_closed : (old new : List Rectangle) (top bottom : ℕ) (row : ℕ → Bool) (limit x until : ℕ) → top < bottom → bottom ≤ 4096 → limit < x → x ≤ 4096 → x < until
    → ((c : ℕ) → x ≤ c → c < until → row c ≡ false)
    → RunsSoFar old new top bottom row limit x → RunsSoFar old (new ++ run_to top bottom limit x ∷ []) top bottom row until until
runs_closed old new top bottom row limit x until rows low some within later off runs =
    let r = run_to top bottom limit x in
    record {
      band = runs.band ++ r ∷ [];
      parts = ap (λ (xs : List Rectangle). xs ++ r ∷ []) runs.parts ∙ append_assoc old runs.band (r ∷ []);
      shape = run_shape top bottom limit x runs.band rows low some within runs.shape runs.ends;
      ends = Each-append (λ (s : Rectangle). s.x + s.w < until) runs.band (r ∷ [])
          (Each-weaker (λ (s : Rectangle). s.x + s.w < limit) (λ (s : Rectangle). s.x + s.w < until) (λ s h. omega arith) runs.band runs.ends) (omega arith, tt);
      same = λ c. columns-append runs.band (r ∷ []) c ∙ ap (λ (b : Bool). b || (in_columns r c || false)) (runs.same c)
          ∙ run_columns (row c) top bottom limit x until c some later (runs.under_way c) (off c);
      under_way = λ c early late. absurd (omega arith);
      ahead = omega arith;
    }

pub runs_done : (old new : List Rectangle) (top bottom : ℕ) (row : ℕ → Bool) (x : ℕ) → ((c : ℕ) → x ≤ c → row c ≡ false)
    → RunsSoFar old new top bottom row x x → AppendsBand old new top bottom row
runs_done old new top bottom row x off runs = record {
  band = runs.band;
  parts = runs.parts;
  shape = runs.shape;
  same = λ c. runs.same c ∙ elim (cases_lt c x) as (λ _. (row c && ltb c x) ≡ row c) [
    | inl near ↦ sym (below_all (row c) c x near)
    | inr far ↦ and_none (row c) (ltb c x) (off c far) ∙ sym (off c far)
  ];
}

-- a run ends where one was under way
pub runs_ended : (old new : List Rectangle) (top bottom : ℕ) (row : ℕ → Bool) (limit x until : ℕ) → top < bottom → bottom ≤ 4096 → x ≤ 4096 → x < until
    → ((c : ℕ) → x ≤ c → c < until → row c ≡ false)
    → RunsSoFar old new top bottom row limit x → RunsSoFar old (with_run new top bottom limit x) top bottom row until until
runs_ended old new top bottom row limit x until rows low within later off runs = elim (cases_lt limit x) [
  | inl some ↦
      let is : with_run new top bottom limit x ≡ new ++ run_to top bottom limit x ∷ [] = cond-true (ltb limit x) (new ++ run_to top bottom limit x ∷ []) new (grind (arith, nat_tests)) in
      rw is (runs_closed old new top bottom row limit x until rows low some within later off runs)
  | inr none ↦
      let is : with_run new top bottom limit x ≡ new = cond-false (ltb limit x) (new ++ run_to top bottom limit x ∷ []) new (grind (arith, nat_tests)) in
      let at : limit ≡ x = omega (arith, runs.ahead) in
      rw is (runs_off old new top bottom row x until (omega arith) off (subst (λ (n : ℕ). RunsSoFar old new top bottom row n x) at runs))
]

pub runs_end : (old new : List Rectangle) (top bottom : ℕ) (row : ℕ → Bool) (limit x : ℕ) → top < bottom → bottom ≤ 4096 → x ≤ 4096
    → ((c : ℕ) → x ≤ c → row c ≡ false)
    → RunsSoFar old new top bottom row limit x → AppendsBand old (with_run new top bottom limit x) top bottom row
runs_end old new top bottom row limit x rows low within off runs =
    runs_done old (with_run new top bottom limit x) top bottom row (x + 1) (λ c far. off c (omega arith))
    (runs_ended old new top bottom row limit x (x + 1) rows low within (omega arith) (λ c far near. off c far) runs)

-- the one column from x to before x + 1
pub at_one : (row : ℕ → Bool) (b : Bool) (x : ℕ) → row x ≡ b → (c : ℕ) → x ≤ c → c < x + 1 → row c ≡ b
at_one row b x is c low high = let at : c ≡ x = omega arith in ap row at ∙ is
