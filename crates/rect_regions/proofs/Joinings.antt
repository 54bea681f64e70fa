-- Joining: what the parts of the list are, and what becomes of it.
use Rattle.std.proofs.Common.{◌≡◌, ℕ, ◌+◌, ◌-◌, ◌<◌, ◌≤◌, ◌==◌, true, false, List, [], ◌∷◌, ◌++◌, map, length, take, drop, sym, ap, subst, ◌∙◌, arith, append_assoc, length-append}
use Rattle.std.proofs.lemmas.Bool.Decides.{nat_tests}
use Rattle.std.proofs.lemmas.Bool.{and_parts}
use Rattle.std.proofs.lemmas.List.{append-nil, take_at, drop_at, take_all}
use Rattle.xp_base.specs.Points.{Rectangle, IsRectangle}
use Rattle.rect_regions.specs.PointSets.{has, SamePoints}
use Rattle.rect_regions.specs.Bands.{Each, IsBanded}
use Rattle.rect_regions.specs.Making.{HasRows, EndsBy, IsBand, IsMade, IsExtended, lengthened, same_runs, goes_on}
use Rattle.rect_regions.proofs.Rects.{Each-back, Each-weaker}
use Rattle.rect_regions.proofs.Runs.{columns-same_runs}
use Rattle.rect_regions.proofs.Makings.{made_parts, made_apart, made_joined, joined_points, rows_of_ending}

pub old_slice : (rects : List Rectangle) (last start top bottom : ℕ) (ext : IsExtended rects last start top bottom) → take start rects ≡ ext.old
old_slice rects last start top bottom ext = ap (take start) ext.parts ∙ take_at ext.old ext.band start ext.place

pub band_slice : (rects : List Rectangle) (last start top bottom : ℕ) (ext : IsExtended rects last start top bottom) → take (length rects - start) (drop start rects) ≡ ext.band
band_slice rects last start top bottom ext =
    let rest : drop start rects ≡ ext.band = ap (drop start) ext.parts ∙ drop_at ext.old ext.band start ext.place in
    let sized : length rects ≡ start + length ext.band = ap length ext.parts ∙ length-append ext.old ext.band ∙ ap (λ (n : ℕ). n + length ext.band) ext.place in
    ap (take (length rects - start)) rest ∙ take_all (length rects - start) ext.band (omega arith)

front_slice : (front ending : List Rectangle) (old : List Rectangle) (last : ℕ) → old ≡ front ++ ending → length front ≡ last → (take last old ≡ front) × (drop last old ≡ ending)
front_slice front ending old last parts place = (ap (take last) parts ∙ take_at front ending last place, ap (drop last) parts ∙ drop_at front ending last place)

pub ending_slice : (rects : List Rectangle) (last start top bottom : ℕ) (ext : IsExtended rects last start top bottom) → take (start - last) (drop last rects) ≡ ext.made.ending
ending_slice rects last start top bottom ext =
    let front = ext.made.front in
    let ending = ext.made.ending in
    let parts : rects ≡ front ++ (ending ++ ext.band) = ext.parts ∙ ap (λ (l : List Rectangle). l ++ ext.band) ext.made.parts ∙ append_assoc front ending ext.band in
    let rest : drop last rects ≡ ending ++ ext.band = ap (drop last) parts ∙ drop_at front (ending ++ ext.band) last ext.made.place in
    let sized : start ≡ last + length ending = sym ext.place ∙ ap length ext.made.parts ∙ length-append front ending ∙ ap (λ (n : ℕ). n + length ending) ext.made.place in
    ap (take (start - last)) rest ∙ take_at ending ext.band (start - last) (omega arith)

apart : (old band : List Rectangle) (last top bottom : ℕ) (made : IsMade old last top) → IsBand top bottom band → top < bottom
    → (length (old ++ band) ≡ length old → ⊥) → goes_on made.ending band top ≡ false → IsMade (old ++ band) (length old) bottom
apart old [] last top bottom made shape some more off = absurd (more (ap length (append-nil old)))
apart old (b ∷ band) last top bottom made shape some more off = made_apart old last top bottom b band made shape some off

pub join_apart : (rects : List Rectangle) (last start top bottom : ℕ) (ext : IsExtended rects last start top bottom) → (start ≡ length rects → ⊥)
    → goes_on ext.made.ending ext.band top ≡ false → IsMade rects start bottom
join_apart rects last start top bottom ext more off =
    let is = apart ext.old ext.band last top bottom ext.made ext.shape ext.some (λ e. more (sym ext.place ∙ sym e ∙ sym (ap length ext.parts))) off in
    let named : IsMade rects (length ext.old) bottom = subst (λ (l : List Rectangle). IsMade l (length ext.old) bottom) (sym ext.parts) is in
    subst (λ (n : ℕ). IsMade rects n bottom) ext.place named

-- the last band and the one that goes on as it does
pub record Joins (front ending band new : List Rectangle) (bottom : ℕ) : Type 0 where
  pub made : IsMade new (length front) bottom
  pub points : SamePoints (has new) (has ((front ++ ending) ++ band))

joins : (front ending band : List Rectangle) (t e top bottom : ℕ) → IsBanded (front ++ ending) → Each (EndsBy t) front → Each (HasRows t e) ending → e ≤ top
    → IsBand top bottom band → top < bottom → goes_on ending band top ≡ true → Joins front ending band (front ++ map (lengthened bottom) ending) bottom
joins front [] band t e top bottom banded before rows reach shape some on = cc
joins front (r ∷ rest) [] t e top bottom banded before rows reach shape some on = let off : false ≡ true = (and_parts ((r.y + r.h) == top) false on).1 in cc
joins front (r ∷ rest) (b ∷ band) t e top bottom banded before rows reach shape some on =
    let parts = and_parts ((r.y + r.h) == top) (same_runs (r ∷ rest) (b ∷ band)) on in
    let meets : e ≡ top = grind (arith, nat_tests, rows.0.to_bottom, parts.0) in
    let sized = Each-back IsRectangle front (r ∷ rest) banded.sized in
    let high : t < e = rows_of_ending t e r sized.0 rows.0 in
    record {
      made = made_joined front r rest t e bottom (omega arith) (omega (arith, shape.sized.0.down, shape.rows.0.to_bottom)) banded before rows;
      points = λ x y. joined_points front (r ∷ rest) (b ∷ band) t e top bottom x y meets (omega arith) some before rows shape.rows (λ c. columns-same_runs (r ∷ rest) (b ∷ band) c parts.1);
    }

pub join_on : (rects new : List Rectangle) (last start top bottom : ℕ) (ext : IsExtended rects last start top bottom) → goes_on ext.made.ending ext.band top ≡ true
    → new ≡ take last (take start rects) ++ map (lengthened bottom) (drop last (take start rects)) → IsMade new last bottom × SamePoints (has new) (has rects)
join_on rects new last start top bottom ext on is =
    let made = ext.made in
    let old = old_slice rects last start top bottom ext in
    let slices = front_slice made.front made.ending ext.old last made.parts made.place in
    let parts : new ≡ made.front ++ map (lengthened bottom) made.ending =
    is ∙ ap (λ (l : List Rectangle). take last l ++ map (lengthened bottom) (drop last l)) old
    ∙ ap (λ (l : List Rectangle). l ++ map (lengthened bottom) (drop last ext.old)) slices.0
    ∙ ap (λ (l : List Rectangle). made.front ++ map (lengthened bottom) l) slices.1 in
    let all : rects ≡ (made.front ++ made.ending) ++ ext.band = ext.parts ∙ ap (λ (l : List Rectangle). l ++ ext.band) made.parts in
    let joined = joins made.front made.ending ext.band made.top made.bottom top bottom (made_parts ext.old last top made) made.before made.rows made.reach ext.shape ext.some on in
    let named : IsMade new (length made.front) bottom = subst (λ (l : List Rectangle). IsMade l (length made.front) bottom) (sym parts) joined.made in (
      subst (λ (n : ℕ). IsMade new n bottom) made.place named,
      λ x y. ap (λ (l : List Rectangle). has l x y) parts ∙ joined.points x y ∙ ap (λ (l : List Rectangle). has l x y) (sym all),
    )

pub ending_above : (rects : List Rectangle) (last start top bottom : ℕ) (ext : IsExtended rects last start top bottom) → Each (λ r. r.y < bottom) (drop last (take start rects))
ending_above rects last start top bottom ext =
    let made = ext.made in
    let slices = front_slice made.front made.ending ext.old last made.parts made.place in
    let is : drop last (take start rects) ≡ made.ending = ap (drop last) (old_slice rects last start top bottom ext) ∙ slices.1 in
    rw is (Each-weaker (HasRows made.top made.bottom) (λ (r : Rectangle). r.y < bottom) (λ r at. omega (arith, at.from_top, made.limit, ext.some)) made.ending made.rows)
