-- Row-band lists in the making: a band is appended, and joined to the one above it where it goes on as that does.
use Rattle.std.proofs.Common.{◌≡◌, ℕ, ◌+◌, ◌<◌, ◌≤◌, ◌==◌, Bool, true, false, ◌&&◌, ◌||◌, List, [], ◌∷◌, ◌++◌, map, length, inl, inr, refl, sym, ap, subst, ◌∙◌, arith}
use Rattle.std.proofs.lemmas.Bool.Decides.{nat_tests}
use Rattle.std.proofs.lemmas.Bool.{cases_lt}
use Rattle.xp_base.specs.Points.{Rectangle, IsRectangle}
use Rattle.rect_regions.specs.PointSets.{has}
use Rattle.rect_regions.specs.Bands.{Each, GoesBefore, IsOrdered, BeginsAnew, IsBanded}
use Rattle.rect_regions.specs.Making.{in_columns, in_rows, columns, HasRows, EndsBy, IsBand, IsMade, lengthened, goes_on}
use Rattle.rect_regions.proofs.Rects.{Each-append, Each-front, Each-back, Each-weaker, Each-both, has-append, IsOrdered-append, IsOrdered-front, IsOrdered-back, or-assoc, before_by_row, has-above, has-below, has-band}
use Rattle.rect_regions.proofs.Runs.{Gaps-band, same_runs-columns, first_column}

-- nothing is a list in the making
pub made_nothing : (down : ℕ) → IsMade [] 0 down
made_nothing down = record {
  banded = record { sized = tt; ordered = tt; joined = tt; points = λ x y. refl };
  front = [];
  ending = [];
  parts = refl;
  place = refl;
  some = λ e. refl;
  top = 0;
  bottom = 0;
  before = tt;
  rows = tt;
  limit = omega arith;
  reach = omega arith;
}

pub made_further : (rects : List Rectangle) (last down more : ℕ) → down ≤ more → IsMade rects last down → IsMade rects last more
made_further rects last down more later made = record {
  banded = made.banded;
  front = made.front;
  ending = made.ending;
  parts = made.parts;
  place = made.place;
  some = made.some;
  top = made.top;
  bottom = made.bottom;
  before = made.before;
  rows = made.rows;
  limit = omega (arith, made.limit);
  reach = omega (arith, made.reach);
}

-- all that was made ends by its last row
pub made_ends : (rects : List Rectangle) (last down : ℕ) → IsMade rects last down → Each (EndsBy down) rects
made_ends rects last down made =
    let early = Each-weaker (EndsBy made.top) (EndsBy down) (λ r h. omega (arith, made.limit)) made.front made.before in
    let late = Each-weaker (HasRows made.top made.bottom) (EndsBy down) (λ r at. omega (arith, made.reach, at.to_bottom)) made.ending made.rows in
    rw made.parts (Each-append (EndsBy down) made.front made.ending early late)

-- the rows of sized rectangles above their first row
pub row_above : (row : ℕ) (r : Rectangle) → IsRectangle r → EndsBy row r → r.y < row
row_above row r sized ends = omega (arith, sized.high)

-- the points of what was appended do not show above it
pub or_false : (b : Bool) → (b || false) ≡ b
or_false true = refl
or_false false = refl

pub has-append_above : (xs ys : List Rectangle) (row x y : ℕ) → Each (λ s. row ≤ s.y) ys → y < row → has (xs ++ ys) x y ≡ has xs x y
has-append_above xs ys row x y begins high =
    has-append xs ys x y ∙ ap (λ (b : Bool). has xs x y || b) (has-below row ys x y begins high) ∙ or_false (has xs x y)

pub anew_above : (xs ys : List Rectangle) (row : ℕ) → Each (λ s. row ≤ s.y) ys → (r : Rectangle) → r.y < row → BeginsAnew (has xs) r → BeginsAnew (has (xs ++ ys)) r
anew_above xs ys row begins r high anew above next equal =
    anew above next (λ x. sym (has-append_above xs ys row x above begins (omega arith)) ∙ equal x ∙ has-append_above xs ys row x r.y begins high)

-- a band of other runs, or below a gap, begins anew
begins_at_top : (top bottom : ℕ) (band : List Rectangle) → Each (HasRows top bottom) band → Each (λ s. top ≤ s.y) band
begins_at_top top bottom band rows = Each-weaker (HasRows top bottom) (λ s. top ≤ s.y) (λ s at. omega (arith, at.from_top)) band rows

pub in_rows_at : (b : Bool) (top bottom y : ℕ) → top ≤ y → y < bottom → (b && in_rows top bottom y) ≡ b
in_rows_at true top bottom y low high = grind (arith, nat_tests)
in_rows_at false top bottom y low high = refl

-- the row of a band that stands behind what ends above it
row_of_band : (xs band : List Rectangle) (top bottom x y : ℕ) → Each (EndsBy top) xs → Each (HasRows top bottom) band → top ≤ y → y < bottom
    → has (xs ++ band) x y ≡ columns band x
row_of_band xs band top bottom x y ends rows low high =
    has-append xs band x y
    ∙ ap (λ (b : Bool). b || has band x y) (has-above top xs x y ends low)
    ∙ has-band top bottom band x y rows
    ∙ in_rows_at (columns band x) top bottom y low high

-- what was made, as its last band and what stands above that
pub made_parts : (rects : List Rectangle) (last down : ℕ) (made : IsMade rects last down) → IsBanded (made.front ++ made.ending)
made_parts rects last down made = subst (λ (l : List Rectangle). IsBanded l) made.parts made.banded

-- the last band, if there is one, has rows
pub rows_of_ending : (top bottom : ℕ) (r : Rectangle) → IsRectangle r → HasRows top bottom r → top < bottom
rows_of_ending top bottom r sized at = omega (arith, sized.high, at.from_top, at.to_bottom)

-- the row above a band that does not go on as the last one does is another than the band's
no_row_above : (b : Rectangle) (band : List Rectangle) (rects : List Rectangle) (above : ℕ) → 1 ≤ b.w → ((x : ℕ) → has rects x above ≡ false)
    → ((x : ℕ) → has rects x above ≡ columns (b ∷ band) x) → ⊥
no_row_above b band rects above wide none equal = let first = first_column b (columns band b.x) wide in let here = equal b.x in let empty = none b.x in cc

other_row_above : (front ending rects : List Rectangle) (t e : ℕ) (b : Rectangle) (band : List Rectangle) (top bottom above : ℕ)
    → rects ≡ front ++ ending → (ending ≡ [] → rects ≡ []) → Each IsRectangle (front ++ ending) → IsOrdered (front ++ ending)
    → Each (EndsBy t) front → Each (HasRows t e) ending → e ≤ top → IsBand top bottom (b ∷ band) → goes_on ending (b ∷ band) top ≡ false → above + 1 ≡ top
    → ((x : ℕ) → has rects x above ≡ columns (b ∷ band) x) → ⊥
other_row_above front [] rects t e b band top bottom above parts some sized ordered before rows reach shape apart next equal =
    no_row_above b band rects above shape.sized.0.wide (λ x. ap (λ (l : List Rectangle). has l x above) (some refl)) equal
other_row_above front (r ∷ ending) rects t e b band top bottom above parts some sized ordered before rows reach shape apart next equal =
    let back = Each-back IsRectangle front (r ∷ ending) sized in
    let high : t < e = rows_of_ending t e r back.0 rows.0 in
    elim (cases_lt e top) [
      | inl gap ↦
          let early = Each-weaker (EndsBy t) (EndsBy above) (λ s h. omega arith) front before in
          let late = Each-weaker (HasRows t e) (EndsBy above) (λ s at. omega (arith, at.to_bottom)) (r ∷ ending) rows in
          let all = Each-append (EndsBy above) front (r ∷ ending) early late in
          no_row_above b band rects above shape.sized.0.wide (λ x. ap (λ (l : List Rectangle). has l x above) parts ∙ has-above above (front ++ r ∷ ending) x above all (omega arith)) equal
      | inr near ↦
          let same : (x : ℕ) → columns (r ∷ ending) x ≡ columns (b ∷ band) x =
          λ x. sym (row_of_band front (r ∷ ending) t e x above before rows (omega arith) (omega arith)) ∙ sym (ap (λ (l : List Rectangle). has l x above) parts) ∙ equal x in
          let runs = same_runs-columns (r ∷ ending) (b ∷ band) (Gaps-band t e (r ∷ ending) back rows (IsOrdered-back front (r ∷ ending) ordered))
          (Gaps-band top bottom (b ∷ band) shape.sized shape.rows shape.ordered) same in
          let meets : ((r.y + r.h) == top) ≡ true = grind (arith, nat_tests, rows.0.to_bottom) in
          let on : goes_on (r ∷ ending) (b ∷ band) top ≡ true = rw meets runs in
          cc
    ]

pub made_apart : (rects : List Rectangle) (last top bottom : ℕ) (b : Rectangle) (band : List Rectangle) (made : IsMade rects last top)
    → IsBand top bottom (b ∷ band) → top < bottom → goes_on made.ending (b ∷ band) top ≡ false → IsMade (rects ++ b ∷ band) (length rects) bottom
made_apart rects last top bottom b band made shape rows apart =
    let parts = made_parts rects last top made in
    let ends = made_ends rects last top made in
    let begins = begins_at_top top bottom (b ∷ band) shape.rows in
    let anew : (r : Rectangle) → HasRows top bottom r → BeginsAnew (has (rects ++ b ∷ band)) r =
    λ r at above next equal.
    other_row_above made.front made.ending rects made.top made.bottom b band top bottom above made.parts made.some parts.sized parts.ordered made.before made.rows made.reach shape apart
    (omega (arith, at.from_top))
    (λ x. sym (has-append_above rects (b ∷ band) top x above begins (omega (arith, at.from_top))) ∙ equal x
    ∙ row_of_band rects (b ∷ band) top bottom x r.y ends shape.rows (omega (arith, at.from_top)) (omega (arith, at.from_top))) in
    let high : (r : Rectangle) → IsRectangle r → EndsBy top r → r.y < top = row_above top in
    let early = Each-both (λ (r : Rectangle). r.y < top) (BeginsAnew (has rects)) (BeginsAnew (has (rects ++ b ∷ band))) (anew_above rects (b ∷ band) top begins) rects
    (Each-both IsRectangle (EndsBy top) (λ (r : Rectangle). r.y < top) high rects made.banded.sized ends) made.banded.joined in
    let late = Each-weaker (HasRows top bottom) (BeginsAnew (has (rects ++ b ∷ band))) anew (b ∷ band) shape.rows in
    record {
      banded = record {
        sized = Each-append IsRectangle rects (b ∷ band) made.banded.sized shape.sized;
        ordered = IsOrdered-append rects (b ∷ band) made.banded.ordered shape.ordered (before_by_row top rects (b ∷ band) ends begins);
        joined = Each-append (BeginsAnew (has (rects ++ b ∷ band))) rects (b ∷ band) early late;
        points = λ x y. refl;
      };
      front = rects;
      ending = b ∷ band;
      parts = refl;
      place = refl;
      some = λ e. cc;
      top = top;
      bottom = bottom;
      before = ends;
      rows = shape.rows;
      limit = omega arith;
      reach = omega arith;
    }

-- rectangles made longer have the columns that they had
pub columns-lengthened : (bottom : ℕ) (rects : List Rectangle) (x : ℕ) → columns (map (lengthened bottom) rects) x ≡ columns rects x
columns-lengthened bottom [] x = refl
columns-lengthened bottom (r ∷ rects) x = ap (λ (b : Bool). in_columns r x || b) (columns-lengthened bottom rects x)

pub Each-map : (P : Rectangle → Type 0) (f : Rectangle → Rectangle) (rects : List Rectangle) → Each (λ r. P (f r)) rects → Each P (map f rects)
Each-map P f [] p = tt
Each-map P f (r ∷ rects) p = (p.0, Each-map P f rects p.1)

-- and stand as they did
before_lengthened : (t e bottom : ℕ) (r s : Rectangle) → IsRectangle r → HasRows t e r → HasRows t e s → GoesBefore r s → GoesBefore (lengthened bottom r) (lengthened bottom s)
before_lengthened t e bottom r s sized at there (inl left) = inl (left.0, omega (arith, at.from_top, there.from_top), left.2)
before_lengthened t e bottom r s sized at there (inr above) = absurd (omega (arith, at.from_top, at.to_bottom, sized.high, there.from_top))

ordered_lengthened : (t e bottom : ℕ) (rects : List Rectangle) → Each IsRectangle rects → Each (HasRows t e) rects → IsOrdered rects → IsOrdered (map (lengthened bottom) rects)
ordered_lengthened t e bottom [] sized rows ordered = tt
ordered_lengthened t e bottom (r ∷ rects) sized rows ordered = (
  Each-map (GoesBefore (lengthened bottom r)) (lengthened bottom) rects
      (Each-both (HasRows t e) (GoesBefore r) (λ s. GoesBefore (lengthened bottom r) (lengthened bottom s)) (λ s. before_lengthened t e bottom r s sized.0 rows.0) rects rows.1 ordered.0),
  ordered_lengthened t e bottom rects sized.1 rows.1 ordered.1,
)

-- the last band goes down as far as the one that goes on as it does
rows_joined : (c : Bool) (t top bottom y : ℕ) → t < top → top < bottom → (c && in_rows t bottom y) ≡ ((c && in_rows t top y) || (c && in_rows top bottom y))
rows_joined true t top bottom y one other = grind (arith, nat_tests)
rows_joined false t top bottom y one other = refl

pub lengthened_has : (t e bottom : ℕ) (rects : List Rectangle) → t < bottom → Each (HasRows t e) rects → Each (HasRows t bottom) (map (lengthened bottom) rects)
lengthened_has t e bottom rects high rows =
    Each-map (HasRows t bottom) (lengthened bottom) rects
    (Each-weaker (HasRows t e) (λ r. HasRows t bottom (lengthened bottom r)) (λ r at. record { from_top = at.from_top; to_bottom = omega (arith, at.from_top) }) rects rows)

sized_lengthened : (t e bottom : ℕ) → t < bottom → bottom ≤ 4096 → (r : Rectangle) → HasRows t e r → IsRectangle r → IsRectangle (lengthened bottom r)
sized_lengthened t e bottom high limit r at sized = record { wide = sized.wide; high = omega (arith, at.from_top); across = sized.across; down = omega (arith, at.from_top) }

same_above : (front one other : List Rectangle) (t x y : ℕ) → Each (λ s. t ≤ s.y) one → Each (λ s. t ≤ s.y) other → y < t → has (front ++ one) x y ≡ has (front ++ other) x y
same_above front one other t x y begins begin high = has-append_above front one t x y begins high ∙ sym (has-append_above front other t x y begin high)

-- the points after joining
pub joined_points : (front ending band : List Rectangle) (t e top bottom x y : ℕ) → e ≡ top → t < top → top < bottom
    → Each (EndsBy t) front → Each (HasRows t e) ending → Each (HasRows top bottom) band → ((x : ℕ) → columns ending x ≡ columns band x)
    → has (front ++ map (lengthened bottom) ending) x y ≡ has ((front ++ ending) ++ band) x y
joined_points front ending band t e top bottom x y meets one other before rows below same =
    let rows_top : Each (HasRows t top) ending = subst (λ (n : ℕ). Each (HasRows t n) ending) meets rows in
    let long = lengthened_has t e bottom ending (omega arith) rows in
    has-append front (map (lengthened bottom) ending) x y
    ∙ ap (λ (b : Bool). has front x y || b)
    (has-band t bottom (map (lengthened bottom) ending) x y long
    ∙ ap (λ (b : Bool). b && in_rows t bottom y) (columns-lengthened bottom ending x)
    ∙ rows_joined (columns ending x) t top bottom y one other
    ∙ ap (λ (b : Bool). (columns ending x && in_rows t top y) || (b && in_rows top bottom y)) (same x)
    ∙ ap (λ (b : Bool). b || (columns band x && in_rows top bottom y)) (sym (has-band t top ending x y rows_top))
    ∙ ap (λ (b : Bool). has ending x y || b) (sym (has-band top bottom band x y below)))
    ∙ or-assoc (has front x y) (has ending x y) (has band x y)
    ∙ ap (λ (b : Bool). b || has band x y) (sym (has-append front ending x y))
    ∙ sym (has-append (front ++ ending) band x y)

anew_joined : (front one other : List Rectangle) (t : ℕ) → Each (λ s. t ≤ s.y) one → Each (λ s. t ≤ s.y) other → (r : Rectangle) → r.y < t
    → BeginsAnew (has (front ++ one)) r → BeginsAnew (has (front ++ other)) r
anew_joined front one other t begins begin r high anew above next equal =
    anew above next (λ x. same_above front one other t x above begins begin (omega arith) ∙ equal x ∙ same_above front other one t x r.y begin begins high)

anew_lengthened : (front ending : List Rectangle) (t e bottom : ℕ) → t < e → t < bottom → Each (EndsBy t) front → Each (HasRows t e) ending
    → (s : Rectangle) → HasRows t e s → BeginsAnew (has (front ++ ending)) s → BeginsAnew (has (front ++ map (lengthened bottom) ending)) (lengthened bottom s)
anew_lengthened front ending t e bottom short long before rows s at anew above next equal =
    let begins = begins_at_top t e ending rows in
    let rows_long = lengthened_has t e bottom ending long rows in
    let begin = begins_at_top t bottom (map (lengthened bottom) ending) rows_long in
    anew above next (λ x.
    same_above front ending (map (lengthened bottom) ending) t x above begins begin (omega (arith, at.from_top))
    ∙ equal x
    ∙ row_of_band front (map (lengthened bottom) ending) t bottom x s.y before rows_long (omega (arith, at.from_top)) (omega (arith, at.from_top))
    ∙ columns-lengthened bottom ending x
    ∙ sym (row_of_band front ending t e x s.y before rows (omega (arith, at.from_top)) (omega (arith, at.from_top))))

-- the parts of a list that goes on as its last band does
pub made_joined : (front : List Rectangle) (r : Rectangle) (rest : List Rectangle) (t e bottom : ℕ) → t < bottom → bottom ≤ 4096 → IsBanded (front ++ r ∷ rest)
    → Each (EndsBy t) front → Each (HasRows t e) (r ∷ rest) → IsMade (front ++ map (lengthened bottom) (r ∷ rest)) (length front) bottom
made_joined front r rest t e bottom high limit banded before rows =
    let ending = r ∷ rest in
    let long = map (lengthened bottom) ending in
    let sized_front = Each-front IsRectangle front ending banded.sized in
    let sized_back = Each-back IsRectangle front ending banded.sized in
    let short : t < e = rows_of_ending t e r sized_back.0 rows.0 in
    let rows_long = lengthened_has t e bottom ending high rows in
    let begins = begins_at_top t e ending rows in
    let begin = begins_at_top t bottom long rows_long in
    let early = Each-both (λ (s : Rectangle). s.y < t) (BeginsAnew (has (front ++ ending))) (BeginsAnew (has (front ++ long))) (anew_joined front ending long t begins begin) front
    (Each-both IsRectangle (EndsBy t) (λ (s : Rectangle). s.y < t) (row_above t) front sized_front before)
    (Each-front (BeginsAnew (has (front ++ ending))) front ending banded.joined) in
    let late = Each-map (BeginsAnew (has (front ++ long))) (lengthened bottom) ending
    (Each-both (HasRows t e) (BeginsAnew (has (front ++ ending))) (λ s. BeginsAnew (has (front ++ long)) (lengthened bottom s)) (anew_lengthened front ending t e bottom short high before rows) ending
    rows (Each-back (BeginsAnew (has (front ++ ending))) front ending banded.joined)) in
    record {
      banded = record {
        sized = Each-append IsRectangle front long sized_front
            (Each-map IsRectangle (lengthened bottom) ending (Each-both (HasRows t e) IsRectangle (λ s. IsRectangle (lengthened bottom s)) (sized_lengthened t e bottom high limit) ending rows sized_back));
        ordered = IsOrdered-append front long (IsOrdered-front front ending banded.ordered)
            (ordered_lengthened t e bottom ending sized_back rows (IsOrdered-back front ending banded.ordered)) (before_by_row t front long before begin);
        joined = Each-append (BeginsAnew (has (front ++ long))) front long early late;
        points = λ x y. refl;
      };
      front = front;
      ending = long;
      parts = refl;
      place = refl;
      some = λ absent. cc;
      top = t;
      bottom = bottom;
      before = before;
      rows = rows_long;
      limit = omega arith;
      reach = omega arith;
    }
