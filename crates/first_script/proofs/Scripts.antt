-- What is read is a script.
use Rattle.std.proofs.Common.{◌≡◌, inl, inr, ℕ, zero, suc, ◌+◌, ◌*◌, ◌^◌, ◌<◌, ◌≤◌, Bool, true, false, ◌&&◌, ◌||◌, not, Option, Some, None, Result, Ok, Err, List, [], ◌∷◌, ◌++◌, length, take, map, cond, eqb, leb, refl, sym, ap, ◌∙◌, arith, subst}
use Rattle.std.specs.Prelude.{ℤ, pos, is_some, codes}
use Rattle.std.specs.Option.{option_or, option_and_then}
use Rattle.std.specs.List.{All, slice_get, count_by, list_any, list_all}
use Rattle.std.specs.Str.{bytes_eq}
use Rattle.std.proofs.lemmas.Bool.{cases_lt, and_parts, leb-true, eqb-true, eq-eqb, not-true, true≢false}
use Rattle.std.proofs.lemmas.Int.{ints}
use Rattle.std.proofs.lemmas.Option.{cond_some, slice_get_within, none-some, same_Some}
use Rattle.std.proofs.lemmas.List.{length_push, append-nil, take_at, take-append-le}
use Rattle.std.proofs.lemmas.List.Elements.{All-push}
use Rattle.std.proofs.lemmas.List.Sums.{sum_by_push}
use Rattle.xp_base.specs.Points.{Rectangle}
use Rattle.window_model.specs.Desktop.{Window, IsSide, IsPlace, fresh_window, filled_window}
use Rattle.link_bay.specs.declared.order.Order.{Order}
use Rattle.link_bay.specs.declared.order.Order.TheVariants.{Join}
use Rattle.link_bay.specs.declared.order.Kind.TheVariants.{Exact}
use Rattle.first_script.specs.declared.paint.Paint.{Paint}
use Rattle.first_script.specs.declared.paint.Paint.TheVariants.{Open, Fill}
use Rattle.first_script.specs.declared.opening.Opening.{Opening}
use Rattle.first_script.specs.declared.line.Line.{Line}
use Rattle.first_script.specs.declared.line.Line.TheVariants as line
use Rattle.first_script.specs.Painting.{rectangle, painted, painted_by, desk_at, last_desk}
use Rattle.first_script.specs.Validity.{IsPaintOn, IsOpenOn, IsFillOn, ArePaints, paint_lines, peer_orders, is_open, IsScript}
use Rattle.first_script.specs.Text.{lines_of, words_of, digit, value, numeral, number, colour, is_between}
use Rattle.first_script.specs.Forms.{word_at, number_at, colour_at, rectangle_at, open_at, fill_at, peer_at, line_of}
use Rattle.first_script.specs.Reading.{◌>>=◌, opening_in, is_peer, holds, may_follow, allowed, next_line, script_after, script_of}
use Rattle.first_script.proofs.Desks.{painted_by-append}
use Rattle.first_script.proofs.Digits.{value_below, is_digit}
use Rattle.first_script.proofs.Steps.{opening_push, peer_push, or_none, paint_lines-append, peer_orders-append}

-- ---- what each form gives

bind_some : {A B : Type 0} (f : A → Option B) (o : Option A) (y : B) → option_and_then f o ≡ Some y → (x : A) × (o ≡ Some x) × (f x ≡ Some y)
bind_some f None y e = absurd cc
bind_some f (Some x) y e = (x, refl, e)

first_chosen : {A : Type 0} (b : Bool) (o : Option A) (y : A) → cond b o None ≡ Some y → (b ≡ true) × (o ≡ Some y)
first_chosen true o y e = (refl, e)
first_chosen false o y e = absurd cc

-- the numbers of a line are in their ranges, and a peer is an exact one
abbrev pub IsLine : Line → Type 0
IsLine (line.Paint (Open wid x y w h)) = (1 ≤ wid) × (wid < 2 ^ 16) × IsPlace x × IsPlace y × IsSide w × IsSide h
IsLine (line.Paint (Fill wid x y w h c)) = (1 ≤ w) × (1 ≤ h) × (c < 2 ^ 24)
IsLine (line.Peer order) = order ≡ Join Exact []

number_range : (low high : ℕ) (words : List (List ℕ)) (x : ℕ × List (List ℕ)) → number_at low high words ≡ Some x → (low ≤ x.0) × (x.0 ≤ high)
unfolding number_at
number_range low high words x e =
    let a = bind_some _ (word_at words) x e in
    let b = bind_some _ (number a.0.0) x a.2 in
    let c = cond_some (is_between low high b.0) (b.0, a.0.1) x b.2 in
    let parts = and_parts (leb low b.0) (leb b.0 high) c.0 in
    let same : b.0 ≡ x.0 = ap (λ (p : ℕ × List (List ℕ)). p.0) c.1 in
    (subst (λ n. low ≤ n) same (leb-true low b.0 parts.0), subst (λ n. n ≤ high) same (leb-true b.0 high parts.1))

colour_small : (word : List ℕ) (c : ℕ) → colour word ≡ Some c → c < 2 ^ 24
unfolding colour numeral
colour_small word c e =
    let a = first_chosen (eqb (length word) 6) (numeral 16 word) c e in
    let b = cond_some (list_all (is_digit 16) word) (value 16 (map digit word)) c a.1 in
    let six : length word ≡ 6 = eqb-true (length word) 6 a.0 in
    let below : value 16 (map digit word) < 16 ^ length word = value_below 16 word b.0 in
    subst (λ n. n < 2 ^ 24) b.1 (subst (λ n. value 16 (map digit word) < 16 ^ n) six below)

open_is : (words : List (List ℕ)) (l : Line) → open_at words ≡ Some l → IsLine l
unfolding open_at
open_is words l e =
    let wid = bind_some _ (number_at 1 65535 words) l e in
    let x = bind_some _ (number_at 0 32767 wid.0.1) l wid.2 in
    let y = bind_some _ (number_at 0 32767 x.0.1) l x.2 in
    let w = bind_some _ (number_at 1 4096 y.0.1) l y.2 in
    let h = bind_some _ (number_at 1 4096 w.0.1) l w.2 in
    let made = cond_some (eqb (length h.0.1) 0) (line.Paint (Open wid.0.0 (pos x.0.0) (pos y.0.0) w.0.0 h.0.0)) l h.2 in
    let wids = number_range 1 65535 words wid.0 wid.1 in
    let xs = number_range 0 32767 wid.0.1 x.0 x.1 in
    let ys = number_range 0 32767 x.0.1 y.0 y.1 in
    let ws = number_range 1 4096 y.0.1 w.0 w.1 in
    let hs = number_range 1 4096 w.0.1 h.0 h.1 in
    subst IsLine made.1 (wids.0, omega (arith, wids.1), place x.0.0 xs.1, place y.0.0 ys.1, record { some = ws.0; most = ws.1 }, record { some = hs.0; most = hs.1 })
  where
    place : (n : ℕ) → n ≤ 32767 → IsPlace (pos n)
    place n small = record { least = omega (arith, ints); most = omega (arith, ints) }

rectangle_sides : (words : List (List ℕ)) (x : Rectangle × List (List ℕ)) → rectangle_at words ≡ Some x → (1 ≤ x.0.w) × (1 ≤ x.0.h)
unfolding rectangle_at
rectangle_sides words r e =
    let x = bind_some _ (number_at 0 4095 words) r e in
    let y = bind_some _ (number_at 0 4095 x.0.1) r x.2 in
    let w = bind_some _ (number_at 1 4096 y.0.1) r y.2 in
    let h = bind_some _ (number_at 1 4096 w.0.1) r w.2 in
    let is = same_Some (rectangle x.0.0 y.0.0 w.0.0 h.0.0, h.0.1) r h.2 in
    subst (λ (p : Rectangle × List (List ℕ)). (1 ≤ p.0.w) × (1 ≤ p.0.h)) is ((number_range 1 4096 y.0.1 w.0 w.1).0, (number_range 1 4096 w.0.1 h.0 h.1).0)

colour_at_small : (words : List (List ℕ)) (x : ℕ × List (List ℕ)) → colour_at words ≡ Some x → x.0 < 2 ^ 24
unfolding colour_at
colour_at_small words x e =
    let word = bind_some _ (word_at words) x e in
    let c = bind_some _ (colour word.0.0) x word.2 in
    subst (λ (p : ℕ × List (List ℕ)). p.0 < 2 ^ 24) (same_Some (c.0, word.0.1) x c.2) (colour_small word.0.0 c.0 c.1)

fill_is : (words : List (List ℕ)) (l : Line) → fill_at words ≡ Some l → IsLine l
unfolding fill_at
fill_is words l e =
    let wid = bind_some _ (number_at 1 65535 words) l e in
    let r = bind_some _ (rectangle_at wid.0.1) l wid.2 in
    let c = bind_some _ (colour_at r.0.1) l r.2 in
    let made = cond_some (eqb (length c.0.1) 0) (line.Paint (Fill wid.0.0 r.0.0.x r.0.0.y r.0.0.w r.0.0.h c.0.0)) l c.2 in
    let sides = rectangle_sides wid.0.1 r.0 r.1 in
    subst IsLine made.1 (sides.0, sides.1, colour_at_small r.0.1 c.0 c.1)

peer_is : (words : List (List ℕ)) (l : Line) → peer_at words ≡ Some l → IsLine l
unfolding peer_at
peer_is words l e =
    let kind = bind_some _ (word_at words) l e in
    let a = first_chosen _ _ l kind.2 in
    let made = cond_some (eqb (length kind.0.1) 0) (line.Peer (Join Exact [])) l a.1 in
    subst IsLine made.1 refl

by_name : (opens fills peers : Bool) (words : List (List ℕ)) (l : Line)
    → cond opens (open_at words) (cond fills (fill_at words) (cond peers (peer_at words) None)) ≡ Some l → IsLine l
by_name true fills peers words l e = open_is words l e
by_name false true peers words l e = fill_is words l e
by_name false false true words l e = peer_is words l e
by_name false false false words l e = absurd (none-some l e)

line_is : (text : List ℕ) (l : Line) → line_of text ≡ Some l → IsLine l
unfolding line_of
line_is text l e =
    let name = bind_some _ (word_at (words_of text)) l e in
    by_name (bytes_eq name.0.0 (codes "open")) (bytes_eq name.0.0 (codes "fill")) (bytes_eq name.0.0 (codes "peer")) name.0.1 l name.2

-- ---- what the lines so far have opened

-- the desktop has just that window, if any
abbrev pub IsMet : List Window → Option Opening → Type 0
IsMet desk None = desk ≡ []
IsMet desk (Some o) = (window : Window) × (desk ≡ window ∷ []) × (window.wid ≡ o.wid) × (window.w ≡ o.w) × (window.h ≡ o.h) × (o.w ≤ 4096) × (o.h ≤ 4096)

pub record IsReached (before : List Line) : Type 0 where
  pub script : IsScript before
  pub desk : IsMet (last_desk (paint_lines before)) (opening_in before)
  pub opens : opening_in before ≡ None → count_by is_open (paint_lines before) ≡ 0
  pub peers : list_any is_peer before ≡ false → length (peer_orders before) ≡ 0

last_push : (lines : List Paint) (p : Paint) → last_desk (lines ++ p ∷ []) ≡ painted (last_desk lines) p
unfolding last_desk
last_push lines p = painted_by-append [] lines (p ∷ [])

-- one more valid line
ArePaints-push : (lines : List Paint) (p : Paint) → ArePaints lines → IsPaintOn (last_desk lines) p → ArePaints (lines ++ p ∷ [])
unfolding desk_at last_desk
ArePaints-push lines p are on place next here =
    elim (cases_lt place (length lines)) [
      | inl within ↦
          let front : take place (lines ++ p ∷ []) ≡ take place lines = take-append-le place lines (p ∷ []) (omega arith) in
          subst (λ desk. IsPaintOn desk next) (sym (ap (painted_by []) front)) (are place next (sym (slice_get_front lines p place within) ∙ here))
      | inr past ↦
          let last : place ≡ length lines = omega (arith, slice_get_within (lines ++ p ∷ []) place next here, length_push lines p) in
          let is : p ≡ next = same_Some p next (sym (slice_get_last lines p) ∙ ap (slice_get (lines ++ p ∷ [])) (sym last) ∙ here) in
          let front : take place (lines ++ p ∷ []) ≡ lines = take_at lines (p ∷ []) place (sym last) in
          subst (IsPaintOn (painted_by [] (take place (lines ++ p ∷ [])))) is (subst (λ desk. IsPaintOn desk p) (sym (ap (painted_by []) front)) on)
    ]
  where
    slice_get_front : (xs : List Paint) (x : Paint) (k : ℕ) → k < length xs → slice_get (xs ++ x ∷ []) k ≡ slice_get xs k
    slice_get_front [] x k within = absurd (omega arith)
    slice_get_front (y ∷ xs) x zero within = refl
    slice_get_front (y ∷ xs) x (suc k) within = slice_get_front xs x k (omega arith)

    slice_get_last : (xs : List Paint) (x : Paint) → slice_get (xs ++ x ∷ []) (length xs) ≡ Some x
    slice_get_last [] x = refl
    slice_get_last (y ∷ xs) x = slice_get_last xs x

script_paint : (before : List Line) (p : Paint) → IsScript before → IsPaintOn (last_desk (paint_lines before)) p
    → count_by is_open (paint_lines before) + cond (is_open p) 1 0 ≤ 1 → IsScript (before ++ line.Paint p ∷ [])
script_paint before p is on few =
    let paints = paint_lines-append before (line.Paint p ∷ []) in
    let orders : peer_orders (before ++ line.Paint p ∷ []) ≡ peer_orders before = peer_orders-append before (line.Paint p ∷ []) ∙ append-nil (peer_orders before) in
    record {
      paints = subst ArePaints (sym paints) (ArePaints-push (paint_lines before) p is.paints on);
      one_open = omega (arith, ap (count_by is_open) paints, sum_by_push (λ q. cond (is_open q) 1 0) (paint_lines before) p, few);
      one_peer = subst (λ (os : List Order). length os ≤ 1) (sym orders) is.one_peer;
      exact = subst (All (λ order. order ≡ Join Exact [])) (sym orders) is.exact;
    }

script_peer : (before : List Line) → IsScript before → length (peer_orders before) ≡ 0 → IsScript (before ++ line.Peer (Join Exact []) ∷ [])
script_peer before is none =
    let paints : paint_lines (before ++ line.Peer (Join Exact []) ∷ []) ≡ paint_lines before = paint_lines-append before (line.Peer (Join Exact []) ∷ []) ∙ append-nil (paint_lines before) in
    let orders = peer_orders-append before (line.Peer (Join Exact []) ∷ []) in
    record {
      paints = subst ArePaints (sym paints) is.paints;
      one_open = subst (λ (ps : List Paint). count_by is_open ps ≤ 1) (sym paints) is.one_open;
      one_peer = omega (arith, ap length orders, length_push (peer_orders before) (Join Exact []), none);
      exact = subst (All (λ order. order ≡ Join Exact [])) (sym orders) (All-push (λ order. order ≡ Join Exact []) (peer_orders before) (Join Exact []) is.exact refl);
    }

none_from : (o : Option Opening) → not (is_some o) ≡ true → o ≡ None
none_from None e = refl
none_from (Some x) e = absurd cc

open_on : (desk : List Window) (wid : ℕ) (x y : ℤ) (w h : ℕ) → desk ≡ [] → IsLine (line.Paint (Open wid x y w h)) → w * h ≤ 4194304 → IsOpenOn desk wid x y w h
open_on desk wid x y w h empty is few = subst (λ d. IsOpenOn d wid x y w h) (sym empty) (record {
  first = is.0;
  last = is.1;
  new = refl;
  across = is.2;
  down = is.3;
  wide = is.4;
  high = is.5;
  windows = omega arith;
  pixels = omega arith;
})

-- the peer's part of one more paint line
peers_paint : (before : List Line) (p : Paint) → IsReached before → list_any is_peer (before ++ line.Paint p ∷ []) ≡ false → length (peer_orders (before ++ line.Paint p ∷ [])) ≡ 0
peers_paint before p r none =
    let orders : peer_orders (before ++ line.Paint p ∷ []) ≡ peer_orders before = peer_orders-append before (line.Paint p ∷ []) ∙ append-nil (peer_orders before) in
    ap length orders ∙ r.peers (or_left (list_any is_peer before) (sym (peer_push before (line.Paint p)) ∙ none))
  where
    or_left : (b : Bool) → (b || false) ≡ false → b ≡ false
    or_left true e = absurd cc
    or_left false e = refl

reached_open : (before : List Line) (wid : ℕ) (x y : ℤ) (w h : ℕ) → IsReached before → IsLine (line.Paint (Open wid x y w h))
    → opening_in before ≡ None → w * h ≤ 4194304 → IsReached (before ++ line.Paint (Open wid x y w h) ∷ [])
reached_open before wid x y w h r is none few =
    let desk = last_desk (paint_lines before) in
    let empty : desk ≡ [] = subst (IsMet desk) none r.desk in
    let opening : opening_in (before ++ line.Paint (Open wid x y w h) ∷ []) ≡ Some (record { wid = wid; w = w; h = h }) =
    opening_push before (line.Paint (Open wid x y w h)) ∙ ap (λ (o : Option Opening). option_or o (Some (record { wid = wid; w = w; h = h }))) none in
    let after : last_desk (paint_lines (before ++ line.Paint (Open wid x y w h) ∷ [])) ≡ fresh_window wid x y w h ∷ [] =
    ap last_desk (paint_lines-append before (line.Paint (Open wid x y w h) ∷ [])) ∙ last_push (paint_lines before) (Open wid x y w h) ∙ ap (λ d. painted d (Open wid x y w h)) empty in
    record {
      script = script_paint before (Open wid x y w h) r.script (open_on desk wid x y w h empty is few) (omega (arith, r.opens none));
      desk = subst (IsMet (last_desk (paint_lines (before ++ line.Paint (Open wid x y w h) ∷ [])))) (sym opening) (fresh_window wid x y w h, after, refl, refl, refl, is.4.most, is.5.most);
      opens = λ not. absurd (none-some _ (sym not ∙ opening));
      peers = peers_paint before (Open wid x y w h) r;
    }

-- the tests of a rectangle in a window
holds_is : (o : Option Opening) (wid x y w h : ℕ) → holds o wid x y w h ≡ true → (opening : Opening) × (o ≡ Some opening) × (opening.wid ≡ wid) × (x + w ≤ opening.w) × (y + h ≤ opening.h)
holds_is None wid x y w h e = absurd cc
holds_is (Some o) wid x y w h e =
    let parts = and_parts (eqb o.wid wid) (leb (x + w) o.w && leb (y + h) o.h) e in
    let sides = and_parts (leb (x + w) o.w) (leb (y + h) o.h) parts.1 in
    (o, refl, eqb-true o.wid wid parts.0, leb-true (x + w) o.w sides.0, leb-true (y + h) o.h sides.1)

fill_on : (window : Window) (wid x y w h c : ℕ) → window.wid ≡ wid → x + w ≤ window.w → y + h ≤ window.h → window.w ≤ 4096 → window.h ≤ 4096
    → IsLine (line.Paint (Fill wid x y w h c)) → IsFillOn (window ∷ []) wid (rectangle x y w h) c
fill_on window wid x y w h c same across down wide high is = record {
  some = record { wide = is.0; high = is.1; across = omega arith; down = omega arith };
  inside = rw (eq-eqb window.wid wid same) (record { across = across; down = down });
  coloured = is.2;
}

reached_fill : (before : List Line) (wid x y w h c : ℕ) (o : Opening) → IsReached before → IsLine (line.Paint (Fill wid x y w h c))
    → opening_in before ≡ Some o → o.wid ≡ wid → x + w ≤ o.w → y + h ≤ o.h → IsReached (before ++ line.Paint (Fill wid x y w h c) ∷ [])
reached_fill before wid x y w h c o r is some same across down =
    let next = Fill wid x y w h c in
    let desk = last_desk (paint_lines before) in
    let met = subst (IsMet desk) some r.desk in
    let window = met.0 in
    let named : window.wid ≡ wid = met.2 ∙ same in
    let on : IsFillOn (window ∷ []) wid (rectangle x y w h) c =
    fill_on window wid x y w h c named (omega (arith, met.3)) (omega (arith, met.4)) (omega (arith, met.3, met.5)) (omega (arith, met.4, met.6)) is in
    let opening : opening_in (before ++ line.Paint next ∷ []) ≡ Some o = opening_push before (line.Paint next) ∙ ap (λ (p : Option Opening). option_or p None) some in
    let drawn : painted (window ∷ []) next ≡ filled_window (rectangle x y w h) c window ∷ [] =
    ap (λ b. cond b (filled_window (rectangle x y w h) c window) window ∷ []) (eq-eqb window.wid wid named) in
    let after : last_desk (paint_lines (before ++ line.Paint next ∷ [])) ≡ filled_window (rectangle x y w h) c window ∷ [] =
    ap last_desk (paint_lines-append before (line.Paint next ∷ [])) ∙ last_push (paint_lines before) next ∙ ap (λ d. painted d next) met.1 ∙ drawn in
    record {
      script = script_paint before next r.script (subst (λ d. IsPaintOn d next) (sym met.1) on) (omega (arith, r.script.one_open));
      desk = subst (IsMet (last_desk (paint_lines (before ++ line.Paint next ∷ [])))) (sym opening) (filled_window (rectangle x y w h) c window, after, met.2, met.3, met.4, met.5, met.6);
      opens = λ not. absurd (none-some o (sym not ∙ opening));
      peers = peers_paint before next r;
    }

reached_peer : (before : List Line) → IsReached before → list_any is_peer before ≡ false → IsReached (before ++ line.Peer (Join Exact []) ∷ [])
reached_peer before r none =
    let paints : paint_lines (before ++ line.Peer (Join Exact []) ∷ []) ≡ paint_lines before = paint_lines-append before (line.Peer (Join Exact []) ∷ []) ∙ append-nil (paint_lines before) in
    let opening : opening_in (before ++ line.Peer (Join Exact []) ∷ []) ≡ opening_in before = opening_push before (line.Peer (Join Exact [])) ∙ or_none (opening_in before) in
    record {
      script = script_peer before r.script (r.peers none);
      desk = subst (IsMet (last_desk (paint_lines (before ++ line.Peer (Join Exact []) ∷ [])))) (sym opening) (subst (λ (ps : List Paint). IsMet (last_desk ps) (opening_in before)) (sym paints) r.desk);
      opens = λ not. ap (count_by is_open) paints ∙ r.opens (sym opening ∙ not);
      peers = λ not. absurd (true≢false (or_right (list_any is_peer before) ∙ (sym (peer_push before (line.Peer (Join Exact []))) ∙ not)));
    }
  where
    or_right : (b : Bool) → true ≡ (b || true)
    or_right true = refl
    or_right false = refl

reached_push : (before : List Line) (next : Line) → IsReached before → IsLine next → may_follow before next ≡ true → IsReached (before ++ next ∷ [])
reached_push before (line.Paint (Open wid x y w h)) r is may =
    let parts = and_parts (not (is_some (opening_in before))) (leb (w * h) 4194304) may in
    reached_open before wid x y w h r is (none_from (opening_in before) parts.0) (leb-true (w * h) 4194304 parts.1)
reached_push before (line.Paint (Fill wid x y w h c)) r is may =
    let found = holds_is (opening_in before) wid x y w h may in
    reached_fill before wid x y w h c found.0 r is found.1 found.2 found.3 found.4
reached_push before (line.Peer order) r is may =
    subst (λ o. IsReached (before ++ line.Peer o ∷ [])) (sym is) (reached_peer before r (not-true (list_any is_peer before) may))

-- ---- all lines of a text

pub bind_ok : {A B : Type 0} (f : A → Result B ℕ) (r : Result A ℕ) (y : B) → (r >>= f) ≡ Ok y → (x : A) × (r ≡ Ok x) × (f x ≡ Ok y)
bind_ok f (Ok x) y e = (x, refl, e)
bind_ok f (Err d) y e = absurd cc

taken : (before : List Line) (o : Option Line) (next : Line) → allowed before o ≡ Ok next → (o ≡ Some next) × (may_follow before next ≡ true)
taken before None next e = absurd cc
taken before (Some l) next e = allowed_is (may_follow before l) refl e
  where
    allowed_is : (b : Bool) → may_follow before l ≡ b → cond b (Ok l) (Err (length before + 1)) ≡ Ok next → (Some l ≡ Some next) × (may_follow before next ≡ true)
    allowed_is true may e = let is : l ≡ next = cc in (ap Some is, subst (λ k. may_follow before k ≡ true) is may)
    allowed_is false may e = absurd cc

pub next_is : (before : List Line) (text : List ℕ) (next : Line) → next_line before text ≡ Ok next → (line_of text ≡ Some next) × (may_follow before next ≡ true)
unfolding next_line
next_is before text next e = taken before (line_of text) next e

after_is : (texts : List (List ℕ)) (before lines : List Line) → IsReached before → script_after before texts ≡ Ok lines → IsScript lines
unfolding script_after
after_is [] before lines r e = let is : before ≡ lines = cc in subst IsScript is r.script
after_is (text ∷ texts) before lines r e =
    let a = bind_ok _ (next_line before text) lines e in
    let t = next_is before text a.0 a.1 in
    after_is texts (before ++ a.0 ∷ []) lines (reached_push before a.0 r (line_is text a.0 t.0) t.1) a.2

reached_none : IsReached []
unfolding last_desk
reached_none = record {
  script = record { paints = λ place next here. absurd (none-some next here); one_open = omega arith; one_peer = omega arith; exact = λ k d within. absurd (omega arith) };
  desk = refl;
  opens = λ _. refl;
  peers = λ _. refl;
}

pub chosen_ok : (b : Bool) (r : Result (List Line) ℕ) (lines : List Line) → cond b r (Err 0) ≡ Ok lines → r ≡ Ok lines
chosen_ok true r lines e = e
chosen_ok false r lines e = absurd cc

pub script_is : (text : List ℕ) (lines : List Line) → script_of text ≡ Ok lines → IsScript lines
unfolding script_of
script_is text lines e = after_is (lines_of text) [] lines reached_none (chosen_ok (leb (length text) 65536) (script_after [] (lines_of text)) lines e)
