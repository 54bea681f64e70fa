-- What the reader keeps, after one more line.
use Rattle.std.proofs.Common.{◌≡◌, inl, inr, ℕ, ◌+◌, ◌<◌, ◌≤◌, Bool, true, false, ◌||◌, None, List, [], ◌∷◌, ◌++◌, length, get_or, set, cond, eqb, refl, sym, ap, ◌∙◌, arith, subst}
use Rattle.std.specs.List.{count_by}
use Rattle.std.proofs.lemmas.Bool.{cases_eq, eq-eqb}
use Rattle.std.proofs.lemmas.Bool.Decides.{nat_tests}
use Rattle.std.proofs.lemmas.List.{append-nil, length-set, get_or-set_same, get_or-set_other}
use Rattle.std.proofs.lemmas.List.Sums.{sum_by_push, count_by-le-length}
use Rattle.link_bay.specs.declared.order.Order.{Order}
use Rattle.link_bay.specs.declared.order.Order.TheVariants.{Join}
use Rattle.link_bay.specs.declared.order.Kind.{Kind}
use Rattle.script_lines.specs.declared.paint.Paint.{Paint}
use Rattle.script_lines.specs.declared.paint.Paint.TheVariants.{Open, Close, Fill, Copy, Noise, Resize, Move, Raise}
use Rattle.script_lines.specs.declared.plan.PlanLine.{PlanLine}
use Rattle.script_lines.specs.declared.line.Line.{Line}
use Rattle.script_lines.specs.declared.line.Line.TheVariants as line
use Rattle.script_lines.specs.Ranges.{IsLine}
use Rattle.paint_script.specs.declared.opening.Opening.{Opening}
use Rattle.paint_script.specs.Painting.{last_desk}
use Rattle.paint_script.specs.Validity.{opens, has_opened, paint_lines, peer_orders}
use Rattle.paint_script.specs.Faults.{open_windows, reopens, paint_fault, peer_fault, fault_after, windows_after, joined, is_join}
use Rattle.paint_script.specs.Kept.{windows_with, is_marked, marked, AreMarks, IsKept}
use Rattle.paint_script.proofs.Openings.{open_windows-painted, has_opened-push}
use Rattle.paint_script.proofs.Desks.{last_push}
use Rattle.paint_script.proofs.Scripts.{paint_lines-append, peer_orders-append, IsScript-push, IsScript-none}

pub none_opened : (k : ℕ) → has_opened [] k ≡ false
unfolding has_opened
none_opened k = refl

pub no_windows : windows_after [] ≡ []
unfolding open_windows last_desk
no_windows = refl

pub kept_none : (marks : List Bool) → length marks ≡ 65536 → ((k : ℕ) → k < 65536 → get_or marks k false ≡ false) → IsKept [] [] marks 0
kept_none marks sized clear = record {
  script = IsScript-none;
  windows_are = sym no_windows;
  marks_are = record { sized = sized; exact = λ k within. clear k within ∙ sym (none_opened k) };
  peers_are = refl;
}

-- ---- the fault of a line

marked_reopens : (lines : List Line) (marks : List Bool) (p : Paint) → AreMarks marks lines → ((k : ℕ) → opens k p ≡ true → k < 65536) → is_marked marks p ≡ reopens (paint_lines lines) p
marked_reopens lines marks (Open wid x y w h) are small = are.exact wid (small wid (eq-eqb wid wid refl))
marked_reopens lines marks (Close wid) are small = refl
marked_reopens lines marks (Fill wid x y w h c) are small = refl
marked_reopens lines marks (Copy wid x y w h tx ty) are small = refl
marked_reopens lines marks (Noise wid x y w h seed) are small = refl
marked_reopens lines marks (Resize wid w h) are small = refl
marked_reopens lines marks (Move wid x y) are small = refl
marked_reopens lines marks (Raise wid) are small = refl

pub fault_paint : (lines : List Line) (windows : List Opening) (marks : List Bool) (peers : ℕ) (p : Paint) → IsKept lines windows marks peers
    → ((k : ℕ) → opens k p ≡ true → k < 65536) → paint_fault windows (is_marked marks p) p ≡ fault_after lines (line.Paint p)
unfolding fault_after
fault_paint lines windows marks peers p is small =
    ap (λ (ws : List Opening). paint_fault ws (is_marked marks p) p) is.windows_are
    ∙ ap (λ again. paint_fault (windows_after lines) again p) (marked_reopens lines marks p is.marks_are small)

pub fault_order : (lines : List Line) (windows : List Opening) (marks : List Bool) (peers : ℕ) (order : Order) → IsKept lines windows marks peers
    → peer_fault peers order ≡ fault_after lines (line.Peer order)
unfolding fault_after
fault_order lines windows marks peers order is = ap (λ n. peer_fault n order) is.peers_are

pub fault_plan : (lines : List Line) (plan : PlanLine) → None ≡ fault_after lines (line.Plan plan)
unfolding fault_after
fault_plan lines plan = refl

-- ---- one more line

pub windows_paint : (lines : List Line) (p : Paint) → windows_after (lines ++ line.Paint p ∷ []) ≡ windows_with (windows_after lines) p
windows_paint lines p =
    ap (λ ps. open_windows (last_desk ps)) (paint_lines-append lines (line.Paint p ∷ [])) ∙ ap open_windows (last_push (paint_lines lines) p) ∙ open_windows-painted (last_desk (paint_lines lines)) p

paints_order : (lines : List Line) (order : Order) → paint_lines (lines ++ line.Peer order ∷ []) ≡ paint_lines lines
paints_order lines order = paint_lines-append lines (line.Peer order ∷ []) ∙ append-nil (paint_lines lines)

paints_plan : (lines : List Line) (plan : PlanLine) → paint_lines (lines ++ line.Plan plan ∷ []) ≡ paint_lines lines
paints_plan lines plan = paint_lines-append lines (line.Plan plan ∷ []) ∙ append-nil (paint_lines lines)

pub windows_order : (lines : List Line) (order : Order) → windows_after (lines ++ line.Peer order ∷ []) ≡ windows_after lines
windows_order lines order = ap (λ ps. open_windows (last_desk ps)) (paints_order lines order)

pub windows_plan : (lines : List Line) (plan : PlanLine) → windows_after (lines ++ line.Plan plan ∷ []) ≡ windows_after lines
windows_plan lines plan = ap (λ ps. open_windows (last_desk ps)) (paints_plan lines plan)

pub opened_paint : (lines : List Line) (p : Paint) (k : ℕ) → has_opened (paint_lines (lines ++ line.Paint p ∷ [])) k ≡ (has_opened (paint_lines lines) k || opens k p)
opened_paint lines p k = ap (λ ps. has_opened ps k) (paint_lines-append lines (line.Paint p ∷ [])) ∙ has_opened-push (paint_lines lines) p k

pub opened_order : (lines : List Line) (order : Order) (k : ℕ) → has_opened (paint_lines (lines ++ line.Peer order ∷ [])) k ≡ has_opened (paint_lines lines) k
opened_order lines order k = ap (λ ps. has_opened ps k) (paints_order lines order)

or_false : (b : Bool) → b ≡ (b || false)
or_false true = refl
or_false false = refl

pub or_true : (b : Bool) → true ≡ (b || true)
or_true true = refl
or_true false = refl

length-marked : (marks : List Bool) (p : Paint) → length (marked marks p) ≡ length marks
length-marked marks (Open wid x y w h) = length-set marks wid true
length-marked marks (Close wid) = refl
length-marked marks (Fill wid x y w h c) = refl
length-marked marks (Copy wid x y w h tx ty) = refl
length-marked marks (Noise wid x y w h seed) = refl
length-marked marks (Resize wid w h) = refl
length-marked marks (Move wid x y) = refl
length-marked marks (Raise wid) = refl

mark_at : (marks : List Bool) (wid k : ℕ) → k < length marks → get_or (set marks wid true) k false ≡ (get_or marks k false || eqb wid k)
mark_at marks wid k within = elim (cases_eq wid k) [
  | inl same ↦ subst (λ n. get_or (set marks n true) k false ≡ (get_or marks k false || eqb n k)) (sym same) (get_or-set_same marks k true false within ∙ or_true (get_or marks k false) ∙ ap (λ b. get_or marks k false || b) (sym (eq-eqb k k refl)))
  | inr other ↦ get_or-set_other marks wid k true false (λ e. other (sym e)) ∙ or_false (get_or marks k false) ∙ ap (λ b. get_or marks k false || b) (grind (arith, nat_tests, other))
]

marks_with : (marks : List Bool) (p : Paint) (k : ℕ) → k < length marks → get_or (marked marks p) k false ≡ (get_or marks k false || opens k p)
marks_with marks (Open wid x y w h) k within = mark_at marks wid k within
marks_with marks (Close wid) k within = or_false (get_or marks k false)
marks_with marks (Fill wid x y w h c) k within = or_false (get_or marks k false)
marks_with marks (Copy wid x y w h tx ty) k within = or_false (get_or marks k false)
marks_with marks (Noise wid x y w h seed) k within = or_false (get_or marks k false)
marks_with marks (Resize wid w h) k within = or_false (get_or marks k false)
marks_with marks (Move wid x y) k within = or_false (get_or marks k false)
marks_with marks (Raise wid) k within = or_false (get_or marks k false)

marks_paint : (lines : List Line) (marks : List Bool) (p : Paint) → AreMarks marks lines → AreMarks (marked marks p) (lines ++ line.Paint p ∷ [])
marks_paint lines marks p are = record {
  sized = length-marked marks p ∙ are.sized;
  exact = λ k within. marks_with marks p k (omega (arith, within, are.sized)) ∙ ap (λ b. b || opens k p) (are.exact k within) ∙ sym (opened_paint lines p k);
}

marks_stay : (lines more : List Line) (marks : List Bool) → paint_lines more ≡ paint_lines lines → AreMarks marks lines → AreMarks marks more
marks_stay lines more marks same are = record {
  sized = are.sized;
  exact = λ k within. are.exact k within ∙ ap (λ ps. has_opened ps k) (sym same);
}

joined_paint : (lines : List Line) (p : Paint) → joined (lines ++ line.Paint p ∷ []) ≡ joined lines
joined_paint lines p = ap (count_by is_join) (peer_orders-append lines (line.Paint p ∷ []) ∙ append-nil (peer_orders lines))

joined_plan : (lines : List Line) (plan : PlanLine) → joined (lines ++ line.Plan plan ∷ []) ≡ joined lines
joined_plan lines plan = ap (count_by is_join) (peer_orders-append lines (line.Plan plan ∷ []) ∙ append-nil (peer_orders lines))

joined_order : (lines : List Line) (order : Order) → joined (lines ++ line.Peer order ∷ []) ≡ joined lines + cond (is_join order) 1 0
joined_order lines order = ap (count_by is_join) (peer_orders-append lines (line.Peer order ∷ [])) ∙ sum_by_push (λ o. cond (is_join o) 1 0) (peer_orders lines) order

pub kept_paint : (lines : List Line) (windows : List Opening) (marks : List Bool) (peers : ℕ) (p : Paint) → IsKept lines windows marks peers → IsLine (line.Paint p)
    → fault_after lines (line.Paint p) ≡ None → IsKept (lines ++ line.Paint p ∷ []) (windows_with windows p) (marked marks p) peers
kept_paint lines windows marks peers p is in_range none = record {
  script = IsScript-push lines (line.Paint p) is.script in_range none;
  windows_are = ap (λ (ws : List Opening). windows_with ws p) is.windows_are ∙ sym (windows_paint lines p);
  marks_are = marks_paint lines marks p is.marks_are;
  peers_are = is.peers_are ∙ sym (joined_paint lines p);
}

pub kept_order : (lines : List Line) (windows : List Opening) (marks : List Bool) (peers : ℕ) (order : Order) → IsKept lines windows marks peers → IsLine (line.Peer order)
    → fault_after lines (line.Peer order) ≡ None → IsKept (lines ++ line.Peer order ∷ []) windows marks (peers + cond (is_join order) 1 0)
kept_order lines windows marks peers order is in_range none = record {
  script = IsScript-push lines (line.Peer order) is.script in_range none;
  windows_are = is.windows_are ∙ sym (windows_order lines order);
  marks_are = marks_stay lines (lines ++ line.Peer order ∷ []) marks (paints_order lines order) is.marks_are;
  peers_are = ap (λ n. n + cond (is_join order) 1 0) is.peers_are ∙ sym (joined_order lines order);
}

pub kept_plan : (lines : List Line) (windows : List Opening) (marks : List Bool) (peers : ℕ) (plan : PlanLine) → IsKept lines windows marks peers → IsLine (line.Plan plan)
    → IsKept (lines ++ line.Plan plan ∷ []) windows marks peers
kept_plan lines windows marks peers plan is in_range = record {
  script = IsScript-push lines (line.Plan plan) is.script in_range (sym (fault_plan lines plan));
  windows_are = is.windows_are ∙ sym (windows_plan lines plan);
  marks_are = marks_stay lines (lines ++ line.Plan plan ∷ []) marks (paints_plan lines plan) is.marks_are;
  peers_are = is.peers_are ∙ sym (joined_plan lines plan);
}

pub fault_join : (lines : List Line) (kind : Kind) (name : List ℕ) → fault_after lines (line.Peer (Join kind name)) ≡ None
unfolding fault_after
fault_join lines kind name = refl

length-peer_orders : (lines : List Line) → length (peer_orders lines) ≤ length lines
length-peer_orders [] = omega arith
length-peer_orders (line.Paint paint ∷ lines) = omega (arith, length-peer_orders lines)
length-peer_orders (line.Peer order ∷ lines) = omega (arith, length-peer_orders lines)
length-peer_orders (line.Plan plan ∷ lines) = omega (arith, length-peer_orders lines)

-- as many peers as lines at most
pub joined_few : (lines : List Line) → joined lines ≤ length lines
joined_few lines = omega (arith, count_by-le-length is_join (peer_orders lines), length-peer_orders lines)

-- the same, of a line that is met by its kind

pub pushed_paint : (lines : List Line) (windows : List Opening) (marks : List Bool) (peers : ℕ) (next : Line) (p : Paint) → IsKept lines windows marks peers → IsLine next
    → fault_after lines next ≡ None → next ≡ line.Paint p → IsKept (lines ++ next ∷ []) (windows_with windows p) (marked marks p) peers
pushed_paint lines windows marks peers next p is in_range none here =
    subst (λ l. IsKept (lines ++ l ∷ []) (windows_with windows p) (marked marks p) peers) (sym here)
    (kept_paint lines windows marks peers p is (subst IsLine here in_range) (ap (fault_after lines) (sym here) ∙ none))

counted : (lines : List Line) (windows : List Opening) (marks : List Bool) (peers more : ℕ) (next : Line) (order : Order) → IsKept lines windows marks peers → IsLine next
    → fault_after lines next ≡ None → next ≡ line.Peer order → peers + cond (is_join order) 1 0 ≡ more → IsKept (lines ++ next ∷ []) windows marks more
counted lines windows marks peers more next order is in_range none here count =
    subst (λ n. IsKept (lines ++ next ∷ []) windows marks n) count
    (subst (λ l. IsKept (lines ++ l ∷ []) windows marks (peers + cond (is_join order) 1 0)) (sym here)
    (kept_order lines windows marks peers order is (subst IsLine here in_range) (ap (fault_after lines) (sym here) ∙ none)))

pub pushed_join : (lines : List Line) (windows : List Opening) (marks : List Bool) (peers : ℕ) (next : Line) (order : Order) → IsKept lines windows marks peers → IsLine next
    → fault_after lines next ≡ None → next ≡ line.Peer order → is_join order ≡ true → IsKept (lines ++ next ∷ []) windows marks (peers + 1)
pushed_join lines windows marks peers next order is in_range none here join =
    counted lines windows marks peers (peers + 1) next order is in_range none here (ap (λ b. peers + cond b 1 0) join)

pub pushed_order : (lines : List Line) (windows : List Opening) (marks : List Bool) (peers : ℕ) (next : Line) (order : Order) → IsKept lines windows marks peers → IsLine next
    → fault_after lines next ≡ None → next ≡ line.Peer order → is_join order ≡ false → IsKept (lines ++ next ∷ []) windows marks peers
pushed_order lines windows marks peers next order is in_range none here join =
    counted lines windows marks peers peers next order is in_range none here (let zero_more : peers + 0 ≡ peers = omega arith in ap (λ b. peers + cond b 1 0) join ∙ zero_more)

pub pushed_plan : (lines : List Line) (windows : List Opening) (marks : List Bool) (peers : ℕ) (next : Line) (plan : PlanLine) → IsKept lines windows marks peers → IsLine next
    → next ≡ line.Plan plan → IsKept (lines ++ next ∷ []) windows marks peers
pushed_plan lines windows marks peers next plan is in_range here =
    subst (λ l. IsKept (lines ++ l ∷ []) windows marks peers) (sym here) (kept_plan lines windows marks peers plan is (subst IsLine here in_range))
