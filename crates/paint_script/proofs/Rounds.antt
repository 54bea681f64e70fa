-- The lines of a generated script have no fault.
use Rattle.std.proofs.Common.{◌≡◌, inl, inr, ℕ, zero, suc, ◌+◌, ◌*◌, ◌<◌, ◌≤◌, Bool, true, false, ◌||◌, not, Option, Some, None, List, [], ◌∷◌, ◌++◌, length, get_or, cond, eqb, ltb, refl, sym, ap, ◌∙◌, arith, subst}
use Rattle.std.specs.Prelude.{Result, Ok, Err, IfOk, pos, is_some, All}
use Rattle.std.proofs.lemmas.Bool.{cases_lt, le-leb, le-ltb, eq-eqb}
use Rattle.std.proofs.Math.Nat.{mul-le-mul}
use Rattle.std.proofs.lemmas.Bool.Decides.{nat_tests}
use Rattle.std.proofs.lemmas.Int.{ints}
use Rattle.std.proofs.lemmas.Option.{same_Some}
use Rattle.std.proofs.lemmas.List.{length-map, length_push}
use Rattle.std.proofs.lemmas.List.Elements.{All-push, All-map, All-filter}
use Rattle.std.proofs.lemmas.List.Sums.{sum_by-cons, sum_by_push}
use Rattle.xp_base.specs.Keyed.{keyed_push, keyed_push_some}
use Rattle.xp_base.specs.KeyedLaws.{KeyedFinds}
use Rattle.window_model.specs.Generator.{next_state}
use Rattle.script_lines.specs.declared.paint.Paint.{Paint}
use Rattle.script_lines.specs.declared.paint.Paint.TheVariants.{Open, Fill, Copy, Noise, Resize, Move, Raise}
use Rattle.link_bay.specs.declared.order.Order.{Order}
use Rattle.script_lines.specs.declared.plan.PlanLine.{PlanLine}
use Rattle.script_lines.specs.declared.line.Line.{Line}
use Rattle.script_lines.specs.declared.line.Line.TheVariants as line
use Rattle.script_lines.specs.Ranges.{IsLine, IsBetween, IsBox, IsPlace}
use Rattle.paint_script.specs.declared.opening.Opening.{Opening}
use Rattle.paint_script.specs.declared.draws.Draw.{Draw}
use Rattle.paint_script.specs.Validity.{has_opened, paint_lines}
use Rattle.paint_script.specs.Faults.{find_open, is_open, holds, pixels_of, with_size, with_resized, paint_fault, fault_after, windows_after, reopens}
use Rattle.paint_script.specs.Kept.{without, raised_last, windows_with}
use Rattle.paint_script.specs.Generated.{IsDrawn, round_line, state_after, rounds, openings, beginning, generated}
use Rattle.paint_script.specs.Stage.{first_windows, IsBegun, IsLarge, AreFour, IsReady, joining, opening_line, round_lines}
use Rattle.paint_script.proofs.Openings.{is_open-push, is_open-resized, area_of, raised_less}
use Rattle.paint_script.proofs.Keeping.{none_opened, no_windows, windows_paint, windows_order, windows_plan, opened_paint, opened_order, or_true}

-- ---- the windows at first

length-first : (count : ℕ) → length (first_windows count) ≡ count
unfolding first_windows
length-first zero = refl
length-first (suc count) = length_push (first_windows count) (record { wid = count + 1; w = 256; h = 256 }) ∙ omega (arith, length-first count)

pixels-first : (count : ℕ) → pixels_of (first_windows count) ≡ 65536 * count
unfolding first_windows
pixels-first zero = refl
pixels-first (suc count) = sum_by_push area_of (first_windows count) (record { wid = count + 1; w = 256; h = 256 }) ∙ omega (arith, pixels-first count)

large-first : (count : ℕ) → All IsLarge (first_windows count)
unfolding first_windows
large-first zero = λ k d within. absurd (omega arith)
large-first (suc count) = All-push IsLarge (first_windows count) (record { wid = count + 1; w = 256; h = 256 }) (large-first count)
    (record { wide = omega arith; high = omega arith; narrow = omega arith; low = omega arith })

there-first : (count wid : ℕ) → 1 ≤ wid → wid ≤ count → is_open (first_windows count) wid ≡ true
unfolding first_windows
there-first zero wid some most = absurd (omega arith)
there-first (suc count) wid some most =
    let pushed = is_open-push (first_windows count) (record { wid = count + 1; w = 256; h = 256 }) wid in
    elim (cases_lt wid (count + 1)) [
      | inl before ↦ pushed ∙ ap (λ b. b || eqb (count + 1) wid) (there-first count wid some (omega (arith, before)))
      | inr past ↦ let last : count + 1 ≡ wid = omega (arith, past, most) in pushed ∙ ap (λ b. is_open (first_windows count) wid || b) (eq-eqb (count + 1) wid last) ∙ sym (or_true (is_open (first_windows count) wid))
    ]

pub ready_begun : (lines : List Line) → IsBegun lines 4 → IsReady lines
ready_begun lines is = subst AreFour (sym is.windows) (record { few = omega (arith, length-first 4); large = large-first 4; there = there-first 4 })

pub begun_none : IsBegun [] 0
unfolding first_windows
begun_none = record { windows = no_windows; fresh = λ k later. none_opened k }

pub begun_order : (lines : List Line) (order : Order) → IsBegun lines 0 → IsBegun (lines ++ line.Peer order ∷ []) 0
begun_order lines order is = record { windows = windows_order lines order ∙ is.windows; fresh = λ k later. opened_order lines order k ∙ is.fresh k later }

pub begun_window : (lines : List Line) (count : ℕ) → IsBegun lines count → IsBegun (lines ++ line.Paint (Open (count + 1) (pos 0) (pos 0) 256 256) ∷ []) (count + 1)
unfolding first_windows
begun_window lines count is =
    let next : suc count ≡ count + 1 = omega arith in
    record {
      windows = windows_paint lines (Open (count + 1) (pos 0) (pos 0) 256 256) ∙ ap (λ (ws : List Opening). keyed_push ws (record { wid = count + 1; w = 256; h = 256 })) is.windows ∙ ap first_windows next;
      fresh = λ k later.
          opened_paint lines (Open (count + 1) (pos 0) (pos 0) 256 256) k ∙ ap (λ b. b || eqb (count + 1) k) (is.fresh k (omega (arith, later)))
          ∙ grind (arith, nat_tests, later);
    }

pub begun_fits : (lines : List Line) (count : ℕ) → IsBegun lines count → count < 4 → fault_after lines (line.Paint (Open (count + 1) (pos 0) (pos 0) 256 256)) ≡ None
unfolding fault_after
begun_fits lines count is few =
    let windows = windows_after lines in
    let again : has_opened (paint_lines lines) (count + 1) ≡ false = is.fresh (count + 1) (omega arith) in
    let room : ltb 32 (length windows + 1) ≡ false = le-ltb 32 (length windows + 1) (omega (arith, ap length is.windows, length-first count, few)) in
    let small : ltb 4194304 (pixels_of windows + 256 * 256) ≡ false = le-ltb 4194304 (pixels_of windows + 256 * 256) (omega (arith, ap pixels_of is.windows, pixels-first count, few)) in
    rw again (rw room (rw small refl))

pub begun_in_range : (count : ℕ) → count < 4 → IsLine (line.Paint (Open (count + 1) (pos 0) (pos 0) 256 256))
begun_in_range count few =
    let here : IsPlace (pos 0) = record { least = omega (arith, ints); most = omega (arith, ints) } in
    let side : IsBetween 1 4096 256 = record { least = omega arith; most = omega arith } in
    (record { least = omega arith; most = omega (arith, few) }, here, here, side, side)

-- ---- four windows

found_here : (P : Opening → Type 0) (b : Bool) (first : Opening) (rest : Option Opening) (o : Opening) → P first → (rest ≡ Some o → P o) → cond b (Some first) rest ≡ Some o → P o
found_here P true first rest o one later e = subst P (same_Some first o e) one
found_here P false first rest o one later e = later e

found_large : (windows : List Opening) (wid : ℕ) (o : Opening) → All IsLarge windows → find_open windows wid ≡ Some o → IsLarge o
found_large [] wid o all e = absurd cc
found_large (first ∷ windows) wid o all e =
    found_here IsLarge (eqb first.wid wid) first (find_open windows wid) o (all 0 first (omega arith)) (found_large windows wid o (λ k d within. all (suc k) d (omega arith))) e

held : (o : Option Opening) (x y w h : ℕ) → is_some o ≡ true → ((found : Opening) → o ≡ Some found → IsLarge found) → x + w ≤ 192 → y + h ≤ 192 → holds o x y w h ≡ true
held None x y w h there large across down = absurd cc
held (Some o) x y w h there large across down =
    let is = large o refl in
    rw (le-leb (x + w) o.w (omega (arith, across, is.wide))) (le-leb (y + h) o.h (omega (arith, down, is.high)))

holds_four : (windows : List Opening) (wid x y w h : ℕ) → AreFour windows → 1 ≤ wid → wid ≤ 4 → x + w ≤ 192 → y + h ≤ 192 → holds (find_open windows wid) x y w h ≡ true
holds_four windows wid x y w h four first last across down =
    held (find_open windows wid) x y w h (four.there wid first last) (λ o e. found_large windows wid o four.large e) across down

small_large : (windows : List Opening) → All IsLarge windows → pixels_of windows ≤ 65536 * length windows
small_large [] all = omega arith
small_large (o ∷ windows) all =
    let is : IsLarge o = all 0 o (omega arith) in
    let one : o.w * o.h ≤ 256 * 256 = mul-le-mul is.narrow is.low in
    omega (arith, sum_by-cons area_of o windows, one, small_large windows (λ k d within. all (suc k) d (omega arith)))

pub four_resized : (windows : List Opening) (wid w h : ℕ) → AreFour windows → 192 ≤ w → w ≤ 256 → 192 ≤ h → h ≤ 256 → AreFour (with_resized windows wid w h)
four_resized windows wid w h four wide narrow high low = record {
  few = omega (arith, length-map windows (λ (o : Opening). cond (eqb o.wid wid) (with_size w h o) o), four.few);
  large = All-map IsLarge (λ (o : Opening). cond (eqb o.wid wid) (with_size w h o) o) windows (λ k d within. one (get_or windows k d) (eqb (get_or windows k d).wid wid) (four.large k d within));
  there = λ k first last. is_open-resized windows wid w h k ∙ four.there k first last;
}
  where
    one : (o : Opening) (b : Bool) → IsLarge o → IsLarge (cond b (with_size w h o) o)
    one o true is = record { wide = wide; high = high; narrow = narrow; low = low }
    one o false is = is

large_pushed : (windows : List Opening) (o : Option Opening) → All IsLarge windows → ((found : Opening) → o ≡ Some found → IsLarge found) → All IsLarge (keyed_push_some windows o)
large_pushed windows None all one = all
large_pushed windows (Some o) all one = All-push IsLarge windows o all (one o refl)

pub four_raised : KeyedFinds Opening → (windows : List Opening) (wid : ℕ) → AreFour windows → AreFour (raised_last windows wid)
four_raised finds windows wid four = record {
  few = omega (arith, (raised_less windows wid (find_open windows wid) refl).0, four.few);
  large = large_pushed (without windows wid) (find_open windows wid) (All-filter (λ (o : Opening). not (eqb o.wid wid)) IsLarge windows four.large) (λ o e. found_large windows wid o four.large e);
  there = λ k first last. ap is_some (finds.moved (λ (o : Opening). o.wid) windows wid k) ∙ four.there k first last;
}

-- ---- the line of a round

-- what holds of each line that a round may have
chosen : (P : Paint → Type 0) (d : Draw) → P (Noise d.wid d.x d.y d.w d.h d.c) → P (Copy d.wid d.x d.y d.w d.h d.y d.x) → P (Resize d.wid (191 + d.w) (191 + d.h)) → P (Raise d.wid)
    → P (Move d.wid (pos d.x) (pos d.y)) → P (Fill d.wid d.x d.y d.w d.h d.c) → P (round_line d)
unfolding round_line
chosen P d noise copy resize raise move fill =
    either (eqb d.kind 3) noise (either (eqb d.kind 4) copy (either (eqb d.kind 5) resize (either (eqb d.kind 6) raise (either (eqb d.kind 7) move fill))))
  where
    either : (b : Bool) {one two : Paint} → P one → P two → P (cond b one two)
    either true one two = one
    either false one two = two

pub round_in_range : (d : Draw) → IsDrawn d → IsLine (line.Paint (round_line d))
round_in_range d is = chosen (λ p. IsLine (line.Paint p)) d (box, omega (arith, is.coloured)) (box, point d.y is.down, point d.x is.across) (wid, side (191 + d.w) (omega arith) (omega (arith, is.wide)), side (191 + d.h) (omega arith) (omega (arith, is.high)))
    wid (wid, place d.x is.across, place d.y is.down) (box, is.coloured)
  where
    wid : IsBetween 1 65535 d.wid
    wid = record { least = is.first; most = omega (arith, is.last) }

    point : (n : ℕ) → n < 128 → IsBetween 0 4095 n
    point n small = record { least = omega arith; most = omega (arith, small) }

    side : (n : ℕ) → 1 ≤ n → n ≤ 4096 → IsBetween 1 4096 n
    side n some most = record { least = some; most = most }

    place : (n : ℕ) → n < 128 → IsPlace (pos n)
    place n small = record { least = omega (arith, ints); most = omega (arith, ints, small) }

    box : IsBox d.wid d.x d.y d.w d.h
    box = record {
      window = wid;
      across = point d.x is.across;
      down = point d.y is.down;
      wide = side d.w is.some_wide (omega (arith, is.wide));
      high = side d.h is.some_high (omega (arith, is.high));
    }

pub round_fits : (windows : List Opening) (d : Draw) → AreFour windows → IsDrawn d → paint_fault windows false (round_line d) ≡ None
round_fits windows d four is =
    let there : is_open windows d.wid ≡ true = four.there d.wid is.first is.last in
    let inside : holds (find_open windows d.wid) d.x d.y d.w d.h ≡ true =
    holds_four windows d.wid d.x d.y d.w d.h four is.first is.last (omega (arith, is.across, is.wide)) (omega (arith, is.down, is.high)) in
    let target : holds (find_open windows d.wid) d.y d.x d.w d.h ≡ true =
    holds_four windows d.wid d.y d.x d.w d.h four is.first is.last (omega (arith, is.down, is.wide)) (omega (arith, is.across, is.high)) in
    let after = four_resized windows d.wid (191 + d.w) (191 + d.h) four (omega (arith, is.some_wide)) (omega (arith, is.wide)) (omega (arith, is.some_high)) (omega (arith, is.high)) in
    let small : ltb 4194304 (pixels_of (with_resized windows d.wid (191 + d.w) (191 + d.h))) ≡ false =
    le-ltb 4194304 (pixels_of (with_resized windows d.wid (191 + d.w) (191 + d.h))) (omega (arith, small_large (with_resized windows d.wid (191 + d.w) (191 + d.h)) after.large, after.few)) in
    chosen (λ p. paint_fault windows false p ≡ None) d (rw there (rw inside refl)) (rw there (rw inside (rw target refl))) (rw there (rw small refl)) (rw there refl) (rw there refl) (rw there (rw inside refl))

pub round_stays : KeyedFinds Opening → (windows : List Opening) (d : Draw) → AreFour windows → IsDrawn d → AreFour (windows_with windows (round_line d))
round_stays finds windows d four is =
    chosen (λ p. AreFour (windows_with windows p)) d four four
    (four_resized windows d.wid (191 + d.w) (191 + d.h) four (omega (arith, is.some_wide)) (omega (arith, is.wide)) (omega (arith, is.some_high)) (omega (arith, is.high)))
    (four_raised finds windows d.wid four) four four

not_again : (before : List Paint) (d : Draw) → reopens before (round_line d) ≡ false
not_again before d = chosen (λ p. reopens before p ≡ false) d refl refl refl refl refl refl

pub round_after : (lines : List Line) (d : Draw) → IsReady lines → IsDrawn d → fault_after lines (line.Paint (round_line d)) ≡ None
unfolding fault_after
round_after lines d ready is =
    ap (λ again. paint_fault (windows_after lines) again (round_line d)) (not_again (paint_lines lines) d) ∙ round_fits (windows_after lines) d ready is

pub ready_round : KeyedFinds Opening → (lines : List Line) (d : Draw) → IsReady lines → IsDrawn d → IsReady (lines ++ line.Paint (round_line d) ∷ [])
ready_round finds lines d ready is = subst AreFour (sym (windows_paint lines (round_line d))) (round_stays finds (windows_after lines) d ready is)

pub ready_plan : (lines : List Line) (plan : PlanLine) → IsReady lines → IsReady (lines ++ line.Plan plan ∷ [])
ready_plan lines plan ready = subst AreFour (sym (windows_plan lines plan)) ready

-- ---- states

pub state_more : (state count more : ℕ) → state_after (state_after state count) more ≡ state_after state (more + count)
unfolding state_after
state_more state count zero = let same : count ≡ zero + count = omega arith in ap (state_after state) same
state_more state count (suc more) = let same : suc (more + count) ≡ suc more + count = omega arith in ap next_state (state_more state count more) ∙ ap (state_after state) same

-- ---- all rounds

pub rounds_none : (state : ℕ) → rounds state 0 ≡ []
unfolding rounds
rounds_none state = refl

rounds_next : (state count : ℕ) → rounds state (suc count) ≡ rounds state count ++ round_lines (state_after state (7 * count)) count
unfolding rounds
rounds_next state count = refl

pub rounds_more : (state count : ℕ) → rounds state (count + 1) ≡ rounds state count ++ round_lines (state_after state (7 * count)) count
rounds_more state count = let next : count + 1 ≡ suc count = omega arith in ap (rounds state) next ∙ rounds_next state count

pub beginning_is : beginning ≡ ((((((([] ++ joining false ∷ []) ++ joining true ∷ []) ++ joining false ∷ []) ++ opening_line 0 ∷ []) ++ opening_line 1 ∷ []) ++ opening_line 2 ∷ []) ++ opening_line 3 ∷ [])
unfolding beginning openings
beginning_is = refl

pub generated_is : (n : ℕ) → generated n ≡ beginning ++ rounds n 500
unfolding generated
generated_is n = refl

-- ---- answers

pub ok_all : {E : Type 0} (P : List Line → Type 0) (lines : List Line) (r : Result (List Line) E) → IfOk r (λ more. more ≡ lines) → P lines → IfOk r P
ok_all P lines (Ok more) is kept = subst P (sym is) kept
ok_all P lines (Err e) is kept = tt

pub ok_more : {E : Type 0} (P Q : List Line → Type 0) → ((lines : List Line) → P lines → Q lines) → (r : Result (List Line) E) → IfOk r P → IfOk r Q
ok_more P Q more (Ok lines) is = more lines is
ok_more P Q more (Err e) is = tt

pub begins : (r0 r1 r2 r3 r4 r5 r6 : List Line) → r0 ≡ [] → r1 ≡ r0 ++ joining false ∷ [] → r2 ≡ r1 ++ joining true ∷ [] → r3 ≡ r2 ++ joining false ∷ []
    → r4 ≡ r3 ++ opening_line 0 ∷ [] → r5 ≡ r4 ++ opening_line 1 ∷ [] → r6 ≡ r5 ++ opening_line 2 ∷ [] → r6 ++ opening_line 3 ∷ [] ≡ beginning
begins r0 r1 r2 r3 r4 r5 r6 e0 e1 e2 e3 e4 e5 e6 =
    ap (λ ls. ls ++ opening_line 3 ∷ []) (e6 ∙ ap (λ ls. ls ++ opening_line 2 ∷ []) (e5 ∙ ap (λ ls. ls ++ opening_line 1 ∷ []) (e4 ∙ ap (λ ls. ls ++ opening_line 0 ∷ [])
    (e3 ∙ ap (λ ls. ls ++ joining false ∷ []) (e2 ∙ ap (λ ls. ls ++ joining true ∷ []) (e1 ∙ ap (λ ls. ls ++ joining false ∷ []) e0))))))
    ∙ sym beginning_is

pub state_none : (state : ℕ) → state_after state 0 ≡ state
unfolding state_after
state_none state = refl
