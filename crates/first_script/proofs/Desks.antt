-- Desktops after paint lines.
use Rattle.std.proofs.Common.{None, Option, Bor, ◌≡◌, inl, inr, ℕ, zero, suc, ◌+◌, ◌*◌, ◌^◌, ◌<◌, ◌≤◌, lit<, Bool, true, false, Some, List, [], ◌∷◌, ◌++◌, length, take, get_or, cond, eqb, refl, sym, ap, ◌∙◌, arith, subst}
use Rattle.std.specs.Prelude.{ℤ, pos}
use Rattle.std.specs.Option.{option_copied, IfSome, IfNone}
use Rattle.std.specs.List.{slice_get}
use Rattle.std.proofs.lemmas.Bool.{cases_lt}
use Rattle.std.proofs.lemmas.List.{take_more, length-replicate, length_push}
use Rattle.std.proofs.lemmas.List.Sums.{sum_by-cons, sum_by_push}
use Rattle.std.proofs.lemmas.List.Elements.{All-replicate}
use Rattle.std.proofs.lemmas.Option.{slice_get-get_or, slice_get_within, get_or_from_slice_get, none-some}
use Rattle.std.proofs.lemmas.Grind.{common_steps}
use Rattle.xp_base.specs.Points.{Rectangle}
use Rattle.window_model.specs.Drawing.{blank}
use Rattle.window_model.specs.Desktop.{Window, IsWindow, IsDesktop, changed_window, fresh_window, filled_window}
use Rattle.window_model.specs.Laws.{EffectsKeep}
use Rattle.first_script.specs.declared.paint.Paint.{Paint}
use Rattle.first_script.specs.declared.paint.Paint.TheVariants.{Open, Fill}
use Rattle.first_script.specs.Painting.{rectangle, painted, painted_by, desk_at, last_desk}
use Rattle.first_script.specs.Validity.{pixel_count, IsPaintOn, IsOpenOn, ArePaints}
use Rattle.first_script.specs.Laws.{DeskAtStart, DeskAtNext, DeskAtEnd, ValidDesks}

pub painted_by-append : (desk : List Window) (lines more : List Paint) → painted_by desk (lines ++ more) ≡ painted_by (painted_by desk lines) more
painted_by-append desk [] more = refl
painted_by-append desk (line ∷ lines) more = painted_by-append (painted desk line) lines more

take-whole : (lines : List Paint) (count : ℕ) → length lines ≤ count → take count lines ≡ lines
take-whole lines count whole = grind (arith, common_steps)

pub desk_at_start_lem : DeskAtStart
unfolding desk_at
desk_at_start_lem lines = refl

pub desk_at_end_lem : DeskAtEnd
unfolding desk_at last_desk
desk_at_end_lem lines place past = ap (painted_by []) (take-whole lines place past)

pub desk_at_next_lem : DeskAtNext
unfolding desk_at
desk_at_next_lem lines place line here =
    let within = slice_get_within lines place line here in
    let more : take (place + 1) lines ≡ take place lines ++ line ∷ [] = take_more lines place line within ∙ ap (λ l. take place lines ++ l ∷ []) (get_or_from_slice_get lines place line line here) in
    ap (painted_by []) more ∙ painted_by-append [] (take place lines) (line ∷ [])

pub last_desk_past : (lines : List Paint) (place : ℕ) → slice_get lines place ≡ None → desk_at lines place ≡ last_desk lines
last_desk_past lines place none =
    elim (cases_lt place (length lines)) [
      | inl within ↦
          let line = get_or lines place (Open 0 (pos 0) (pos 0) 0 0) in
          absurd (none-some line (sym none ∙ slice_get-get_or lines place (Open 0 (pos 0) (pos 0) 0 0) within))
      | inr past ↦ desk_at_end_lem lines place past
    ]

pub next_desk : (lines : List Paint) (place : ℕ) (o : Option (Bor Paint)) → option_copied o ≡ slice_get lines place
    → IfSome o (λ p. desk_at lines (place + 1) ≡ painted (desk_at lines place) p.now)
next_desk lines place None is = tt
next_desk lines place (Some p) is = desk_at_next_lem lines place p.now (sym is)

pub end_desk : (lines : List Paint) (place : ℕ) (o : Option (Bor Paint)) → option_copied o ≡ slice_get lines place → IfNone o (desk_at lines place ≡ last_desk lines)
end_desk lines place None is = last_desk_past lines place (sym is)
end_desk lines place (Some p) is = tt

-- ---- valid lines keep a desktop

IsWindow-fresh : (desk : List Window) (wid : ℕ) (x y : ℤ) (w h : ℕ) → IsOpenOn desk wid x y w h → IsWindow (fresh_window wid x y w h)
unfolding blank
IsWindow-fresh desk wid x y w h is = record {
  first = is.first;
  last = is.last;
  across = is.across;
  down = is.down;
  wide = is.wide;
  high = is.high;
  sized = length-replicate (w * h) 0;
  coloured = All-replicate (λ n. n < 2 ^ 24) (w * h) 0 (lit< tt);
}

IsDesktop-painted : EffectsKeep → (desk : List Window) (line : Paint) → IsDesktop desk → IsPaintOn desk line → IsDesktop (painted desk line)
IsDesktop-painted keep desk (Open wid x y w h) is on = keep.opening desk wid x y w h is on.new (IsWindow-fresh desk wid x y w h on)
IsDesktop-painted keep desk (Fill wid x y w h c) is on = keep.filling desk wid (rectangle x y w h) c is on.coloured

length-changed : (desk : List Window) (wid : ℕ) (change : Window → Window) → length (changed_window desk wid change) ≡ length desk
length-changed [] wid change = refl
length-changed (window ∷ desk) wid change = ap suc (length-changed desk wid change)

length-painted : (desk : List Window) (line : Paint) → length desk ≤ 32 → IsPaintOn desk line → length (painted desk line) ≤ 32
length-painted desk (Open wid x y w h) few on = omega (arith, length_push desk (fresh_window wid x y w h), on.windows)
length-painted desk (Fill wid x y w h c) few on = omega (arith, length-changed desk wid (filled_window (rectangle x y w h) c))

pixel_count-opened : (desk : List Window) (window : Window) → pixel_count (desk ++ window ∷ []) ≡ pixel_count desk + window.w * window.h
pixel_count-opened desk window = sum_by_push (λ (window : Window). window.w * window.h) desk window

pixel_count-filled : (desk : List Window) (wid : ℕ) (r : Rectangle) (c : ℕ) → pixel_count (changed_window desk wid (filled_window r c)) ≡ pixel_count desk
pixel_count-filled [] wid r c = refl
pixel_count-filled (window ∷ desk) wid r c =
    let size : Window → ℕ = λ (window : Window). window.w * window.h in
    let one : (b : Bool) → size (cond b (filled_window r c window) window) ≡ size window = λ b. elim b as (λ v. size (cond v (filled_window r c window) window) ≡ size window) [ true ↦ refl | false ↦ refl ] in
    sum_by-cons size (cond (eqb window.wid wid) (filled_window r c window) window) (changed_window desk wid (filled_window r c)) ∙ ap (λ n. n + pixel_count (changed_window desk wid (filled_window r c))) (one (eqb window.wid wid))
    ∙ ap (λ n. size window + n) (pixel_count-filled desk wid r c) ∙ sym (sum_by-cons size window desk)

pixel_count-painted : (desk : List Window) (line : Paint) → pixel_count desk ≤ 4194304 → IsPaintOn desk line → pixel_count (painted desk line) ≤ 4194304
pixel_count-painted desk (Open wid x y w h) few on = omega (arith, pixel_count-opened desk (fresh_window wid x y w h), on.pixels)
pixel_count-painted desk (Fill wid x y w h c) few on = omega (arith, pixel_count-filled desk wid (rectangle x y w h) c)

-- a fact of the empty desktop that valid lines keep is one of each desktop
along : (P : List Window → Type 0) → P [] → ((desk : List Window) (line : Paint) → P desk → IsPaintOn desk line → P (painted desk line))
    → (lines : List Paint) (place : ℕ) → ArePaints lines → P (desk_at lines place)
along P empty next lines zero are = subst P (sym (desk_at_start_lem lines)) empty
along P empty next lines (suc place) are =
    elim (cases_lt place (length lines)) [
      | inl within ↦
          let line = get_or lines place (Open 0 (pos 0) (pos 0) 0 0) in
          let here : slice_get lines place ≡ Some line = slice_get-get_or lines place _ within in
          subst P (sym (desk_at_next_lem lines place line here) ∙ ap (desk_at lines) (omega arith)) (next (desk_at lines place) line (along P empty next lines place are) (are place line here))
      | inr past ↦
          subst P (desk_at_end_lem lines place past ∙ sym (desk_at_end_lem lines (suc place) (omega arith))) (along P empty next lines place are)
    ]

pub valid_desks_lem : EffectsKeep → ValidDesks
valid_desks_lem keep = record {
  desktop = along IsDesktop (record { windows = λ k d within. absurd (omega arith); distinct = λ i j d before within. absurd (omega arith) }) (IsDesktop-painted keep);
  windows = along (λ desk. length desk ≤ 32) (omega arith) length-painted;
  pixels = along (λ desk. pixel_count desk ≤ 4194304) (omega arith) pixel_count-painted;
}
