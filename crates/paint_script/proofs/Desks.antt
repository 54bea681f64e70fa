-- Desktops after paint lines.
use Rattle.std.proofs.Common.{None, Option, Bor, ◌≡◌, inl, inr, ℕ, zero, suc, ◌+◌, ◌*◌, ◌^◌, ◌<◌, ◌≤◌, lit<, false, Some, List, [], ◌∷◌, ◌++◌, length, take, get_or, refl, sym, ap, ◌∙◌, arith, subst}
use Rattle.std.specs.Prelude.{ℤ}
use Rattle.std.specs.Option.{option_copied, IfSome, IfNone}
use Rattle.std.specs.List.{slice_get}
use Rattle.std.proofs.lemmas.Bool.{cases_lt, le-ltb}
use Rattle.std.proofs.lemmas.List.{take_more, length-replicate}
use Rattle.std.proofs.lemmas.List.Elements.{All-replicate}
use Rattle.std.proofs.lemmas.Option.{slice_get-get_or, slice_get_within, get_or_from_slice_get, none-some}
use Rattle.std.proofs.lemmas.Grind.{common_steps}
use Rattle.window_model.specs.Drawing.{blank}
use Rattle.window_model.specs.Desktop.{Window, IsWindow, IsDesktop, fresh_window}
use Rattle.window_model.specs.Laws.{EffectsKeep}
use Rattle.script_lines.specs.declared.paint.Paint.{Paint}
use Rattle.script_lines.specs.declared.paint.Paint.TheVariants.{Open, Close, Fill, Copy, Noise, Resize, Move, Raise}
use Rattle.paint_script.specs.Painting.{rectangle, painted, painted_by, desk_at, last_desk}
use Rattle.paint_script.specs.Validity.{pixel_count, IsPaintOn, IsOpenOn, ArePaints}
use Rattle.paint_script.specs.Faults.{open_windows, pixels_of, is_one_too_many, is_too_large, with_resized}
use Rattle.paint_script.specs.Kept.{windows_with}
use Rattle.paint_script.specs.Laws.{DeskAtStart, DeskAtNext, DeskAtEnd, PaintedLines, ValidDesks}
use Rattle.paint_script.proofs.Openings.{length-open_windows, pixels_of-open_windows, open_windows-painted, few_with, small_with}

pub painted_by-append : (desk : List Window) (lines more : List Paint) → painted_by desk (lines ++ more) ≡ painted_by (painted_by desk lines) more
painted_by-append desk [] more = refl
painted_by-append desk (line ∷ lines) more = painted_by-append (painted desk line) lines more

pub last_push : (lines : List Paint) (p : Paint) → last_desk (lines ++ p ∷ []) ≡ painted (last_desk lines) p
unfolding last_desk
last_push lines p = painted_by-append [] lines (p ∷ [])

pub take-whole : (lines : List Paint) (count : ℕ) → length lines ≤ count → take count lines ≡ lines
take-whole lines count whole = grind (arith, common_steps)

pub desk_at_start_lem : DeskAtStart
unfolding desk_at
desk_at_start_lem lines = refl

pub desk_at_end_lem : DeskAtEnd
unfolding desk_at last_desk
desk_at_end_lem lines place past = ap (painted_by []) (take-whole lines place past)

pub take-next : (lines : List Paint) (place : ℕ) (line : Paint) → slice_get lines place ≡ Some line → take (place + 1) lines ≡ take place lines ++ line ∷ []
take-next lines place line here =
    let within = slice_get_within lines place line here in
    take_more lines place line within ∙ ap (λ l. take place lines ++ l ∷ []) (get_or_from_slice_get lines place line line here)

pub desk_at_next_lem : DeskAtNext
unfolding desk_at
desk_at_next_lem lines place line here = ap (painted_by []) (take-next lines place line here) ∙ painted_by-append [] (take place lines) (line ∷ [])

pub painted_lines_lem : PaintedLines
painted_lines_lem = record {
  opening = λ desk wid x y w h. refl;
  closing = λ desk wid. refl;
  filling = λ desk wid x y w h c. refl;
  copying = λ desk wid x y w h tx ty. refl;
  noising = λ desk wid x y w h seed. refl;
  resizing = λ desk wid w h. refl;
  moving = λ desk wid x y. refl;
  raising = λ desk wid. refl;
}

some_paint : Paint
some_paint = Close 0

pub last_desk_past : (lines : List Paint) (place : ℕ) → slice_get lines place ≡ None → desk_at lines place ≡ last_desk lines
last_desk_past lines place none =
    elim (cases_lt place (length lines)) [
      | inl within ↦
          let line = get_or lines place some_paint in
          absurd (none-some line (sym none ∙ slice_get-get_or lines place some_paint within))
      | inr past ↦ desk_at_end_lem lines place past
    ]

pub next_desk : (lines : List Paint) (place : ℕ) (o : Option (Bor Paint)) → option_copied o ≡ slice_get lines place
    → IfSome o (λ p. desk_at lines (place + 1) ≡ painted (desk_at lines place) p.now)
next_desk lines place None is = tt
next_desk lines place (Some p) is = desk_at_next_lem lines place p.now (sym is)

pub valid_line : (lines : List Paint) (place : ℕ) (o : Option (Bor Paint)) → ArePaints lines → option_copied o ≡ slice_get lines place
    → IfSome o (λ p. IsPaintOn (desk_at lines place) p.now)
valid_line lines place None are is = tt
valid_line lines place (Some p) are is = are.valid place p.now (sym is)

pub end_desk : (lines : List Paint) (place : ℕ) (o : Option (Bor Paint)) → option_copied o ≡ slice_get lines place → IfNone o (desk_at lines place ≡ last_desk lines)
end_desk lines place None is = last_desk_past lines place (sym is)
end_desk lines place (Some p) is = tt

-- ---- valid lines keep a desktop

IsWindow-fresh : (desk : List Window) (wid : ℕ) (x y : ℤ) (w h : ℕ) → IsOpenOn desk wid x y w h → IsWindow (fresh_window wid x y w h)
unfolding blank
IsWindow-fresh desk wid x y w h is = record {
  first = is.first;
  last = is.last;
  across = is.across;
  down = is.down;
  wide = is.wide;
  high = is.high;
  sized = length-replicate (w * h) 0;
  coloured = All-replicate (λ n. n < 2 ^ 24) (w * h) 0 (lit< tt);
}

IsDesktop-painted : EffectsKeep → (desk : List Window) (line : Paint) → IsDesktop desk → IsPaintOn desk line → IsDesktop (painted desk line)
IsDesktop-painted keep desk (Open wid x y w h) is on = keep.opening desk wid x y w h is on.new (IsWindow-fresh desk wid x y w h on)
IsDesktop-painted keep desk (Close wid) is on = keep.removing desk wid is
IsDesktop-painted keep desk (Fill wid x y w h c) is on = keep.filling desk wid (rectangle x y w h) c is on.coloured
IsDesktop-painted keep desk (Copy wid x y w h tx ty) is on = keep.copying desk wid (rectangle x y w h) tx ty is
IsDesktop-painted keep desk (Noise wid x y w h seed) is on = keep.noising desk wid (rectangle x y w h) seed is
IsDesktop-painted keep desk (Resize wid w h) is on = keep.resizing desk wid w h is on.wide on.high
IsDesktop-painted keep desk (Move wid x y) is on = keep.moving desk wid x y is on.across on.down
IsDesktop-painted keep desk (Raise wid) is on = keep.raising desk wid is

has_room : (desk : List Window) (p : Paint) → IsPaintOn desk p → is_one_too_many (open_windows desk) p ≡ false
has_room desk (Open wid x y w h) on = le-ltb 32 (length (open_windows desk) + 1) (omega (arith, length-open_windows desk, on.windows))
has_room desk (Close wid) on = refl
has_room desk (Fill wid x y w h c) on = refl
has_room desk (Copy wid x y w h tx ty) on = refl
has_room desk (Noise wid x y w h seed) on = refl
has_room desk (Resize wid w h) on = refl
has_room desk (Move wid x y) on = refl
has_room desk (Raise wid) on = refl

is_small : (desk : List Window) (p : Paint) → IsPaintOn desk p → is_too_large (open_windows desk) p ≡ false
is_small desk (Open wid x y w h) on = le-ltb 4194304 (pixels_of (open_windows desk) + w * h) (omega (arith, pixels_of-open_windows desk, on.pixels))
is_small desk (Close wid) on = refl
is_small desk (Fill wid x y w h c) on = refl
is_small desk (Copy wid x y w h tx ty) on = refl
is_small desk (Noise wid x y w h seed) on = refl
is_small desk (Resize wid w h) on =
    le-ltb 4194304 (pixels_of (with_resized (open_windows desk) wid w h))
    (omega (arith, ap pixels_of (open_windows-painted desk (Resize wid w h)), pixels_of-open_windows (painted desk (Resize wid w h)), on.pixels))
is_small desk (Move wid x y) on = refl
is_small desk (Raise wid) on = refl

length-painted : (desk : List Window) (p : Paint) → length desk ≤ 32 → IsPaintOn desk p → length (painted desk p) ≤ 32
length-painted desk p few on =
    let more : length (windows_with (open_windows desk) p) ≤ 32 = few_with (open_windows desk) p (omega (arith, length-open_windows desk, few)) (has_room desk p on) in
    omega (arith, length-open_windows (painted desk p), ap length (open_windows-painted desk p), more)

pixel_count-painted : (desk : List Window) (p : Paint) → pixel_count desk ≤ 4194304 → IsPaintOn desk p → pixel_count (painted desk p) ≤ 4194304
pixel_count-painted desk p few on =
    let more : pixels_of (windows_with (open_windows desk) p) ≤ 4194304 = small_with (open_windows desk) p (omega (arith, pixels_of-open_windows desk, few)) (is_small desk p on) in
    omega (arith, pixels_of-open_windows (painted desk p), ap pixels_of (open_windows-painted desk p), more)

-- a fact of the empty desktop that valid lines keep is one of each desktop
along : (P : List Window → Type 0) → P [] → ((desk : List Window) (line : Paint) → P desk → IsPaintOn desk line → P (painted desk line))
    → (lines : List Paint) (place : ℕ) → ArePaints lines → P (desk_at lines place)
along P empty next lines zero are = subst P (sym (desk_at_start_lem lines)) empty
along P empty next lines (suc place) are =
    elim (cases_lt place (length lines)) [
      | inl within ↦
          let line = get_or lines place some_paint in
          let here : slice_get lines place ≡ Some line = slice_get-get_or lines place some_paint within in
          subst P (sym (desk_at_next_lem lines place line here) ∙ ap (desk_at lines) (omega arith)) (next (desk_at lines place) line (along P empty next lines place are) (are.valid place line here))
      | inr past ↦
          subst P (desk_at_end_lem lines place past ∙ sym (desk_at_end_lem lines (suc place) (omega arith))) (along P empty next lines place are)
    ]

pub valid_desks_lem : EffectsKeep → ValidDesks
valid_desks_lem keep = record {
  desktop = along IsDesktop (record { windows = λ k d within. absurd (omega arith); distinct = λ i j d before within. absurd (omega arith) }) (IsDesktop-painted keep);
  windows = along (λ desk. length desk ≤ 32) (omega arith) length-painted;
  pixels = along (λ desk. pixel_count desk ≤ 4194304) (omega arith) pixel_count-painted;
}
