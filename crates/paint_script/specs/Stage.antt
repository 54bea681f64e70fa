-- What stands while a script is generated: four windows, each of at least 192 by 192 and at most 256 by 256. This project's own.
use Rattle.std.specs.Prelude.{ℕ, zero, suc, pos, ◌+◌, ◌≤◌, ◌<◌, ◌≡◌, Bool, true, false, if◌then◌else◌, List, [], ◌∷◌, ◌++◌, length, All}
use Rattle.link_bay.specs.declared.order.Order.TheVariants.{Join}
use Rattle.link_bay.specs.declared.order.Kind.TheVariants as peers
use Rattle.script_lines.specs.declared.paint.Paint.TheVariants.{Open}
use Rattle.script_lines.specs.declared.line.Line.{Line}
use Rattle.script_lines.specs.declared.line.Line.TheVariants as line
use Rattle.paint_script.specs.declared.opening.Opening.{Opening}
use Rattle.paint_script.specs.Validity.{has_opened, paint_lines}
use Rattle.paint_script.specs.Faults.{is_open, windows_after}
use Rattle.paint_script.specs.Generated.{round_line, drawn, pause_after}

-- the first so many windows
unfoldable pub first_windows : ℕ → List Opening
first_windows zero = []
first_windows (suc count) = first_windows count ++ record { wid = count + 1; w = 256; h = 256 } ∷ []

-- so many windows were opened, and nothing else was done
pub record IsBegun (lines : List Line) (count : ℕ) : Type 0 where
  pub windows : windows_after lines ≡ first_windows count
  pub fresh : (k : ℕ) → count < k → has_opened (paint_lines lines) k ≡ false

pub record IsLarge (o : Opening) : Type 0 where
  pub wide : 192 ≤ o.w
  pub high : 192 ≤ o.h
  pub narrow : o.w ≤ 256
  pub low : o.h ≤ 256

pub record AreFour (windows : List Opening) : Type 0 where
  pub few : length windows ≤ 4
  pub large : All IsLarge windows
  pub there : (wid : ℕ) → 1 ≤ wid → wid ≤ 4 → is_open windows wid ≡ true

-- the four windows stand after these lines
abbrev pub IsReady : List Line → Type 0
IsReady lines = AreFour (windows_after lines)

-- a peer that is exact, or lossy
abbrev pub joining : Bool → Line
joining lossy = line.Peer (Join (if lossy then peers.Lossy else peers.Exact) [])

-- the window after so many
abbrev pub opening_line : ℕ → Line
opening_line count = line.Paint (Open (count + 1) (pos 0) (pos 0) 256 256)

-- the lines of the round with this number, counted from 0, which begins with this state
abbrev pub round_lines : ℕ → ℕ → List Line
round_lines state round = line.Paint (round_line (drawn state)) ∷ pause_after (round + 1)
