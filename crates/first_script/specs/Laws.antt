-- What the definitions come to: the desktops of paint lines, and the scripts of texts.
use Rattle.std.specs.Prelude.{ℕ, ◌+◌, ◌<◌, ◌≤◌, ◌≡◌, ◌⊎◌, true, false, Option, Some, None, Ok, Err, List, [], ◌∷◌, ◌++◌, length, map, take, slice_get}
use Rattle.window_model.specs.Desktop.{IsDesktop}
use Rattle.first_script.specs.declared.paint.Paint.{Paint}
use Rattle.first_script.specs.Painting.{painted, desk_at, last_desk}
use Rattle.first_script.specs.declared.line.Line.{Line}
use Rattle.first_script.specs.Validity.{ArePaints, IsScript, pixel_count}
use Rattle.first_script.specs.Text.{lines_of}
use Rattle.first_script.specs.Forms.{line_of}
use Rattle.first_script.specs.Reading.{may_follow, script_of}

abbrev pub DeskAtStart : Type 0
DeskAtStart = (lines : List Paint) → desk_at lines 0 ≡ []

abbrev pub DeskAtNext : Type 0
DeskAtNext = (lines : List Paint) (place : ℕ) (line : Paint) → slice_get lines place ≡ Some line
    → desk_at lines (place + 1) ≡ painted (desk_at lines place) line

abbrev pub DeskAtEnd : Type 0
DeskAtEnd = (lines : List Paint) (place : ℕ) → length lines ≤ place → desk_at lines place ≡ last_desk lines

-- after any number of valid lines
pub record ValidDesks : Type 0 where
  pub desktop : (lines : List Paint) (place : ℕ) → ArePaints lines → IsDesktop (desk_at lines place)
  pub windows : (lines : List Paint) (place : ℕ) → ArePaints lines → length (desk_at lines place) ≤ 32
  pub pixels : (lines : List Paint) (place : ℕ) → ArePaints lines → pixel_count (desk_at lines place) ≤ 4194304

-- each of these lines may follow the ones before it
abbrev pub AreFollowing : List Line → List Line → Type 0
AreFollowing before [] = Unit {0}
AreFollowing before (next ∷ more) = (may_follow before next ≡ true) × AreFollowing (before ++ next ∷ []) more

-- the text is these lines: so many, each of its form, each allowed where it stands
pub record IsScriptOf (text : List ℕ) (lines : List Line) : Type 0 where
  pub short : length text ≤ 65536
  pub forms : map line_of (lines_of text) ≡ map Some lines
  pub follow : AreFollowing [] lines

-- it is there, and of no form, or it may not follow
abbrev pub IsWrongAfter : List Line → Option (List ℕ) → Type 0
IsWrongAfter before None = ⊥
IsWrongAfter before (Some text) = (next : Line) → line_of text ≡ Some next → may_follow before next ≡ false

-- the text's first lines are these, and the next one is wrong
pub record IsWrongFrom (text : List ℕ) (before : List Line) : Type 0 where
  pub short : length text ≤ 65536
  pub forms : map line_of (take (length before) (lines_of text)) ≡ map Some before
  pub follow : AreFollowing [] before
  pub wrong : IsWrongAfter before (slice_get (lines_of text) (length before))

-- the first wrong line has this number, or the text is too long and the number is 0
abbrev pub IsFaultOf : List ℕ → ℕ → Type 0
IsFaultOf text number = ((number ≡ 0) × (65536 < length text)) ⊎ ((before : List Line) × (number ≡ length before + 1) × IsWrongFrom text before)

-- which lines are read from a text, and which fault
pub record ScriptsOfTexts : Type 0 where
  pub read : (text : List ℕ) (lines : List Line) → script_of text ≡ Ok lines → IsScriptOf text lines
  pub only : (text : List ℕ) (lines : List Line) → IsScriptOf text lines → script_of text ≡ Ok lines
  pub fault : (text : List ℕ) (number : ℕ) → script_of text ≡ Err number → IsFaultOf text number

abbrev pub ValidScripts : Type 0
ValidScripts = (text : List ℕ) (lines : List Line) → script_of text ≡ Ok lines → IsScript lines
