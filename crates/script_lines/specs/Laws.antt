-- What the definitions of lines come to.
use Rattle.std.specs.Prelude.{ℕ, ◌≡◌, Some, Ok, List}
use Rattle.script_lines.specs.declared.line.Line.{Line}
use Rattle.script_lines.specs.Forms.{text_line}
use Rattle.script_lines.specs.Ranges.{IsLine}

-- the numbers of a line that is read are in their ranges
abbrev pub LinesInRange : Type 0
LinesInRange = (text : List ℕ) (line : Line) → text_line text ≡ Ok (Some line) → IsLine line
