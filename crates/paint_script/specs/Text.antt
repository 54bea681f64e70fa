-- The script that a text is, or its first fault. This project's own.
use Rattle.std.specs.Prelude.{ℕ, zero, suc, ◌+◌, ◌≡◌, Bool, true, false, nat_le, if◌then◌else◌, Option, Some, None, Result, Ok, Err, List, [], ◌∷◌, ◌++◌, length, take, slice_index_or, position}
use Rattle.std.specs.Option.{option_map, option_or}
use Rattle.script_lines.specs.declared.why.Why.{Why}
use Rattle.script_lines.specs.declared.why.Why.TheVariants as why
use Rattle.script_lines.specs.declared.line.Line.{Line}
use Rattle.script_lines.specs.declared.line.Line.TheVariants as line
use Rattle.script_lines.specs.declared.reading.LineError.{LineError}
use Rattle.script_lines.specs.declared.reading.LineError.TheVariants as error
use Rattle.script_lines.specs.Text.{lines_of}
use Rattle.script_lines.specs.Forms.{text_line}
use Rattle.paint_script.specs.declared.fault.ScriptFault.{ScriptFault}
use Rattle.paint_script.specs.declared.fault.ReadError.{ReadError}
use Rattle.paint_script.specs.declared.fault.ReadError.TheVariants as failed
use Rattle.paint_script.specs.declared.reading.ScriptRead.{ScriptRead}
use Rattle.paint_script.specs.declared.reading.ScriptRead.TheVariants as read
use Rattle.paint_script.specs.Faults.{fault_after}

-- the line, where the text of one is a line
abbrev pub made : Result (Option Line) Why → List Line
made (Ok (Some line)) = line ∷ []
made (Ok None) = []
made (Err why) = []

-- the lines that texts are
unfoldable pub made_of : List (List ℕ) → List Line
made_of [] = []
made_of (text ∷ texts) = made (text_line text) ++ made_of texts

-- the fault of a line by itself; else its fault after those before it
abbrev pub own_fault : List Line → Result (Option Line) Why → Option Why
own_fault before (Err why) = Some why
own_fault before (Ok None) = None
own_fault before (Ok (Some line)) = fault_after before line

-- the fault of this line at this place, counted from 0, after these lines: line 100,001 is one too many, whatever it is
unfoldable pub line_fault : List Line → ℕ → List ℕ → Option Why
line_fault before place text = if nat_le 100000 place then Some why.Lines else own_fault before (text_line text)

-- the fault of the line at this place of a text
unfoldable pub fault_at : List (List ℕ) → ℕ → Option Why
fault_at texts place = line_fault (made_of (take place texts)) place (slice_index_or texts place [])

-- the first fault of the first so many lines, with the line's number, counted from 1
unfoldable pub first_fault : List (List ℕ) → ℕ → Option ScriptFault
first_fault texts zero = None
first_fault texts (suc count) = option_or (first_fault texts count) (option_map (λ why. record { line = count + 1; why = why }) (fault_at texts count))

abbrev pub unless : {A : Type 0} → Option ScriptFault → A → Result A ScriptFault
unless None a = Ok a
unless (Some fault) a = Err fault

-- the script that a text of at most 33,554,432 bytes is, or its first fault; a longer text has a fault at line 0
unfoldable pub script_of : List ℕ → Result (List Line) ScriptFault
script_of text =
    if nat_le (length text) 33554432 then unless (first_fault (lines_of text) (length (lines_of text))) (made_of (lines_of text))
    else Err (record { line = 0; why = why.Bytes })

-- an error is that of reading, or memory ran out
abbrev pub Fails : {A : Type 0} → ReadError → Result A ScriptFault → Type 0
Fails failed.Memory wanted = Unit {0}
Fails (failed.Fault fault) wanted = wanted ≡ Err fault

-- what a function answers is that, unless memory runs out
abbrev pub Gives : Result (List Line) ReadError → Result (List Line) ScriptFault → Type 0
Gives (Ok lines) wanted = wanted ≡ Ok lines
Gives (Err e) wanted = Fails e wanted

-- a reading answers that, unless memory runs out
abbrev pub Reads : ScriptRead → Result (List Line) ScriptFault → Type 0
Reads (read.Valid script) wanted = wanted ≡ Ok script
Reads (read.Fault fault) wanted = wanted ≡ Err fault
Reads read.NoMemory wanted = Unit {0}

-- what a reader that has these lines makes of the text at this place: it has that line too, or the line is at fault
abbrev pub Takes : List Line → ℕ → List ℕ → Result (List Line) LineError → Type 0
Takes before place text (Ok lines) = (line_fault before place text ≡ None) × (lines ≡ before ++ made (text_line text))
Takes before place text (Err error.Memory) = Unit {0}
Takes before place text (Err (error.Fault why)) = line_fault before place text ≡ Some why

-- the error of the line with this number
abbrev pub failed_at : LineError → ℕ → ReadError
failed_at error.Memory number = failed.Memory
failed_at (error.Fault why) number = failed.Fault (record { line = number; why = why })

-- ---- plan lines

abbrev pub is_plan : Result (Option Line) Why → Bool
is_plan (Ok (Some (line.Plan plan))) = true
is_plan (Ok (Some (line.Paint paint))) = false
is_plan (Ok (Some (line.Peer order))) = false
is_plan (Ok None) = false
is_plan (Err why) = false

-- the number of the first plan line of a text, counted from 1
unfoldable pub first_plan_line : List ℕ → Option ℕ
first_plan_line text = option_map (λ place. place + 1) (position (λ line. is_plan (text_line line)) (lines_of text))
