-- What the program's words and input come to, and what is written with each status. This project's own.
use Rattle.std.specs.Prelude.{ℕ, ◌≡◌, ◌≢◌, ◌≤◌, Bool, false, slice_get, length, take, All, IsOk, Option, Some, None, Result, Ok, Err, List, [], ◌∷◌, codes}
use Rattle.xp_base.specs.Told.{told_append}
use Rattle.first_script.specs.declared.line.Line.{Line}
use Rattle.first_script.specs.Reading.{script_of}
use Rattle.first_script.specs.Validity.{paint_lines, peer_orders}
use Rattle.first_script.specs.Painting.{last_desk}
use Rattle.link_bay.specs.declared.order.Order.{Order}
use Rattle.client_connection.specs.declared.ends.End.{End}
use Rattle.client_connection.specs.declared.ends.End.TheVariants.{Settled, Short}
use Rattle.first_script.specs.declared.paint.Paint.{Paint}
use Rattle.link_bay.specs.Connections.{ConnectionRecord}
use Rattle.session_core.specs.Causes.{HasCause, IsUnbuiltFor}
use Rattle.session_core.specs.State.{is_unended}
use Rattle.session_core.specs.Ends.{AllEnded}
use Rattle.xpra_server.specs.Report.{report}
use Rattle.xpra_server.specs.Texts.{fault_line}

-- the words are the one form that is built: `play`
abbrev pub IsPlay : List (List ℕ) → Type 0
IsPlay words = words ≡ codes "play" ∷ []

-- the text is no script, and this is its fault line
abbrev pub IsFaultOf : Result (List Line) ℕ → List ℕ → Type 0
IsFaultOf (Ok lines) written = ⊥
IsFaultOf (Err number) written = written ≡ fault_line number

-- where the input tells its bytes they are a script
abbrev pub IsScript : Option (List ℕ) → Type 0
IsScript None = Unit {0}
IsScript (Some text) = IsOk (script_of text)

-- each connection has ended, and none for want of memory
pub record AreEnds (ends : List End) : Type 0 where
  pub ended : AllEnded ends
  pub fed : All (λ e. e ≢ Short) ends

-- where the input tells its bytes they are no script, and the fault line was written
abbrev pub Faults : Option (List ℕ) → Option (List ℕ) → Option (List ℕ) → Type 0
Faults None taken taken' = Unit {0}
Faults (Some text) taken taken' = (written : List ℕ) × IsFaultOf (script_of text) written × (taken' ≡ told_append taken written)

-- a part of this text from its front was written, none of it or all of it perhaps
abbrev pub WritesPartOf : List ℕ → Option (List ℕ) → Option (List ℕ) → Type 0
WritesPartOf text taken taken' = (n : ℕ) × (n ≤ length text) × (taken' ≡ told_append taken (take n text))

-- what a run over a text prints: the report with these ends, or the fault line where it is no script
abbrev pub IsPrinted : Result (List Line) ℕ → List End → List ℕ → Type 0
IsPrinted (Ok lines) ends printed = printed ≡ report (last_desk (paint_lines lines)) ends
IsPrinted (Err number) ends printed = printed ≡ fault_line number

-- of an input that doesn't tell its bytes: what a run over some text prints
abbrev pub IsPrintedOf : Option (List ℕ) → List End → List ℕ → Type 0
IsPrintedOf None ends printed = (judged : Result (List Line) ℕ) × IsPrinted judged ends printed
IsPrintedOf (Some text) ends printed = IsPrinted (script_of text) ends printed

-- a part of what the run prints was written
abbrev pub WritesPart : Option (List ℕ) → List End → Option (List ℕ) → Option (List ℕ) → Type 0
WritesPart left ends taken taken' = (printed : List ℕ) × IsPrintedOf left ends printed × WritesPartOf printed taken taken'

-- each connection that has ended has its cause, by these paint lines and the desktop after them
abbrev pub AllHaveCauses : Bool → List Paint → (ℕ → ConnectionRecord) → List End → Type 0
AllHaveCauses tells paints connection ends = (k : ℕ) (e : End) → slice_get ends k ≡ Some e → is_unended e ≡ false → HasCause tells paints (last_desk paints) e (connection k)

-- the text is a script, and each end has its cause, by its lines; where it is none, nobody was there
abbrev pub HaveCausesBy : Bool → Result (List Line) ℕ → (ℕ → ConnectionRecord) → List End → Type 0
HaveCausesBy tells (Ok lines) connection ends = AllHaveCauses tells (paint_lines lines) connection ends
HaveCausesBy tells (Err number) connection ends = ends ≡ []

-- the same of the input; where it doesn't tell its bytes, by some paint lines
abbrev pub HaveCausesFor : Bool → Option (List ℕ) → (ℕ → ConnectionRecord) → List End → Type 0
HaveCausesFor tells None connection ends = (paints : List Paint) × AllHaveCauses tells paints connection ends
HaveCausesFor tells (Some text) connection ends = HaveCausesBy tells (script_of text) connection ends

-- the input tells its bytes, and they are a script
abbrev pub TellsScript : Option (List ℕ) → Type 0
TellsScript None = ⊥
TellsScript (Some text) = IsOk (script_of text)

-- the text of the input: the one that was left, where it is told
abbrev pub IsTextOf : Option (List ℕ) → List ℕ → Type 0
IsTextOf None text = Unit {0}
IsTextOf (Some left) text = text ≡ left

-- A run that ended well. The text of the input is a script; the report of the desktop after its paint lines and of the ends was
-- written; the provider was asked for the peers that it orders, and for nothing else; each connection has ended with its cause; and
-- one without a cause of the end `Unbuilt` has ended `Settled`.
pub record RanWell (tells : Bool) (left taken taken' : Option (List ℕ)) (asked asked' : Option (List Order)) (connection : ℕ → ConnectionRecord) (ends : List End) : Type 0 where
  pub text : List ℕ
  pub lines : List Line
  pub input : IsTextOf left text
  pub script : script_of text ≡ Ok lines
  pub written : taken' ≡ told_append taken (report (last_desk (paint_lines lines)) ends)
  pub ordered : asked' ≡ told_append asked (peer_orders lines)
  pub causes : AllHaveCauses tells (paint_lines lines) connection ends
  pub settled : (k : ℕ) (e : End) → slice_get ends k ≡ Some e → (IsUnbuiltFor (paint_lines lines) (connection k) → ⊥) → e ≡ Settled
