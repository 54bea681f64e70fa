-- The script that a text is, or its first fault. This project's own.
use Rattle.std.specs.Prelude.{ℕ, ◌+◌, ◌*◌, ◌≡◌, ◌==◌, Bool, true, false, ◌&&◌, not, nat_le, if◌then◌else◌, Option, Some, None, is_some, Result, Ok, Err, List, [], ◌∷◌, ◌++◌, length}
use Rattle.std.specs.Option.{option_or}
use Rattle.std.specs.List.{list_any}
use Rattle.first_script.specs.declared.paint.Paint.TheVariants.{Open, Fill}
use Rattle.first_script.specs.declared.opening.Opening.{Opening}
use Rattle.first_script.specs.declared.line.Line.{Line}
use Rattle.first_script.specs.declared.line.Line.TheVariants as line
use Rattle.first_script.specs.declared.fault.Why.TheVariants.{Unbuilt}
use Rattle.first_script.specs.declared.fault.ReadError.{ReadError}
use Rattle.first_script.specs.declared.fault.ReadError.TheVariants as error
use Rattle.first_script.specs.declared.reading.ScriptRead.{ScriptRead}
use Rattle.first_script.specs.declared.reading.ScriptRead.TheVariants as read
use Rattle.first_script.specs.Text.{lines_of}
use Rattle.first_script.specs.Forms.{line_of}

-- the window that a line opens: its number and size
abbrev pub opening_of : Line → Option Opening
opening_of (line.Paint (Open wid x y w h)) = Some (record { wid = wid; w = w; h = h })
opening_of (line.Paint (Fill wid x y w h c)) = None
opening_of (line.Peer order) = None

-- the first window that these lines open
abbrev pub opening_in : List Line → Option Opening
opening_in [] = None
opening_in (line ∷ lines) = option_or (opening_of line) (opening_in lines)

abbrev pub is_peer : Line → Bool
is_peer (line.Paint paint) = false
is_peer (line.Peer order) = true

-- this is the window, and the rectangle lies in it
abbrev pub holds : Option Opening → ℕ → ℕ → ℕ → ℕ → ℕ → Bool
holds None wid x y w h = false
holds (Some o) wid x y w h = (o.wid == wid) && (nat_le (x + w) o.w && nat_le (y + h) o.h)

-- a line may stand where this window was opened, and a peer came or not: one window is opened, of at most 4,194,304
-- pixels; a `fill` lies in it; one peer comes
abbrev pub fits : Option Opening → Bool → Line → Bool
fits opening has_peer (line.Paint (Open wid x y w h)) = not (is_some opening) && nat_le (w * h) 4194304
fits opening has_peer (line.Paint (Fill wid x y w h c)) = holds opening wid x y w h
fits opening has_peer (line.Peer order) = not has_peer

-- a line may stand after these
abbrev pub may_follow : List Line → Line → Bool
may_follow before next = fits (opening_in before) (list_any is_peer before) next

-- the next line after these, or its number
abbrev pub allowed : List Line → Option Line → Result Line ℕ
allowed before None = Err (length before + 1)
allowed before (Some next) = if may_follow before next then Ok next else Err (length before + 1)

unfoldable pub next_line : List Line → List ℕ → Result Line ℕ
next_line before text = allowed before (line_of text)

-- an error is that of reading, or memory ran out
abbrev pub Fails : {A : Type 0} → ReadError → Result A ℕ → Type 0
Fails error.Memory wanted = Unit {0}
Fails (error.Line number) wanted = wanted ≡ Err number

-- what a reader that has these lines makes of a text: it has the next line too, or nothing changed
abbrev pub Takes : List Line → List ℕ → Result (Unit {0}) ReadError → List Line → Type 0
Takes old text (Ok done) new = (next : Line) × (next_line old text ≡ Ok next) × (new ≡ old ++ next ∷ [])
Takes old text (Err e) new = Fails e (next_line old text) × (new ≡ old)

infixl 10 ◌>>=◌
abbrev pub ◌>>=◌ : {A B : Type 0} → Result A ℕ → (A → Result B ℕ) → Result B ℕ
(Ok a) >>= f = f a
(Err line) >>= f = Err line

-- these lines and those that the texts are, or the number of the first that is wrong
unfoldable pub script_after : List Line → List (List ℕ) → Result (List Line) ℕ
script_after before [] = Ok before
script_after before (text ∷ texts) = do
  next ← next_line before text
  script_after (before ++ next ∷ []) texts

-- the script that a text of at most 65,536 bytes is, or the number of its first wrong line; 0 for a longer text
unfoldable pub script_of : List ℕ → Result (List Line) ℕ
script_of text = if nat_le (length text) 65536 then script_after [] (lines_of text) else Err 0

-- what a function answers is that, seen by view, unless memory runs out
abbrev pub Gives : {X Y : Type 0} → (X → Y) → Result X ReadError → Result Y ℕ → Type 0
Gives view (Ok x) wanted = wanted ≡ Ok (view x)
Gives view (Err e) wanted = Fails e wanted

-- a reading answers that, unless memory runs out
abbrev pub Reads : ScriptRead → Result (List Line) ℕ → Type 0
Reads (read.Valid script) wanted = wanted ≡ Ok script
Reads (read.Fault fault) wanted = (wanted ≡ Err fault.line) × (fault.why ≡ Unbuilt)
Reads read.NoMemory wanted = Unit {0}
