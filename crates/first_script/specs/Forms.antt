-- The forms of lines. This project's own.
use Rattle.std.specs.Prelude.{ℕ, ◌==◌, pos, if◌then◌else◌, Option, Some, None, option_and_then, List, [], ◌∷◌, length, codes}
use Rattle.std.specs.Str.{bytes_eq}
use Rattle.xp_base.specs.Points.{Rectangle}
use Rattle.link_bay.specs.declared.order.Order.TheVariants.{Join}
use Rattle.link_bay.specs.declared.order.Kind.TheVariants.{Exact}
use Rattle.first_script.specs.declared.paint.Paint.TheVariants.{Open, Fill}
use Rattle.first_script.specs.declared.line.Line.{Line}
use Rattle.first_script.specs.declared.line.Line.TheVariants as line
use Rattle.first_script.specs.Painting.{rectangle}
use Rattle.first_script.specs.Text.{words_of, number, colour, is_between}

infixl 10 ◌>>=◌
abbrev pub ◌>>=◌ : {A B : Type 0} → Option A → (A → Option B) → Option B
o >>= f = option_and_then f o

-- the first word, and the words after it
abbrev pub word_at : List (List ℕ) → Option (List ℕ × List (List ℕ))
word_at [] = None
word_at (word ∷ words) = Some (word, words)

-- a number in this range, and the words after it
unfoldable pub number_at : ℕ → ℕ → List (List ℕ) → Option (ℕ × List (List ℕ))
number_at low high words = do
  word ← word_at words
  n ← number word.0
  if is_between low high n then Some (n, word.1) else None

-- a colour, and the words after it
unfoldable pub colour_at : List (List ℕ) → Option (ℕ × List (List ℕ))
colour_at words = do
  word ← word_at words
  c ← colour word.0
  Some (c, word.1)

-- a rectangle X Y W H within a window, and the words after it
unfoldable pub rectangle_at : List (List ℕ) → Option (Rectangle × List (List ℕ))
rectangle_at words = do
  x ← number_at 0 4095 words
  y ← number_at 0 4095 x.1
  w ← number_at 1 4096 y.1
  h ← number_at 1 4096 w.1
  Some (rectangle x.0 y.0 w.0 h.0, h.1)

-- no words are left
abbrev pub ended : {A : Type 0} → A → List (List ℕ) → Option A
ended a words = if length words == 0 then Some a else None

-- `open WID X Y W H`, after its first word; its place has no sign so far
unfoldable pub open_at : List (List ℕ) → Option Line
open_at words = do
  wid ← number_at 1 65535 words
  x ← number_at 0 32767 wid.1
  y ← number_at 0 32767 x.1
  w ← number_at 1 4096 y.1
  h ← number_at 1 4096 w.1
  ended (line.Paint (Open wid.0 (pos x.0) (pos y.0) w.0 h.0)) h.1

-- `fill WID X Y W H C`, after its first word
unfoldable pub fill_at : List (List ℕ) → Option Line
fill_at words = do
  wid ← number_at 1 65535 words
  r ← rectangle_at wid.1
  c ← colour_at r.1
  ended (line.Paint (Fill wid.0 r.0.x r.0.y r.0.w r.0.h c.0)) c.1

-- `peer exact`, after its first word
unfoldable pub peer_at : List (List ℕ) → Option Line
peer_at words = do
  kind ← word_at words
  if bytes_eq kind.0 (codes "exact") then ended (line.Peer (Join Exact [])) kind.1 else None

-- the line that a text is, of the three forms
unfoldable pub line_of : List ℕ → Option Line
line_of text = do
  name ← word_at (words_of text)
  if bytes_eq name.0 (codes "open") then open_at name.1
      else (if bytes_eq name.0 (codes "fill") then fill_at name.1
      else (if bytes_eq name.0 (codes "peer") then peer_at name.1 else None))
