-- The text of a script: lines, words, numbers and colours. This project's own.
use Rattle.std.specs.Prelude.{ℕ, ◌+◌, ◌-◌, ◌*◌, ◌^◌, ◌==◌, ◌≡◌, Bool, false, ◌&&◌, nat_le, nat_lt, if◌then◌else◌, Option, Some, None, List, [], ◌∷◌, ◌++◌, length, map}
use Rattle.std.specs.List.{All, slice_split, onto_first, list_all}

-- the lines: the text is cut at each byte 0x0A, and a last piece that is empty is no line
abbrev pub lines_of : List ℕ → List (List ℕ)
lines_of [] = []
lines_of (byte ∷ bytes) = if byte == 10 then [] ∷ lines_of bytes else onto_first byte (lines_of bytes)

-- no byte of the text is this one
abbrev pub IsWithout : ℕ → List ℕ → Type 0
IsWithout byte text = All (λ other. (other == byte) ≡ false) text

-- the text is the first part, this byte, which the first part is without, and the rest
pub record IsCut (byte : ℕ) (text front rest : List ℕ) : Type 0 where
  pub parts : text ≡ front ++ byte ∷ rest
  pub without : IsWithout byte front

-- the words of a line: it is cut at each space, so that two spaces in a row have an empty word between them
abbrev pub words_of : List ℕ → List (List ℕ)
words_of line = slice_split (λ byte. byte == 32) line

-- the words of what is left of a line; none after the last
abbrev pub words_left : Option (List ℕ) → List (List ℕ)
words_left None = []
words_left (Some text) = words_of text

abbrev pub is_between : ℕ → ℕ → ℕ → Bool
is_between low high n = nat_le low n && nat_le n high

-- what a digit stands for: 0 to 9, then a to f of either case; 16 where the byte is none
abbrev pub digit : ℕ → ℕ
digit byte =
    if is_between 48 57 byte then byte - 48
    else (if is_between 65 70 byte then byte - 55 else (if is_between 97 102 byte then byte - 87 else 16))

-- the number that digits stand for, the highest first
abbrev pub value : ℕ → List ℕ → ℕ
value base [] = 0
value base (first ∷ digits) = first * base ^ length digits + value base digits

-- the number that a word of digits of this base stands for
unfoldable pub numeral : ℕ → List ℕ → Option ℕ
numeral base word = if list_all (λ byte. nat_lt (digit byte) base) word then Some (value base (map digit word)) else None

-- 1 to 10 decimal digits
unfoldable pub number : List ℕ → Option ℕ
number word = if is_between 1 10 (length word) then numeral 10 word else None

-- six hexadecimal digits: red, green and blue, two digits each
unfoldable pub colour : List ℕ → Option ℕ
colour word = if length word == 6 then numeral 16 word else None
