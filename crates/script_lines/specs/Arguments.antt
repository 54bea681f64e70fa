-- What may stand at the places of a line, and how a line that has such places is judged. This project's own.
use Rattle.std.specs.Prelude.{ℕ, zero, suc, ℤ, pos, negsuc, ◌==◌, Bool, true, false, ◌&&◌, nat_le, int_le, is_some, if◌then◌else◌, Result, Ok, Err, List, [], ◌∷◌, length, drop, slice_index_or}
use Rattle.std.specs.Option.{unwrap_or}
use Rattle.script_lines.specs.declared.why.Why.{Why}
use Rattle.script_lines.specs.declared.why.Why.TheVariants as why
use Rattle.script_lines.specs.Numbers.{is_between, number, signed, colour, is_hex, is_name}

-- a number from one number to another; a place of a window, which may have a sign; a colour; bytes in hexadecimal; a uuid
pub data Argument : Type 0 where
  Number : ℕ → ℕ → Argument
  Place : Argument
  Colour : Argument
  Hex : Argument
  Uuid : Argument

-- the word is spelled so
abbrev pub is_spelled : Argument → List ℕ → Bool
is_spelled (Number low high) word = is_some (number word)
is_spelled Place word = is_some (signed word)
is_spelled Colour word = is_some (colour word)
is_spelled Hex word = is_hex word
is_spelled Uuid word = is_name word

-- what words stand for where they are spelled so
abbrev pub number_of : List ℕ → ℕ
number_of word = unwrap_or (number word) 0

abbrev pub place_of : List ℕ → ℤ
place_of word = unwrap_or (signed word) (pos 0)

abbrev pub colour_of : List ℕ → ℕ
colour_of word = unwrap_or (colour word) 0

-- the number is in its range
abbrev pub is_within : Argument → List ℕ → Bool
is_within (Number low high) word = is_between low high (number_of word)
is_within Place word = int_le (negsuc 32767) (place_of word) && int_le (place_of word) (pos 32767)
is_within Colour word = true
is_within Hex word = true
is_within Uuid word = true

-- the first word; an empty one where there is none
abbrev pub first_word : List (List ℕ) → List ℕ
first_word words = slice_index_or words 0 []

-- each word is spelled as its place wants it, and each number in its range
abbrev pub are_spelled : List Argument → List (List ℕ) → Bool
are_spelled [] words = true
are_spelled (argument ∷ arguments) words = is_spelled argument (first_word words) && are_spelled arguments (drop 1 words)

abbrev pub are_within : List Argument → List (List ℕ) → Bool
are_within [] words = true
are_within (argument ∷ arguments) words = is_within argument (first_word words) && are_within arguments (drop 1 words)

-- what is judged by its spelling, and by its range then
abbrev pub judged : {A : Type 0} → Bool → Bool → A → Result A Why
judged spelled within a = if spelled then (if within then Ok a else Err why.Range) else Err why.Number

-- what the words of a line come to that wants these at its places: their number is looked at first, then how each is
-- spelled, then each number's range
unfoldable pub read : {A : Type 0} → List Argument → (List (List ℕ) → A) → List (List ℕ) → Result A Why
read arguments a words = if length words == length arguments then judged (are_spelled arguments words) (are_within arguments words) (a words) else Err why.Count

-- the word at a place, counted from 0, and what it stands for
abbrev pub nth_word : ℕ → List (List ℕ) → List ℕ
nth_word zero words = first_word words
nth_word (suc place) words = nth_word place (drop 1 words)

abbrev pub number_at : ℕ → List (List ℕ) → ℕ
number_at place words = number_of (nth_word place words)

abbrev pub place_at : ℕ → List (List ℕ) → ℤ
place_at place words = place_of (nth_word place words)

abbrev pub colour_at : ℕ → List (List ℕ) → ℕ
colour_at place words = colour_of (nth_word place words)
