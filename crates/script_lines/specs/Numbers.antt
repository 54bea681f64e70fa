-- What words stand for: numbers, colours, bytes. This project's own.
use Rattle.std.specs.Prelude.{ℕ, ℤ, pos, neg_ℤ, ◌+◌, ◌-◌, ◌*◌, ◌^◌, ◌%◌, ◌==◌, Bool, ◌&&◌, nat_le, nat_lt, if◌then◌else◌, Option, Some, None, List, [], ◌∷◌, length, map}
use Rattle.std.specs.Option.{option_map}
use Rattle.std.specs.List.{list_all}

abbrev pub is_between : ℕ → ℕ → ℕ → Bool
is_between low high n = nat_le low n && nat_le n high

-- what a digit stands for: 0 to 9, then a to f of either case; 16 where the byte is none
abbrev pub digit : ℕ → ℕ
digit byte =
    if is_between 48 57 byte then byte - 48
    else (if is_between 65 70 byte then byte - 55 else (if is_between 97 102 byte then byte - 87 else 16))

-- each byte is a digit of this base
abbrev pub are_digits : ℕ → List ℕ → Bool
are_digits base word = list_all (λ byte. nat_lt (digit byte) base) word

-- the number that digits stand for, the highest first
abbrev pub value : ℕ → List ℕ → ℕ
value base [] = 0
value base (first ∷ digits) = first * base ^ length digits + value base digits

-- the number that a word of digits of this base stands for
unfoldable pub numeral : ℕ → List ℕ → Option ℕ
numeral base word = if are_digits base word then Some (value base (map digit word)) else None

-- 1 to 10 decimal digits
unfoldable pub number : List ℕ → Option ℕ
number word = if is_between 1 10 (length word) then numeral 10 word else None

-- the same, perhaps with a `-` before
unfoldable pub signed : List ℕ → Option ℤ
signed [] = None
signed (byte ∷ digits) = if byte == 45 then option_map (λ n. neg_ℤ (pos n)) (number digits) else option_map pos (number (byte ∷ digits))

-- six hexadecimal digits: red, green and blue, two digits each
unfoldable pub colour : List ℕ → Option ℕ
colour word = if length word == 6 then numeral 16 word else None

-- an even number of hexadecimal digits, 2 to 65,536
unfoldable pub is_hex : List ℕ → Bool
is_hex word = (is_between 2 65536 (length word) && (length word % 2 == 0)) && are_digits 16 word

-- the bytes that hexadecimal digits stand for, two digits each
abbrev pub bytes_of : List ℕ → List ℕ
bytes_of [] = []
bytes_of (high ∷ []) = []
bytes_of (high ∷ low ∷ digits) = (16 * digit high + digit low) ∷ bytes_of digits

-- a uuid: 1 to 64 bytes from 0x21 to 0x7E
unfoldable pub is_name : List ℕ → Bool
is_name word = is_between 1 64 (length word) && list_all (is_between 33 126) word
