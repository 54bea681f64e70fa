-- What bytes begin with, from the grammar alone. This project's own.
use Rattle.std.specs.Prelude.{◌≡◌, ◌≢◌, ℕ, ◌+◌, ◌*◌, ◌-◌, ◌^◌, ◌≤◌, ◌<◌, ◌⊎◌, Bool, true, List, [], ◌∷◌, ◌++◌, map, length, take, slice_index, if◌then◌else◌}
use Rattle.std.specs.List.{concat, AllByRecursion}
use Rattle.std.specs.Fmt.{decimal}
use Rattle.bencode_values.specs.declared.value.Key.{Key}
use Rattle.bencode_values.specs.declared.value.Value.{Value}
use Rattle.bencode_values.specs.declared.value.Pair.{Pair}
use Rattle.bencode_values.specs.declared.reading.Why.{Why}
use Rattle.bencode_values.specs.declared.reading.Why.TheVariants as W
use Rattle.bencode_values.specs.declared.reading.Read.{Read}
use Rattle.bencode_values.specs.declared.reading.Read.TheVariants as R
use Rattle.bencode_values.specs.Grammar.{spelled, spelled_pair, spelled_key, key_fits, Fits, PairFits, IsWithinLimits}

-- a part of a spelling, with some of it still to come
abbrev pub IsProperPrefix : List ℕ → Type 0
IsProperPrefix bytes = (v : Value) × (rest : List ℕ) × IsWithinLimits v × (rest ≢ []) × (spelled v ≡ bytes ++ rest)

-- the first n bytes spell v
pub record BeginsWith (bytes : List ℕ) (v : Value) (n : ℕ) : Type 0 where
  pub limits : IsWithinLimits v
  pub within : n ≤ length bytes
  pub spells : take n bytes ≡ spelled v

-- the bytes begin no spelling and hold none
pub record IsDead (bytes : List ℕ) : Type 0 where
  pub begins : ¬ IsProperPrefix bytes
  pub holds : (v : Value) (n : ℕ) → ¬ BeginsWith bytes v n

-- the least place such that the bytes up to and with it are dead; those before it are even alive
pub record IsFirstDead (bytes : List ℕ) (place : ℕ) : Type 0 where
  pub within : place < length bytes
  pub dead : IsDead (take (place + 1) bytes)
  pub least : (k : ℕ) → k < place → ¬ IsDead (take (k + 1) bytes)
  pub alive : IsProperPrefix (take place bytes)

-- A list with its values so far, a dictionary with its pairs so far, or a dictionary with its pairs so far
-- and the key of the next.
pub data Open : Type 0 where
  in_list : List Value → Open
  in_dict : List Pair → Open
  in_entry : List Pair → Key → Open

-- the bytes of it so far
abbrev pub opened : Open → List ℕ
opened (in_list vs) = 108 ∷ concat (map spelled vs)
opened (in_dict ps) = 100 ∷ concat (map spelled_pair ps)
opened (in_entry ps k) = 100 ∷ (concat (map spelled_pair ps) ++ spelled_key k)

-- the bytes of all that is open, the innermost first in the list
abbrev pub context : List Open → List ℕ
context [] = []
context (o ∷ outer) = context outer ++ opened o

-- a key's place: a dictionary with no key of its next pair
abbrev pub IsKeyPlace : List Open → Type 0
IsKeyPlace (in_dict ps ∷ outer) = Unit {0}
IsKeyPlace opens = ⊥

abbrev pub IsValuePlace : List Open → Type 0
IsValuePlace (in_dict ps ∷ outer) = ⊥
IsValuePlace opens = Unit {0}

-- the parts so far are within the limits, where this many levels may still open inside
abbrev pub OpenFits : ℕ → Open → Type 0
OpenFits room (in_list vs) = AllByRecursion (Fits room) vs
OpenFits room (in_dict ps) = AllByRecursion (PairFits room) ps
OpenFits room (in_entry ps k) = AllByRecursion (PairFits room) ps × (key_fits k ≡ true)

abbrev pub AreOpen : List Open → Type 0
AreOpen [] = Unit {0}
AreOpen (o ∷ outer) = (length outer < 32) × OpenFits (31 - length outer) o × IsValuePlace outer × AreOpen outer

-- the bytes are those of what is open, and then this part of a number or a length
pub record EndsIn (bytes : List ℕ) (opens : List Open) (part : List ℕ) : Type 0 where
  pub fits : AreOpen opens
  pub parts : bytes ≡ context opens ++ part

abbrev pub IsDigit : ℕ → Type 0
IsDigit b = (48 ≤ b) × (b ≤ 57)

abbrev pub IsOpening : ℕ → Type 0
IsOpening b = (b ≡ 108) ⊎ (b ≡ 100)

abbrev pub sign_of : Bool → List ℕ
sign_of negative = if negative then 45 ∷ [] else []

-- the greatest number that may stand after no sign, and after `-`
abbrev pub range_of : Bool → ℕ
range_of negative = if negative then 2 ^ 63 else 2 ^ 63 - 1

-- a digit after a first `0` in a number or a length
pub record IsLeading (before : List ℕ) (b : ℕ) : Type 0 where
  pub digit : IsDigit b
  pub opens : List Open
  pub part : EndsIn before opens (105 ∷ 48 ∷ []) ⊎ EndsIn before opens (48 ∷ [])

-- the `0` directly after `-`
pub record IsMinusZero (before : List ℕ) (b : ℕ) : Type 0 where
  pub zero_is : b ≡ 48
  pub opens : List Open
  pub part : EndsIn before opens (105 ∷ 45 ∷ [])

-- the digit with which the integer leaves the range of `i64`
pub record IsRange (before : List ℕ) (b : ℕ) : Type 0 where
  pub digit : IsDigit b
  pub opens : List Open
  pub negative : Bool
  pub number : ℕ
  pub in_range : number ≤ range_of negative
  pub part : EndsIn before opens (105 ∷ (sign_of negative ++ decimal number))
  pub leaves : range_of negative < 10 * number + (b - 48)

-- the digit with which the length exceeds its limit
pub record IsLength (before : List ℕ) (b : ℕ) : Type 0 where
  pub digit : IsDigit b
  pub opens : List Open
  pub number : ℕ
  pub in_limit : number ≤ 67108864
  pub part : EndsIn before opens (decimal number)
  pub exceeds : 67108864 < 10 * number + (b - 48)

-- the `l` or `d` that would open depth 33
pub record IsDepth (before : List ℕ) (b : ℕ) : Type 0 where
  pub opening : IsOpening b
  pub opens : List Open
  pub place : IsValuePlace opens
  pub deepest : length opens ≡ 32
  pub part : EndsIn before opens []

-- an `l` or `d` in a key's place
pub record IsKey (before : List ℕ) (b : ℕ) : Type 0 where
  pub opening : IsOpening b
  pub opens : List Open
  pub place : IsKeyPlace opens
  pub part : EndsIn before opens []

-- why the byte b cannot stand after these bytes, that begin a spelling; a letter is any other byte
abbrev pub IsReason : List ℕ → ℕ → Why → Type 0
IsReason before b W.Leading = IsLeading before b
IsReason before b W.MinusZero = IsMinusZero before b
IsReason before b W.Range = IsRange before b
IsReason before b W.Length = IsLength before b
IsReason before b W.Depth = IsDepth before b
IsReason before b W.Key = IsKey before b
IsReason before b W.Letter = (¬ IsLeading before b) × (¬ IsMinusZero before b) × (¬ IsRange before b)
    × (¬ IsLength before b) × (¬ IsDepth before b) × (¬ IsKey before b)

-- what a reader may answer
abbrev pub Reads : List ℕ → Read → Type 0
Reads bytes (R.Whole v n) = BeginsWith bytes v n
Reads bytes R.Short = IsProperPrefix bytes
Reads bytes (R.Bad place why) = IsFirstDead bytes place × IsReason (take place bytes) (slice_index bytes place) why
Reads bytes R.NoMemory = Unit {0}
