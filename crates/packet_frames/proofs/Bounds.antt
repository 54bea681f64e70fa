-- How many bytes a part of a header has at most.
use Rattle.std.proofs.Common.{◌≡◌, ◌≢◌, ℕ, ◌<◌, Bool, true, false, List, [], ◌∷◌, length, arith}
use Rattle.std.specs.Prelude.{◌==◌, ◌||◌, nat_le, if◌then◌else◌}
use Rattle.packet_frames.specs.declared.fault.FrameFault.{FrameFault}
use Rattle.packet_frames.specs.declared.head.Head.{Head}
use Rattle.packet_frames.specs.declared.head.Head.TheVariants as H
use Rattle.packet_frames.specs.Header.{head_of, size_bytes, size_of, index_byte, level_byte, flags_byte, may_come}

module _ (fault : Head) (other : fault ≢ H.Part) where
  if_part : (b : Bool) (x : Head) → (if b then x else fault) ≡ H.Part → x ≡ H.Part
  if_part true x h = h
  if_part false x h = absurd (other h)

wrong_no_part : (place : ℕ) (kind : FrameFault) → H.Wrong place kind ≢ H.Part
wrong_no_part place kind e = cc

size_part : (limit index : ℕ) (xs : List ℕ) → size_bytes limit index xs ≡ H.Part → length xs < 4
size_part limit index [] e = omega arith
size_part limit index (a ∷ []) e = omega arith
size_part limit index (a ∷ b ∷ []) e = omega arith
size_part limit index (a ∷ b ∷ c ∷ []) e = omega arith
size_part limit index (a ∷ b ∷ c ∷ d ∷ xs) e = absurd (let h = if_part _ (wrong_no_part 4 _) (nat_le (size_of a b c d) limit) _ e in cc)

index_part : (limit : ℕ) (given xs : List ℕ) → index_byte limit given xs ≡ H.Part → length xs < 5
index_part limit given [] e = omega arith
index_part limit given (i ∷ xs) e = let h = size_part limit i xs (if_part _ (wrong_no_part 3 _) (may_come i given) _ e) in omega arith

level_part : (limit : ℕ) (given xs : List ℕ) → level_byte limit given xs ≡ H.Part → length xs < 6
level_part limit given [] e = omega arith
level_part limit given (n ∷ xs) e = let h = index_part limit given xs (if_part _ (wrong_no_part 2 _) (n == 0) _ e) in omega arith

flags_part : (limit : ℕ) (given xs : List ℕ) → flags_byte limit given xs ≡ H.Part → length xs < 7
flags_part limit given [] e = omega arith
flags_part limit given (f ∷ xs) e = let h = level_part limit given xs (if_part _ (wrong_no_part 1 _) (f == 0 || f == 8) _ e) in omega arith

-- a part of a header has fewer than eight bytes
pub head-part : (limit : ℕ) (given xs : List ℕ) → head_of limit given xs ≡ H.Part → length xs < 8
unfolding head_of
head-part limit given [] e = omega arith
head-part limit given (m ∷ xs) e = let h = flags_part limit given xs (if_part _ (wrong_no_part 0 _) (m == 80) _ e) in omega arith
