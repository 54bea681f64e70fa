-- Headers, by the places of their bytes.
use Rattle.std.proofs.Common.{◌≡◌, ◌≢◌, ℕ, ◌<◌, ◌≤◌, Bool, true, false, List, [], ◌∷◌, ◌++◌, length, refl, subst, arith}
use Rattle.std.specs.Prelude.{nat_le, ◌==◌, ◌||◌, if◌then◌else◌}
use Rattle.std.proofs.lemmas.Bool.Decides.{nat_tests}
use Rattle.packet_frames.specs.declared.fault.FrameFault.{FrameFault}
use Rattle.packet_frames.specs.declared.head.Head.{Head}
use Rattle.packet_frames.specs.declared.head.Head.TheVariants as H
use Rattle.packet_frames.specs.Header.{head_of, head_at, size_of, size_bytes, index_byte, level_byte, flags_byte, may_come}

longer : (k n : ℕ) → k < n → nat_le n k ≡ false
longer k n h = grind (arith, nat_tests)

pub head_is : (limit : ℕ) (given bytes : List ℕ) → head_of limit given bytes ≡ head_at limit given bytes
unfolding head_of
head_is limit given [] = refl
head_is limit given (m ∷ []) = refl
head_is limit given (m ∷ f ∷ []) = refl
head_is limit given (m ∷ f ∷ n ∷ []) = refl
head_is limit given (m ∷ f ∷ n ∷ i ∷ []) = refl
head_is limit given (m ∷ f ∷ n ∷ i ∷ a ∷ []) = refl
head_is limit given (m ∷ f ∷ n ∷ i ∷ a ∷ b ∷ []) = refl
head_is limit given (m ∷ f ∷ n ∷ i ∷ a ∷ b ∷ c ∷ []) = refl
head_is limit given (m ∷ f ∷ n ∷ i ∷ a ∷ b ∷ c ∷ d ∷ bytes) =
    let n0 : nat_le (length (m ∷ f ∷ n ∷ i ∷ a ∷ b ∷ c ∷ d ∷ bytes)) 0 ≡ false = longer 0 _ (omega arith) in
    let n1 : nat_le (length (m ∷ f ∷ n ∷ i ∷ a ∷ b ∷ c ∷ d ∷ bytes)) 1 ≡ false = longer 1 _ (omega arith) in
    let n2 : nat_le (length (m ∷ f ∷ n ∷ i ∷ a ∷ b ∷ c ∷ d ∷ bytes)) 2 ≡ false = longer 2 _ (omega arith) in
    let n3 : nat_le (length (m ∷ f ∷ n ∷ i ∷ a ∷ b ∷ c ∷ d ∷ bytes)) 3 ≡ false = longer 3 _ (omega arith) in
    let n7 : nat_le (length (m ∷ f ∷ n ∷ i ∷ a ∷ b ∷ c ∷ d ∷ bytes)) 7 ≡ false = longer 7 _ (omega arith) in
    rw (n0, n1, n2, n3, n7) refl

module _ {A : Type 0} (p w : A) where
  -- one more test keeps what stays
  if_stays : (b : Bool) (x y : A) → (x ≢ p → y ≡ x) → (if b then x else w) ≢ p → (if b then y else w) ≡ (if b then x else w)
  if_stays true x y f h = f h
  if_stays false x y f h = refl

size-stays : (limit index : ℕ) (xs ys : List ℕ) → size_bytes limit index xs ≢ H.Part → size_bytes limit index (xs ++ ys) ≡ size_bytes limit index xs
size-stays limit index [] ys h = absurd (h refl)
size-stays limit index (a ∷ []) ys h = absurd (h refl)
size-stays limit index (a ∷ b ∷ []) ys h = absurd (h refl)
size-stays limit index (a ∷ b ∷ c ∷ []) ys h = absurd (h refl)
size-stays limit index (a ∷ b ∷ c ∷ d ∷ xs) ys h = refl

index-stays : (limit : ℕ) (given xs ys : List ℕ) → index_byte limit given xs ≢ H.Part → index_byte limit given (xs ++ ys) ≡ index_byte limit given xs
index-stays limit given [] ys h = absurd (h refl)
index-stays limit given (i ∷ xs) ys h = if_stays H.Part _ (may_come i given) _ _ (size-stays limit i xs ys) h

level-stays : (limit : ℕ) (given xs ys : List ℕ) → level_byte limit given xs ≢ H.Part → level_byte limit given (xs ++ ys) ≡ level_byte limit given xs
level-stays limit given [] ys h = absurd (h refl)
level-stays limit given (n ∷ xs) ys h = if_stays H.Part _ (n == 0) _ _ (index-stays limit given xs ys) h

flags-stays : (limit : ℕ) (given xs ys : List ℕ) → flags_byte limit given xs ≢ H.Part → flags_byte limit given (xs ++ ys) ≡ flags_byte limit given xs
flags-stays limit given [] ys h = absurd (h refl)
flags-stays limit given (f ∷ xs) ys h = if_stays H.Part _ (f == 0 || f == 8) _ _ (level-stays limit given xs ys) h

-- what a header's bytes say, they say however they go on
pub head-stays : (limit : ℕ) (given xs ys : List ℕ) → head_of limit given xs ≢ H.Part → head_of limit given (xs ++ ys) ≡ head_of limit given xs
unfolding head_of
head-stays limit given [] ys h = absurd (h refl)
head-stays limit given (m ∷ xs) ys h = if_stays H.Part _ (m == 80) _ _ (flags-stays limit given xs ys) h

-- eight bytes say all
pub head-front : (limit : ℕ) (given xs ys : List ℕ) → 8 ≤ length xs → head_of limit given (xs ++ ys) ≡ head_of limit given xs
unfolding head_of
head-front limit given [] ys h = absurd (omega arith)
head-front limit given (m ∷ []) ys h = absurd (omega arith)
head-front limit given (m ∷ f ∷ []) ys h = absurd (omega arith)
head-front limit given (m ∷ f ∷ n ∷ []) ys h = absurd (omega arith)
head-front limit given (m ∷ f ∷ n ∷ i ∷ []) ys h = absurd (omega arith)
head-front limit given (m ∷ f ∷ n ∷ i ∷ a ∷ []) ys h = absurd (omega arith)
head-front limit given (m ∷ f ∷ n ∷ i ∷ a ∷ b ∷ []) ys h = absurd (omega arith)
head-front limit given (m ∷ f ∷ n ∷ i ∷ a ∷ b ∷ c ∷ []) ys h = absurd (omega arith)
head-front limit given (m ∷ f ∷ n ∷ i ∷ a ∷ b ∷ c ∷ d ∷ xs) ys h = refl

-- a whole header has eight bytes, and an index that may come
pub record IsHeader (limit : ℕ) (given xs : List ℕ) (index size : ℕ) : Type 0 where
  pub long : 8 ≤ length xs
  pub may : may_come index given ≡ true
  pub small : size ≤ limit

module _ (index size : ℕ) (fault : Head) (other : (i n : ℕ) → fault ≢ H.Whole i n) where
  if_whole : (b : Bool) (x : Head) → (if b then x else fault) ≡ H.Whole index size → (b ≡ true) × (x ≡ H.Whole index size)
  if_whole true x h = (refl, h)
  if_whole false x h = absurd (other index size h)

wrong_no_header : (place : ℕ) (kind : FrameFault) (i n : ℕ) → H.Wrong place kind ≢ H.Whole i n
wrong_no_header place kind i n e = cc

size-whole : (limit i : ℕ) (xs : List ℕ) (index size : ℕ) → size_bytes limit i xs ≡ H.Whole index size → (4 ≤ length xs) × (i ≡ index) × (size ≤ limit)
size-whole limit i [] index size h = absurd cc
size-whole limit i (a ∷ []) index size h = absurd cc
size-whole limit i (a ∷ b ∷ []) index size h = absurd cc
size-whole limit i (a ∷ b ∷ c ∷ []) index size h = absurd cc
size-whole limit i (a ∷ b ∷ c ∷ d ∷ xs) index size h =
    let fits = if_whole index size _ (wrong_no_header 4 _) (nat_le (size_of a b c d) limit) _ h in
    let below : size_of a b c d ≤ limit = grind (arith, nat_tests, fits.0) in
    let same : size_of a b c d ≡ size = cc in
    (omega arith, cc, omega arith)

index-whole : (limit : ℕ) (given xs : List ℕ) (index size : ℕ) → index_byte limit given xs ≡ H.Whole index size → (5 ≤ length xs) × (may_come index given ≡ true) × (size ≤ limit)
index-whole limit given [] index size h = absurd cc
index-whole limit given (i ∷ xs) index size h =
    let fits = if_whole index size _ (wrong_no_header 3 _) (may_come i given) _ h in
    let rest = size-whole limit i xs index size fits.1 in
    let long = rest.0 in let small = rest.2 in
    (omega arith, subst (λ j. may_come j given ≡ true) rest.1 fits.0, small)

pub head-whole : (limit : ℕ) (given xs : List ℕ) (index size : ℕ) → head_of limit given xs ≡ H.Whole index size → IsHeader limit given xs index size
unfolding head_of
head-whole limit given [] index size h = absurd cc
head-whole limit given (m ∷ []) index size h = let fits = if_whole index size _ (wrong_no_header 0 _) (m == 80) _ h in absurd (let e = fits.1 in cc)
head-whole limit given (m ∷ f ∷ []) index size h =
    let magic = if_whole index size _ (wrong_no_header 0 _) (m == 80) _ h in
    let flags = if_whole index size _ (wrong_no_header 1 _) (f == 0 || f == 8) _ magic.1 in
    absurd (let e = flags.1 in cc)
head-whole limit given (m ∷ f ∷ n ∷ xs) index size h =
    let magic = if_whole index size _ (wrong_no_header 0 _) (m == 80) _ h in
    let flags = if_whole index size _ (wrong_no_header 1 _) (f == 0 || f == 8) _ magic.1 in
    let level = if_whole index size _ (wrong_no_header 2 _) (n == 0) _ flags.1 in
    let rest = index-whole limit given xs index size level.1 in
    let long = rest.0 in
    record { long = omega arith; may = rest.1; small = rest.2 }

-- behind four chunks there is only a main packet
pub last_is_main : (index : ℕ) (given : List ℕ) → may_come index given ≡ true → 4 ≤ length given → index ≡ 0
last_is_main index given h four = grind (arith, nat_tests)
