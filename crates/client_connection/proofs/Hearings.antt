-- How bytes begin, packet by packet.
use Rattle.std.proofs.Common.{◌≡◌, ◌≢◌, ℕ, zero, suc, ◌+◌, ◌-◌, ◌*◌, ◌<◌, ◌≤◌, List, [], ◌∷◌, ◌++◌, length, take, drop, replicate, refl, ap, ◌∙◌, sym, subst, arith, add-one}
use Rattle.std.proofs.lemmas.List.{length-append, take-append-drop, append_cancel_left, append_assoc, take_rest, append-nil, length-drop}
use Rattle.std.proofs.Math.Seq.{take-append_seam, drop-append_seam}
use Rattle.std.specs.List.{concat}
use Rattle.client_connection.specs.Hearing.{IsPartOf, IsNeither, Repeats}

-- what is not empty has a length
pub some_length : (xs : List ℕ) → xs ≢ [] → 0 < length xs
some_length [] some = absurd (some refl)
some_length (x ∷ xs) some = omega arith

-- a part is shorter than the whole
pub part_shorter : (bytes packet : List ℕ) → IsPartOf bytes packet → length bytes < length packet
part_shorter bytes packet part =
    let sizes = ap length part.2 ∙ length-append bytes part.0 in
    let more = some_length part.0 part.1 in
    omega (arith, sizes, more)

-- the front of the packet, and not all of it
pub part_front : (bytes packet : List ℕ) → length bytes < length packet → take (length bytes) packet ≡ bytes → IsPartOf bytes packet
part_front bytes packet short front = (
  drop (length bytes) packet,
  λ none. absurd (shorter none),
  sym (take-append-drop (length bytes) packet) ∙ ap (λ xs. xs ++ drop (length bytes) packet) front,
)
  where
    shorter : drop (length bytes) packet ≡ [] → ⊥
    shorter none =
        let size = length-drop (length bytes) packet in
        let zero_size = ap length none in
        absurd (omega (arith, size, zero_size, short))

-- bytes whose front is the packet
pub whole_front : (bytes packet : List ℕ) → take (length packet) bytes ≡ packet → bytes ≡ packet ++ drop (length packet) bytes
whole_front bytes packet front = sym (take-append-drop (length packet) bytes) ∙ ap (λ xs. xs ++ drop (length packet) bytes) front

-- at least as many bytes as the packet has, which are not it
pub neither_long : (bytes packet : List ℕ) → length packet ≤ length bytes → take (length packet) bytes ≢ packet → IsNeither bytes packet
neither_long bytes packet long other = record {
  part = λ part. let short = part_shorter bytes packet part in absurd (omega (arith, long, short));
  whole = λ more is. other (ap (take (length packet)) is ∙ take-append_seam packet more);
}

-- fewer bytes than the packet has, which are not its front
pub neither_short : (bytes packet : List ℕ) → length bytes < length packet → take (length bytes) packet ≢ bytes → IsNeither bytes packet
neither_short bytes packet short other = record {
  part = λ part. other (ap (take (length bytes)) part.2 ∙ take-append_seam bytes part.0);
  whole = λ more is. let sizes = ap length is ∙ length-append packet more in absurd (omega (arith, short, sizes));
}

-- so many packets, and one more
pub one_more : (packet : List ℕ) (count : ℕ) (rest : List ℕ) → concat (replicate count packet) ++ (packet ++ rest) ≡ concat (replicate (suc count) packet) ++ rest
one_more packet zero rest = sym (ap (λ xs. xs ++ rest) (append-nil packet))
one_more packet (suc count) rest =
    append_assoc packet (concat (replicate count packet)) (packet ++ rest) ∙ ap (λ xs. packet ++ xs) (one_more packet count rest)
    ∙ sym (append_assoc packet (concat (replicate (suc count) packet)) rest)

pub concat_size : (packet : List ℕ) (count : ℕ) → length (concat (replicate count packet)) ≡ count * length packet
concat_size packet zero = omega arith
concat_size packet (suc count) =
    let more = length-append packet (concat (replicate count packet)) in
    let less = concat_size packet count in
    omega (arith, more, less)

-- there are no more packets than bytes
pub count_within : (packet : List ℕ) (count : ℕ) (rest bytes : List ℕ) → 1 ≤ length packet → bytes ≡ concat (replicate count packet) ++ rest → count + length rest ≤ length bytes
count_within packet zero rest bytes some is = let same = ap length is in omega (arith, same)
count_within packet (suc count) rest bytes some is =
    let less = count_within packet count rest (concat (replicate count packet) ++ rest) some refl in
    let sizes = ap length is in
    let all = length-append (packet ++ concat (replicate count packet)) rest in
    let first = length-append packet (concat (replicate count packet)) in
    let tail = length-append (concat (replicate count packet)) rest in
    omega (arith, less, sizes, all, first, tail, some)

-- what is left behind so many packets
pub behind_packets : (packet : List ℕ) (count : ℕ) (rest bytes : List ℕ) → bytes ≡ concat (replicate count packet) ++ rest → rest ≡ drop (count * length packet) bytes
behind_packets packet count rest bytes is =
    sym (drop-append_seam (concat (replicate count packet)) rest) ∙ ap (λ n. drop n (concat (replicate count packet) ++ rest)) (concat_size packet count) ∙ ap (drop (count * length packet)) (sym is)

-- bytes that are neither are not packets and a part of one
pub none_repeats : (packet rest : List ℕ) → IsNeither rest packet → (m : ℕ) (r : List ℕ) → Repeats packet m r rest → ⊥
none_repeats packet rest neither zero r repeats = neither.part (rw repeats.0 repeats.1)
none_repeats packet rest neither (suc m) r repeats = neither.whole (concat (replicate m packet) ++ r) (repeats.0 ∙ append_assoc packet (concat (replicate m packet)) r)

-- of bytes that begin with so many packets, what is left is packets and a part of one where all of them are
pub repeats_behind : (packet : List ℕ) → 0 < length packet → (count n : ℕ) (rest r bytes : List ℕ) → bytes ≡ concat (replicate count packet) ++ rest → Repeats packet n r bytes
    → (m : ℕ) × (n ≡ count + m) × Repeats packet m r rest
repeats_behind packet some zero n rest r bytes is repeats = (n, omega arith, (sym is ∙ repeats.0, repeats.1))
repeats_behind packet some (suc count) zero rest r bytes is repeats =
    let short = part_shorter r packet repeats.1 in
    let sizes = ap length (sym is ∙ repeats.0) in
    let left = length-append (packet ++ concat (replicate count packet)) rest in
    let first = length-append packet (concat (replicate count packet)) in
    absurd (omega (arith, short, sizes, left, first))
repeats_behind packet some (suc count) (suc n) rest r bytes is repeats =
    let tails : concat (replicate count packet) ++ rest ≡ concat (replicate n packet) ++ r =
    append_cancel_left packet _ _ (sym (append_assoc packet (concat (replicate count packet)) rest) ∙ sym is ∙ repeats.0 ∙ append_assoc packet (concat (replicate n packet)) r) in
    let less = repeats_behind packet some count n rest r (concat (replicate count packet) ++ rest) refl (tails, repeats.1) in
    (less.0, omega (arith, less.1), less.2)

-- one packet more of bytes that begin with so many
pub packets_more : (packet : List ℕ) (count : ℕ) (rest bytes : List ℕ) → bytes ≡ concat (replicate count packet) ++ rest → rest ≡ packet ++ drop (length packet) rest
    → bytes ≡ concat (replicate (count + 1) packet) ++ drop (length packet) rest
packets_more packet count rest bytes is whole =
    is ∙ ap (λ xs. concat (replicate count packet) ++ xs) whole ∙ one_more packet count (drop (length packet) rest)
    ∙ ap (λ n. concat (replicate n packet) ++ drop (length packet) rest) (sym (add-one count))

-- the same, as a slice's rest is taken
pub packets_next : (packet : List ℕ) (count : ℕ) (rest bytes : List ℕ) → bytes ≡ concat (replicate count packet) ++ rest → rest ≡ packet ++ drop (length packet) rest
    → bytes ≡ concat (replicate (count + 1) packet) ++ take (length rest - length packet) (drop (length packet) rest)
packets_next packet count rest bytes is whole =
    packets_more packet count rest bytes is whole ∙ ap (λ xs. concat (replicate (count + 1) packet) ++ xs) (sym (take_rest rest (length packet)))

-- so many packets, and what is left is a part of one
pub repeats_here : (packet : List ℕ) (count : ℕ) (rest bytes : List ℕ) → bytes ≡ concat (replicate count packet) ++ rest → IsPartOf rest packet
    → Repeats packet count (drop (count * length packet) bytes) bytes
repeats_here packet count rest bytes is part = subst (λ (r : List ℕ). Repeats packet count r bytes) (behind_packets packet count rest bytes is) (is, part)

-- so many packets, and what is left is neither
pub repeats_nowhere : (packet : List ℕ) (count : ℕ) (rest bytes : List ℕ) → 1 ≤ length packet → bytes ≡ concat (replicate count packet) ++ rest → IsNeither rest packet
    → (n : ℕ) (r : List ℕ) → Repeats packet n r bytes → ⊥
repeats_nowhere packet count rest bytes some is neither n r repeats =
    let left = repeats_behind packet some count n rest r bytes is repeats in none_repeats packet rest neither left.0 r left.2
