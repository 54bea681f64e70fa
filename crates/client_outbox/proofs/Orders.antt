-- The bytes that wait, after a packet was put and after bytes were taken.
use Rattle.std.proofs.Common.{◌≡◌, ℕ, ◌+◌, ◌<◌, ◌≤◌, List, [], ◌∷◌, ◌++◌, length, take, drop, refl, sym, ◌∙◌, ap, inl, inr, arith, append_assoc, length-append, length-drop}
use Rattle.std.proofs.lemmas.Bool.Decides.{nat_tests}
use Rattle.std.proofs.lemmas.Bool.{cases_lt}
use Rattle.std.proofs.lemmas.List.{append-nil, take-append-drop, length-take, take-take, take_all, drop-append-le, drop-drop, nil_from_length}
use Rattle.client_outbox.specs.Outgoing.{WaitingPacket, Outgoing, with_packet, all_bytes, unwritten, IsBegun}
use Rattle.client_outbox.specs.Sending.{rest_of, piece_of, moved_on, advanced}

-- so many of the bytes that are left of a packet, and then those behind them
split_rest : (rest behind : List ℕ) (n : ℕ) → rest ++ behind ≡ take n rest ++ (drop n rest ++ behind)
split_rest rest behind n = ap (λ (l : List ℕ). l ++ behind) (sym (take-append-drop n rest)) ∙ append_assoc (take n rest) (drop n rest) behind

nothing_taken : (max n : ℕ) (none : List ℕ) → length none ≡ 0 → take n (take max none) ≡ []
nothing_taken max n none empty = nil_from_length _ (omega (arith, length-take n (take max none), length-take max none))

module _ {R : Type 0} where
  all_bytes_with : (packets : List (WaitingPacket R)) (p : WaitingPacket R) → all_bytes (packets ++ p ∷ []) ≡ all_bytes packets ++ p.bytes
  all_bytes_with [] p = append-nil p.bytes
  all_bytes_with (q ∷ packets) p = ap (λ (l : List ℕ). q.bytes ++ l) (all_bytes_with packets p) ∙ sym (append_assoc q.bytes (all_bytes packets) p.bytes)

  taken_within : (packets : List (WaitingPacket R)) (taken : ℕ) → IsBegun packets taken → taken ≤ length (all_bytes packets)
  taken_within [] taken begun = omega (arith, begun)
  taken_within (p ∷ packets) taken begun = omega (arith, begun, length-append p.bytes (all_bytes packets))

  pub put_follows : (o : Outgoing R) (p : WaitingPacket R) → IsBegun o.packets o.taken → unwritten (with_packet o p) ≡ unwritten o ++ p.bytes
  put_follows o p begun =
      ap (λ (l : List ℕ). drop o.taken l) (all_bytes_with o.packets p) ∙ drop-append-le o.taken (all_bytes o.packets) p.bytes (taken_within o.packets o.taken begun)

  pub part_taken : (p : WaitingPacket R) (packets : List (WaitingPacket R)) (taken n : ℕ) → taken < length p.bytes → taken + n < length p.bytes
      → drop taken (all_bytes (p ∷ packets)) ≡ take n (drop taken p.bytes) ++ drop (taken + n) (all_bytes (p ∷ packets))
  part_taken p packets taken n begun part =
      let behind = all_bytes packets in
      let whole = drop-append-le taken p.bytes behind (omega arith) in
      let after = drop-append-le (taken + n) p.bytes behind (omega arith) in
      let twice = drop-drop n taken p.bytes in
      let split = split_rest (drop taken p.bytes) behind n in
      cc (whole, after, twice, split)

  pub whole_taken : (p : WaitingPacket R) (packets : List (WaitingPacket R)) (taken n : ℕ) → taken < length p.bytes → length p.bytes ≤ taken + n
      → drop taken (all_bytes (p ∷ packets)) ≡ take n (drop taken p.bytes) ++ all_bytes packets
  whole_taken p packets taken n begun done =
      let behind = all_bytes packets in
      let whole = drop-append-le taken p.bytes behind (omega arith) in
      let all = take_all n (drop taken p.bytes) (omega (arith, length-drop taken p.bytes)) in
      cc (whole, all)

  offered : (p : WaitingPacket R) (taken max n : ℕ) → n ≤ length (take max (drop taken p.bytes)) → take n (take max (drop taken p.bytes)) ≡ take n (drop taken p.bytes)
  offered p taken max n within = take-take n max (drop taken p.bytes) (omega (arith, length-take max (drop taken p.bytes)))

  moved_part : (p : WaitingPacket R) (packets : List (WaitingPacket R)) (taken n : ℕ) → taken + n < length p.bytes → moved_on (p ∷ packets) taken n ≡ record { packets = p ∷ packets; taken = taken + n }
  moved_part p packets taken n part = grind (arith, nat_tests)

  moved_whole : (p : WaitingPacket R) (packets : List (WaitingPacket R)) (taken n : ℕ) → length p.bytes ≤ taken + n → moved_on (p ∷ packets) taken n ≡ record { packets = packets; taken = 0 }
  moved_whole p packets taken n done = grind (arith, nat_tests)

  front_taken : (packets : List (WaitingPacket R)) (taken max n : ℕ) → IsBegun packets taken → n ≤ length (take max (rest_of packets taken))
      → drop taken (all_bytes packets) ≡ take n (take max (rest_of packets taken)) ++ unwritten (moved_on packets taken n)
  front_taken [] taken max n begun within = rw (nothing_taken max n [] refl) refl
  front_taken (p ∷ packets) taken max n begun within = elim (cases_lt (taken + n) (length p.bytes)) [
    | inl part ↦ rw (offered p taken max n within, moved_part p packets taken n part) (part_taken p packets taken n begun part)
    | inr done ↦ rw (offered p taken max n within, moved_whole p packets taken n done) (whole_taken p packets taken n begun done)
  ]

  pub taken_from_front : (o : Outgoing R) (max n : ℕ) → IsBegun o.packets o.taken → n ≤ length (piece_of max o) → unwritten o ≡ take n (piece_of max o) ++ unwritten (advanced o n)
  taken_from_front o max n begun within = front_taken o.packets o.taken max n begun within
