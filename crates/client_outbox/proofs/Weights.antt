-- What the kept number of unwritten bytes is after a packet was put, written or relieved otherwise.
use Rattle.std.proofs.Common.{◌≡◌, ℕ, ◌+◌, ◌-◌, ◌*◌, ◌<◌, ◌≤◌, ◌^◌, List, [], ◌∷◌, ◌++◌, length, drop, get_or, refl, ap, arith, length-append, length-drop}
use Rattle.client_outbox.specs.Outgoing.{WaitingPacket, IsPacket, all_bytes, IsBegun, AllFit, IsOutbox}
use Rattle.client_outbox.specs.Sending.{rest_of}

module _ {R : Type 0} where
  pub length_with : (packets : List (WaitingPacket R)) (p : WaitingPacket R) → length (all_bytes (packets ++ p ∷ [])) ≡ length (all_bytes packets) + length p.bytes
  length_with [] p = simp length-append (omega arith)
  length_with (q ∷ packets) p = simp length-append (omega (arith, length_with packets p))

  pub fit_with : (packets : List (WaitingPacket R)) (p : WaitingPacket R) → AllFit packets → IsPacket p → length p.bytes < 2 ^ 64 → AllFit (packets ++ p ∷ [])
  fit_with [] p fit packet short = (packet, short, tt)
  fit_with (q ∷ packets) p fit packet short = (fit.0, fit.1, fit_with packets p fit.2 packet short)

  pub begun_with : (packets : List (WaitingPacket R)) (p : WaitingPacket R) (taken : ℕ) → IsBegun packets taken → IsPacket p → IsBegun (packets ++ p ∷ []) taken
  begun_with [] p taken begun packet = rw begun packet.some
  begun_with (q ∷ packets) p taken begun packet = begun

  -- so many packets have no more bytes than a machine can count
  pub all_bytes_bound : (packets : List (WaitingPacket R)) → AllFit packets → length (all_bytes packets) ≤ 18446744073709551615 * length packets
  all_bytes_bound [] fit = omega arith
  all_bytes_bound (p ∷ packets) fit = simp length-append (omega (arith, all_bytes_bound packets fit.2, fit.1))

  pub weight_fits : (packets : List (WaitingPacket R)) (taken weight size : ℕ) → IsOutbox packets taken weight → length packets < 2 ^ 63 → size < 2 ^ 64 → weight + size < 2 ^ 128
  weight_fits packets taken weight size kept few short = omega (arith, all_bytes_bound packets kept.fit, kept.weighed)

  pub kept_with : (packets : List (WaitingPacket R)) (p : WaitingPacket R) (taken weight : ℕ) → IsOutbox packets taken weight → IsPacket p → length p.bytes < 2 ^ 64 → IsOutbox (packets ++ p ∷ []) taken (weight + length p.bytes)
  kept_with packets p taken weight kept packet short = record {
    begun = begun_with packets p taken kept.begun packet;
    fit = fit_with packets p kept.fit packet short;
    weighed = omega (arith, length_with packets p, kept.weighed);
  }

  begun_anew : (packets : List (WaitingPacket R)) → AllFit packets → IsBegun packets 0
  begun_anew [] fit = refl
  begun_anew (p ∷ packets) fit = fit.0.some

  pub kept_without : (packets : List (WaitingPacket R)) (p : WaitingPacket R) (taken weight n : ℕ) → IsOutbox packets taken weight → 0 < length packets → p ≡ get_or packets 0 p → n ≤ length (rest_of packets taken) → length p.bytes ≤ taken + n → IsOutbox (drop 1 packets) 0 (weight - n)
  kept_without [] p taken weight n kept there front within whole = absurd (omega arith)
  kept_without (q ∷ packets) p taken weight n kept there front within whole =
      let size : length p.bytes ≡ length q.bytes = ap (λ (p : WaitingPacket R). length p.bytes) front in
      let rest = length-drop taken q.bytes in
      let total : length (all_bytes (q ∷ packets)) ≡ length q.bytes + length (all_bytes packets) = length-append q.bytes (all_bytes packets) in
      record {
        begun = begun_anew packets kept.fit.2;
        fit = kept.fit.2;
        weighed = omega (arith, kept.weighed, kept.begun);
      }
