-- What writing, emptying and clipping come to.
use Rattle.std.specs.Prelude.{ℕ, ◌≡◌, ◌≢◌, ◌+◌, ◌≤◌, ◌<◌, Bool, false, ◌&&◌, ◌||◌, List, ◌∷◌, ◌++◌, length, take}
use Rattle.xp_base.specs.Points.{is_within}
use Rattle.client_outbox.specs.Outgoing.{WaitingPacket, Outgoing, with_packet, all_bytes, unwritten, IsBegun}
use Rattle.client_outbox.specs.Sending.{piece_of, advanced}
use Rattle.client_outbox.specs.Reliefs.{draws_in, is_busy, relieve, reliefs_of, with_reliefs, Emptied, ClippedTo, EachBecomes, ReliefsChange}

-- a packet's bytes come behind all that wait
abbrev pub PutFollows : Type 0 → Type 0
PutFollows R = (o : Outgoing R) (p : WaitingPacket R) → IsBegun o.packets o.taken → unwritten (with_packet o p) ≡ unwritten o ++ p.bytes

-- what a write offers are the first of the bytes that wait, and what it takes of them is gone, and no more
abbrev pub TakenFromFront : Type 0 → Type 0
TakenFromFront R =
    (o : Outgoing R) (max n : ℕ) → IsBegun o.packets o.taken → n ≤ length (piece_of max o)
    → unwritten o ≡ take n (piece_of max o) ++ unwritten (advanced o n)

-- the first packet's relief stands until its last byte was taken; every other one stays
abbrev pub ReliefEnds : {R : Type 0} → (R → ℕ → ℕ → Bool) → Type 0
ReliefEnds {R} has =
    (p : WaitingPacket R) (packets : List (WaitingPacket R)) (taken n : ℕ) (wid x y : ℕ) →
    let o : Outgoing R = record { packets = p ∷ packets; taken = taken } in
    record {
      part : taken + n < length p.bytes → relieve has wid (advanced o n).packets x y ≡ relieve has wid o.packets x y;
      whole : length p.bytes ≤ taken + n → relieve has wid o.packets x y ≡ ((draws_in wid p && has p.relief x y) || relieve has wid (advanced o n).packets x y);
    }

-- a change of a window's reliefs alone: bytes, busy windows and every other window's reliefs stay
pub record OnlyReliefs {R : Type 0} (has : R → ℕ → ℕ → Bool) (wid : ℕ) (old new : List (WaitingPacket R)) : Type 0 where
  pub bytes : all_bytes new ≡ all_bytes old
  pub busy : (v : ℕ) → is_busy v new ≡ is_busy v old
  pub others : (v x y : ℕ) → v ≢ wid → relieve has v new x y ≡ relieve has v old x y

abbrev pub ForgettingKeepsTheRest : {R : Type 0} → (R → ℕ → ℕ → Bool) → Type 0
ForgettingKeepsTheRest {R} has =
    (wid : ℕ) (old new : List (WaitingPacket R)) → ReliefsChange (Emptied has) wid old new → OnlyReliefs has wid old new

abbrev pub ClippingKeepsTheRest : {R : Type 0} → (R → ℕ → ℕ → Bool) → Type 0
ClippingKeepsTheRest {R} has =
    (wid w h : ℕ) (old new : List (WaitingPacket R)) → ReliefsChange (ClippedTo has w h) wid old new → OnlyReliefs has wid old new

abbrev pub ForgottenAreEmpty : {R : Type 0} → (R → ℕ → ℕ → Bool) → Type 0
ForgottenAreEmpty {R} has =
    (wid : ℕ) (old new : List (WaitingPacket R)) → ReliefsChange (Emptied has) wid old new → (x y : ℕ) → relieve has wid new x y ≡ false

-- what was clipped, put in, is a change of these reliefs alone
abbrev pub ClipsAreReliefs : Type 0 → Type 0
ClipsAreReliefs R =
    (has : R → ℕ → ℕ → Bool) (wid w h : ℕ) (packets : List (WaitingPacket R)) (clips : List R) → EachBecomes (ClippedTo has w h) (reliefs_of wid packets) clips
    → ReliefsChange (ClippedTo has w h) wid packets (with_reliefs wid packets clips)

-- after it the window's draws relieve the points that they relieved and that lie in the size
abbrev pub ClippedLieInside : {R : Type 0} → (R → ℕ → ℕ → Bool) → Type 0
ClippedLieInside {R} has =
    (wid w h : ℕ) (old new : List (WaitingPacket R)) → ReliefsChange (ClippedTo has w h) wid old new
    → (x y : ℕ) → relieve has wid new x y ≡ (relieve has wid old x y && is_within w h x y)
