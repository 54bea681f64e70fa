-- The packets that wait to be written to one client, in order. This project's own.
use Rattle.std.specs.Prelude.{ℕ, ◌≡◌, ◌+◌, ◌<◌, ◌^◌, Option, Some, None, is_some, List, [], ◌∷◌, ◌++◌, length, drop}
use Rattle.std.specs.List.{flat_map}
use Rattle.client_outbox.specs.declared.draw.Draw.{Draw}

-- a packet: the window that it draws in, its bytes, the points that it relieves there, and what draw it is; only draws have a window
pub record WaitingPacket (R : Type 0) : Type 0 where
  pub wid : Option ℕ
  pub bytes : List ℕ
  pub relief : R
  pub draw : Option Draw

pub record IsPacket {R : Type 0} (p : WaitingPacket R) : Type 0 where
  pub some : 0 < length p.bytes
  pub named : is_some p.wid ≡ is_some p.draw

abbrev pub draw_packet : {R : Type 0} → ℕ → Draw → List ℕ → R → WaitingPacket R
draw_packet wid draw bytes relief = record { wid = Some wid; bytes = bytes; relief = relief; draw = Some draw }

abbrev pub other_packet : {R : Type 0} → List ℕ → R → WaitingPacket R
other_packet bytes relief = record { wid = None; bytes = bytes; relief = relief; draw = None }

-- the packets that are not wholly written, the oldest first, and how many bytes of the first one were taken
pub record Outgoing (R : Type 0) : Type 0 where
  pub packets : List (WaitingPacket R)
  pub taken : ℕ

-- these, and how many more packets can be put in without memory
pub record Queue (R : Type 0) : Type 0 where
  pub waiting : Outgoing R
  pub room : ℕ

abbrev pub nothing_waits : {R : Type 0} → Outgoing R
nothing_waits = record { packets = []; taken = 0 }

abbrev pub with_packet : {R : Type 0} → Outgoing R → WaitingPacket R → Outgoing R
with_packet o p = record { packets = o.packets ++ p ∷ []; taken = o.taken }

-- the bytes of all packets, one after another
abbrev pub all_bytes : {R : Type 0} → List (WaitingPacket R) → List ℕ
all_bytes {R} packets = flat_map (λ (p : WaitingPacket R). p.bytes) packets

-- what of them was not taken yet
abbrev pub unwritten : {R : Type 0} → Outgoing R → List ℕ
unwritten o = drop o.taken (all_bytes o.packets)

-- so many bytes were taken of the first packet, but not all
abbrev pub IsBegun : {R : Type 0} → List (WaitingPacket R) → ℕ → Type 0
IsBegun [] taken = taken ≡ 0
IsBegun (p ∷ packets) taken = taken < length p.bytes

-- each is a packet, of bytes that a machine can have
abbrev pub AllFit : {R : Type 0} → List (WaitingPacket R) → Type 0
AllFit [] = Unit {0}
AllFit (p ∷ packets) = IsPacket p × (length p.bytes < 2 ^ 64) × AllFit packets

-- the packets as they are kept, with the number of bytes that were not taken yet
pub record IsOutbox {R : Type 0} (packets : List (WaitingPacket R)) (taken weight : ℕ) : Type 0 where
  pub begun : IsBegun packets taken
  pub fit : AllFit packets
  pub weighed : weight + taken ≡ length (all_bytes packets)
