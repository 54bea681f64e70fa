-- What a reader of packets answers.
use Rattle.std.specs.Prelude.{ℕ, ◌≡◌, Result, Ok, Err}
use Rattle.packet_kinds.specs.declared.fault.KindFault.{KindFault}
use Rattle.packet_kinds.specs.declared.fault.KindFault.TheVariants as F

-- By what the value says: the packet, or the first item that does not fit; and want of memory only where it says a packet.
abbrev pub Answers : {M : Type 0} → Result M ℕ → Result M KindFault → Type 0
Answers says (Ok m) = says ≡ Ok m
Answers says (Err (F.Shape i)) = says ≡ Err i
Answers {M = M} says (Err F.NoMemory) = (m : M) × (says ≡ Ok m)
