-- A client's packets that are small: of integers, a few of them further items, and a short byte string as message.
use Rattle.std.specs.Prelude.{ℤ, ◌≡◌, ◌≤◌, true, Option, Some, None, List, length, ℕ}
use Rattle.std.specs.List.{AllByRecursion}
use Rattle.bencode_values.specs.declared.value.Value.{Value}
use Rattle.bencode_values.specs.declared.value.Value.TheVariants as V
use Rattle.bencode_values.specs.Grammar.{is_string}
use Rattle.packet_kinds.specs.declared.from_client.FromClient.{FromClient}
use Rattle.packet_kinds.specs.declared.from_client.FromClient.TheVariants as C
use Rattle.packet_kinds.specs.Fields.{IsInteger}

abbrev pub IsIntegerItem : Value → Type 0
IsIntegerItem v = (n : ℤ) × (v ≡ V.Int n) × IsInteger n

-- at most eight integers
pub record AreFew (items : List Value) : Type 0 where
  pub integers : AllByRecursion IsIntegerItem items
  pub most : length items ≤ 8

-- none, or a byte string of at most 30 bytes
abbrev pub IsShortMessage : Option Value → Type 0
IsShortMessage None = Unit {0}
IsShortMessage (Some v) = (bytes : List ℕ) × (v ≡ V.Bytes bytes) × (length bytes ≤ 30) × (is_string bytes ≡ true)

abbrev pub IsSmallPacket : FromClient → Type 0
IsSmallPacket (C.Hello caps) = ⊥
IsSmallPacket (C.MapWindow wid further) = IsInteger wid × AreFew further
IsSmallPacket (C.UnmapWindow wid further) = IsInteger wid × AreFew further
IsSmallPacket (C.DamageSequence sequence wid width height time message) = IsInteger sequence × IsInteger wid × IsInteger width × IsInteger height × IsInteger time × IsShortMessage message
IsSmallPacket (C.BufferRefresh wid further) = IsInteger wid × AreFew further
IsSmallPacket (C.Ping t further) = IsInteger t × AreFew further
IsSmallPacket (C.Disconnect further) = AreFew further
IsSmallPacket C.Other = ⊥
