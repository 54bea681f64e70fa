-- A draw without its bytes.
use Rattle.std.specs.Prelude.{ℕ, ◌≡◌, Some, Result, Ok, Err, List}
use Rattle.bencode_values.specs.declared.value.Value.{Value}
use Rattle.packet_kinds.specs.declared.draw_fields.DrawFields.{DrawFields}
use Rattle.packet_kinds.specs.declared.fault.KindFault.{KindFault}
use Rattle.packet_kinds.specs.declared.fault.KindFault.TheVariants as F
use Rattle.packet_kinds.specs.declared.to_client.ToClient.{ToClient}
use Rattle.packet_kinds.specs.declared.to_client.ToClient.TheVariants as T
use Rattle.packet_kinds.specs.Items.{bytes_at}

-- a draw of these fields and these bytes
abbrev pub draw_of : DrawFields → List ℕ → ToClient
draw_of f bytes = T.Draw f.wid f.x f.y f.w f.h f.coding bytes f.packet_sequence f.rowstride

-- by what the items say: the fields of the draw, whose bytes are there, or the first item that does not fit
abbrev pub FieldsAre : List Value → Result ToClient ℕ → Result DrawFields KindFault → Type 0
FieldsAre items says (Ok f) = (bytes : List ℕ) × (bytes_at items 7 ≡ Some bytes) × (says ≡ Ok (draw_of f bytes))
FieldsAre items says (Err (F.Shape i)) = says ≡ Err i
FieldsAre items says (Err F.NoMemory) = ⊥
