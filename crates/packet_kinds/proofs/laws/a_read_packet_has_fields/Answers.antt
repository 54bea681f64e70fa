use Rattle.packet_kinds.proofs.Shapes.{read_in_range, read_has_fields}
use Rattle.packet_kinds.proofs.laws.a_read_packet_has_fields.Goals as goal

pub returns : goal.returns
returns c = record {
  range = read_in_range;
  fields = read_has_fields;
}
