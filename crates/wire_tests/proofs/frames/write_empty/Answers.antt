use Rattle.std.proofs.Common.{◌≡◌, List, [], ◌<◌, ◌^◌, arith}
use Rattle.bencode_values.specs.declared.value.Value.{Value}
use Rattle.wire_tests.proofs.frames.write_empty.Goals as goal

pub write_packet-requires : goal.write_packet-requires
write_packet-requires c =
    let none : List Value = [] in
    rw c.new.ensures (record { limits = (c.limits_by_form.ensures.list 31 none).1 tt; sized = rw (c.spelling_by_form.ensures.list none) (omega arith); chunk_fits = tt })
