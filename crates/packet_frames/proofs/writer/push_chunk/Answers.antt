use Rattle.std.proofs.Common.{◌<◌, ◌^◌, length, ap, arith}
use Rattle.packet_frames.specs.Written.{Carried}
use Rattle.packet_frames.proofs.writer.push_chunk.Goals as goal

pub push_frame-requires : goal.push_frame-requires
push_frame-requires c =
    let small : length c.in-Some.chunk.bytes < 2 ^ 32 = c.requires c.in-Some.chunk c.in-Some.is in
    let view = ap (λ (x : Carried). length x.bytes) c.chunk.view_is in
    let same = ap length c.as_slice.ensures.value in
    omega arith
