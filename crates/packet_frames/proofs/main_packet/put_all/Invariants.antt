use Rattle.std.proofs.Common.{◌≡◌, map, drop}
use Rattle.packet_frames.specs.Framing.{put_all}
use Rattle.packet_frames.specs.Begins.{chunk_in}
use Rattle.packet_frames.proofs.main_packet.put_all.Given as goal

abbrev pub invariant-loop-chunk : goal.invariant-loop-chunk
invariant-loop-chunk l = put_all l.at l.end (map (chunk_in l.bytes) (drop l.chunk-index l.chunks)) l.filled ≡ put_all l.at l.end (map (chunk_in l.bytes) l.chunks) l.initial.filled
