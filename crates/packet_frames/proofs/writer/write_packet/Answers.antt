use Rattle.std.proofs.Common.{List, ℕ, ◌++◌, sym, ap, subst, ◌∙◌}
use Rattle.packet_frames.specs.Written.{chunk_bytes, frame_bytes, IsThatPacket}
use Rattle.packet_frames.proofs.Writing.{packet_bytes_are, that_packet}
use Rattle.packet_frames.proofs.writer.write_packet.Goals as goal

pub returns-clause-bytes : goal.returns-clause-bytes
returns-clause-bytes c =
    c.in_ok-push_frame.ensures
    ∙ ap (λ (xs : List ℕ). xs ++ frame_bytes 0 c.as_slice.result.now) (c.in_ok-push_chunk.ensures ∙ ap (λ (xs : List ℕ). xs ++ chunk_bytes c.args.chunk) c.in_ok-bytes.ensures.items)
    ∙ ap (λ (content : List ℕ). chunk_bytes c.args.chunk ++ frame_bytes 0 content) (c.as_slice.ensures.value ∙ c.in_ok-content.ensures)
    ∙ packet_bytes_are c.args.value.now c.args.chunk

pub returns-clause-packets : goal.returns-clause-packets
returns-clause-packets c = subst (IsThatPacket c.args.value.now c.args.chunk) (sym (returns-clause-bytes c)) (that_packet c.args.value.now c.args.chunk c.requires)
