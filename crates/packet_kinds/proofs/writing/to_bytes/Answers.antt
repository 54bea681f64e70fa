use Rattle.std.proofs.Common.{ap, ◌∙◌}
use Rattle.packet_frames.specs.Written.{packet_bytes}
use Rattle.packet_kinds.specs.ToClients.{to_value}
use Rattle.packet_kinds.proofs.Answering.{ok_then}
use Rattle.packet_kinds.proofs.ToWritten.{is_message}
use Rattle.packet_kinds.proofs.writing.to_bytes.Goals as goal

pub returns-clause-message : goal.returns-clause-message
returns-clause-message c =
    let m = c.args.message.now in
    ok_then _ _
    (λ bytes e. is_message m bytes.items c.requires.fields c.requires.sized
    (e ∙ ap (λ v. packet_bytes v c.in_ok-chunk.chunk) c.in_ok-value.ensures ∙ ap (packet_bytes (to_value m)) c.in_ok-chunk.ensures))
    c.write_packet.result c.write_packet.ensures.bytes
