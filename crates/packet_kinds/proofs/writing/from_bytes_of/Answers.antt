use Rattle.std.proofs.Common.{ap, ◌∙◌}
use Rattle.std.specs.Prelude.{None}
use Rattle.packet_frames.specs.Written.{packet_bytes}
use Rattle.packet_kinds.proofs.Answering.{ok_then}
use Rattle.packet_kinds.proofs.FromWritten.{is_client_message}
use Rattle.packet_kinds.proofs.writing.from_bytes_of.Goals as goal

pub returns-clause-message : goal.returns-clause-message
returns-clause-message c =
    let m = c.args.message.now in
    ok_then _ _ (λ bytes e. is_client_message m bytes.items c.requires.named c.requires.sized (e ∙ ap (λ v. packet_bytes v None) c.in_ok-value.ensures))
    c.write_packet.result c.write_packet.ensures.bytes
