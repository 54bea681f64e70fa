use Rattle.std.proofs.Common.{arith}
use Rattle.window_source.specs.Waiting.{client_limit}
use Rattle.attached_client.proofs.packets.plain_packet_of.Goals as goal

pub bare_packet-requires : goal.bare_packet-requires
bare_packet-requires c =
    let within = c.a_plain_message_has_a_small_value.ensures.within c.args.message.now client_limit c.requires.plain c.requires.fields (omega arith) (omega (arith, c.requires.small)) in
    let long = c.a_message_has_bytes.ensures client_limit c.in_ok-bytes.bytes.items c.args.message.now (c.in_ok-bytes.ensures.message client_limit within) in
    omega (arith, long, c.in_ok-bytes.bytes.ok.0)
