use Rattle.std.proofs.Common.{None, length, ap, arith, ◌∙◌, ◌≡◌}
use Rattle.bencode_values.specs.declared.value.Value.{Value}
use Rattle.packet_frames.specs.Written.{packet_bytes}
use Rattle.hello_caps.specs.Replies.{server_hello_value}
use Rattle.window_source.specs.Waiting.{client_limit}
use Rattle.attached_client.proofs.Attachings.{greets, hello_message}
use Rattle.attached_client.proofs.packets.hello_packet_for.Goals as goal

pub bare_packet-requires : goal.bare_packet-requires
bare_packet-requires c =
    let caps = c.args.caps.now in
    let message = hello_message c.what_is_written_is_read_as_the_same_message.ensures (record {
      written = c.the_server_spells.ensures.hello;
      exact = c.the_server_spells.ensures.exact;
      lossy = c.the_server_spells.ensures.lossy;
    }) caps.lossy in
    let long = c.a_message_has_bytes.ensures client_limit (packet_bytes (server_hello_value caps.lossy) None) (greets caps.lossy) message in
    let bytes : c.in_ok-bytes.bytes.items ≡ packet_bytes (server_hello_value caps.lossy) None = c.in_ok-bytes.ensures.bytes ∙ ap (λ (v : Value). packet_bytes v None) c.in_ok-hello.ensures.value in
    omega (arith, long, ap length bytes, c.in_ok-bytes.bytes.ok.0)
