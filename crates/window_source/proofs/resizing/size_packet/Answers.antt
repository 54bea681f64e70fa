use Rattle.std.proofs.Common.{arith, rules}
use Rattle.packet_kinds.specs.declared.to_client.ToClient.{ToClient}
use Rattle.packet_kinds.specs.declared.to_client.ToClient.TheVariants as T
use Rattle.packet_kinds.specs.Fields.{HasFields}
use Rattle.window_source.specs.Waiting.{client_limit}
use Rattle.window_source.proofs.resizing.size_packet.Goals as goal

pub of_bytes-requires : goal.of_bytes-requires
of_bytes-requires g c =
    let m : ToClient = T.WindowResized c.args.wid c.args.w c.args.h in
    let fields : HasFields m = search rules in
    let within = c.a_plain_message_has_a_small_value.ensures.within m client_limit tt fields (omega arith) (omega arith) in
    let long = c.a_message_has_bytes.ensures client_limit c.in_ok-bytes.bytes.items m (c.in_ok-bytes.ensures.message client_limit within) in
    record { some = omega (arith, long, c.in_ok-bytes.bytes.ok.0) }
