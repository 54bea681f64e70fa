use Rattle.std.proofs.Common.{arith}
use Rattle.window_source.specs.Waiting.{client_limit}
use Rattle.window_source.proofs.drafts.draft.Goals as goal

pub of_draw-requires : goal.of_draw-requires
of_draw-requires g c =
    let says = c.in_ok-bytes.ensures in
    let long = c.a_message_has_bytes.ensures client_limit c.in_ok-bytes.bytes.items says.message says.says in
    omega (arith, long, c.in_ok-bytes.bytes.ok.0)
