use Rattle.std.proofs.Common.{arith}
use Rattle.window_source.specs.Waiting.{client_limit}
use Rattle.window_source.proofs.drafts.draw_bytes.Goals as goal

pub returns : goal.returns
returns c =
    let m = c.draw_message-message.result in
    let within = c.a_plain_message_has_a_small_value.ensures.within m client_limit c.draw_message-message.ensures.plain c.draw_message-message.ensures.fields (omega arith) c.draw_message-message.ensures.short in
    record { message = m; says = c.in_ok-bytes.ensures.message client_limit within; draw = c.draw_message-message.ensures.draw }
