use Rattle.client_outbox.proofs.Orders.{put_follows, taken_from_front}
use Rattle.client_outbox.proofs.laws.bytes_go_out_in_order.Goals as goal

pub returns : goal.returns
returns g c = record { put = put_follows; taken = taken_from_front }
