use Rattle.kind_tests.proofs.KindSamples.{refusal_may, hello_may}
use Rattle.kind_tests.proofs.kinds.a_reason_and_caps_are_written_as_they_are.Goals as goal

pub to_bytes-requires-clause-sized : goal.to_bytes-requires-clause-sized
to_bytes-requires-clause-sized g c = rw c.in_ok-message.ensures refusal_may

pub to_bytes-requires-2-clause-sized : goal.to_bytes-requires-2-clause-sized
to_bytes-requires-2-clause-sized g c = hello_may
