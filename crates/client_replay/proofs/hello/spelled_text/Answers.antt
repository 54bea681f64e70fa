use Rattle.std.proofs.Common.{arith}
use Rattle.packet_kinds.proofs.Answering.{ok_then}
use Rattle.client_replay.proofs.HelloLemmas.{text_fits, text_spelled}
use Rattle.client_replay.proofs.hello.spelled_text.Goals as goal

pub write_value-requires : goal.write_value-requires
write_value-requires c = text_fits c.args.text.now c.in_ok-value.value c.in_ok-value.ensures c.requires (λ i. let fits = c.type_inv.text i in omega (arith, fits))

pub returns : goal.returns
returns c = ok_then _ _ (λ bytes spells. text_spelled c.args.text.now c.in_ok-value.value bytes.items c.in_ok-value.ensures spells) c.write_value.result c.write_value.ensures
