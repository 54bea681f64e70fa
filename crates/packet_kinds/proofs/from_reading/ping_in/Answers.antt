use Rattle.std.proofs.Common.{◌≡◌, List, refl, drop, sym, ◌∙◌}
use Rattle.std.specs.Prelude.{Ok, Some, ℤ}
use Rattle.bencode_values.specs.declared.value.Value.{Value}
use Rattle.packet_kinds.specs.declared.from_client.FromClient.TheVariants as C
use Rattle.packet_kinds.specs.Items.{int_at}
use Rattle.packet_kinds.specs.FromShapes.{ping_in}
use Rattle.packet_kinds.proofs.Answering.{no_memory}
use Rattle.packet_kinds.proofs.from_reading.ping_in.Goals as goal

-- its integer is there
said : (items : List Value) (n : ℤ) → int_at items 1 ≡ Some n → ping_in items ≡ Ok (C.Ping n (drop 2 items))
said items n a = rw a refl

pub returns-in_err-further : goal.returns-in_err-further
returns-in_err-further c =
    no_memory _ _ c.from_residual-in_err-further.result (said c.args.items.now _ (sym c.int_at.ensures ∙ c.in_ok-t.ensures.ok_part))
    c.from_residual-in_err-further.ensures.1
