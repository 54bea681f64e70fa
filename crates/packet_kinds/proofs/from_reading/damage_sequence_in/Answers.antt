use Rattle.std.proofs.Common.{◌≡◌, List, refl, sym, ◌∙◌}
use Rattle.std.specs.Prelude.{Ok, Some, ℤ, slice_get}
use Rattle.bencode_values.specs.declared.value.Value.{Value}
use Rattle.packet_kinds.specs.declared.from_client.FromClient.TheVariants as C
use Rattle.packet_kinds.specs.Items.{int_at}
use Rattle.packet_kinds.specs.FromShapes.{damage_sequence_in}
use Rattle.packet_kinds.proofs.Answering.{no_memory}
use Rattle.packet_kinds.proofs.from_reading.damage_sequence_in.Goals as goal

-- its integers are there
said : (items : List Value) (sequence wid width height time : ℤ) → int_at items 1 ≡ Some sequence → int_at items 2 ≡ Some wid → int_at items 3 ≡ Some width
    → int_at items 4 ≡ Some height → int_at items 5 ≡ Some time → damage_sequence_in items ≡ Ok (C.DamageSequence sequence wid width height time (slice_get items 6))
said items sequence wid width height time a b c d e = rw (a, b, c, d, e) refl

pub returns-in_err-message : goal.returns-in_err-message
returns-in_err-message c =
    no_memory _ _ c.from_residual-in_err-message.result
    (said c.args.items.now _ _ _ _ _ (sym c.int_at.ensures ∙ c.in_ok-packet_sequence.ensures.ok_part) (sym c.int_at-2.ensures ∙ c.in_ok-wid.ensures.ok_part)
    (sym c.int_at-3.ensures ∙ c.in_ok-width.ensures.ok_part) (sym c.int_at-4.ensures ∙ c.in_ok-height.ensures.ok_part)
    (sym c.int_at-5.ensures ∙ c.in_ok-decode_time.ensures.ok_part))
    c.from_residual-in_err-message.ensures.1
