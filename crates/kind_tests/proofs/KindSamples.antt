-- Packets that the tests write.
use Rattle.std.proofs.Common.{List, refl, arith}
use Rattle.std.specs.Prelude.{Some, None, codes}
use Rattle.std.specs.List.{AllByRecursion}
use Rattle.bencode_values.specs.declared.value.Value.{Value}
use Rattle.bencode_values.specs.declared.value.Value.TheVariants as V
use Rattle.bencode_values.proofs.Values.{fits-List}
use Rattle.packet_frames.specs.Written.{MayBeWritten}
use Rattle.packet_kinds.specs.declared.to_client.ToClient.TheVariants as T
use Rattle.packet_kinds.specs.ToClients.{to_items, to_value, to_chunk}
use Rattle.packet_kinds.proofs.Sizes.{IsSmall, small_text, list_size, all_short, all_fit}

pub refusal_may : MayBeWritten (to_value (T.Disconnect (Some (V.Bytes (codes "not hello"))))) (to_chunk (T.Disconnect (Some (V.Bytes (codes "not hello")))))
unfolding to_value to_chunk
refusal_may =
    let items : List Value = to_items (T.Disconnect (Some (V.Bytes (codes "not hello")))) in
    let all : AllByRecursion IsSmall items = (small_text (codes "disconnect") (omega arith) refl, (small_text (codes "not hello") (omega arith) refl, tt)) in
    let size = list_size items (all_short items all) in
    record { limits = fits-List 31 items (all_fit items all); sized = omega arith; chunk_fits = tt }

pub hello_may : MayBeWritten (to_value (T.Hello None)) (to_chunk (T.Hello None))
unfolding to_value to_chunk
hello_may =
    let items : List Value = to_items (T.Hello None) in
    let all : AllByRecursion IsSmall items = (small_text (codes "hello") (omega arith) refl, tt) in
    let size = list_size items (all_short items all) in
    record { limits = fits-List 31 items (all_fit items all); sized = omega arith; chunk_fits = tt }
