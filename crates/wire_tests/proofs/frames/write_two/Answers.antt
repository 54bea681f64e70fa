use Rattle.std.proofs.Common.{◌≡◌, ◌≢◌, ℕ, ◌+◌, ◌<◌, ◌^◌, List, [], ◌∷◌, ◌++◌, length, map, refl, ap, ◌∙◌, arith}
use Rattle.std.specs.Prelude.{Option, Some, None, slice_set, if◌then◌else◌}
use Rattle.std.specs.List.{concat}
use Rattle.std.specs.Fmt.{digits}
use Rattle.bencode_values.specs.declared.value.Value.{Value}
use Rattle.bencode_values.specs.declared.value.Value.TheVariants as V
use Rattle.bencode_values.specs.Grammar.{spelled, spelled_bytes, Fits}
use Rattle.packet_frames.specs.Framing.{put_in}
use Rattle.wire_tests.proofs.frames.write_two.Goals as goal

abbrev two : List Value
two = V.Bytes [] ∷ V.Bytes [] ∷ []

-- the list of two empty strings is spelled in six bytes
two_spelled : spelled (V.List two) ≡ 108 ∷ (concat (map spelled two) ++ 101 ∷ []) → spelled (V.Bytes []) ≡ spelled_bytes [] → spelled (V.List two) ≡ 108 ∷ 48 ∷ 58 ∷ 48 ∷ 58 ∷ 101 ∷ []
unfolding digits
two_spelled list bytes = rw (list, bytes) refl

some_value : (o : Option Value) (v : Value) → o ≡ Some v → o ≢ None
some_value o v e none = cc

pub write_packet-requires : goal.write_packet-requires
write_packet-requires c =
    let form = c.limits_by_form.ensures in
    let put = c.a_chunk_is_put_in_by_form.ensures in
    let spell = c.spelling_by_form.ensures in
    let bytes = c.in_ok-from_slice.field-0.items in
    let sized = ap length c.in_ok-from_slice.ensures.items in
    let fits : Fits 31 (V.Bytes []) = (form.bytes 31 []).1 refl in
    let there = put.list two 1 bytes ∙ ap (λ b. if b then Some (V.List (slice_set two 1 (V.Bytes bytes))) else None) put.empty in
    rw c.in_ok-value.ensures (record {
      limits = (form.list 31 two).1 (fits, (fits, tt));
      sized = rw (two_spelled (spell.list two) (spell.bytes [])) (omega arith);
      chunk_fits = (omega arith, omega arith, some_value (put_in (V.List two) 1 bytes) _ there);
    })
