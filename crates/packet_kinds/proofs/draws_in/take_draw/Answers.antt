use Rattle.std.proofs.Common.{◌≡◌, sym, ap, ◌∙◌, subst}
use Rattle.std.specs.Prelude.{Ok, Some}
use Rattle.packet_kinds.specs.DrawFields.{draw_of}
use Rattle.packet_kinds.proofs.DrawNames.{bytes_of_item, clash, same_bytes}
use Rattle.packet_kinds.proofs.draws_in.take_draw.Goals as goal

pub unreachable-requires : goal.unreachable-requires
unreachable-requires c =
    let fields = c.in_ok-fields.ensures in
    let there = bytes_of_item c.args.items 7 c.remove.result fields.0 c.remove.ensures.item (rw (sym c.as_slice.ensures) fields.1) in
    clash (sym c.in_default.is ∙ c.into_bytes.ensures ∙ there)

pub returns : goal.returns
returns c =
    let fields = c.in_ok-fields.ensures in
    let there = bytes_of_item c.args.items 7 c.remove.result fields.0 c.remove.ensures.item (rw (sym c.as_slice.ensures) fields.1) in
    let same = same_bytes c.in-Some.bytes fields.0 (sym c.in-Some.is ∙ c.into_bytes.ensures ∙ there) in
    rw (sym c.as_slice.ensures) fields.2 ∙ ap (λ b. Ok (draw_of c.in_ok-fields.fields b)) (sym same) ∙ ap Ok (sym c.with_bytes.ensures)
