use Rattle.std.proofs.Common.{◌≡◌, sym, ap, ◌∙◌}
use Rattle.std.specs.Cmp.Lexicographic.{same_text}
use Rattle.std.specs.Option.{option_copied}
use Rattle.packet_kinds.proofs.DrawNames.{draw_named}
use Rattle.packet_kinds.proofs.taking.is_draw.Goals as goal

pub returns : goal.returns
returns c = λ same. draw_named c.args.items.now c.in-Some.name.now
    (sym c.bytes_at.ensures ∙ ap option_copied c.in-Some.is)
    (sym c.as_slice.ensures ∙ same_text c.as_slice.result.now c.as_slice-2.result.now (sym (sym c.eq.ensures ∙ same)) ∙ c.as_slice-2.ensures)
