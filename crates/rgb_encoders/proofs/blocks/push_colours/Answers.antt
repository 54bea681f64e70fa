use Rattle.std.proofs.Common.{ℕ, List, ◌++◌, ap, sym, ◌∙◌}
use Rattle.rgb_encoders.specs.Rows.{row_colours}
use Rattle.rgb_encoders.proofs.blocks.push_colours.Goals as goal

pub returns-in_ok-extend_from_slice-in-Exact : goal.returns-in_ok-extend_from_slice-in-Exact
returns-in_ok-extend_from_slice-in-Exact c =
    c.in_ok-extend_from_slice-in-Exact.ensures.items ∙ ap (λ (xs : List ℕ). c.args.pixels.now.items ++ xs) (c.pixels_of.ensures ∙ c.exact_colours.ensures.colours ∙ ap (λ coding. row_colours coding 16 c.args.bytes.now) (sym c.in-Exact.is))

pub returns-in_ok-extend_from_slice-in-Lossy : goal.returns-in_ok-extend_from_slice-in-Lossy
returns-in_ok-extend_from_slice-in-Lossy c =
    c.in_ok-extend_from_slice-in-Lossy.ensures.items ∙ ap (λ (xs : List ℕ). c.args.pixels.now.items ++ xs) (c.pixels_of-in-Lossy.ensures ∙ c.lossy_colours.ensures.colours ∙ ap (λ coding. row_colours coding 16 c.args.bytes.now) (sym c.in-Lossy.is))
