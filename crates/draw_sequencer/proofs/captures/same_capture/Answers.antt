use Rattle.std.proofs.Common.{◌≡◌, sym, ◌∙◌, ap}
use Rattle.std.proofs.lemmas.Slice.Eq.{slice_eq-Decides}
use Rattle.std.proofs.lemmas.Bool.Decides.{Decides-eqb}
use Rattle.xp_base.specs.Captures.{Captured}
use Rattle.draw_sequencer.proofs.SameParts.{rect_same, coding_same, captured_same}
use Rattle.draw_sequencer.proofs.captures.same_capture.Goals as goal

pub returns : goal.returns
returns c =
    let pixels = slice_eq-Decides Decides-eqb _ _ _ c.eq.ensures in
    let rect : c.one.inside.rect ≡ c.other.inside.rect = rect_same _ _ (sym c.ne.ensures ∙ c.if-ne.false) in
    let coding : c.one.inside.coding ≡ c.other.inside.coding = coding_same _ _ (sym c.ne-2.ensures ∙ c.if-ne-2.false) in (
      λ equal.
          let same : c.one.inside.pixels ≡ c.other.inside.pixels = sym c.as_slice.ensures ∙ (pixels.0 equal ∙ c.as_slice-2.ensures) in
          sym c.one.view_is ∙ (captured_same _ _ rect coding same ∙ c.other.view_is),
      λ same.
          let pixels_same : c.one.inside.pixels ≡ c.other.inside.pixels = ap (λ (d : Captured). d.pixels) (c.one.view_is ∙ (same ∙ sym c.other.view_is)) in
          pixels.1 (c.as_slice.ensures ∙ (pixels_same ∙ sym c.as_slice-2.ensures)),
    )
