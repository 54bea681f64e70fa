use Rattle.std.proofs.Common.{◌∙◌, ap}
use Rattle.xp_base.specs.Captures.{Captured}
use Rattle.xp_base.specs.declared.coding.Coding.TheVariants.{Exact}
use Rattle.rgb_encoders.specs.PixelBytes.{coded_bytes}
use Rattle.rgb_encoders.specs.Encoding.{Encoding}
use Rattle.window_model.proofs.Points.{drawn_whole_lem}
use Rattle.client_connection.proofs.messages.whole_bytes.Goals as goal

pub returns : goal.returns
returns c =
    let coded = c.new-2.ensures ∙ ap (λ (e : Encoding). e.bytes) c.encoded.view_is ∙ ap (λ (e : Encoding). e.bytes) c.in_ok-encoded.ensures in
    let captured = c.in_ok-new.ensures.ok ∙ c.new-capture.ensures in
    let whole = drawn_whole_lem.cropping c.window.inside.w c.window.inside.h c.window.inside.pixels c.window.invariant.sized in
    coded ∙ ap (λ (k : Captured). coded_bytes k.coding k.pixels) captured ∙ ap (coded_bytes Exact) c.in_ok-pixels.ensures.value ∙ rw (← c.window.view_is) (ap (coded_bytes Exact) whole)
