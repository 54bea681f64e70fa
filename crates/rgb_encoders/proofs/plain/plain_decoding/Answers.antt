use Rattle.std.proofs.Common.{ℕ, ◌+◌, ◌*◌, ap, ◌∙◌}
use Rattle.rgb_encoders.specs.PixelBytes.{colour_at}
use Rattle.rgb_encoders.proofs.Points.{decoded_pushed}
use Rattle.rgb_encoders.proofs.plain.plain_decoding.Goals as goal

pub loop-x-preserved : goal.loop-x-preserved
loop-x-preserved c =
    let place = λ (size : ℕ). c.loop-y.y * c.args.stride + c.loop-x.x * size in
    let here = c.read_pixel.ensures ∙ ap (λ size. colour_at c.args.coding c.args.bytes.now (place size)) c.pixel_size-size.ensures in
    decoded_pushed c.args.coding c.args.w c.args.stride c.args.bytes.now c.loop-x.x c.loop-y.y c.loop-x.pixels.items c.push.new.self.items c.read_pixel.result
    c.loop-x-test.true c.loop-x.invariant c.in_ok-push.ensures.items here
