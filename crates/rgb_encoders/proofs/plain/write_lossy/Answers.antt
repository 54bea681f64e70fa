use Rattle.std.proofs.Common.{◌*◌, ap, sym, ◌∙◌, arith}
use Rattle.std.proofs.lemmas.List.{get_or_read, take_all}
use Rattle.xp_base.specs.declared.coding.Coding.TheVariants.{Lossy}
use Rattle.rgb_encoders.specs.Colour.{lossy_number}
use Rattle.rgb_encoders.specs.PixelBytes.{coded_bytes}
use Rattle.rgb_encoders.proofs.Written.{lossy_more}
use Rattle.rgb_encoders.proofs.plain.write_lossy.Goals as goal

pub loop-i-preserved : goal.loop-i-preserved
loop-i-preserved c =
    let pixel = get_or_read c.args.pixels.now c.loop-i.i c.index-pixels-i.result c.loop-i-test.true c.index-pixels-i.is 0 in
    lossy_more c.loop-i.bytes c.args.pixels.now c.loop-i.i c.lossy_number-number.result (c.loop-i.auto.bytes ∙ c.requires.sized) c.loop-i-test.true
    (c.lossy_number-number.ensures.value ∙ ap lossy_number pixel) c.loop-i.invariant

pub returns : goal.returns
returns c =
    sym (take_all (c.loop-i.i * 2) c.loop-i.bytes (omega arith)) ∙ c.loop-i.invariant
    ∙ ap (coded_bytes Lossy) (take_all c.loop-i.i c.args.pixels.now c.loop-i-test.false)
