use Rattle.std.proofs.Common.{◌*◌, ap, sym, ◌∙◌, arith}
use Rattle.std.proofs.lemmas.List.{get_or_read, take_all}
use Rattle.xp_base.specs.declared.coding.Coding.TheVariants.{Exact}
use Rattle.rgb_encoders.specs.PixelBytes.{coded_bytes}
use Rattle.rgb_encoders.proofs.Written.{exact_more}
use Rattle.rgb_encoders.proofs.plain.write_exact.Goals as goal

pub loop-i-preserved : goal.loop-i-preserved
loop-i-preserved c =
    exact_more c.loop-i.bytes c.args.pixels.now c.loop-i.i c.get-number.result (c.loop-i.auto.bytes ∙ c.requires.sized) c.loop-i-test.true
    (c.get-number.ensures.value ∙ get_or_read c.args.pixels.now c.loop-i.i c.index-pixels-i.result c.loop-i-test.true c.index-pixels-i.is 0) c.loop-i.invariant

pub returns : goal.returns
returns c =
    sym (take_all (c.loop-i.i * 4) c.loop-i.bytes (omega arith)) ∙ c.loop-i.invariant
    ∙ ap (coded_bytes Exact) (take_all c.loop-i.i c.args.pixels.now c.loop-i-test.false)
