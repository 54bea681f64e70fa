use Rattle.std.proofs.Common.{◌+◌, sym, subst, arith}
use Rattle.packet_frames.specs.declared.head.Head.TheVariants as H
use Rattle.packet_frames.proofs.Frames.{Goes, goes_start, goes_part, goes_least, goes_wrong, goes_short, goes_room, goes_main, goes_chunk, begins_from, heard}
use Rattle.packet_frames.proofs.packet.packet_in.Goals as goal

pub loop-chunks-init : goal.loop-chunks-init
loop-chunks-init c = subst (Goes c.args.limit c.args.bytes.now 0) (sym c.new-chunks.ensures.items) (goes_start c.args.limit c.args.bytes.now)

pub returns-in-Part : goal.returns-in-Part
returns-in-Part c =
    let says = heard c.args.limit c.args.bytes.now c.loop-chunks.at c.as_slice.result.now c.loop-chunks.chunks.items H.Part c.as_slice.ensures.value c.in-Part.ensures.says in (
      omega arith,
      goes_part c.args.limit c.args.bytes.now c.loop-chunks.at c.loop-chunks.chunks.items c.loop-chunks.invariant says,
      goes_least c.args.limit c.args.bytes.now c.loop-chunks.at c.loop-chunks.chunks.items c.loop-chunks.invariant says,
    )

pub returns-in-Wrong : goal.returns-in-Wrong
returns-in-Wrong c =
    goes_wrong c.args.limit c.args.bytes.now c.loop-chunks.at c.loop-chunks.chunks.items c.loop-chunks.invariant c.in-Wrong.place c.in-Wrong.fault
    (heard c.args.limit c.args.bytes.now c.loop-chunks.at c.as_slice.result.now c.loop-chunks.chunks.items (H.Wrong c.in-Wrong.place c.in-Wrong.fault) c.as_slice.ensures.value c.in-Wrong.ensures.says)

pub returns-then-there-size : goal.returns-then-there-size
returns-then-there-size c =
    let says = heard c.args.limit c.args.bytes.now c.loop-chunks.at c.as_slice.result.now c.loop-chunks.chunks.items (H.Whole c.in-Whole.index c.in-Whole.size) c.as_slice.ensures.value c.in-Whole.ensures.says in (
      omega (arith, c.if-there-size.true),
      λ next few. goes_short c.args.limit c.args.bytes.now c.loop-chunks.at c.loop-chunks.chunks.items c.loop-chunks.invariant c.in-Whole.index c.in-Whole.size says next c.if-there-size.true few,
      goes_room c.args.limit c.args.bytes.now c.loop-chunks.at c.loop-chunks.chunks.items c.loop-chunks.invariant c.in-Whole.index c.in-Whole.size says c.if-there-size.true,
    )

pub returns-then-index-eq0 : goal.returns-then-index-eq0
returns-then-index-eq0 c =
    let main = goes_main c.args.limit c.args.bytes.now c.loop-chunks.at c.loop-chunks.chunks.items c.loop-chunks.invariant c.in-Whole.index c.in-Whole.size
    (heard c.args.limit c.args.bytes.now c.loop-chunks.at c.as_slice.result.now c.loop-chunks.chunks.items (H.Whole c.in-Whole.index c.in-Whole.size) c.as_slice.ensures.value c.in-Whole.ensures.says)
    c.if-index-eq0.true (omega (arith, c.if-there-size.false)) in
    begins_from c.args.limit c.args.bytes.now _ c.main_in.result main (rw (← c.as_slice-then-index-eq0.ensures.value) c.main_in.ensures)

pub loop-chunks-preserved : goal.loop-chunks-preserved
loop-chunks-preserved c =
    subst (Goes c.args.limit c.args.bytes.now (c.loop-chunks.at + 8 + c.in-Whole.size)) (sym c.in_ok-push-in-Whole.ensures.items)
    (goes_chunk c.args.limit c.args.bytes.now c.loop-chunks.at c.loop-chunks.chunks.items c.loop-chunks.invariant c.in-Whole.index c.in-Whole.size
    (heard c.args.limit c.args.bytes.now c.loop-chunks.at c.as_slice.result.now c.loop-chunks.chunks.items (H.Whole c.in-Whole.index c.in-Whole.size) c.as_slice.ensures.value c.in-Whole.ensures.says)
    c.if-index-eq0.false (omega (arith, c.if-there-size.false)))
