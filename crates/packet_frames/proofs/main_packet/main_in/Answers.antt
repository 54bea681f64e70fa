use Rattle.std.proofs.Common.{◌+◌, ◌≤◌, map, length, sym, subst, arith}
use Rattle.std.specs.Prelude.{IfOk, slice_range}
use Rattle.bencode_values.specs.declared.reading.Read.TheVariants as R
use Rattle.packet_frames.specs.Begins.{Says, chunk_in}
use Rattle.packet_frames.proofs.Contents.{read_is, main-short, main-bad, main-extra, main-whole, length-content}
use Rattle.packet_frames.proofs.main_packet.main_in.Goals as goal

pub returns-in-Short : goal.returns-in-Short
returns-in-Short c =
    main-short c.args.at c.args.end (map (chunk_in c.args.bytes.now) c.args.chunks.now) (slice_range c.args.bytes.now (c.args.at + 8) c.args.end) c.requires.begins
    (read_is c.args.bytes.now (c.args.at + 8) c.args.end R.Short (λ i. omega (arith, c.type_inv.bytes i)) c.in-Short.ensures.told (λ e. cc))

pub returns-in-Bad : goal.returns-in-Bad
returns-in-Bad c =
    main-bad c.args.at c.args.end (map (chunk_in c.args.bytes.now) c.args.chunks.now) (slice_range c.args.bytes.now (c.args.at + 8) c.args.end) c.requires.begins c.in-Bad.place c.in-Bad.why
    (read_is c.args.bytes.now (c.args.at + 8) c.args.end (R.Bad c.in-Bad.place c.in-Bad.why) (λ i. omega (arith, c.type_inv.bytes i)) c.in-Bad.ensures.told (λ e. cc))

pub returns-then-at-used : goal.returns-then-at-used
returns-then-at-used c =
    main-extra c.args.at c.args.end (map (chunk_in c.args.bytes.now) c.args.chunks.now) (slice_range c.args.bytes.now (c.args.at + 8) c.args.end) c.requires.begins c.in-Whole.value c.in-Whole.used c.if-at-used.true
    (read_is c.args.bytes.now (c.args.at + 8) c.args.end (R.Whole c.in-Whole.value c.in-Whole.used) (λ i. omega (arith, c.type_inv.bytes i)) c.in-Whole.ensures.told (λ e. cc))

pub returns-else-at-used : goal.returns-else-at-used
returns-else-at-used c =
    let size = length-content c.args.bytes.now (c.args.at + 8) c.args.end c.requires.begins c.requires.ends in
    let within : c.in-Whole.used ≤ length (slice_range c.args.bytes.now (c.args.at + 8) c.args.end) = c.in-Whole.ensures.told.within in
    subst (λ b. IfOk c.put_all.result (Says b))
    (sym (main-whole c.args.at c.args.end (map (chunk_in c.args.bytes.now) c.args.chunks.now) (slice_range c.args.bytes.now (c.args.at + 8) c.args.end) c.requires.begins c.in-Whole.value c.in-Whole.used (omega (arith, c.if-at-used.false)) (omega arith)
    (read_is c.args.bytes.now (c.args.at + 8) c.args.end (R.Whole c.in-Whole.value c.in-Whole.used) (λ i. omega (arith, c.type_inv.bytes i)) c.in-Whole.ensures.told (λ e. cc)))) c.put_all.ensures
