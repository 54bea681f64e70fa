use Rattle.std.proofs.Common.{sym}
use Rattle.packet_frames.proofs.Layers.{put_in-fit, put_in-misfit, item_there}
use Rattle.packet_frames.proofs.item.put_in_list.Goals as goal

pub returns-then-not-is_empty_string : goal.returns-then-not-is_empty_string
returns-then-not-is_empty_string c = sym (put_in-misfit c.args.items c.args.index c.args.bytes.now (sym c.if-not-is_empty_string.ensures))

pub set-requires : goal.set-requires
set-requires c = item_there c.args.items c.args.index (sym c.if-not-is_empty_string.ensures)

pub returns : goal.returns
returns c = rw (c.set.ensures, c.new.ensures, c.in_ok-text.ensures.items) (sym (put_in-fit c.args.items c.args.index c.args.bytes.now (sym c.if-not-is_empty_string.ensures)))
