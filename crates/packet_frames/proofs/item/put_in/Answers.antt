use Rattle.std.proofs.Common.{sym}
use Rattle.packet_frames.proofs.Layers.{put_in-Int, put_in-Bytes, put_in-Dict}
use Rattle.packet_frames.proofs.item.put_in.Goals as goal

pub returns-in-Int : goal.returns-in-Int
returns-in-Int c = rw c.in-Int.is (sym (put_in-Int c.in-Int._number c.args.index c.args.bytes.now))

pub returns-in-Bytes : goal.returns-in-Bytes
returns-in-Bytes c = rw c.in-Bytes.is (sym (put_in-Bytes c.in-Bytes._text c.args.index c.args.bytes.now))

pub returns-in-Dict : goal.returns-in-Dict
returns-in-Dict c = rw c.in-Dict.is (sym (put_in-Dict c.in-Dict._pairs c.args.index c.args.bytes.now))
