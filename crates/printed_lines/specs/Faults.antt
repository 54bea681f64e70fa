-- How faults of what a client said are printed. This project's own.
use Rattle.std.specs.Prelude.{ℕ, List, ◌++◌, codes}
use Rattle.std.specs.Fmt.{decimal}
use Rattle.bencode_values.specs.declared.reading.Why.{Why}
use Rattle.bencode_values.specs.declared.reading.Why.TheVariants as W
use Rattle.packet_frames.specs.declared.fault.FrameFault.{FrameFault}
use Rattle.packet_frames.specs.declared.fault.FrameFault.TheVariants as F
use Rattle.packet_kinds.specs.declared.fault.TalkFault.{TalkFault}
use Rattle.packet_kinds.specs.declared.fault.TalkFault.TheVariants as T
use Rattle.hello_caps.specs.declared.caps.HelloFault.{HelloFault}
use Rattle.hello_caps.specs.declared.caps.HelloFault.TheVariants as H

-- why bytes spell no value
abbrev pub why_text : Why → List ℕ
why_text W.Leading = codes "leading"
why_text W.MinusZero = codes "minus-zero"
why_text W.Range = codes "range"
why_text W.Letter = codes "letter"
why_text W.Depth = codes "depth"
why_text W.Length = codes "length"
why_text W.Key = codes "key"

abbrev pub frame_text : FrameFault → List ℕ
frame_text F.Magic = codes "magic"
frame_text (F.Flags byte) = codes "flags " ++ decimal byte
frame_text (F.Level level) = codes "level " ++ decimal level
frame_text (F.Size size) = codes "size " ++ decimal size
frame_text (F.Chunk index) = codes "chunk " ++ decimal index
frame_text (F.Payload why) = codes "payload " ++ why_text why
frame_text F.Cut = codes "cut"
frame_text F.Extra = codes "extra"

abbrev pub talk_text : TalkFault → List ℕ
talk_text (T.Frame fault) = frame_text fault
talk_text (T.Shape item) = codes "shape " ++ decimal item

abbrev pub hello_text : HelloFault → List ℕ
hello_text H.NotHello = codes "not-hello"
hello_text H.NoEncoding = codes "no-encoding"
hello_text (H.Uuid length) = codes "uuid " ++ decimal length
