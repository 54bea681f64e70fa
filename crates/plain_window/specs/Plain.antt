-- A window that is played plainly, seen as the model's window.
use Rattle.std.specs.Prelude.{ℕ, ◌+◌, ◌*◌, ◌/◌, Bool, ◌&&◌, List, [], ◌∷◌, nat_lt, if◌then◌else◌}
use Rattle.xp_base.specs.Counts.{greatest}
use Rattle.delivery_model.specs.Window.{Job, Packet, NewWindow, WindowResized, Draws}
use Rattle.delivery_model.specs.Events.{Planned, Filing, Late, Foreign, Filed}
use Rattle.delivery_model.specs.Refusals.{CaptureAnswer, Unmapped, Clean, Early, Congested, Heavy, Spent, Allowed}
use Rattle.plain_window.specs.declared.captures.PlainCapture.{PlainCapture}
use Rattle.plain_window.specs.declared.captures.PlainCapture.TheVariants as A
use Rattle.plain_window.specs.declared.replies.PlainRefusal.{PlainRefusal}
use Rattle.plain_window.specs.declared.replies.PlainRefusal.TheVariants as R
use Rattle.plain_window.specs.declared.replies.PlainFiling.{PlainFiling}
use Rattle.plain_window.specs.declared.replies.PlainFiling.TheVariants as F
use Rattle.plain_window.specs.declared.parts.PlainPacket.{PlainPacket}
use Rattle.plain_window.specs.declared.parts.PlainPacket.TheVariants as P
use Rattle.plain_window.specs.declared.parts.PlainPlanned.{PlainPlanned}

abbrev pub packet_seen : PlainPacket → Packet
packet_seen (P.NewWindow size) = NewWindow size.w size.h
packet_seen (P.WindowResized size) = WindowResized size.w size.h
packet_seen (P.Draws d) = Draws d

abbrev pub plan_seen : PlainPlanned → Planned
plan_seen p = record { rect = p.rect; coding = p.coding }

-- a lossy draw of a plain window shows the even number below
abbrev pub even_below : ℕ → ℕ
even_below n = n / 2 * 2

abbrev pub filing_seen : PlainFiling → Filing
filing_seen F.Late = Late
filing_seen F.Foreign = Foreign
filing_seen F.Filed = Filed

-- how many jobs at the front have their results
abbrev pub ready_count : List Job → ℕ
ready_count [] = 0
ready_count (j ∷ jobs) = if j.encoded then ready_count jobs + 1 else 0

-- why a result is not filed: sequence numbers would pass the greatest, the next one being this; else want of memory
abbrev pub refusal_at : ℕ → PlainRefusal
refusal_at next = if nat_lt greatest next then R.Spent else R.NoMemory

-- what a capture answers, whose plan has this length
abbrev pub answered : CaptureAnswer → ℕ → PlainCapture
answered Unmapped count = A.Unmapped
answered Clean count = A.Clean
answered (Early t) count = A.Early t
answered (Congested n) count = A.Congested n
answered (Heavy n) count = A.Heavy n
answered Spent count = A.Spent
answered Allowed count = A.Jobs count
