-- What a client is owed: the points of the window that the server still has to repair there. This project's own.
use Rattle.std.specs.Prelude.{ℕ, Bool, false, ◌&&◌, ◌||◌, Option, Some, None, List}
use Rattle.std.specs.List.{list_any, count_by}
use Rattle.xp_base.specs.Points.{is_within}
use Rattle.delivery_model.specs.Grids.{has, each_point}
use Rattle.delivery_model.specs.Window.{Packet, NewWindow, WindowResized, Draws, Window}
use Rattle.delivery_model.specs.Events.{jobs_relieve}

-- a waiting packet relieves the point
abbrev pub packet_relieves : Packet → ℕ → ℕ → Bool
packet_relieves (NewWindow w h) x y = false
packet_relieves (WindowResized w h) x y = false
packet_relieves (Draws d) x y = has d.relief x y

abbrev pub packets_relieve : List Packet → ℕ → ℕ → Bool
packets_relieve packets x y = list_any (λ (p : Packet). packet_relieves p x y) packets

-- pending, or in the relief of a job in hand or of a waiting draw, or lossy
abbrev pub is_owed : Window → ℕ → ℕ → Bool
is_owed w x y = (has w.pending x y || jobs_relieve w.jobs x y) || (packets_relieve w.packets x y || has w.lossy x y)

abbrev pub owed_count : Window → ℕ
owed_count w = count_by (λ b. b) (each_point w.desk.wide w.desk.high (is_owed w))

-- of a window that is not there nothing is owed
abbrev pub owes : Option Window → ℕ → ℕ → Bool
owes None x y = false
owes (Some w) x y = is_within w.desk.wide w.desk.high x y && is_owed w x y
