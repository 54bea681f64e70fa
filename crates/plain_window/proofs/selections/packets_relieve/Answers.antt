use Rattle.std.proofs.Common.{◌∙◌}
use Rattle.delivery_model.specs.Window.{Packet}
use Rattle.delivery_model.specs.Owed.{packet_relieves}
use Rattle.plain_window.specs.Plain.{packet_seen}
use Rattle.plain_window.proofs.Loops.{any_seen}
use Rattle.plain_window.proofs.selections.packets_relieve.Goals as goal

pub returns : goal.returns
returns c = c.any_packet.ensures ∙ any_seen packet_seen (λ (p : Packet). packet_relieves p c.args.x c.args.y) c.args.packets.now
