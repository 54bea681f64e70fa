-- A client's packets as values: the name and then the items in their order. The items are this project's own.
use Rattle.std.specs.Prelude.{codes, List, [], ◌∷◌}
use Rattle.bencode_values.specs.declared.value.Value.{Value}
use Rattle.bencode_values.specs.declared.value.Value.TheVariants as V
use Rattle.packet_kinds.specs.declared.from_client.FromClient.{FromClient}
use Rattle.packet_kinds.specs.declared.from_client.FromClient.TheVariants as C
use Rattle.packet_kinds.specs.Items.{text, optional}

abbrev pub from_items : FromClient → List Value
from_items (C.Hello caps) = text (codes "hello") ∷ optional caps
from_items (C.MapWindow wid further) = text (codes "map-window") ∷ V.Int wid ∷ further
from_items (C.UnmapWindow wid further) = text (codes "unmap-window") ∷ V.Int wid ∷ further
from_items (C.DamageSequence sequence wid width height time message) =
    text (codes "damage-sequence") ∷ V.Int sequence ∷ V.Int wid ∷ V.Int width ∷ V.Int height ∷ V.Int time ∷ optional message
from_items (C.BufferRefresh wid further) = text (codes "buffer-refresh") ∷ V.Int wid ∷ further
from_items (C.Ping t further) = text (codes "ping") ∷ V.Int t ∷ further
from_items (C.Disconnect further) = text (codes "disconnect") ∷ further
from_items C.Other = []

unfoldable pub from_value : FromClient → Value
from_value m = V.List (from_items m)

-- a packet of another name is none that is written
abbrev pub IsNamed : FromClient → Type 0
IsNamed (C.Hello caps) = Unit {0}
IsNamed (C.MapWindow wid further) = Unit {0}
IsNamed (C.UnmapWindow wid further) = Unit {0}
IsNamed (C.DamageSequence sequence wid width height time message) = Unit {0}
IsNamed (C.BufferRefresh wid further) = Unit {0}
IsNamed (C.Ping t further) = Unit {0}
IsNamed (C.Disconnect further) = Unit {0}
IsNamed C.Other = ⊥
