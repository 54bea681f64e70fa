-- What paint lines are to a client, computed: it has window 7, 2 by 1 pixels, and a draw of its left pixel waits.
use Rattle.std.proofs.Common.{◌≡◌, Some, None, List, [], ◌∷◌, refl}
use Rattle.std.specs.Prelude.{pos, false}
use Rattle.xp_base.specs.Points.{Rectangle}
use Rattle.xp_base.specs.declared.coding.Coding.TheVariants as K
use Rattle.hello_caps.specs.declared.caps.Caps.{Caps}
use Rattle.window_model.specs.Geometry.{Geometry}
use Rattle.client_outbox.specs.Outgoing.{draw_packet}
use Rattle.window_source.specs.Source.{SourceSeen, begun}
use Rattle.window_source.specs.Waiting.{Queued}
use Rattle.attached_client.specs.declared.change.Change.TheVariants as C
use Rattle.attached_client.specs.Client.{ClientSeen, announced_at}
use Rattle.attached_client.specs.Changes.{ClientChanges, lost_packet, moved_packet, raised_packet}
use Rattle.attached_client.specs.Laws.{mark_on}
use Rattle.attached_client.specs.ChangeLaws.{changed_mark}

abbrev left_pixel : Rectangle
left_pixel = record { x = 0; y = 0; w = 1; h = 1 }

-- a draw that relieves these points of window 7
abbrev drawn : List Rectangle → Queued
drawn relief = draw_packet 7 (record { sequence = 1; rect = left_pixel; coding = K.Exact }) (49 ∷ []) relief

abbrev client : Caps → List SourceSeen → List Queued → ClientSeen
client caps sources packets = record { conn = 0; caps = caps; seen = record { sources = sources; out = record { packets = packets; taken = 0 } } }

abbrev seven : SourceSeen
seven = begun 0 7 2 1 5

abbrev new_window : Geometry
new_window = record { wid = 8; x = pos 30; y = pos 4; w = 3; h = 3 }

module _ (caps : Caps) where
  abbrev before : ClientSeen
  before = client caps (seven ∷ []) (drawn (left_pixel ∷ []) ∷ [])

  -- a window more: its source begins, and it is announced behind the draw
  opened-eight : ClientChanges (C.Opened new_window) 9 before (client caps (seven ∷ begun 0 8 3 3 9 ∷ []) (drawn (left_pixel ∷ []) ∷ announced_at new_window ∷ []))
  opened-eight = refl

  -- the window goes: the draw still goes out, and relieves nothing
  closed-seven : ClientChanges (C.Closed 7) 9 before (client caps [] (drawn [] ∷ lost_packet 7 ∷ []))
  closed-seven = record {
    between = record { packets = drawn [] ∷ []; taken = 0 };
    reliefs = (record { kept = refl; changed = λ in_seven x y. refl; others = λ elsewhere. absurd (cc elsewhere) }, tt);
    taken = refl;
    client = refl;
  }

  moved-seven : ClientChanges (C.Moved (record { wid = 7; x = pos 1; y = pos 2; w = 2; h = 1 })) 9 before
      (client caps (seven ∷ []) (drawn (left_pixel ∷ []) ∷ moved_packet (record { wid = 7; x = pos 1; y = pos 2; w = 2; h = 1 }) ∷ []))
  moved-seven = refl

  raised-seven : ClientChanges (C.Raised 7) 9 before (client caps (seven ∷ []) (drawn (left_pixel ∷ []) ∷ raised_packet 7 ∷ []))
  raised-seven = refl

  -- of a window that the client has not, or has already, nothing becomes
  raised-three : ClientChanges (C.Raised 3) 9 before before
  raised-three = refl

  opened-seven : ClientChanges (C.Opened (record { wid = 7; x = pos 0; y = pos 0; w = 1; h = 1 })) 9 before before
  opened-seven = refl

  -- marks: that of a new window, of one that goes, and of another
  marks : (changed_mark (C.Opened new_window) 8 (mark_on 8 before) ≡ Some false) × (changed_mark (C.Closed 7) 7 (mark_on 7 before) ≡ None) × (changed_mark (C.Opened new_window) 7 (mark_on 7 before) ≡ Some false)
  marks = (refl, refl, refl)
