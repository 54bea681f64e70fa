-- Which window a message maps or unmaps, and what the messages of a talk leave marked.
use Rattle.std.specs.Prelude.{ℕ, ℤ, pos, negsuc, ◌==◌, Bool, true, false, List, [], ◌∷◌, if◌then◌else◌}
use Rattle.packet_kinds.specs.declared.from_client.FromClient.{FromClient}
use Rattle.packet_kinds.specs.declared.from_client.FromClient.TheVariants as C
use Rattle.packet_kinds.specs.Talk.{Said}

-- the integer is the window's number
abbrev pub names : ℕ → ℤ → Bool
names wid (pos n) = n == wid
names wid (negsuc n) = false

-- whether the window is marked as mapped behind a message, where it was so before
abbrev pub mark_after : ℕ → Bool → FromClient → Bool
mark_after wid was (C.Hello caps) = was
mark_after wid was (C.MapWindow number further) = if names wid number then true else was
mark_after wid was (C.UnmapWindow number further) = if names wid number then false else was
mark_after wid was (C.DamageSequence sequence number width height time message) = was
mark_after wid was (C.BufferRefresh number further) = was
mark_after wid was (C.Ping t further) = was
mark_after wid was (C.Disconnect further) = was
mark_after wid was C.Other = was

-- behind these messages
abbrev pub marked : ℕ → Bool → List Said → Bool
marked wid was [] = was
marked wid was (s ∷ said) = marked wid (mark_after wid was s.message) said
