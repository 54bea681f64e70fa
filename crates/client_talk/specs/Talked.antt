-- What the bytes that a client gave come to: its capabilities, whether it goes on, and why it ends. Packets are named after
-- Xpra's; which of them are read, and how, is this project's own.
use Rattle.std.specs.Prelude.{ℕ, ◌≡◌, Bool, true, false, Option, Some, None, Result, Ok, Err, List, All}
use Rattle.std.specs.List.{list_any}
use Rattle.packet_frames.specs.Stream.{Packet}
use Rattle.hello_caps.specs.Capabilities.{hello_of}
use Rattle.hello_caps.specs.declared.caps.Caps.{Caps}
use Rattle.hello_caps.specs.declared.caps.HelloFault.{HelloFault}
use Rattle.packet_kinds.specs.declared.from_client.FromClient.{FromClient}
use Rattle.packet_kinds.specs.declared.from_client.FromClient.TheVariants as C
use Rattle.packet_kinds.specs.declared.fault.TalkFault.{TalkFault}
use Rattle.packet_kinds.specs.Talk.{Said, Talk}
use Rattle.client_talk.specs.declared.ending.Ending.{Ending}
use Rattle.client_talk.specs.declared.ending.Ending.TheVariants as E

-- how many bytes a packet or a chunk has at most that a client sends
abbrev pub server_limit : ℕ
server_limit = 1048576

-- the message says that the client leaves
abbrev pub is_leaving : FromClient → Bool
is_leaving (C.Hello caps) = false
is_leaving (C.MapWindow number further) = false
is_leaving (C.UnmapWindow number further) = false
is_leaving (C.DamageSequence sequence number width height time message) = false
is_leaving (C.BufferRefresh number further) = false
is_leaving (C.Ping t further) = false
is_leaving (C.Disconnect further) = true
is_leaving C.Other = false

-- what the first packet says as a hello
abbrev pub hello_in : Option Packet → Option (Result Caps HelloFault)
hello_in None = None
hello_in (Some p) = Some (hello_of p.value)

-- the client's first packet is an accepted hello with these capabilities
abbrev pub HasGreeted : Talk → Caps → Type 0
HasGreeted t caps = hello_in t.first ≡ Some (Ok caps)

-- some message says that the client leaves
abbrev pub says_leaving : List Said → Bool
says_leaving said = list_any (λ (s : Said). is_leaving s.message) said

-- A talk that goes on. Before its hello a client has said nothing whole; behind an accepted one it has said messages without
-- a fault, and none that it leaves.
abbrev pub GoesOn : Option Caps → Talk → Type 0
GoesOn None t = (t.first ≡ None) × (t.fault ≡ None)
GoesOn (Some caps) t = HasGreeted t caps × (t.fault ≡ None) × (says_leaving t.said ≡ false)

-- why a talk ended
abbrev pub HasEnding : Ending → Talk → Type 0
HasEnding E.Left t = ((caps : Caps) × HasGreeted t caps) × (says_leaving t.said ≡ true)
HasEnding (E.Refused fault) t = hello_in t.first ≡ Some (Err fault)
HasEnding (E.Broken place kind) t = t.fault ≡ Some (record { place = place; kind = kind })
