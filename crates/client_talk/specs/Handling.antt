-- What becomes of a client packet by packet. Its first packet is read as a hello and by nothing else; what an accepted hello
-- makes of the client, and what a message does to it, is said above.
use Rattle.std.specs.Prelude.{ℕ, ◌+◌, ◌≡◌, Bool, true, false, Option, Some, None, Result, Ok, Err, List, [], ◌∷◌, if◌then◌else◌}
use Rattle.packet_frames.specs.Stream.{Packet, Fault}
use Rattle.hello_caps.specs.Capabilities.{hello_of}
use Rattle.hello_caps.specs.declared.caps.Caps.{Caps}
use Rattle.hello_caps.specs.declared.caps.HelloFault.{HelloFault}
use Rattle.packet_kinds.specs.FromShapes.{from_client}
use Rattle.packet_kinds.specs.declared.from_client.FromClient.{FromClient}
use Rattle.packet_kinds.specs.declared.fault.TalkFault.TheVariants as F
use Rattle.client_talk.specs.declared.ending.Ending.{Ending}
use Rattle.client_talk.specs.declared.ending.Ending.TheVariants as E
use Rattle.client_talk.specs.Talked.{is_leaving}

-- what an accepted hello makes of a client, what a message makes of it, and which messages change nothing and are counted as ignored
pub record Acts (A : Type 0) : Type 0 where
  pub attach : Caps → A
  pub act : FromClient → A → A
  pub ignores : FromClient → A → Bool

-- the client behind some packets, where its hello was accepted; how many messages were ignored; and what ended its talk
pub record Outcome (A : Type 0) : Type 0 where
  pub attached : Option A
  pub ignored : ℕ
  pub ended : Option Ending

-- no packet is left: a fault of the bytes ends the talk
abbrev pub stopped : {A : Type 0} → Option A → ℕ → Option Fault → Outcome A
stopped attached ignored None = record { attached = attached; ignored = ignored; ended = None }
stopped attached ignored (Some f) = record { attached = attached; ignored = ignored; ended = Some (E.Broken f.place (F.Frame f.kind)) }

abbrev pub after_hello : {A : Type 0} → Acts A → ℕ → Result Caps HelloFault → (Option A → ℕ → Outcome A) → Outcome A
after_hello acts ignored (Err fault) next = record { attached = None; ignored = ignored; ended = Some (E.Refused fault) }
after_hello acts ignored (Ok caps) next = next (Some (acts.attach caps)) ignored

abbrev pub after_said : {A : Type 0} → Acts A → A → ℕ → FromClient → Bool → (Option A → ℕ → Outcome A) → Outcome A
after_said acts a ignored m true next = record { attached = Some a; ignored = ignored; ended = Some E.Left }
after_said acts a ignored m false next = next (Some (acts.act m a)) (if acts.ignores m a then ignored + 1 else ignored)

abbrev pub after_message : {A : Type 0} → Acts A → A → ℕ → ℕ → Result FromClient ℕ → (Option A → ℕ → Outcome A) → Outcome A
after_message acts a ignored place (Err i) next = record { attached = Some a; ignored = ignored; ended = Some (E.Broken place (F.Shape i)) }
after_message acts a ignored place (Ok m) next = after_said acts a ignored m (is_leaving m) next

abbrev pub after_packet : {A : Type 0} → Acts A → Option A → ℕ → Packet → (Option A → ℕ → Outcome A) → Outcome A
after_packet acts None ignored p next = after_hello acts ignored (hello_of p.value) next
after_packet acts (Some a) ignored p next = after_message acts a ignored p.place (from_client p.value) next

-- these packets in order, and then the fault of the bytes, where one stands
unfoldable pub handled : {A : Type 0} → Acts A → Option A → ℕ → List Packet → Option Fault → Outcome A
handled acts attached ignored [] fault = stopped attached ignored fault
handled acts attached ignored (p ∷ packets) fault = after_packet acts attached ignored p (λ a n. handled acts a n packets fault)
