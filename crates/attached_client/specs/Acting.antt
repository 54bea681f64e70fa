-- What a client's messages come to. The rules are this project's own.
use Rattle.std.specs.Prelude.{ℕ, ℤ, pos, negsuc, ◌≡◌, ◌==◌, Bool, true, false, not, nat_lt, is_some, is_none, ◌&&◌, Option, Some, None, Result, Ok, Err, List, position, if◌then◌else◌}
use Rattle.xp_base.specs.declared.memory.NoMemory.{NoMemory}
use Rattle.bencode_values.specs.Grammar.{is_in_range}
use Rattle.window_model.specs.Desktop.{Window}
use Rattle.ack_tracker.specs.Unacknowledged.{rect_at}
use Rattle.packet_kinds.specs.declared.from_client.FromClient.{FromClient}
use Rattle.packet_kinds.specs.declared.from_client.FromClient.TheVariants as C
use Rattle.packet_kinds.specs.declared.to_client.ToClient.TheVariants as T
use Rattle.window_source.specs.Source.{SourceSeen}
use Rattle.window_source.specs.Calls.{acknowledged_at}
use Rattle.client_talk.specs.Handling.{Acts}
use Rattle.client_talk.specs.Marks.{names}
use Rattle.client_delivery.specs.Attached.{AttachedSeen, find_source}
use Rattle.client_delivery.specs.Steps.{changes_source, quiet, Mapping, Unmapping, Refreshing}
use Rattle.attached_client.specs.Client.{ClientSeen, puts_message, weight, attached_at}

-- what is done where a number, which may be any that a client says, is one that a window may have
abbrev pub at_window : {A : Type 0} → ℤ → A → (ℕ → A) → A
at_window (pos k) other f = f k
at_window (negsuc k) other f = other

-- a ping is answered with its time, an integer of 64 bits as every one that is read; but not from this weight on
abbrev pub answers_ping : ℤ → AttachedSeen → Bool
answers_ping t a = is_in_range t && nat_lt (weight a) 33554432

abbrev pub acted : ℕ → FromClient → AttachedSeen → AttachedSeen
acted now (C.Hello caps) a = a
acted now (C.MapWindow number further) a = at_window number a (λ k. changes_source k (quiet Mapping) a)
acted now (C.UnmapWindow number further) a = at_window number a (λ k. changes_source k (quiet (Unmapping now)) a)
acted now (C.DamageSequence sequence number w h time message) a = at_window number a (λ k. changes_source k (acknowledged_at sequence time now) a)
acted now (C.BufferRefresh number further) a = at_window number a (λ k. changes_source k (quiet (Refreshing now)) a)
acted now (C.Ping t further) a = if answers_ping t a then puts_message (T.PingEcho t) a else a
acted now (C.Disconnect further) a = a
acted now C.Other a = a

-- the client has the window
abbrev pub has_source : AttachedSeen → ℤ → Bool
has_source a number = at_window number false (λ k. is_some (find_source a.sources k))

-- no unacknowledged draw of the source has this number
abbrev pub is_stray_in : Option SourceSeen → ℤ → Bool
is_stray_in None sequence = true
is_stray_in (Some s) sequence = is_none (rect_at s.unacknowledged sequence)

-- the message changes nothing and is counted as ignored
abbrev pub ignored : FromClient → AttachedSeen → Bool
ignored (C.Hello caps) a = true
ignored (C.MapWindow number further) a = not (has_source a number)
ignored (C.UnmapWindow number further) a = not (has_source a number)
ignored (C.DamageSequence sequence number w h time message) a = at_window number true (λ k. is_stray_in (find_source a.sources k) sequence)
ignored (C.BufferRefresh number further) a = not (has_source a number)
ignored (C.Ping t further) a = not (answers_ping t a)
ignored (C.Disconnect further) a = false
ignored C.Other a = true

-- the client after a message at this moment
abbrev pub acted_client : ℕ → FromClient → ClientSeen → ClientSeen
acted_client now m c = record c { seen = acted now m c.seen }

-- the place of the source of the window with this number, and with a number that a client says
abbrev pub place_with : ℕ → List SourceSeen → Option ℕ
place_with wid sources = position (λ (s : SourceSeen). s.wid == wid) sources

abbrev pub place_named : ℤ → List SourceSeen → Option ℕ
place_named number sources = position (λ (s : SourceSeen). names s.wid number) sources

-- a message was acted on, or there was no memory and nothing changed
abbrev pub Does : FromClient → ℕ → ClientSeen → Result Bool NoMemory → ClientSeen → Type 0
Does m now c (Ok answer) c' = (answer ≡ ignored m c.seen) × (c' ≡ acted_client now m c)
Does m now c (Err none) c' = c' ≡ c

-- what becomes of a client on this connection, beside this desktop and at this moment, by what it says
abbrev pub acts : List Window → ℕ → ℕ → Acts ClientSeen
acts desk conn now = record { attach = attached_at desk conn now; act = acted_client now; ignores = λ m c. ignored m c.seen }
