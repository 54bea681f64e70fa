-- What is kept of what a client said, and how one read goes on from there.
use Rattle.std.specs.Prelude.{ℕ, ◌<◌, ◌≤◌, ◌≡◌, Bool, false, Option, Some, None, List, [], ◌++◌, length, take, drop, slice_index}
use Rattle.packet_frames.specs.Stream.{Packet, packets_of}
use Rattle.packet_frames.specs.Following.{Framing, left_of, fed}
use Rattle.hello_caps.specs.declared.caps.Caps.{Caps}
use Rattle.packet_kinds.specs.Talk.{talk_of, talk}
use Rattle.client_talk.specs.declared.ending.Ending.{Ending}
use Rattle.client_talk.specs.Talked.{server_limit, GoesOn}
use Rattle.client_talk.specs.Handling.{Acts, Outcome, handled}
use Rattle.client_talk.specs.Marks.{marked}
use Rattle.client_talk.specs.Mapped.{IsShownBy}

-- The packets handled so far are those of the bytes given, and the framer holds what is left: no packet, no fault, and the bytes
-- that are no whole packet yet. They are the talk of a client with these capabilities that goes on.
pub record IsListening (given : List ℕ) (f : Framing) (caps : Option Caps) : Type 0 where
  pub limit : f.limit ≡ server_limit
  pub going : f.stopped ≡ false
  pub nothing_left : left_of f ≡ record { packets = []; start = f.start; rest = f.rest; fault = None }
  pub packets : List Packet
  pub all : packets_of server_limit given ≡ record { packets = packets; start = f.start; rest = f.rest; fault = None }
  pub said : GoesOn caps (talk_of None packets)

-- These bytes were read: their packets became of the client what became of it, so many messages were ignored, and the talk goes on.
pub record Hears {A : Type 0} (acts : Acts A) (f : Framing) (attached : Option A) (bytes : List ℕ) (f' : Framing) (attached' : Option A) (ignored : ℕ) : Type 0 where
  pub limit : f'.limit ≡ f.limit
  pub going : f'.stopped ≡ false
  pub nothing_left : left_of f' ≡ record { packets = []; start = f'.start; rest = f'.rest; fault = None }
  pub packets : List Packet
  pub left : left_of (fed f bytes) ≡ record { packets = packets; start = f'.start; rest = f'.rest; fault = None }
  pub outcome : handled acts attached 0 packets None ≡ record { attached = attached'; ignored = ignored; ended = None }

-- these bytes were read, and one of their packets, or a fault of the bytes, ends the talk
abbrev pub EndsHearing : {A : Type 0} → Acts A → Framing → Option A → List ℕ → Ending → Option A → ℕ → Type 0
EndsHearing acts f attached bytes ending attached' ignored =
    handled acts attached 0 (left_of (fed f bytes)).packets (left_of (fed f bytes)).fault ≡ record { attached = attached'; ignored = ignored; ended = Some ending }

-- What is kept of a window's mark, and of the bytes sent and given, where `heard` has for each byte sent how many had been given by
-- then: the mark is that of the messages said since the window began, and the client shows it by no byte that was sent before.
pub record IsMarked (wid : ℕ) (mark : Bool) (sent given heard : List ℕ) : Type 0 where
  pub since : ℕ
  pub within : since ≤ length (talk server_limit given).said
  pub marks : marked wid false (drop since (talk server_limit given).said) ≡ mark
  pub later : (n : ℕ) → n < length sent → IsShownBy sent n wid → since ≤ length (talk server_limit (take (slice_index heard n) given)).said
