-- A client's picture, read from the bytes sent to it in whatever pieces: what is kept, and what that says of all bytes.
use Rattle.std.specs.Prelude.{ℕ, ◌≡◌, ◌≢◌, Bool, true, false, Option, Some, None, List, [], ◌++◌}
use Rattle.window_model.specs.Desktop.{Window}
use Rattle.packet_frames.specs.Stream.{Packet, packets_of}
use Rattle.packet_frames.specs.Following.{Framing, Follows}
use Rattle.packet_kinds.specs.Picture.{Kind, Frame, Shape, Data, Stop, shown, picture}
use Rattle.packet_kinds.specs.Replies.{answers, replies, said_bytes}
use Rattle.client_replay.specs.declared.fault.ReplayFault.{ReplayFault}
use Rattle.client_replay.specs.declared.fault.ReplayFault.TheVariants as F
use Rattle.client_replay.specs.declared.fault.Fed.{Fed}
use Rattle.client_replay.specs.declared.fault.Fed.TheVariants as Fd

abbrev pub kind_of : ReplayFault → Kind
kind_of (F.Frame fault) = Frame fault
kind_of (F.Shape i) = Shape i
kind_of F.Data = Data

abbrev pub stop_at : ℕ → ReplayFault → Stop
stop_at place fault = record { place = place; kind = kind_of fault }

abbrev pub stop_of : Option (ℕ × ReplayFault) → Option Stop
stop_of None = None
stop_of (Some f) = Some (stop_at f.0 f.1)

-- The framer, the windows shown, the bytes of the replies that were not handed out yet, the fault where one stands, and
-- whether memory was wanted.
pub record Replaying : Type 0 where
  pub framing : Framing
  pub windows : List Window
  pub waiting : List ℕ
  pub fault : Option Stop
  pub spent : Bool

-- no bytes yet, of packets and chunks of at most so many
abbrev pub nothing_replayed : ℕ → Replaying
nothing_replayed limit = record { framing = record { limit = limit; start = 0; rest = []; stopped = false }; windows = []; waiting = []; fault = None; spent = false }

-- the part that goes on from packet to packet
pub record Painting : Type 0 where
  pub framing : Framing
  pub windows : List Window
  pub waiting : List ℕ

abbrev pub painting : Framing → List Window → List ℕ → Painting
painting framing windows waiting = record { framing = framing; windows = windows; waiting = waiting }

abbrev pub painting_of : Replaying → Painting
painting_of r = painting r.framing r.windows r.waiting

-- some packets of these bytes were given, all of them are shown, and they were answered
pub record Paints (bytes taken : List ℕ) (p : Painting) : Type 0 where
  pub given : List Packet
  pub follows : Follows bytes given p.framing
  pub picture : shown None given [] ≡ record { windows = p.windows; fault = None }
  pub replies : said_bytes (answers given) ≡ taken ++ p.waiting

-- the picture of these bytes and the replies to them, some of which were taken
pub record Shows (bytes taken : List ℕ) (fault : Option Stop) (p : Painting) : Type 0 where
  pub picture : picture p.framing.limit bytes ≡ record { windows = p.windows; fault = fault }
  pub replies : said_bytes (replies p.framing.limit bytes) ≡ taken ++ p.waiting

-- all packets of these bytes were given, and what is left is what is kept unread
pub record GaveAll (bytes : List ℕ) (f : Framing) : Type 0 where
  pub all : packets_of f.limit bytes ≡ record { packets = (packets_of f.limit bytes).packets; start = f.start; rest = f.rest; fault = None }
  pub follows : Follows bytes (packets_of f.limit bytes).packets f

-- the picture of the first packets of these bytes, and the replies to them: where memory was wanted no more was shown
pub record ShowsPart (bytes taken : List ℕ) (p : Painting) : Type 0 where
  pub given : List Packet
  pub later : List Packet
  pub packets : (packets_of p.framing.limit bytes).packets ≡ given ++ later
  pub picture : shown None given [] ≡ record { windows = p.windows; fault = None }
  pub replies : said_bytes (answers given) ≡ taken ++ p.waiting

-- after all packets that are there were taken, by how that ended
abbrev pub Takes : List ℕ → List ℕ → Fed → Painting → Type 0
Takes bytes taken Fd.Ok new = Shows bytes taken None new × GaveAll bytes new.framing
Takes bytes taken (Fd.Bad place fault) new = Shows bytes taken (Some (stop_at place fault)) new
Takes bytes taken Fd.NoMemory new = ShowsPart bytes taken new

-- It was fed these bytes, in whatever pieces, and these bytes of replies were taken. Unless memory was wanted it has the
-- picture of these bytes, up to their first fault, and the replies to them.
pub record Replays (bytes taken : List ℕ) (r : Replaying) : Type 0 where
  pub whole : r.spent ≡ false → Shows bytes taken r.fault (painting_of r)
  pub unread : r.spent ≡ false → r.fault ≡ None → GaveAll bytes r.framing
  pub part : r.spent ≡ true → ShowsPart bytes taken (painting_of r)

-- an answer says what stands from then on
abbrev pub Stands : Replaying → Fed → Type 0
Stands new Fd.Ok = (new.spent ≡ false) × (new.fault ≡ None)
Stands new (Fd.Bad place fault) = (new.spent ≡ false) × (new.fault ≡ Some (stop_at place fault))
Stands new Fd.NoMemory = new.spent ≡ true
