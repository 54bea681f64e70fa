-- What a paint line is to one client: what is made for it first, and what becomes of the client by it.
use Rattle.std.specs.Prelude.{ℕ, ◌≡◌, ◌≤◌, Option, Some, None, List}
use Rattle.xp_base.specs.Keyed.{keyed_push, keyed_change, keyed_remove}
use Rattle.xp_base.specs.Points.{Rectangle, LiesIn}
use Rattle.delivery_model.specs.Events.{damaged, resized}
use Rattle.window_model.specs.Geometry.{Geometry}
use Rattle.rect_regions.specs.PointSets.{has}
use Rattle.packet_kinds.specs.declared.to_client.ToClient.TheVariants as T
use Rattle.client_outbox.specs.Outgoing.{Outgoing, with_packet}
use Rattle.client_outbox.specs.Reliefs.{Emptied, ReliefsChange}
use Rattle.window_source.specs.Source.{SourceSeen, after, begun}
use Rattle.window_source.specs.Waiting.{Queued}
use Rattle.window_source.specs.Calls.{IsDamaged}
use Rattle.window_source.specs.Resized.{ResizingSeen, IsOfSize, IsResizing, ResizesOutbox}
use Rattle.client_delivery.specs.Attached.{AttachedSeen, source_key, find_source}
use Rattle.client_delivery.specs.Steps.{changes_source}
use Rattle.attached_client.specs.declared.change.Change.{Change}
use Rattle.attached_client.specs.declared.change.Change.TheVariants as C
use Rattle.attached_client.specs.declared.change.Prepared.{Prepared}
use Rattle.attached_client.specs.declared.change.Prepared.TheVariants as P
use Rattle.attached_client.specs.Client.{ClientSeen, Attachment, plain_packet, announced_at}

-- the number of the window that it is on
abbrev pub wid_of : Change → ℕ
wid_of (C.Opened g) = g.wid
wid_of (C.Closed k) = k
wid_of (C.Moved g) = g.wid
wid_of (C.Raised k) = k
wid_of (C.Damaged k r) = k
wid_of (C.Resized g) = g.wid

-- ---- what becomes of a client

-- a source more, and a packet behind all that wait; a packet alone
abbrev pub with_window : SourceSeen → Queued → ClientSeen → ClientSeen
with_window source packet c = record c { seen = record { sources = keyed_push c.seen.sources source; out = with_packet c.seen.out packet } }

abbrev pub with_message : Queued → ClientSeen → ClientSeen
with_message packet c = record c { seen = record c.seen { out = with_packet c.seen.out packet } }

-- a window goes: its source is gone, its waiting draws relieve nothing more, and this packet comes behind all that wait
pub record Loses (k : ℕ) (packet : Queued) (c c' : ClientSeen) : Type 0 where
  pub between : Outgoing (List Rectangle)
  pub reliefs : ReliefsChange (Emptied has) k c.seen.out.packets between.packets
  pub taken : between.taken ≡ c.seen.out.taken
  pub client : c' ≡ record c { seen = record { sources = keyed_remove source_key c.seen.sources k; out = with_packet between packet } }

-- the rectangle of the window is pending
abbrev pub damaged_in : ℕ → Rectangle → ℕ → ClientSeen → ClientSeen
damaged_in k r now c = record c { seen = changes_source k (damaged r now) c.seen }

-- a window has another size: its source is the model's, the reliefs of its waiting draws are clipped to the size, and the packet that
-- says so comes behind all that wait
pub record Sizes (k w h now : ℕ) (c c' : ClientSeen) : Type 0 where
  pub out : Outgoing (List Rectangle)
  pub outbox : ResizesOutbox has k w h c.seen.out out
  pub client : c' ≡ record c { seen = record { sources = keyed_change source_key c.seen.sources k (after (resized w h now)); out = out } }

-- the packets of a window that goes, that has another place and its size as it was, and that is on top
abbrev pub lost_packet : ℕ → Queued
lost_packet k = plain_packet (T.LostWindow k)

abbrev pub moved_packet : Geometry → Queued
moved_packet g = plain_packet (T.WindowMoveResize g.wid g.x g.y g.w g.h)

abbrev pub raised_packet : ℕ → Queued
raised_packet k = plain_packet (T.RaiseWindow k)

-- By whether the client has the window: a window is opened only where it has not, and all else changes one that it has.
abbrev pub ChangesWhere : Option SourceSeen → Change → ℕ → ClientSeen → ClientSeen → Type 0
ChangesWhere None (C.Opened g) now c c' = c' ≡ with_window (begun c.conn g.wid g.w g.h now) (announced_at g) c
ChangesWhere None (C.Closed k) now c c' = c' ≡ c
ChangesWhere None (C.Moved g) now c c' = c' ≡ c
ChangesWhere None (C.Raised k) now c c' = c' ≡ c
ChangesWhere None (C.Damaged k r) now c c' = c' ≡ c
ChangesWhere None (C.Resized g) now c c' = c' ≡ c
ChangesWhere (Some s) (C.Opened g) now c c' = c' ≡ c
ChangesWhere (Some s) (C.Closed k) now c c' = Loses k (lost_packet k) c c'
ChangesWhere (Some s) (C.Moved g) now c c' = c' ≡ with_message (moved_packet g) c
ChangesWhere (Some s) (C.Raised k) now c c' = c' ≡ with_message (raised_packet k) c
ChangesWhere (Some s) (C.Damaged k r) now c c' = c' ≡ damaged_in k r now c
ChangesWhere (Some s) (C.Resized g) now c c' = Sizes g.wid g.w g.h now c c'

-- a client before and after a change at this moment
abbrev pub ClientChanges : Change → ℕ → ClientSeen → ClientSeen → Type 0
ClientChanges change now c c' = ChangesWhere (find_source c.seen.sources (wid_of change)) change now c c'

-- ---- what is made for it first

-- a rectangle lies in the window, where the client has it
abbrev pub FitsSource : Change → SourceSeen → Type 0
FitsSource (C.Opened g) s = Unit {0}
FitsSource (C.Closed k) s = Unit {0}
FitsSource (C.Moved g) s = Unit {0}
FitsSource (C.Raised k) s = Unit {0}
FitsSource (C.Damaged k r) s = LiesIn s.wide s.high r
FitsSource (C.Resized g) s = Unit {0}

abbrev pub Fits : Change → AttachedSeen → Type 0
Fits change a = (s : SourceSeen) → find_source a.sources (wid_of change) ≡ Some s → FitsSource change s

-- what is pending of the source with the rectangle
abbrev pub IsPendingOf : SourceSeen → Rectangle → Prepared → Type 0
IsPendingOf s r P.Nothing = ⊥
IsPendingOf s r (P.Window source packet) = ⊥
IsPendingOf s r (P.Lost packet) = ⊥
IsPendingOf s r (P.Message packet) = ⊥
IsPendingOf s r (P.Pending pending) = IsDamaged has s r pending
IsPendingOf s r (P.Resized z) = ⊥

-- what the resize to this size needs of the source, with these packets that wait
abbrev pub IsSizeOf : SourceSeen → List Queued → Geometry → Prepared → Type 0
IsSizeOf s packets g P.Nothing = ⊥
IsSizeOf s packets g (P.Window source packet) = ⊥
IsSizeOf s packets g (P.Lost packet) = ⊥
IsSizeOf s packets g (P.Message packet) = ⊥
IsSizeOf s packets g (P.Pending pending) = ⊥
IsSizeOf s packets g (P.Resized z) = IsOfSize g.w g.h z × IsResizing has s packets z

-- of a client, on this connection, that has not the window
abbrev pub IsMadeWithout : Change → ℕ → ℕ → Prepared → Type 0
IsMadeWithout (C.Opened g) now conn p = p ≡ P.Window (begun conn g.wid g.w g.h now) (announced_at g)
IsMadeWithout (C.Closed k) now conn p = p ≡ P.Nothing
IsMadeWithout (C.Moved g) now conn p = p ≡ P.Nothing
IsMadeWithout (C.Raised k) now conn p = p ≡ P.Nothing
IsMadeWithout (C.Damaged k r) now conn p = p ≡ P.Nothing
IsMadeWithout (C.Resized g) now conn p = p ≡ P.Nothing

-- of a client that has it, with these packets that wait
abbrev pub IsMadeOf : SourceSeen → List Queued → Change → Prepared → Type 0
IsMadeOf s packets (C.Opened g) p = p ≡ P.Nothing
IsMadeOf s packets (C.Closed k) p = p ≡ P.Lost (lost_packet k)
IsMadeOf s packets (C.Moved g) p = p ≡ P.Message (moved_packet g)
IsMadeOf s packets (C.Raised k) p = p ≡ P.Message (raised_packet k)
IsMadeOf s packets (C.Damaged k r) p = IsPendingOf s r p
IsMadeOf s packets (C.Resized g) p = IsSizeOf s packets g p

abbrev pub IsMadeWhere : Option SourceSeen → List Queued → Change → ℕ → ℕ → Prepared → Type 0
IsMadeWhere None packets change now conn p = IsMadeWithout change now conn p
IsMadeWhere (Some s) packets change now conn p = IsMadeOf s packets change p

abbrev pub IsMade : Change → ℕ → ClientSeen → Prepared → Type 0
IsMade change now c p = IsMadeWhere (find_source c.seen.sources (wid_of change)) c.seen.out.packets change now c.conn p

-- this is pending of the client's window with the rectangle
pub record IsPendingIn (k : ℕ) (r : Rectangle) (c : ClientSeen) (pending : List Rectangle) : Type 0 where
  pub source : SourceSeen
  pub found : find_source c.seen.sources k ≡ Some source
  pub damage : IsDamaged has source r pending

-- this was made for a resize of the client's window
pub record IsResizingIn (k : ℕ) (c : ClientSeen) (z : ResizingSeen (List Rectangle)) : Type 0 where
  pub source : SourceSeen
  pub found : find_source c.seen.sources k ≡ Some source
  pub made : IsResizing has source c.seen.out.packets z

-- it became what is pending of the client's window
abbrev pub Pends : ℕ → List Rectangle → ℕ → ClientSeen → ClientSeen → Type 0
Pends k pending now c c' = (r : Rectangle) → IsPendingIn k r c pending → c' ≡ damaged_in k r now c

-- it was made of this client as it stands, and there is room for a window and a packet more
pub record IsPrepared (change : Change) (now : ℕ) (a : Attachment) (p : Prepared) : Type 0 where
  pub room : 1 ≤ a.room
  pub made : IsMade change now a.client p
