-- What was made for a change, carried out, is the change.
use Rattle.std.proofs.Common.{◌≡◌, ℕ, Some, None, List, refl, sym, ap, ◌∙◌, subst}
use Rattle.std.specs.Prelude.{Option, Result, Ok, Err, IfOk, ◌≤◌}
use Rattle.xp_base.specs.Keyed.{keyed_remove}
use Rattle.xp_base.specs.Points.{Rectangle}
use Rattle.xp_base.specs.declared.memory.NoMemory.{NoMemory}
use Rattle.hello_caps.specs.declared.caps.Caps.{Caps}
use Rattle.client_outbox.specs.Outgoing.{Outgoing, with_packet}
use Rattle.client_outbox.specs.Reliefs.{Emptied, ReliefsChange}
use Rattle.rect_regions.specs.PointSets.{has}
use Rattle.window_source.specs.Source.{SourceSeen, begun}
use Rattle.window_source.specs.Waiting.{Queued}
use Rattle.window_source.specs.Resized.{ResizingSeen}
use Rattle.client_delivery.specs.Attached.{source_key, find_source}
use Rattle.attached_client.specs.declared.change.Change.{Change}
use Rattle.attached_client.specs.declared.change.Change.TheVariants as C
use Rattle.attached_client.specs.declared.change.Prepared.{Prepared}
use Rattle.attached_client.specs.declared.change.Prepared.TheVariants as P
use Rattle.attached_client.specs.Client.{ClientSeen, Attachment, announced_at}
use Rattle.attached_client.specs.Changes.{wid_of, ChangesWhere, ClientChanges, IsMadeWhere, IsMade, IsPrepared, IsPendingIn, IsResizingIn, Loses, Sizes, with_window, with_message, damaged_in, lost_packet, moved_packet, raised_packet}

pub nothing_carries : (change : Change) (now : ℕ) (c : ClientSeen) → IsMade change now c P.Nothing → ClientChanges change now c c
nothing_carries change now c made = go change (find_source c.seen.sources (wid_of change)) made
  where
    go : (change : Change) (o : Option SourceSeen) → IsMadeWhere o c.seen.out.packets change now c.conn P.Nothing → ChangesWhere o change now c c
    go (C.Opened g) None made = absurd (cc made)
    go (C.Closed k) None made = refl
    go (C.Moved g) None made = refl
    go (C.Raised k) None made = refl
    go (C.Damaged k r) None made = refl
    go (C.Resized g) None made = refl
    go (C.Opened g) (Some s) made = refl
    go (C.Closed k) (Some s) made = absurd (cc made)
    go (C.Moved g) (Some s) made = absurd (cc made)
    go (C.Raised k) (Some s) made = absurd (cc made)
    go (C.Damaged k r) (Some s) made = absurd made
    go (C.Resized g) (Some s) made = absurd made

pub window_carries : (change : Change) (now : ℕ) (c : ClientSeen) (source : SourceSeen) (packet : Queued) → IsMade change now c (P.Window source packet)
    → ClientChanges change now c (with_window source packet c)
window_carries change now c source packet made = go change (find_source c.seen.sources (wid_of change)) made
  where
    go : (change : Change) (o : Option SourceSeen) → IsMadeWhere o c.seen.out.packets change now c.conn (P.Window source packet) → ChangesWhere o change now c (with_window source packet c)
    go (C.Opened g) None made =
        let begins : source ≡ begun c.conn g.wid g.w g.h now = cc made in
        let announces : packet ≡ announced_at g = cc made in
        ap (λ (s : SourceSeen). with_window s packet c) begins ∙ ap (λ (p : Queued). with_window (begun c.conn g.wid g.w g.h now) p c) announces
    go (C.Closed k) None made = absurd (cc made)
    go (C.Moved g) None made = absurd (cc made)
    go (C.Raised k) None made = absurd (cc made)
    go (C.Damaged k r) None made = absurd (cc made)
    go (C.Resized g) None made = absurd (cc made)
    go (C.Opened g) (Some s) made = absurd (cc made)
    go (C.Closed k) (Some s) made = absurd (cc made)
    go (C.Moved g) (Some s) made = absurd (cc made)
    go (C.Raised k) (Some s) made = absurd (cc made)
    go (C.Damaged k r) (Some s) made = absurd made
    go (C.Resized g) (Some s) made = absurd made

-- the window is new to the client
pub window_is_new : (change : Change) (now : ℕ) (c : ClientSeen) (source : SourceSeen) (packet : Queued) → IsMade change now c (P.Window source packet) → find_source c.seen.sources source.wid ≡ None
window_is_new change now c source packet made = go change (find_source c.seen.sources (wid_of change)) refl made
  where
    go : (change : Change) (o : Option SourceSeen) → find_source c.seen.sources (wid_of change) ≡ o → IsMadeWhere o c.seen.out.packets change now c.conn (P.Window source packet) → find_source c.seen.sources source.wid ≡ None
    go (C.Opened g) None found made =
        let begins : source ≡ begun c.conn g.wid g.w g.h now = cc made in
        ap (λ (s : SourceSeen). find_source c.seen.sources s.wid) begins ∙ found
    go (C.Closed k) None found made = absurd (cc made)
    go (C.Moved g) None found made = absurd (cc made)
    go (C.Raised k) None found made = absurd (cc made)
    go (C.Damaged k r) None found made = absurd (cc made)
    go (C.Resized g) None found made = absurd (cc made)
    go (C.Opened g) (Some s) found made = absurd (cc made)
    go (C.Closed k) (Some s) found made = absurd (cc made)
    go (C.Moved g) (Some s) found made = absurd (cc made)
    go (C.Raised k) (Some s) found made = absurd (cc made)
    go (C.Damaged k r) (Some s) found made = absurd made
    go (C.Resized g) (Some s) found made = absurd made

pub lost_carries : (change : Change) (now : ℕ) (c c' : ClientSeen) (packet : Queued) → IsMade change now c (P.Lost packet) → Loses (wid_of change) packet c c' → ClientChanges change now c c'
lost_carries change now c c' packet made loses = go change (find_source c.seen.sources (wid_of change)) made loses
  where
    go : (change : Change) (o : Option SourceSeen) → IsMadeWhere o c.seen.out.packets change now c.conn (P.Lost packet) → Loses (wid_of change) packet c c' → ChangesWhere o change now c c'
    go (C.Opened g) None made loses = absurd (cc made)
    go (C.Closed k) None made loses = absurd (cc made)
    go (C.Moved g) None made loses = absurd (cc made)
    go (C.Raised k) None made loses = absurd (cc made)
    go (C.Damaged k r) None made loses = absurd (cc made)
    go (C.Resized g) None made loses = absurd (cc made)
    go (C.Opened g) (Some s) made loses = absurd (cc made)
    go (C.Closed k) (Some s) made loses = let same : packet ≡ lost_packet k = cc made in subst (λ (p : Queued). Loses k p c c') same loses
    go (C.Moved g) (Some s) made loses = absurd (cc made)
    go (C.Raised k) (Some s) made loses = absurd (cc made)
    go (C.Damaged k r) (Some s) made loses = absurd made
    go (C.Resized g) (Some s) made loses = absurd made

pub message_carries : (change : Change) (now : ℕ) (c : ClientSeen) (packet : Queued) → IsMade change now c (P.Message packet) → ClientChanges change now c (with_message packet c)
message_carries change now c packet made = go change (find_source c.seen.sources (wid_of change)) made
  where
    go : (change : Change) (o : Option SourceSeen) → IsMadeWhere o c.seen.out.packets change now c.conn (P.Message packet) → ChangesWhere o change now c (with_message packet c)
    go (C.Opened g) None made = absurd (cc made)
    go (C.Closed k) None made = absurd (cc made)
    go (C.Moved g) None made = absurd (cc made)
    go (C.Raised k) None made = absurd (cc made)
    go (C.Damaged k r) None made = absurd (cc made)
    go (C.Resized g) None made = absurd (cc made)
    go (C.Opened g) (Some s) made = absurd (cc made)
    go (C.Closed k) (Some s) made = absurd (cc made)
    go (C.Moved g) (Some s) made = let same : packet ≡ moved_packet g = cc made in ap (λ (p : Queued). with_message p c) same
    go (C.Raised k) (Some s) made = let same : packet ≡ raised_packet k = cc made in ap (λ (p : Queued). with_message p c) same
    go (C.Damaged k r) (Some s) made = absurd made
    go (C.Resized g) (Some s) made = absurd made

-- what was pending of a window with a rectangle
pub record Damages (change : Change) (now : ℕ) (c : ClientSeen) (pending : List Rectangle) : Type 0 where
  pub rect : Rectangle
  pub pends : IsPendingIn (wid_of change) rect c pending
  pub carries : (c' : ClientSeen) → c' ≡ damaged_in (wid_of change) rect now c → ClientChanges change now c c'

pub pending_carries : (change : Change) (now : ℕ) (c : ClientSeen) (pending : List Rectangle) → IsMade change now c (P.Pending pending) → Damages change now c pending
pending_carries change now c pending made = go change (find_source c.seen.sources (wid_of change)) refl made
  where
    go : (change : Change) (o : Option SourceSeen) → find_source c.seen.sources (wid_of change) ≡ o → IsMadeWhere o c.seen.out.packets change now c.conn (P.Pending pending) → Damages change now c pending
    go (C.Opened g) None found made = absurd (cc made)
    go (C.Closed k) None found made = absurd (cc made)
    go (C.Moved g) None found made = absurd (cc made)
    go (C.Raised k) None found made = absurd (cc made)
    go (C.Damaged k r) None found made = absurd (cc made)
    go (C.Resized g) None found made = absurd (cc made)
    go (C.Opened g) (Some s) found made = absurd (cc made)
    go (C.Closed k) (Some s) found made = absurd (cc made)
    go (C.Moved g) (Some s) found made = absurd (cc made)
    go (C.Raised k) (Some s) found made = absurd (cc made)
    go (C.Damaged k r) (Some s) found made = record {
      rect = r;
      pends = record { source = s; found = found; damage = made };
      carries = λ c' is. subst (λ (o : Option SourceSeen). ChangesWhere o (C.Damaged k r) now c c') (sym found) is;
    }
    go (C.Resized g) (Some s) found made = absurd made

-- what was made for a resize of a window
pub record Resizes (change : Change) (now : ℕ) (c : ClientSeen) (z : ResizingSeen (List Rectangle)) : Type 0 where
  pub sizing : IsResizingIn (wid_of change) c z
  pub carries : (c' : ClientSeen) → Sizes (wid_of change) z.wide z.high now c c' → ClientChanges change now c c'

pub resizing_carries : (change : Change) (now : ℕ) (c : ClientSeen) (z : ResizingSeen (List Rectangle)) → IsMade change now c (P.Resized z) → Resizes change now c z
resizing_carries change now c z made = go change (find_source c.seen.sources (wid_of change)) refl made
  where
    go : (change : Change) (o : Option SourceSeen) → find_source c.seen.sources (wid_of change) ≡ o → IsMadeWhere o c.seen.out.packets change now c.conn (P.Resized z) → Resizes change now c z
    go (C.Opened g) None found made = absurd (cc made)
    go (C.Closed k) None found made = absurd (cc made)
    go (C.Moved g) None found made = absurd (cc made)
    go (C.Raised k) None found made = absurd (cc made)
    go (C.Damaged k r) None found made = absurd (cc made)
    go (C.Resized g) None found made = absurd (cc made)
    go (C.Opened g) (Some s) found made = absurd (cc made)
    go (C.Closed k) (Some s) found made = absurd (cc made)
    go (C.Moved g) (Some s) found made = absurd (cc made)
    go (C.Raised k) (Some s) found made = absurd (cc made)
    go (C.Damaged k r) (Some s) found made = absurd made
    go (C.Resized g) (Some s) found made = record {
      sizing = record { source = s; found = found; made = made.1 };
      carries = λ c' is. subst (λ (o : Option SourceSeen). ChangesWhere o (C.Resized g) now c c') (sym found)
          (subst (λ (h : ℕ). Sizes g.wid g.w h now c c') made.0.high (subst (λ (w : ℕ). Sizes g.wid w z.high now c c') made.0.wide is));
    }

-- a window went: its reliefs were emptied, the packet put, and its source taken away
pub loses_so : (k : ℕ) (packet : Queued) (conn : ℕ) (caps : Caps) (sources : List SourceSeen) (out between : Outgoing (List Rectangle)) (sources' : List SourceSeen) (out' : Outgoing (List Rectangle)) {c : ClientSeen}
    → record { conn = conn; caps = caps; seen = record { sources = sources; out = out } } ≡ c → {c' : ClientSeen} → c' ≡ record { conn = conn; caps = caps; seen = record { sources = sources'; out = out' } }
    → ReliefsChange (Emptied has) k out.packets between.packets → between.taken ≡ out.taken → out' ≡ with_packet between packet → sources' ≡ keyed_remove source_key sources k
    → Loses k packet c c'
loses_so k packet conn caps sources out between sources' out' {c} same {c'} new reliefs taken put removed = subst (λ (d : ClientSeen). Loses k packet d c') same (record {
  between = between;
  reliefs = reliefs;
  taken = taken;
  client = new ∙ ap (λ (l : List SourceSeen). record { conn = conn; caps = caps; seen = record { sources = l; out = out' } }) removed
      ∙ ap (λ (o : Outgoing (List Rectangle)). record { conn = conn; caps = caps; seen = record { sources = keyed_remove source_key sources k; out = o } }) put;
})

-- what was made, where there was memory
pub if_made : (r : Result Prepared NoMemory) (P Q : Prepared → Type 0) → IfOk r P → ((p : Prepared) → P p → Q p) → IfOk r Q
if_made (Ok p) P Q is to = to p is
if_made (Err none) P Q is to = tt

pub made_with_room : (change : Change) (now : ℕ) (a : Attachment) (r : Result Prepared NoMemory) → 1 ≤ a.room → IfOk r (IsMade change now a.client) → IfOk r (IsPrepared change now a)
made_with_room change now a r room made = if_made r (IsMade change now a.client) (IsPrepared change now a) made (λ p is. record { room = room; made = is })
