-- A client's change as the steps of a client's deliveries have it.
use Rattle.std.proofs.Common.{◌≡◌, ℕ, [], refl, sym, ap, ◌∙◌, subst, arith}
use Rattle.window_model.specs.Desktop.{fresh_window}
use Rattle.window_model.specs.Geometry.{Geometry, IsGeometry}
use Rattle.packet_kinds.specs.declared.to_client.ToClient.TheVariants as T
use Rattle.packet_kinds.specs.Fields.{HasFields, IsNumber}
use Rattle.window_source.specs.Source.{begun}
use Rattle.rect_regions.specs.PointSets.{has}
use Rattle.window_source.specs.Waiting.{Queued, Carries, IsDraw}
use Rattle.window_source.specs.Resized.{SaysSize}
use Rattle.client_delivery.specs.Steps.{structure, Opens, Closes, Resizes, PutsAlone}
use Rattle.attached_client.specs.Client.{ClientSeen, announced_at}
use Rattle.attached_client.specs.Changes.{Loses, Sizes, with_window, with_message, lost_packet, moved_packet, raised_packet}
use Rattle.attached_client.proofs.Messages.{Writes, is_message, geometry_carries}

-- the packet of a new size is of its message
size_carries : (k w h : ℕ) (p : Queued) → SaysSize has k w h p → Carries (structure p (T.WindowResized k w h))
size_carries k w h p says = record {
  message = says.message;
  draw = subst (λ (q : Queued). IsDraw q.wid q.draw [] (T.WindowResized k w h)) (sym says.plain) tt;
  plain = λ none. says.relief;
}

pub sizes_so : (k w h now : ℕ) (c c' : ClientSeen) → Sizes k w h now c c' → Resizes k w h now c.seen c'.seen
sizes_so k w h now c c' is = record {
  sources = ap (λ (d : ClientSeen). d.seen.sources) is.client;
  between = is.outbox.between;
  reliefs = is.outbox.reliefs;
  taken = is.outbox.taken;
  put = record { packet = is.outbox.packet; carries = size_carries k w h is.outbox.packet is.outbox.says; put = ap (λ (d : ClientSeen). d.seen.out) is.client ∙ is.outbox.put };
}

module _ (writes : Writes) where
  pub lost_carries : (k : ℕ) → IsNumber k → Carries (structure (lost_packet k) (T.LostWindow k))
  lost_carries k is = record { message = is_message writes (T.LostWindow k) tt is refl; draw = tt; plain = λ none x y. refl }

  pub raised_carries : (k : ℕ) → IsNumber k → Carries (structure (raised_packet k) (T.RaiseWindow k))
  raised_carries k is = record { message = is_message writes (T.RaiseWindow k) tt is refl; draw = tt; plain = λ none x y. refl }

  pub moved_carries : (g : Geometry) → IsGeometry g → Carries (structure (moved_packet g) (T.WindowMoveResize g.wid g.x g.y g.w g.h))
  moved_carries g is = record { message = is_message writes (T.WindowMoveResize g.wid g.x g.y g.w g.h) tt fields refl; draw = tt; plain = λ none x y. refl }
    where
      fields : HasFields (T.WindowMoveResize g.wid g.x g.y g.w g.h)
      fields = (record { first = is.first; last = omega (arith, is.last) }, is.across, is.down, is.wide, is.high)

  pub opens_so : (g : Geometry) (now : ℕ) (c c' : ClientSeen) → IsGeometry g → c' ≡ with_window (begun c.conn g.wid g.w g.h now) (announced_at g) c → Opens (fresh_window g.wid g.x g.y g.w g.h) c.conn now c.seen c'.seen
  opens_so g now c c' is becomes = record {
    sources = ap (λ (d : ClientSeen). d.seen.sources) becomes;
    put = record { packet = announced_at g; carries = geometry_carries writes g is; put = ap (λ (d : ClientSeen). d.seen.out) becomes };
  }

  pub closes_so : (k : ℕ) (c c' : ClientSeen) → IsNumber k → Loses k (lost_packet k) c c' → Closes k c.seen c'.seen
  closes_so k c c' is loses = record {
    sources = ap (λ (d : ClientSeen). d.seen.sources) loses.client;
    between = loses.between;
    reliefs = loses.reliefs;
    taken = loses.taken;
    put = record { packet = lost_packet k; carries = lost_carries k is; put = ap (λ (d : ClientSeen). d.seen.out) loses.client };
  }

  pub moves_so : (g : Geometry) (c c' : ClientSeen) → IsGeometry g → c' ≡ with_message (moved_packet g) c → PutsAlone (T.WindowMoveResize g.wid g.x g.y g.w g.h) c.seen c'.seen
  moves_so g c c' is becomes = record {
    sources = ap (λ (d : ClientSeen). d.seen.sources) becomes;
    put = record { packet = moved_packet g; carries = moved_carries g is; put = ap (λ (d : ClientSeen). d.seen.out) becomes };
  }

  pub raises_so : (k : ℕ) (c c' : ClientSeen) → IsNumber k → c' ≡ with_message (raised_packet k) c → PutsAlone (T.RaiseWindow k) c.seen c'.seen
  raises_so k c c' is becomes = record {
    sources = ap (λ (d : ClientSeen). d.seen.sources) becomes;
    put = record { packet = raised_packet k; carries = raised_carries k is; put = ap (λ (d : ClientSeen). d.seen.out) becomes };
  }
