-- What a resize needs, and what it comes to.
use Rattle.std.proofs.Common.{◌≡◌, ℕ, Bool, true, false, ◌&&◌, List, refl, sym, ◌∙◌, ap}
use Rattle.std.proofs.lemmas.Bool.{false≢true}
use Rattle.xp_base.specs.Points.{is_within}
use Rattle.delivery_model.specs.Grids.{points}
use Rattle.delivery_model.specs.Window.{Sent, Window}
use Rattle.delivery_model.specs.Laws.{PointsHave}
use Rattle.client_outbox.specs.Outgoing.{WaitingPacket, Outgoing, with_packet}
use Rattle.client_outbox.specs.Reliefs.{Clips, ClippedTo, AreClips, with_reliefs}
use Rattle.client_outbox.specs.Laws.{ClipsAreReliefs}
use Rattle.draw_sequencer.specs.InHand.{HeldJob}
use Rattle.damage_batch.specs.Pending.{BatchSeen}
use Rattle.damage_batch.specs.Delivery.{IsBatchOf}
use Rattle.lossy_refresh.specs.LossyPoints.{LossySeen, keeping}
use Rattle.lossy_refresh.specs.Delivery.{IsLossyOf}
use Rattle.lossy_refresh.specs.Laws.{KeptIsResized}
use Rattle.resize_cancel.specs.Cancelled.{CarriedSeen, IsCarried}
use Rattle.resize_cancel.specs.Delivery.{AreJobsOf}
use Rattle.resize_cancel.specs.Laws.{CarriedArePoints}
use Rattle.window_source.specs.Source.{SourceSeen, seen, alone}
use Rattle.window_source.specs.Kept.{IsSource}
use Rattle.window_source.specs.Resized.{SaysSize, IsResizing, ResizesOutbox}
use Rattle.window_source.proofs.Regions.{has_same}
use Rattle.window_source.proofs.KeptLemmas.{reliefs_within}

first_of : (a b : Bool) → (a && b) ≡ true → a ≡ true
first_of true b both = refl
first_of false b both = absurd (false≢true both)

last_of : (a b : Bool) → (a && b) ≡ true → b ≡ true
last_of true b both = both
last_of false b both = absurd (false≢true both)

module _ {R : Type 0} (has : R → ℕ → ℕ → Bool) where
  module _ (conn wid wide high : ℕ) (mapped : Bool) (jobs : List (HeldJob R)) (batch : BatchSeen R) (lossy : LossySeen R) (sent : List Sent) (next : ℕ) where
    abbrev pub was : SourceSeen
    was = seen has conn wid wide high mapped jobs batch lossy sent next

    pub resizing_made : PointsHave → CarriedArePoints has → KeptIsResized has → IsSource has wide high jobs batch.pending lossy.points sent next → (w h : ℕ) (c : CarriedSeen R) → IsCarried has wide high w h jobs batch.pending lossy.points c
        → (packets : List (WaitingPacket R)) (clips : Clips R) (p : WaitingPacket R) → AreClips has wid w h packets clips → SaysSize has wid w h p
        → IsResizing has was packets (record { wide = w; high = h; carried = c; clipped = clips; packet = p })
    resizing_made have carried_law lossy_law kept w h c is packets clips p clipped says =
        let of : IsBatchOf has wide high batch (alone was) = record { within = kept.pending; pending = refl; since = refl; delay = refl } in
        let held : AreJobsOf has wide high jobs (alone was) = record { within = reliefs_within has wide high jobs kept.lie; held = refl } in
        let exact : IsLossyOf has wide high lossy (alone was) = record { within = kept.lossy; lossy = refl; since = refl } in
        record {
          pending_lies = λ x y there. first_of (is_within w h x y) _ (sym (is.pending x y) ∙ there);
          pending = carried_law w h 0 (alone was) jobs batch lossy.points c of held is;
          lossy_lies = λ x y there. last_of (has lossy.points x y) (is_within w h x y) (sym (is.lossy x y) ∙ there);
          lossy = sym (lossy_law w h 0 (alone was) lossy (keeping c.lossy lossy) c.lossy exact is.lossy refl).lossy;
          among = λ x y there. has_same have wide high (has lossy.points) kept.lossy x y ∙ first_of (has lossy.points x y) (is_within w h x y) (sym (is.lossy x y) ∙ there);
          clipped = clipped;
          packet = says;
        }

  -- the waiting packets
  pub resizes_outbox : ClipsAreReliefs R → (wid w h : ℕ) (o : Outgoing R) (clips : Clips R) (p : WaitingPacket R) → AreClips has wid w h o.packets clips → SaysSize has wid w h p
      → ResizesOutbox has wid w h o (with_packet (record o { packets = with_reliefs wid o.packets clips.reliefs }) p)
  resizes_outbox law wid w h o clips p clipped says = record {
    between = record o { packets = with_reliefs wid o.packets clips.reliefs };
    reliefs = law has wid w h o.packets clips.reliefs clipped;
    taken = refl;
    packet = p;
    says = says;
    put = refl;
  }
