-- The calls of a source in the model's window.
use Rattle.std.proofs.Common.{◌≡◌, ℕ, pos, negsuc, Bool, true, false, Option, Some, None, List, cond, refl, sym, ◌∙◌, ap, subst}
use Rattle.xp_base.specs.Points.{Rectangle}
use Rattle.delivery_model.specs.Grids.{Grid}
use Rattle.delivery_model.specs.Window.{Packet, Window}
use Rattle.delivery_model.specs.Events.{Event, changed, rect_sent, acknowledged_as, given_back}
use Rattle.delivery_model.specs.Plans.{IsEvent}
use Rattle.delivery_model.specs.Kept.{IsKept}
use Rattle.delivery_model.specs.Owed.{owes}
use Rattle.delivery_model.specs.Changes.{owed_after}
use Rattle.delivery_model.specs.Laws.{KeptWhereThere, EventsKeepTheForm, EventsChangeOwed}
use Rattle.window_source.specs.Source.{SourceSeen, window_of, source_of, alone, after}
use Rattle.window_source.specs.Calls.{is_negative, acknowledged_at}
use Rattle.window_source.specs.Laws.{DamageIsOfWindow, UnmapIsOfWindow, GivingBackIsOfWindow, AcknowledgementIsOfWindow, CaptureIsOfWindow, ResizeIsOfWindow, KeepsAndOwes, EventsKeepAndOwe}

pub damage_is : DamageIsOfWindow
damage_is r now s numbers client packets = refl

pub giving_back_is : GivingBackIsOfWindow
giving_back_is now s numbers client packets = refl

pub unmap_is : UnmapIsOfWindow
unmap_is now s numbers client packets = go s.mapped
  where
    go : (b : Bool) → window_of (source_of s.conn s.wid (cond b (record (given_back now (alone s)) { mapped = false }) (alone s))) numbers client packets
        ≡ cond b (record (given_back now (window_of s numbers client packets)) { mapped = false }) (window_of s numbers client packets)
    go true = refl
    go false = refl

acknowledged_is : (o : Option Rectangle) (k : ℕ) (negative : Bool) (now : ℕ) (s : SourceSeen) (numbers : List ℕ) (client : Option Grid) (packets : List Packet)
    → window_of (source_of s.conn s.wid (acknowledged_as o k negative now (alone s))) numbers client packets ≡ acknowledged_as o k negative now (window_of s numbers client packets)
acknowledged_is None k negative now s numbers client packets = refl
acknowledged_is (Some r) k true now s numbers client packets = refl
acknowledged_is (Some r) k false now s numbers client packets = refl

pub acknowledgement_is : AcknowledgementIsOfWindow
acknowledgement_is (pos k) time now s numbers client packets = acknowledged_is (rect_sent s.unacknowledged k) k (is_negative time) now s numbers client packets
acknowledgement_is (negsuc k) time now s numbers client packets = refl

pub capture_is : CaptureIsOfWindow
capture_is plan first s numbers client packets = refl

pub resize_is : ResizeIsOfWindow
resize_is w h now s numbers client packets = refl

pub keep_and_owe : EventsKeepTheForm → EventsChangeOwed → EventsKeepAndOwe
keep_and_owe form owe lossy_shows e s s' numbers numbers' client client' packets packets' is event kept = record {
  kept = subst KeptWhereThere is (form lossy_shows (Some (window_of s numbers client packets)) e event kept);
  owed = λ x y. sym (ap (λ (o : Option Window). owes o x y) is) ∙ owe lossy_shows e (window_of s numbers client packets) event kept x y;
}
