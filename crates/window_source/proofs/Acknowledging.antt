-- An acknowledgement with a negative time.
use Rattle.std.proofs.Common.{◌≡◌, ℕ, true, Some, refl, arith}
use Rattle.std.specs.Prelude.{ℤ, pos, negsuc, ◌<ℤ◌}
use Rattle.std.proofs.lemmas.Int.{ints}
use Rattle.std.proofs.lemmas.Option.{none-some}
use Rattle.xp_base.specs.Points.{Rectangle}
use Rattle.delivery_model.specs.Events.{damaged, counted}
use Rattle.ack_tracker.specs.Unacknowledged.{rect_at, without_at}
use Rattle.window_source.specs.Source.{SourceSeen, after}
use Rattle.window_source.specs.Calls.{is_negative, acknowledged_at}

pub negative_is : (t : ℤ) → t <ℤ pos 0 → is_negative t ≡ true
negative_is (pos t) less = grind (arith, ints)
negative_is (negsuc t) less = refl

-- the draw is counted, and its rectangle damaged
pub acknowledged_again : (s : SourceSeen) (seq time : ℤ) (now : ℕ) (r : Rectangle) → rect_at s.unacknowledged seq ≡ Some r → is_negative time ≡ true
    → after (damaged r now) (after (counted (without_at s.unacknowledged seq)) s) ≡ after (acknowledged_at seq time now) s
acknowledged_again s (pos k) time now r found negative = rw (found, negative) refl
acknowledged_again s (negsuc k) time now r found negative = elim (none-some r found) [ ]
