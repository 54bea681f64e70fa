-- Windows that look the same at each point are kept alike.
use Rattle.std.proofs.Common.{◌≡◌, ℕ, true, refl}
use Rattle.std.specs.Prelude.{All}
use Rattle.xp_base.specs.Points.{is_within}
use Rattle.delivery_model.specs.Window.{Window}
use Rattle.delivery_model.specs.Client.{size_of, sizes_after}
use Rattle.delivery_model.specs.Point.{point_at}
use Rattle.delivery_model.specs.Kept.{IsOver, JobFits, PacketFits, IsKept}

pub record IsAlike (w w' : Window) : Type 0 where
  pub wide : w'.desk.wide ≡ w.desk.wide
  pub high : w'.desk.high ≡ w.desk.high
  pub sizes : sizes_after (size_of w'.client) w'.packets ≡ sizes_after (size_of w.client) w.packets
  pub jobs : All (JobFits w'.desk.wide w'.desk.high) w'.jobs
  pub packets : All (PacketFits w'.desk.wide w'.desk.high) w'.packets
  pub pending : IsOver w'.desk.wide w'.desk.high w'.pending
  pub lossy : IsOver w'.desk.wide w'.desk.high w'.lossy
  pub points : (x y : ℕ) → is_within w.desk.wide w.desk.high x y ≡ true → point_at w' x y ≡ point_at w x y

pub kept_alike : (w w' : Window) → IsAlike w w' → IsKept w → IsKept w'
kept_alike w w' alike kept = record {
  sized = rw (alike.sizes, kept.sized, alike.wide, alike.high) refl;
  jobs = alike.jobs;
  packets = alike.packets;
  pending = alike.pending;
  lossy = alike.lossy;
  points = λ x y within. let there : is_within w.desk.wide w.desk.high x y ≡ true = rw (← alike.wide, ← alike.high) within in
      rw (alike.points x y there) (kept.points x y there);
}
