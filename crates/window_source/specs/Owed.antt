-- What a source owes, with the packets that wait.
use Rattle.std.specs.Prelude.{ℕ, ◌==◌, Bool, not, ◌&&◌, ◌||◌, List, length}
use Rattle.std.specs.List.{count_by}
use Rattle.xp_base.specs.Points.{is_within}
use Rattle.delivery_model.specs.Grids.{points, has as has_mark, each_point}
use Rattle.delivery_model.specs.Events.{is_empty, jobs_relieve}
use Rattle.client_outbox.specs.Outgoing.{WaitingPacket}
use Rattle.client_outbox.specs.Reliefs.{relieve}
use Rattle.window_source.specs.Source.{SourceSeen}

-- a point of the window is pending, in the relief of a job in hand or of a waiting draw, or lossy
abbrev pub owes : {R : Type 0} → (R → ℕ → ℕ → Bool) → SourceSeen → List (WaitingPacket R) → ℕ → ℕ → Bool
owes has s packets x y =
    is_within s.wide s.high x y && ((has_mark s.pending x y || jobs_relieve s.jobs x y) || (relieve has s.wid packets x y || has_mark s.lossy x y))

abbrev pub owed_count : {R : Type 0} → (R → ℕ → ℕ → Bool) → SourceSeen → List (WaitingPacket R) → ℕ
owed_count has s packets = count_by (λ b. b) (each_point s.wide s.high (owes has s packets))

-- nothing is left to be drawn: the client does not show the window, or no job is in hand, and no point is pending or lossy
abbrev pub is_clear : SourceSeen → Bool
is_clear s = not s.mapped || (length s.jobs == 0 && (is_empty s.pending && is_empty (points s.wide s.high (has_mark s.lossy))))
