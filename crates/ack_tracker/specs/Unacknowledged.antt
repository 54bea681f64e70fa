-- Draws that were queued and are not acknowledged, as the model of one window has them. The rules are this project's own.
use Rattle.std.specs.Prelude.{ℕ, ℤ, pos, negsuc, ◌≡◌, ◌≤ℤ◌, ◌<ℤ◌, Option, Some, None, List, [], ◌∷◌, IsSome, nat_lt, if◌then◌else◌}
use Rattle.xp_base.specs.Points.{Rectangle}
use Rattle.delivery_model.specs.Window.{Sent}
use Rattle.delivery_model.specs.Events.{rect_sent, without_sent}
use Rattle.ack_tracker.specs.declared.ack.Ack.{Ack}
use Rattle.ack_tracker.specs.declared.ack.Ack.TheVariants as A

-- the draws by rising number, and how many more can be taken without memory
pub record Tracked : Type 0 where
  pub draws : List Sent
  pub room : ℕ

abbrev pub sent_as : ℕ → Rectangle → Sent
sent_as sequence rect = record { sequence = sequence; rect = rect }

-- a draw takes its place by its number: in front of the first one with a greater number
abbrev pub placed : List Sent → Sent → List Sent
placed [] s = s ∷ []
placed (d ∷ draws) s = if nat_lt s.sequence d.sequence then s ∷ (d ∷ draws) else d ∷ placed draws s

-- the rectangle of the draw with this number, which may be any that a client says
abbrev pub rect_at : List Sent → ℤ → Option Rectangle
rect_at draws (pos k) = rect_sent draws k
rect_at draws (negsuc k) = None

-- the other draws
abbrev pub without_at : List Sent → ℤ → List Sent
without_at draws (pos k) = without_sent draws k
without_at draws (negsuc k) = draws

-- an acknowledgement with this number and decode time: the draws before and after.
-- It is counted and its draw removed, or, with a negative time, is to be drawn again; a number that no draw has is a stray.
abbrev pub AckGives : List Sent → List Sent → ℤ → ℤ → Ack → Type 0
AckGives old new sequence time A.Counted =
    IsSome (rect_at old sequence) × (pos 0 ≤ℤ time) × (new ≡ without_at old sequence)
AckGives old new sequence time (A.Again r) =
    (rect_at old sequence ≡ Some r) × (time <ℤ pos 0) × (new ≡ without_at old sequence)
AckGives old new sequence time A.Stray = (rect_at old sequence ≡ None) × (new ≡ old)
