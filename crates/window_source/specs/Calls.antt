-- What the calls of a source come to: each is an event of the model.
use Rattle.std.specs.Prelude.{ℕ, ℤ, pos, negsuc, ◌≡◌, ◌↔◌, ◌<ℤ◌, Bool, true, false, ◌||◌, Some, None, List}
use Rattle.xp_base.specs.Captures.{Captured}
use Rattle.xp_base.specs.Points.{Rectangle, is_in, is_within, whole}
use Rattle.ack_tracker.specs.declared.ack.Ack.{Ack}
use Rattle.ack_tracker.specs.declared.ack.Ack.TheVariants as A
use Rattle.ack_tracker.specs.Unacknowledged.{rect_at}
use Rattle.delivery_model.specs.Grids.{Points, points, has}
use Rattle.delivery_model.specs.Window.{Sent, Window}
use Rattle.delivery_model.specs.Events.{damaged, acknowledged, capture_of}
use Rattle.window_source.specs.Source.{SourceSeen, after}

-- the points of a region, in the window of this source
abbrev pub region_in : {R : Type 0} → (R → ℕ → ℕ → Bool) → SourceSeen → R → Points
region_in has s r = points s.wide s.high (has r)

-- the region is what is pending of the source once this rectangle is damaged
pub record IsDamaged {R : Type 0} (has_point : R → ℕ → ℕ → Bool) (s : SourceSeen) (rect : Rectangle) (region : R) : Type 0 where
  pub lies : (x y : ℕ) → has_point region x y ≡ true → is_within s.wide s.high x y ≡ true
  pub points : region_in has_point s region ≡ points s.wide s.high (λ x y. has s.pending x y || is_in rect x y)

-- a set of points was put in: where it is what is pending once some rectangle is damaged, that is the model's damage
abbrev pub PutsDamage : {R : Type 0} → (R → ℕ → ℕ → Bool) → ℕ → R → SourceSeen → SourceSeen → Type 0
PutsDamage has_point now pending s s' = (r : Rectangle) → IsDamaged has_point s r pending → s' ≡ after (damaged r now) s

-- a job in hand has this number, and this capture; or none has it
abbrev pub HasJob : SourceSeen → ℕ → Captured → Type 0
HasJob s k capture = capture_of s.jobs k ≡ Some capture

abbrev pub HasNoJob : SourceSeen → ℕ → Type 0
HasNoJob s k = capture_of s.jobs k ≡ None

-- whether a decode time that a client says is negative
abbrev pub is_negative : ℤ → Bool
is_negative (pos t) = false
is_negative (negsuc t) = true

-- an acknowledgement with this number, which may be any that a client says
abbrev pub acknowledged_at : ℤ → ℤ → ℕ → Window → Window
acknowledged_at (pos k) time now w = acknowledged k (is_negative time) now w
acknowledged_at (negsuc k) time now w = w

-- the answer says that this draw has to be drawn again exactly where it was unacknowledged and the time is negative
abbrev pub IsAgain : List Sent → ℤ → ℤ → Ack → Type 0
IsAgain sent sequence time answer = (r : Rectangle) → (answer ≡ A.Again r) ↔ ((rect_at sent sequence ≡ Some r) × (time <ℤ pos 0))

-- the source damages its whole window
abbrev pub refreshed : ℕ → SourceSeen → SourceSeen
refreshed now s = after (damaged (whole s.wide s.high) now) s
