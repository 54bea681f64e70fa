-- When a source may be captured.
use Rattle.std.proofs.Common.{◌≡◌, ℕ, ◌+◌, ◌<◌, ◌≤◌, ◌^◌, Bool, true, false, ◌&&◌, ◌||◌, List, [], ◌∷◌, cond, refl, sym, ◌∙◌, ap}
use Rattle.std.specs.Prelude.{not, nat_le, nat_lt}
use Rattle.xp_base.specs.declared.due.Due.{Due}
use Rattle.xp_base.specs.declared.due.Due.TheVariants as D
use Rattle.xp_base.specs.declared.coding.Coding.TheVariants as K
use Rattle.xp_base.specs.Points.{whole}
use Rattle.delivery_model.specs.Grids.{points}
use Rattle.delivery_model.specs.Window.{Packet, Draws, Window}
use Rattle.delivery_model.specs.Events.{is_empty, load}
use Rattle.delivery_model.specs.Refusals.{CaptureAnswer, Unmapped, Clean, Early, Congested, Heavy, Spent, Allowed, is_busy, is_clean, earliest, capture_answer, last_capture_answer}
use Rattle.lossy_refresh.specs.Delivery.{TellsDue}
use Rattle.damage_batch.specs.Delivery.{TellsDue as TellsDamageDue}
use Rattle.window_source.specs.declared.capturing.Mode.{Mode}
use Rattle.window_source.specs.declared.capturing.Mode.TheVariants as M
use Rattle.window_source.specs.Capturing.{answer_in}

module _ (w : Window) (now weight first : ℕ) where
  pub live_unmapped : w.mapped ≡ false → capture_answer now weight first w ≡ Unmapped
  live_unmapped mapped = rw mapped refl

  pub last_unmapped : w.mapped ≡ false → last_capture_answer first w ≡ Unmapped
  last_unmapped mapped = rw mapped refl

  pub live_clean : w.mapped ≡ true → is_clean w ≡ true → capture_answer now weight first w ≡ Clean
  live_clean mapped clean = rw (mapped, clean) refl

  pub last_clean : w.mapped ≡ true → is_clean w ≡ true → last_capture_answer first w ≡ Clean
  last_clean mapped clean = rw (mapped, clean) refl

  pub live_early : w.mapped ≡ true → is_clean w ≡ false → nat_lt now (earliest w) ≡ true → capture_answer now weight first w ≡ Early (earliest w)
  live_early mapped clean early = rw (mapped, clean, early) refl

  pub live_congested : w.mapped ≡ true → is_clean w ≡ false → nat_lt now (earliest w) ≡ false → nat_le 64 (load w) ≡ true → capture_answer now weight first w ≡ Congested (load w)
  live_congested mapped clean early congested = rw (mapped, clean, early, congested) refl

  pub live_heavy : w.mapped ≡ true → is_clean w ≡ false → nat_lt now (earliest w) ≡ false → nat_le 64 (load w) ≡ false → nat_le 33_554_432 weight ≡ true → capture_answer now weight first w ≡ Heavy weight
  live_heavy mapped clean early congested heavy = rw (mapped, clean, early, congested, heavy) refl

  pub live_spent : w.mapped ≡ true → is_clean w ≡ false → nat_lt now (earliest w) ≡ false → nat_le 64 (load w) ≡ false → nat_le 33_554_432 weight ≡ false → nat_le (2 ^ 62) first ≡ true
      → capture_answer now weight first w ≡ Spent
  live_spent mapped clean early congested heavy spent = rw (mapped, clean, early, congested, heavy, spent) refl

  pub live_allowed : w.mapped ≡ true → is_clean w ≡ false → nat_lt now (earliest w) ≡ false → nat_le 64 (load w) ≡ false → nat_le 33_554_432 weight ≡ false → nat_le (2 ^ 62) first ≡ false
      → capture_answer now weight first w ≡ Allowed
  live_allowed mapped clean early congested heavy spent = rw (mapped, clean, early, congested, heavy, spent) refl

  pub last_spent : w.mapped ≡ true → is_clean w ≡ false → nat_le (2 ^ 62) first ≡ true → last_capture_answer first w ≡ Spent
  last_spent mapped clean spent = rw (mapped, clean, spent) refl

  pub last_allowed : w.mapped ≡ true → is_clean w ≡ false → nat_le (2 ^ 62) first ≡ false → last_capture_answer first w ≡ Allowed
  last_allowed mapped clean spent = rw (mapped, clean, spent) refl

-- what is not clean by its damage
pub pending_unclean : (w : Window) → is_empty w.pending ≡ false → is_clean w ≡ false
pending_unclean w some = rw some refl

-- what is due of the damage, where there is some, is due of the window
pub damage_is_due : (now : ℕ) (w : Window) (d : Due) → (d ≡ D.Clean → ⊥) → TellsDamageDue now w d → TellsDue now w d
damage_is_due now w D.Clean other tells = absurd (other refl)
damage_is_due now w (D.Early t) other tells = (pending_unclean w tells.0, tells.1, tells.2)
damage_is_due now w D.Now other tells = (pending_unclean w tells.0, tells.1)

-- where a capture is allowed
pub record Allows (w : Window) (first : ℕ) : Type 0 where
  pub unclean : is_clean w ≡ false
  pub small : nat_le (2 ^ 62) first ≡ false

live_allows : (w : Window) (now weight first : ℕ) → capture_answer now weight first w ≡ Allowed → Allows w first
live_allows w now weight first is =
    let both : (is_clean w ≡ false) × (nat_le (2 ^ 62) first ≡ false) = go (not w.mapped) (is_clean w) (nat_lt now (earliest w)) (nat_le 64 (load w)) (nat_le 33_554_432 weight) (nat_le (2 ^ 62) first) is in
    record { unclean = both.0; small = both.1 }
  where
    go : (a b c d e f : Bool) → cond a Unmapped (cond b Clean (cond c (Early (earliest w)) (cond d (Congested (load w)) (cond e (Heavy weight) (cond f Spent Allowed))))) ≡ Allowed → (b ≡ false) × (f ≡ false)
    go true b c d e f is = absurd (cc is)
    go false true c d e f is = absurd (cc is)
    go false false true d e f is = absurd (cc is)
    go false false false true e f is = absurd (cc is)
    go false false false false true f is = absurd (cc is)
    go false false false false false true is = absurd (cc is)
    go false false false false false false is = (refl, refl)

last_allows : (w : Window) (first : ℕ) → last_capture_answer first w ≡ Allowed → Allows w first
last_allows w first is =
    let both : (is_clean w ≡ false) × (nat_le (2 ^ 62) first ≡ false) = go (not w.mapped) (is_clean w) (nat_le (2 ^ 62) first) is in
    record { unclean = both.0; small = both.1 }
  where
    go : (a b f : Bool) → cond a Unmapped (cond b Clean (cond f Spent Allowed)) ≡ Allowed → (b ≡ false) × (f ≡ false)
    go true b f is = absurd (cc is)
    go false true f is = absurd (cc is)
    go false false true is = absurd (cc is)
    go false false false is = (refl, refl)

pub allows : (mode : Mode) (now weight first : ℕ) (w : Window) → answer_in mode now weight first w ≡ Allowed → Allows w first
allows M.Live now weight first w is = live_allows w now weight first is
allows M.Last now weight first w is = last_allows w first is

-- some packets that wait, with a draw among them or without one
pub packets_for : Bool → List Packet
packets_for true = Draws (record { sequence = 0; capture = record { rect = whole 0 0; coding = K.Exact; pixels = [] }; relief = points 0 0 (λ x y. false) }) ∷ []
packets_for false = []

pub packets_busy : (b : Bool) → is_busy (packets_for b) ≡ b
unfolding packets_for
packets_busy true = refl
packets_busy false = refl
