-- The last draw over a point decides.
use Rattle.std.proofs.Common.{◌≡◌, ℕ, Bool, true, false, ◌&&◌, ◌||◌, List, [], ◌∷◌, refl, ◌∙◌, ap, cond}
use Rattle.std.specs.Prelude.{not}
use Rattle.xp_base.specs.declared.coding.Coding.{Coding}
use Rattle.xp_base.specs.declared.coding.Coding.TheVariants as C
use Rattle.xp_base.specs.Points.{Rectangle, is_in}
use Rattle.lossy_refresh.specs.LossyPoints.{LossySeen, Queues}
use Rattle.lossy_refresh.specs.Queue.{QueuedDraw, QueuesAll, is_lossy, ends_lossy, ends_since}

exact_bit : (was inside : Bool) → (was && not inside) ≡ cond inside false was
exact_bit true true = refl
exact_bit true false = refl
exact_bit false true = refl
exact_bit false false = refl

lossy_bit : (was inside : Bool) → (was || inside) ≡ cond inside true was
lossy_bit true true = refl
lossy_bit true false = refl
lossy_bit false true = refl
lossy_bit false false = refl

module _ {R : Type 0} (has : R → ℕ → ℕ → Bool) where
  one_point : (coding : Coding) (r : Rectangle) (now : ℕ) (old new : LossySeen R) (gone : R) (x y : ℕ) → Queues has r coding now old new gone
      → has new.points x y ≡ cond (is_in r x y) (is_lossy coding) (has old.points x y)
  one_point C.Exact r now old new gone x y queues = queues.left x y ∙ exact_bit (has old.points x y) (is_in r x y)
  one_point C.Lossy r now old new gone x y queues = queues.more x y ∙ lossy_bit (has old.points x y) (is_in r x y)

  one_since : (coding : Coding) (r : Rectangle) (now : ℕ) (old new : LossySeen R) (gone : R) → Queues has r coding now old new gone → new.since ≡ cond (is_lossy coding) now old.since
  one_since C.Exact r now old new gone queues = queues.since
  one_since C.Lossy r now old new gone queues = queues.since

  pub last_decides : (draws : List QueuedDraw) (old new : LossySeen R) → QueuesAll has draws old new → (x y : ℕ) → has new.points x y ≡ ends_lossy x y draws (has old.points x y)
  last_decides [] old new same x y = same.points x y
  last_decides (d ∷ draws) old new all x y =
      let next : LossySeen R = all.0 in
      let first = one_point d.coding d.rect d.now old next all.1 x y all.2 in
      last_decides draws next new all.3 x y ∙ ap (ends_lossy x y draws) first

  pub last_since : (draws : List QueuedDraw) (old new : LossySeen R) → QueuesAll has draws old new → new.since ≡ ends_since draws old.since
  last_since [] old new same = same.since
  last_since (d ∷ draws) old new all =
      let next : LossySeen R = all.0 in
      let first = one_since d.coding d.rect d.now old next all.1 all.2 in
      last_since draws next new all.3 ∙ ap (ends_since draws) first
