-- What is known of a connection provider as a whole.
use Rattle.std.specs.Prelude.{ℕ, ◌≡◌, Option, Some, None, List, []}
use Rattle.link_bay.specs.declared.order.Order.{Order}

-- how many connections it has handed out, the orders that it took, where it tells them, how many connections it can still hand out,
-- and how often an accept failed or found nobody
pub record ProviderRecord : Type 0 where
  pub count : ℕ
  pub asked : Option (List Order)
  pub room : ℕ
  pub faults : ℕ
  pub lulls : ℕ

-- nothing was asked of it yet, where that is told
abbrev pub IsUnasked : Option (List Order) → Type 0
IsUnasked None = Unit {0}
IsUnasked (Some orders) = orders ≡ []

-- nobody was handed out, and nothing has happened yet
pub record IsFresh (p : ProviderRecord) : Type 0 where
  pub count : p.count ≡ 0
  pub asked : IsUnasked p.asked
  pub faults : p.faults ≡ 0
  pub lulls : p.lulls ≡ 0
