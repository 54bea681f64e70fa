-- One step of a loop.
use Rattle.std.proofs.Common.{◌≡◌, List, [], ◌∷◌, ◌++◌, map, Bool, ◌||◌, refl, ap}
use Rattle.std.specs.List.{list_any}

-- a test of each packet, as the packet is seen
pub any_seen : {X Y : Type 0} (seen : X → Y) (test : Y → Bool) (xs : List X) → list_any (λ x. test (seen x)) xs ≡ list_any test (map seen xs)
any_seen seen test [] = refl
any_seen seen test (x ∷ xs) = ap (λ (b : Bool). test (seen x) || b) (any_seen seen test xs)

pub map_more : {X Y : Type 0} (f : X → Y) (xs : List X) (x : X) → map f (xs ++ x ∷ []) ≡ map f xs ++ f x ∷ []
map_more f [] x = refl
map_more f (y ∷ xs) x = ap (λ ys. f y ∷ ys) (map_more f xs x)
