-- What the waiting draws relieve. A set of points is met by whether it has a point.
use Rattle.std.specs.Prelude.{ℕ, ◌≡◌, Bool, true, false, ◌&&◌, Option, Some, None, List, [], ◌∷◌, nat_eq, if◌then◌else◌}
use Rattle.std.specs.List.{list_any}
use Rattle.xp_base.specs.Points.{is_within}
use Rattle.rect_regions.specs.PointSets.{SamePoints, HasNone, shared}
use Rattle.client_outbox.specs.Outgoing.{WaitingPacket}

-- the packet is a draw in this window
abbrev pub is_named : Option ℕ → ℕ → Bool
is_named None wid = false
is_named (Some w) wid = nat_eq w wid

abbrev pub draws_in : {R : Type 0} → ℕ → WaitingPacket R → Bool
draws_in wid p = is_named p.wid wid

-- a draw in the window waits
abbrev pub is_busy : {R : Type 0} → ℕ → List (WaitingPacket R) → Bool
is_busy {R} wid packets = list_any (λ (p : WaitingPacket R). draws_in wid p) packets

-- a waiting draw relieves the point of the window
abbrev pub relieve : {R : Type 0} → (R → ℕ → ℕ → Bool) → ℕ → List (WaitingPacket R) → ℕ → ℕ → Bool
relieve {R} has wid packets x y = list_any (λ (p : WaitingPacket R). draws_in wid p && has p.relief x y) packets

-- the reliefs of the window's draws, in order
abbrev pub reliefs_of : {R : Type 0} → ℕ → List (WaitingPacket R) → List R
reliefs_of wid [] = []
reliefs_of wid (p ∷ packets) = if draws_in wid p then p.relief ∷ reliefs_of wid packets else reliefs_of wid packets

-- the packet with the first of these as its relief, where it is a draw in the window, and those that are then left
abbrev pub put_first : {R : Type 0} → List R → WaitingPacket R → WaitingPacket R
put_first [] p = p
put_first (r ∷ reliefs) p = record p { relief = r }

abbrev pub rest_after : {R : Type 0} → List R → List R
rest_after [] = []
rest_after (r ∷ reliefs) = reliefs

abbrev pub put_in : {R : Type 0} → ℕ → WaitingPacket R → List R → WaitingPacket R
put_in wid p reliefs = if draws_in wid p then put_first reliefs p else p

abbrev pub left_by : {R : Type 0} → ℕ → WaitingPacket R → List R → List R
left_by wid p reliefs = if draws_in wid p then rest_after reliefs else reliefs

-- the packets with these as the reliefs of the window's draws, in order
abbrev pub with_reliefs : {R : Type 0} → ℕ → List (WaitingPacket R) → List R → List (WaitingPacket R)
with_reliefs wid [] reliefs = []
with_reliefs wid (p ∷ packets) reliefs = put_in wid p reliefs ∷ with_reliefs wid packets (left_by wid p reliefs)

-- a set became another: no point is left; or those are left that lie in a window of this size
abbrev pub Emptied : {R : Type 0} → (R → ℕ → ℕ → Bool) → R → R → Type 0
Emptied has old new = HasNone (has new)

abbrev pub ClippedTo : {R : Type 0} → (R → ℕ → ℕ → Bool) → ℕ → ℕ → R → R → Type 0
ClippedTo has w h old new = SamePoints (has new) (shared (has old) (is_within w h))

-- each set became such a one
abbrev pub EachBecomes : {R : Type 0} → (R → R → Type 0) → List R → List R → Type 0
EachBecomes Becomes [] [] = Unit {0}
EachBecomes Becomes [] (q ∷ new) = ⊥
EachBecomes Becomes (r ∷ old) [] = ⊥
EachBecomes Becomes (r ∷ old) (q ∷ new) = Becomes r q × EachBecomes Becomes old new

-- the reliefs of a window's draws, clipped
pub record Clips (R : Type 0) : Type 0 where
  pub reliefs : List R

-- a packet before and after: its relief became such a one where it is a draw in the window, and all else stays
pub record PacketChanges {R : Type 0} (Becomes : R → R → Type 0) (wid : ℕ) (old new : WaitingPacket R) : Type 0 where
  pub kept : new ≡ record old { relief = new.relief }
  pub changed : draws_in wid old ≡ true → Becomes old.relief new.relief
  pub others : draws_in wid old ≡ false → new ≡ old

abbrev pub ReliefsChange : {R : Type 0} → (R → R → Type 0) → ℕ → List (WaitingPacket R) → List (WaitingPacket R) → Type 0
ReliefsChange Becomes wid [] [] = Unit {0}
ReliefsChange Becomes wid [] (q ∷ new) = ⊥
ReliefsChange Becomes wid (p ∷ old) [] = ⊥
ReliefsChange Becomes wid (p ∷ old) (q ∷ new) = PacketChanges Becomes wid p q × ReliefsChange Becomes wid old new

-- the reliefs of the window's draws are emptied
abbrev pub Forgets : {R : Type 0} → (R → ℕ → ℕ → Bool) → ℕ → List (WaitingPacket R) → List (WaitingPacket R) → Type 0
Forgets has wid old new = ReliefsChange (Emptied has) wid old new

-- these are the reliefs of the window's draws, clipped to a size
abbrev pub AreClips : {R : Type 0} → (R → ℕ → ℕ → Bool) → ℕ → ℕ → ℕ → List (WaitingPacket R) → Clips R → Type 0
AreClips has wid w h packets c = EachBecomes (ClippedTo has w h) (reliefs_of wid packets) c.reliefs
