-- Waiting packets and jobs in hand, seen at a point.
use Rattle.std.proofs.Common.{◌≡◌, inl, inr, ℕ, Bool, true, false, ◌&&◌, ◌||◌, List, [], ◌∷◌, ◌++◌, Option, Some, None, map, refl, sym, ap, ◌∙◌, arith}
use Rattle.std.proofs.lemmas.Bool.{cases_Bool, false≢true}
use Rattle.std.proofs.lemmas.Bool.Decides.{nat_tests}
use Rattle.xp_base.specs.Points.{is_within, survives}
use Rattle.delivery_model.specs.Grids.{Points, has, points}
use Rattle.delivery_model.specs.Window.{Job, Packet, NewWindow, WindowResized, Draws}
use Rattle.delivery_model.specs.Client.{Size, size_after, sizes_after}
use Rattle.delivery_model.specs.Events.{jobs_relieve, with_relief}
use Rattle.delivery_model.specs.Marks.{any_relieves}
use Rattle.delivery_model.specs.Point.{Waiting, DrawsThere, Survives, Becomes, packet_at, packets_at, job_at, jobs_at, job_mark, FrontsAreFree}
use Rattle.delivery_model.proofs.Grids.{has-points, has-points_within}

pub sizes_after-append : (size : Option Size) (packets : List Packet) (p : Packet) → sizes_after size (packets ++ p ∷ []) ≡ size_after (sizes_after size packets) p
sizes_after-append size [] p = refl
sizes_after-append size (q ∷ packets) p = sizes_after-append (size_after size q) packets p

pub packets_at-append : (size : Option Size) (packets : List Packet) (p : Packet) (x y : ℕ)
    → packets_at size (packets ++ p ∷ []) x y ≡ packets_at size packets x y ++ packet_at (sizes_after size packets) p x y ∷ []
packets_at-append size [] p x y = refl
packets_at-append size (q ∷ packets) p x y = ap (λ (ws : List Waiting). packet_at size q x y ∷ ws) (packets_at-append (size_after size q) packets p x y)

pub jobs_at-append : (jobs new : List Job) (x y : ℕ) → jobs_at (jobs ++ new) x y ≡ jobs_at jobs x y ++ jobs_at new x y
jobs_at-append [] new x y = refl
jobs_at-append (j ∷ jobs) new x y = ap (λ js. job_at j x y ∷ js) (jobs_at-append jobs new x y)

pub any-jobs : (n : ℕ) (jobs : List Job) (x y : ℕ) → any_relieves (map (job_mark n) (jobs_at jobs x y)) ≡ jobs_relieve jobs x y
any-jobs n [] x y = refl
any-jobs n (j ∷ jobs) x y = ap (λ (b : Bool). has j.relief x y || b) (any-jobs n jobs x y)

-- a resize leaves the sizes that wait as they were
size-with_relief : (w h : ℕ) (kept : ℕ → ℕ → Bool) (size : Option Size) (p : Packet) → size_after size (with_relief w h kept p) ≡ size_after size p
size-with_relief w h kept None (NewWindow a b) = refl
size-with_relief w h kept (Some s) (NewWindow a b) = refl
size-with_relief w h kept None (WindowResized a b) = refl
size-with_relief w h kept (Some s) (WindowResized a b) = refl
size-with_relief w h kept None (Draws d) = refl
size-with_relief w h kept (Some s) (Draws d) = refl

pub sizes-with_relief : (w h : ℕ) (kept : ℕ → ℕ → Bool) (size : Option Size) (packets : List Packet) → sizes_after size (map (with_relief w h kept) packets) ≡ sizes_after size packets
sizes-with_relief w h kept size [] = refl
sizes-with_relief w h kept size (p ∷ packets) =
    ap (λ (s : Option Size). sizes_after s (map (with_relief w h kept) packets)) (size-with_relief w h kept size p) ∙ sizes-with_relief w h kept (size_after size p) packets

-- where the point survives, each packet is to it what it was
packet-survived : (w h : ℕ) (kept : ℕ → ℕ → Bool) (size : Option Size) (p : Packet) (x y : ℕ) → is_within w h x y ≡ true → kept x y ≡ true
    → packet_at size (with_relief w h kept p) x y ≡ packet_at size p x y
packet-survived w h kept None (NewWindow a b) x y within survives = refl
packet-survived w h kept (Some s) (NewWindow a b) x y within survives = refl
packet-survived w h kept None (WindowResized a b) x y within survives = refl
packet-survived w h kept (Some s) (WindowResized a b) x y within survives = refl
packet-survived w h kept None (Draws d) x y within survives = rw (relief d.relief) refl
  where
    relief : (r : Points) → has (points w h (λ x y. has r x y && kept x y)) x y ≡ has r x y
    relief r = has-points_within w h (λ x y. has r x y && kept x y) x y within ∙ grind (arith, nat_tests)
packet-survived w h kept (Some s) (Draws d) x y within survives = rw (relief d.relief) refl
  where
    relief : (r : Points) → has (points w h (λ x y. has r x y && kept x y)) x y ≡ has r x y
    relief r = has-points_within w h (λ x y. has r x y && kept x y) x y within ∙ grind (arith, nat_tests)

pub packets-survived : (w h : ℕ) (kept : ℕ → ℕ → Bool) (size : Option Size) (packets : List Packet) (x y : ℕ) → is_within w h x y ≡ true → kept x y ≡ true
    → packets_at size (map (with_relief w h kept) packets) x y ≡ packets_at size packets x y
packets-survived w h kept size [] x y within survives = refl
packets-survived w h kept size (p ∷ packets) x y within survives =
    rw (packet-survived w h kept size p x y within survives, size-with_relief w h kept size p)
    (ap (λ ws. packet_at size p x y ∷ ws) (packets-survived w h kept (size_after size p) packets x y within survives))

-- no waiting draw relieves the point
abbrev pub NoneRelieves : List Waiting → Type 0
NoneRelieves [] = Unit {0}
NoneRelieves (DrawsThere there d ∷ waiting) = (d.relieves ≡ false) × NoneRelieves waiting
NoneRelieves (Survives ∷ waiting) = NoneRelieves waiting
NoneRelieves (Becomes o ∷ waiting) = NoneRelieves waiting

pub fronts_none : (waiting : List Waiting) → NoneRelieves waiting → FrontsAreFree waiting
fronts_none [] none = tt
fronts_none (DrawsThere there d ∷ waiting) none = ((λ is. absurd (false≢true (sym none.0 ∙ is))), fronts_none waiting none.1)
fronts_none (Survives ∷ waiting) none = fronts_none waiting none
fronts_none (Becomes o ∷ waiting) none = fronts_none waiting none

none_resized : (s : Size) (w h x y : ℕ) (waiting : List Waiting) → NoneRelieves waiting → NoneRelieves (packet_at (Some s) (WindowResized w h) x y ∷ waiting)
none_resized s w h x y waiting none = elim (cases_Bool (survives s.wide s.high w h x y)) [ inl is ↦ rw is none | inr isnt ↦ rw isnt none ]

-- where it does not survive, no draw in front of the resize relieves it
pub none-lost : (w h : ℕ) (kept : ℕ → ℕ → Bool) (size : Option Size) (packets : List Packet) (x y : ℕ) → kept x y ≡ false
    → NoneRelieves (packets_at size (map (with_relief w h kept) packets ++ WindowResized w h ∷ []) x y)
none-lost w h kept None [] x y lost = tt
none-lost w h kept (Some s) [] x y lost = none_resized s w h x y [] tt
none-lost w h kept None (NewWindow a b ∷ packets) x y lost = none-lost w h kept (size_after None (NewWindow a b)) packets x y lost
none-lost w h kept (Some s) (NewWindow a b ∷ packets) x y lost = none-lost w h kept (Some s) packets x y lost
none-lost w h kept None (WindowResized a b ∷ packets) x y lost = none-lost w h kept None packets x y lost
none-lost w h kept (Some s) (WindowResized a b ∷ packets) x y lost =
    none_resized s a b x y _ (none-lost w h kept (size_after (Some s) (WindowResized a b)) packets x y lost)
none-lost w h kept None (Draws d ∷ packets) x y lost = (no_relief d.relief, none-lost w h kept None packets x y lost)
  where
    no_relief : (r : Points) → has (points w h (λ x y. has r x y && kept x y)) x y ≡ false
    no_relief r = has-points w h (λ x y. has r x y && kept x y) x y ∙ grind (arith, nat_tests)
none-lost w h kept (Some s) (Draws d ∷ packets) x y lost = (no_relief d.relief, none-lost w h kept (Some s) packets x y lost)
  where
    no_relief : (r : Points) → has (points w h (λ x y. has r x y && kept x y)) x y ≡ false
    no_relief r = has-points w h (λ x y. has r x y && kept x y) x y ∙ grind (arith, nat_tests)
