-- What each call of a connection provider may answer, and what that leaves of it.
use Rattle.std.specs.Prelude.{ℕ, ◌+◌, ◌≤◌, ◌≡◌, ◌&&◌, Bool, true, false, not, nat_eq, if◌then◌else◌, max, Result, Ok, Err, List, [], ◌∷◌, ◌++◌, take, length, replicate}
use Rattle.xp_base.specs.Counts.{Rose, RoseOnlyIf, count_sum}
use Rattle.xp_base.specs.Told.{told_append, told_length}
use Rattle.xp_base.specs.declared.memory.NoMemory.{NoMemory}
use Rattle.link_bay.specs.Connections.{ConnectionRecord, fresh_connection}
use Rattle.link_bay.specs.Provider.{ProviderRecord}
use Rattle.link_bay.specs.declared.order.Order.{Order}
use Rattle.link_bay.specs.declared.bay.Accept.{Accept}
use Rattle.link_bay.specs.declared.bay.Accept.TheVariants as A
use Rattle.link_bay.specs.declared.bay.Gave.{Gave}
use Rattle.link_bay.specs.declared.bay.Gave.TheVariants as G
use Rattle.link_bay.specs.declared.bay.Wrote.{Wrote}
use Rattle.link_bay.specs.declared.bay.Wrote.TheVariants as W

-- an accept: the provider before and after, and the connections after.
-- A provider that tells its bytes finds nobody only where it has no room left.
abbrev pub AcceptGives : Bool → ProviderRecord → ProviderRecord → (ℕ → ConnectionRecord) → Accept → Type 0
AcceptGives tells old new connection (A.Conn c) =
    (c.0 ≡ old.count) × (new.room + 1 ≡ old.room) × (new ≡ record old { count = old.count + 1; room = new.room })
    × (connection old.count ≡ fresh_connection tells)
AcceptGives tells old new connection A.Nobody =
    Rose old.lulls new.lulls × (tells ≡ true → old.room ≡ 0) × (new ≡ record old { lulls = new.lulls })
AcceptGives tells old new connection A.Failed = Rose old.faults new.faults × (new ≡ record old { faults = new.faults })
AcceptGives tells old new connection A.NoMemory = new ≡ old

-- a read of at most so many bytes: the connection before and after, the buffer before and after
abbrev pub ReadGives : ConnectionRecord → ConnectionRecord → List ℕ → List ℕ → ℕ → Gave → Type 0
ReadGives old new into into' max (G.Bytes n) =
    (bytes : List ℕ) × (length bytes ≡ n) × (1 ≤ n) × (n ≤ max) × (into' ≡ into ++ bytes)
    × (new ≡ record old { given = told_append old.given bytes })
ReadGives old new into into' max G.Again =
    (into' ≡ into) × Rose old.waits new.waits × (new ≡ record old { waits = new.waits; unheard = 0 })
ReadGives old new into into' max G.End =
    (into' ≡ into) × Rose old.ends new.ends × (new ≡ record old { ends = new.ends })
ReadGives old new into into' max G.Failed =
    (into' ≡ into) × Rose old.faults new.faults × (new ≡ record old { faults = new.faults })
ReadGives old new into into' max G.NoMemory = (into' ≡ into) × (new ≡ old)

abbrev pub is_empty : List ℕ → Bool
is_empty [] = true
is_empty (byte ∷ bytes) = false

-- a write that took nothing of a piece that has some
abbrev pub is_dry : List ℕ → ℕ → Bool
is_dry piece n = nat_eq n 0 && not (is_empty piece)

-- how many writes in a row have taken nothing, after one more that took so much of the piece
abbrev pub drought_after : ℕ → List ℕ → ℕ → ℕ
drought_after before piece n = if is_dry piece n then count_sum before 1 else (if nat_eq n 0 then before else 0)

-- a write of a piece: the connection before and after
abbrev pub WriteGives : ConnectionRecord → ConnectionRecord → List ℕ → Wrote → Type 0
WriteGives old new piece (W.Took n) =
    (n ≤ length piece) × RoseOnlyIf (is_dry piece n) old.dry new.dry
    × (new ≡ record old {
      sent = told_append old.sent (take n piece);
      heard = told_append old.heard (replicate n (told_length old.given));
      dry = new.dry;
      drought = drought_after old.drought piece n;
      worst = max old.worst (drought_after old.drought piece n);
      unheard = count_sum old.unheard n;
    })
WriteGives old new piece W.Failed = Rose old.faults new.faults × (new ≡ record old { faults = new.faults })
WriteGives old new piece W.NoMemory = new ≡ old

-- an order: the provider before and after
abbrev pub OrderGives : ProviderRecord → ProviderRecord → Order → Result (Unit {0}) NoMemory → Type 0
OrderGives old new order (Ok done) =
    (old.room ≤ new.room) × (new ≡ record old { asked = told_append old.asked (order ∷ []); room = new.room })
OrderGives old new order (Err none) = new ≡ old
