-- A session begins, its clock goes on, and connections come.
use Rattle.std.proofs.Common.{◌≡◌, ◌≢◌, ℕ, ◌+◌, ◌^◌, ◌<◌, ◌≤◌, Bool, true, false, ◌⊎◌, inl, inr, Some, None, List, [], ◌∷◌, ◌++◌, length, refl, sym, ap, ◌∙◌, subst, arith}
use Rattle.std.specs.Prelude.{slice_get}
use Rattle.std.proofs.lemmas.List.{length-append}
use Rattle.xp_base.specs.Counts.{Rose}
use Rattle.link_bay.specs.Connections.{ConnectionRecord, OthersStay, fresh_connection}
use Rattle.link_bay.specs.Provider.{ProviderRecord}
use Rattle.connection_table.specs.Tables.{Slot, Open, Ended, open_count}
use Rattle.connection_ends.specs.Laws.{CausesStay}
use Rattle.connection_ends.specs.declared.end.End.{End}
use Rattle.open_connection.specs.Connection.{ConnectionSeen, fresh}
use Rattle.connection_steps.specs.Laws.{AcceptedIsKept}
use Rattle.session_steps.specs.declared.answers.Accepted.{Accepted}
use Rattle.session_steps.specs.declared.answers.Accepted.TheVariants as A
use Rattle.session_steps.specs.Seen.{Known, Seen, IsAsBefore}
use Rattle.session_steps.specs.Accepting.{Accepts}
use Rattle.session_steps.specs.Steady.{Phase, Stepping, IsSlot, AreSlots, IsSteady}
use Rattle.session_steps.specs.Laws.{BeginsSteady, TickKeeps, OrderKeeps, AcceptKeeps}
use Rattle.session_steps.proofs.Places.{push_at, open_push, get_front}
use Rattle.session_steps.proofs.Staying.{AllGoOn, goes_same, slot_stays}
use Rattle.session_steps.proofs.Since.{earlier_same, since_goes}
use Rattle.std.proofs.lemmas.Option.{slice_get_within}

pub begins_steady : {B : Type 0} → BeginsSteady B
begins_steady known were_opened bay is = record {
  desktop = record { windows = λ k d within. absurd (omega arith); distinct = λ i j d before within. absurd (omega arith) };
  holds = λ k has. absurd (cc has);
  clocked = omega arith;
  counted = sym is.count;
  numbered = let none = is.count in omega (arith, none);
  few = omega arith;
  failed = λ bad. absurd (cc bad);
  slots = λ k slot found. absurd (cc found);
  since = tt;
}

pub tick_keeps : {B : Type 0} → TickKeeps B
tick_keeps known phase were_opened moment s steady = record {
  desktop = steady.desktop;
  holds = steady.holds;
  clocked = let low = steady.clocked in omega (arith, low);
  counted = steady.counted;
  numbered = steady.numbered;
  few = steady.few;
  failed = steady.failed;
  slots = steady.slots;
  since = steady.since;
}

-- where every connection handed out is known as before
same_slots : CausesStay → {B : Type 0} (known : Known B) (phase : Phase) (were_opened : ℕ → Bool) (s : Seen B) (bay : B) → ((j : ℕ) → j < length s.slots → known.connection bay j ≡ known.connection s.bay j)
    → IsSteady known phase were_opened s → AreSlots known.tells phase s.desk were_opened (known.connection bay) (length s.slots) s.slots
same_slots stay known phase were_opened s bay same steady k slot found =
    slot_stays stay known.tells phase s.desk were_opened (known.connection s.bay) (known.connection bay) (length s.slots) (length s.slots)
    (λ j low. goes_same (known.connection s.bay j).given (known.connection bay j).given (ap (λ (r : ConnectionRecord). r.given) (same j low))) (omega arith)
    k slot (same k (slice_get_within s.slots k slot found)) (steady.slots k slot found)

-- the provider answered, and no connection came
bay_keeps : CausesStay → {B : Type 0} (known : Known B) (phase : Phase) (were_opened : ℕ → Bool) (s : Seen B) (bay : B) (failed : Bool) → (known.provider bay).count ≡ (known.provider s.bay).count
    → (failed ≡ true → 1 ≤ (known.provider bay).faults) → ((j : ℕ) → j < length s.slots → known.connection bay j ≡ known.connection s.bay j)
    → IsSteady known phase were_opened s → IsSteady known phase were_opened (record s { accept_failed = failed; bay = bay })
bay_keeps stay known phase were_opened s bay failed count faults same steady = record {
  desktop = steady.desktop;
  holds = steady.holds;
  clocked = steady.clocked;
  counted = steady.counted ∙ sym count;
  numbered = let few = steady.numbered in omega (arith, few, count);
  few = steady.few;
  failed = faults;
  slots = same_slots stay known phase were_opened s bay same steady;
  since = since_goes phase s.desk s.slots s.slots (known.connection s.bay) (known.connection bay) (λ k low. earlier_same (known.connection s.bay k) (known.connection bay k) (same k low))
      (λ k e is. is) (omega arith) steady.since;
}

pub order_keeps : CausesStay → {B : Type 0} → OrderKeeps B
order_keeps stay known phase were_opened s bay count faults all steady =
    bay_keeps stay known phase were_opened s bay s.accept_failed count (λ is. subst (λ n. 1 ≤ n) (sym faults) (steady.failed is)) (λ j low. all j) steady

module _ (stay : CausesStay) (accepted : AcceptedIsKept) {B : Type 0} (known : Known B) (phase : Phase) (were_opened : ℕ → Bool) (old : Seen B) (steady : IsSteady known phase were_opened old) where
  -- those that were there are known as before
  earlier_same_at : (bay : B) → OthersStay (known.connection old.bay) (known.connection bay) (known.provider old.bay).count → (j : ℕ) → j < length old.slots → known.connection bay j ≡ known.connection old.bay j
  earlier_same_at bay others j low = others j (λ same. let all = steady.counted in omega (arith, low, all, same))

  -- a connection came
  comes : (bay : B) → (known.provider bay).count < 2 ^ 32 → (known.provider bay).count ≡ (known.provider old.bay).count + 1 → (known.provider bay).faults ≡ (known.provider old.bay).faults → open_count old.slots < 8
      → known.connection bay (known.provider old.bay).count ≡ fresh_connection known.tells → OthersStay (known.connection old.bay) (known.connection bay) (known.provider old.bay).count
      → IsSteady known phase were_opened (record old { slots = old.slots ++ Open fresh ∷ []; bay = bay })
  comes bay numbered count faults room at others = record {
    desktop = steady.desktop;
    holds = steady.holds;
    clocked = steady.clocked;
    counted = long ∙ ap (λ n. n + 1) steady.counted ∙ sym count;
    numbered = numbered;
    few = let more = open_push old.slots fresh in omega (arith, more, room);
    failed = λ is. subst (λ n. 1 ≤ n) (sym faults) (steady.failed is);
    slots = slots;
    since = since_goes phase old.desk old.slots (old.slots ++ Open fresh ∷ []) (known.connection old.bay) (known.connection bay)
        (λ k low. earlier_same (known.connection old.bay k) (known.connection bay k) (earlier_same_at bay others k low)) (λ k e is. get_front old.slots (Open fresh ∷ []) k (Ended e) is) (omega (arith, long)) steady.since;
  }
    where
      long : length (old.slots ++ Open fresh ∷ []) ≡ length old.slots + 1
      long = length-append old.slots (Open fresh ∷ [])

      slots : AreSlots known.tells phase old.desk were_opened (known.connection bay) (length (old.slots ++ Open fresh ∷ [])) (old.slots ++ Open fresh ∷ [])
      slots k slot found = go (push_at old.slots k (Open fresh) slot found)
        where
          go : ((k ≡ length old.slots) × (slot ≡ Open fresh)) ⊎ ((k < length old.slots) × (slice_get old.slots k ≡ Some slot))
              → IsSlot known.tells phase old.desk were_opened (known.connection bay) (length (old.slots ++ Open fresh ∷ [])) k slot
          go (inl here) = subst (IsSlot known.tells phase old.desk were_opened (known.connection bay) (length (old.slots ++ Open fresh ∷ [])) k) (sym here.1)
              (subst (λ (r : ConnectionRecord). IsSlot known.tells phase old.desk were_opened (λ j. r) (length (old.slots ++ Open fresh ∷ [])) k (Open fresh)) (sym (ap (known.connection bay) (here.0 ∙ steady.counted) ∙ at))
              (accepted known.tells old.desk were_opened k))
          go (inr early) = slot_stays stay known.tells phase old.desk were_opened (known.connection old.bay) (known.connection bay) (length old.slots) (length (old.slots ++ Open fresh ∷ []))
              (λ j low. goes_same (known.connection old.bay j).given (known.connection bay j).given (ap (λ (r : ConnectionRecord). r.given) (earlier_same_at bay others j low))) (omega (arith, long))
              k slot (earlier_same_at bay others k early.0) (steady.slots k slot early.1)

pub accept_keeps : CausesStay → AcceptedIsKept → {B : Type 0} → AcceptKeeps B
accept_keeps stay accepted known phase were_opened old new A.Full is steady = subst (IsSteady known phase were_opened) (sym is.1) steady
accept_keeps stay accepted known phase were_opened old new (A.Conn c) is steady =
    let asks = is.0 in
    subst (IsSteady known phase were_opened) (sym is.1)
    (comes stay accepted known phase were_opened old steady new.bay asks.numbered (ap (λ (p : ProviderRecord). p.count) asks.gives.2) (ap (λ (p : ProviderRecord). p.faults) asks.gives.2) asks.room asks.gives.3 asks.others)
accept_keeps stay accepted known phase were_opened old new A.Nobody is steady =
    let asks = is.0 in
    subst (IsSteady known phase were_opened) (sym is.1)
    (bay_keeps stay known phase were_opened old new.bay old.accept_failed (ap (λ (p : ProviderRecord). p.count) asks.gives.2) (λ was. subst (λ n. 1 ≤ n) (sym (ap (λ (p : ProviderRecord). p.faults) asks.gives.2)) (steady.failed was))
    (earlier_same_at stay accepted known phase were_opened old steady new.bay asks.others) steady)
accept_keeps stay accepted known phase were_opened old new A.Failed is steady =
    let asks = is.0 in
    let rose = asks.gives.0.risen in
    subst (IsSteady known phase were_opened) (sym is.1)
    (bay_keeps stay known phase were_opened old new.bay true (ap (λ (p : ProviderRecord). p.count) asks.gives.1) (λ was. omega (arith, rose)) (earlier_same_at stay accepted known phase were_opened old steady new.bay asks.others) steady)
accept_keeps stay accepted known phase were_opened old new A.NoMemory is steady =
    let before = is.1 in
    subst (IsSteady known phase were_opened) (sym is.2)
    (bay_keeps stay known phase were_opened old new.bay old.accept_failed (ap (λ (p : ProviderRecord). p.count) before.provider) (λ was. subst (λ n. 1 ≤ n) (sym (ap (λ (p : ProviderRecord). p.faults) before.provider)) (steady.failed was))
    (λ j low. before.connections j (let all = steady.counted in omega (arith, low, all))) steady)
