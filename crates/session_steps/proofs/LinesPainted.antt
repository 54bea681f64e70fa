-- Paint lines, and what is owed.
use Rattle.std.proofs.Common.{◌≡◌, ◌≢◌, ℕ, zero, suc, ◌+◌, ◌≤◌, ◌==◌, Bool, true, false, ◌⊎◌, inl, inr, Some, None, List, [], ◌∷◌, length, cond, eqb, refl, sym, ap, ◌∙◌, subst, arith}
use Rattle.std.specs.Prelude.{Option, slice_get}
use Rattle.std.proofs.lemmas.Bool.{eqb-true}
use Rattle.link_bay.specs.Connections.{ConnectionRecord}
use Rattle.window_model.specs.Desktop.{Window, IsDesktop}
use Rattle.window_source.specs.Source.{SourceSeen}
use Rattle.client_delivery.specs.Attached.{find_source}
use Rattle.client_delivery.specs.Keeping.{HoldsDesk, FirstOpens}
use Rattle.connection_table.specs.Tables.{Slot, Open, Away, Ended, is_open, open_at, open_count}
use Rattle.connection_ends.specs.declared.end.End.{End}
use Rattle.attached_client.specs.declared.change.Change.{Change}
use Rattle.attached_client.specs.declared.change.Change.TheVariants as C
use Rattle.attached_client.specs.Client.{ClientSeen}
use Rattle.attached_client.specs.Laws.{mark_in, mark_on}
use Rattle.attached_client.specs.ChangeLaws.{ChangeFits, ChangeStays, ChangeMarks, begun_mark, changed_mark}
use Rattle.attached_client.specs.Changes.{ClientChanges}
use Rattle.attached_client.specs.Desktops.{DeskChanges, NumbersChange}
use Rattle.open_connection.specs.Connection.{ConnectionSeen}
use Rattle.open_connection.specs.Changing.{ChangesIn, ConnectionChanges}
use Rattle.open_connection.specs.Laws.{IsToldTo, ChangingTells}
use Rattle.connection_steps.specs.Kept.{IsConnection}
use Rattle.connection_steps.specs.Laws.{OpensMore, MarksStay, ClientStays, ChangingKeeps, KeptOwesWhatDiffers}
use Rattle.session_steps.specs.Slots.{Slots}
use Rattle.session_steps.specs.Seen.{Known, Seen}
use Rattle.session_steps.specs.Painting.{ChangesSlot, ChangesSlots, FitsSeen, Paints}
use Rattle.session_steps.specs.Steady.{Phase, Stepping, IsSlot, AreSlots, IsSteady}
use Rattle.session_steps.specs.Laws.{PaintKeeps, PaintFits, SessionOwesWhatDiffers}
use Rattle.session_steps.proofs.Places.{open_slot}

-- numbers are only opened more
opens_more : (change : Change) (was is : ℕ → Bool) → NumbersChange change was is → OpensMore was is
opens_more (C.Opened g) was is numbers k none = numbers.more k none
opens_more (C.Closed j) was is numbers k none = sym (numbers k) ∙ none
opens_more (C.Moved g) was is numbers k none = sym (numbers k) ∙ none
opens_more (C.Raised j) was is numbers k none = sym (numbers k) ∙ none
opens_more (C.Damaged j r) was is numbers k none = sym (numbers k) ∙ none
opens_more (C.Resized g) was is numbers k none = sym (numbers k) ∙ none

-- a mark is as it was, or begins
abbrev MarkStays : (ℕ → Bool) → ℕ → ClientSeen → SourceSeen → Type 0
MarkStays was wid c s' = ((s : SourceSeen) × (find_source c.seen.sources wid ≡ Some s) × (s'.mapped ≡ s.mapped)) ⊎ ((s'.mapped ≡ false) × (was wid ≡ false))

same_mark : (was : ℕ → Bool) (wid : ℕ) (c : ClientSeen) (s' : SourceSeen) → Some s'.mapped ≡ mark_on wid c → MarkStays was wid c s'
same_mark was wid c s' is = go (find_source c.seen.sources wid) refl is
  where
    go : (o : Option SourceSeen) → find_source c.seen.sources wid ≡ o → Some s'.mapped ≡ mark_in o → MarkStays was wid c s'
    go None at is = absurd (cc is)
    go (Some s) at is = inl (s, at, (let same : s'.mapped ≡ s.mapped = cc is in same))

begun_stays : (was : ℕ → Bool) (wid : ℕ) (c : ClientSeen) (s' : SourceSeen) → was wid ≡ false → Some s'.mapped ≡ begun_mark (mark_on wid c) → MarkStays was wid c s'
begun_stays was wid c s' fresh is = go (mark_on wid c) refl is
  where
    go : (o : Option Bool) → mark_on wid c ≡ o → Some s'.mapped ≡ begun_mark o → MarkStays was wid c s'
    go None at is = inr ((let same : s'.mapped ≡ false = cc is in same), fresh)
    go (Some mark) at is = same_mark was wid c s' (is ∙ sym at)

mark_stays : (change : Change) (was is : ℕ → Bool) (wid : ℕ) (c : ClientSeen) (s' : SourceSeen) → NumbersChange change was is → Some s'.mapped ≡ changed_mark change wid (mark_on wid c) → MarkStays was wid c s'
mark_stays (C.Opened g) was is wid c s' numbers mark = go (wid == g.wid) refl mark
  where
    go : (b : Bool) → (wid == g.wid) ≡ b → Some s'.mapped ≡ cond b (begun_mark (mark_on wid c)) (mark_on wid c) → MarkStays was wid c s'
    go true here mark = begun_stays was wid c s' (ap was (eqb-true wid g.wid here) ∙ numbers.before) mark
    go false there mark = same_mark was wid c s' mark
mark_stays (C.Closed j) was is wid c s' numbers mark = go (wid == j) mark
  where
    go : (b : Bool) → Some s'.mapped ≡ cond b None (mark_on wid c) → MarkStays was wid c s'
    go true mark = absurd (cc mark)
    go false mark = same_mark was wid c s' mark
mark_stays (C.Moved g) was is wid c s' numbers mark = same_mark was wid c s' mark
mark_stays (C.Raised j) was is wid c s' numbers mark = same_mark was wid c s' mark
mark_stays (C.Damaged j r) was is wid c s' numbers mark = same_mark was wid c s' mark
mark_stays (C.Resized g) was is wid c s' numbers mark = same_mark was wid c s' mark

-- a client stays what it was
client_stays : ChangeStays → ChangeMarks → (change : Change) (now : ℕ) (was is : ℕ → Bool) (o o' : Option ClientSeen) → NumbersChange change was is → ChangesIn change now o o' → ClientStays was o o'
client_stays stays marks change now was is None None numbers changes = tt
client_stays stays marks change now was is None (Some c') numbers changes = absurd changes
client_stays stays marks change now was is (Some c) None numbers changes = absurd changes
client_stays stays marks change now was is (Some c) (Some c') numbers changes =
    let same = stays change now c c' changes in
    (same.caps, λ wid s' found. mark_stays change was is wid c s' numbers (sym (ap mark_in found) ∙ marks change now c c' wid changes))

module _ (change : Change) (now : ℕ) where
  -- as many, and as many open
  same_open : (slot slot' : Slot ConnectionSeen End) → ChangesSlot change now slot slot' → is_open slot' ≡ is_open slot
  same_open (Open c) slot' is = ap is_open is.1
  same_open Away slot' is = ap is_open is
  same_open (Ended e) slot' is = ap is_open is

  pub as_many : (slots slots' : Slots) → ChangesSlots change now slots slots' → (length slots' ≡ length slots) × (open_count slots' ≡ open_count slots)
  as_many [] [] is = (refl, refl)
  as_many [] (slot' ∷ slots') is = absurd is
  as_many (slot ∷ slots) [] is = absurd is
  as_many (slot ∷ slots) (slot' ∷ slots') is =
      let rest = as_many slots slots' is.1 in
      let here = same_open slot slot' is.0 in
      (ap suc rest.0, ap (λ b. cond b 1 0 + open_count slots') here ∙ ap (λ n. cond (is_open slot) 1 0 + n) rest.1)

  -- each place changed so
  pub change_at : (slots slots' : Slots) → ChangesSlots change now slots slots' → (j : ℕ) (slot' : Slot ConnectionSeen End) → slice_get slots' j ≡ Some slot'
      → (slot : Slot ConnectionSeen End) × (slice_get slots j ≡ Some slot) × ChangesSlot change now slot slot'
  change_at [] [] is j slot' found = absurd (cc found)
  change_at [] (s' ∷ slots') is j slot' found = absurd is
  change_at (s ∷ slots) [] is j slot' found = absurd is
  change_at (s ∷ slots) (s' ∷ slots') is zero slot' found = (s, refl, subst (ChangesSlot change now s) (let alike : s' ≡ slot' = cc found in alike) is.0)
  change_at (s ∷ slots) (s' ∷ slots') is (suc j) slot' found = change_at slots slots' is.1 j slot' found

module _ (changing : ChangingKeeps) (tells_so : ChangingTells) (stays : ChangeStays) (marks : ChangeMarks) {B : Type 0} (known : Known B) (was_opened is_opened : ℕ → Bool) (change : Change) (desk' : List Window) (s : Seen B)
    (desktop : IsDesktop desk') (holds : HoldsDesk desk' is_opened) (desks : DeskChanges change s.desk desk') (numbers : NumbersChange change was_opened is_opened) (steady : IsSteady known Stepping was_opened s) where
  one : (j : ℕ) (slot slot' : Slot ConnectionSeen End) → ChangesSlot change s.clock slot slot' → IsSlot known.tells Stepping s.desk was_opened (known.connection s.bay) (length s.slots) j slot
      → IsSlot known.tells Stepping desk' is_opened (known.connection s.bay) (length s.slots) j slot'
  one j (Open c) slot' is kept = subst (IsSlot known.tells Stepping desk' is_opened (known.connection s.bay) (length s.slots) j) (sym is.1)
      (changing known.tells s.desk desk' was_opened is_opened j (known.connection s.bay j) c is.0 (opens_more change was_opened is_opened numbers) is.2.framing
      (client_stays stays marks change s.clock was_opened is_opened c.client _ numbers is.2.client)
      (λ sent told. tells_so s.desk desk' was_opened is_opened j s.clock change c.client _ sent steady.desktop desks numbers is.2.client told) kept)
  one j Away slot' is kept = absurd kept
  one j (Ended e) slot' is kept = subst (IsSlot known.tells Stepping desk' is_opened (known.connection s.bay) (length s.slots) j) (sym is) kept

  pub painted_steady : (slots' : Slots) → ChangesSlots change s.clock s.slots slots' → IsSteady known Stepping is_opened (record s { desk = desk'; slots = slots' })
  painted_steady slots' changes = record {
    desktop = desktop;
    holds = holds;
    clocked = steady.clocked;
    counted = many.0 ∙ steady.counted;
    numbered = steady.numbered;
    few = let most = steady.few in let same = many.1 in omega (arith, most, same);
    failed = steady.failed;
    slots = slots;
    since = tt;
  }
    where
      many : (length slots' ≡ length s.slots) × (open_count slots' ≡ open_count s.slots)
      many = as_many change s.clock s.slots slots' changes

      slots : AreSlots known.tells Stepping desk' is_opened (known.connection s.bay) (length slots') slots'
      slots j slot' found =
          let was = change_at change s.clock s.slots slots' changes j slot' found in
          subst (λ n. IsSlot known.tells Stepping desk' is_opened (known.connection s.bay) n j slot') (sym many.0) (one j was.0 slot' was.2 (steady.slots j was.0 was.1))

pub paint_keeps : ChangingKeeps → ChangingTells → ChangeStays → ChangeMarks → {B : Type 0} → PaintKeeps B
paint_keeps changing tells_so stays marks known was_opened is_opened change desk' old new desktop holds desks numbers paints steady =
    subst (IsSteady known Stepping is_opened) (sym paints.rest) (painted_steady changing tells_so stays marks known was_opened is_opened change desk' old desktop holds desks numbers steady new.slots paints.slots)

pub paint_fits : ChangeFits → {B : Type 0} → PaintFits B
paint_fits fits known phase were_opened change desk' s desks steady j c at = go c.client refl
  where
    kept : IsConnection known.tells s.desk were_opened j (known.connection s.bay j) c
    kept = steady.slots j (Open c) (open_slot s.slots j c at)

    go : (o : Option ClientSeen) → c.client ≡ o → FitsSeen change o
    go None is = tt
    go (Some client) is =
        let told = subst (λ (p : Option ClientSeen). IsToldTo s.desk were_opened j p kept.sent) is kept.client in
        fits s.desk desk' were_opened change client kept.sent desks told.1

pub session_owes : KeptOwesWhatDiffers → {B : Type 0} → SessionOwesWhatDiffers B
session_owes owes known phase were_opened s k c client steady at is =
    owes known.tells s.desk were_opened k (known.connection s.bay k) c client steady.desktop is (steady.slots k (Open c) (open_slot s.slots k c at))
