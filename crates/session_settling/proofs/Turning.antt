-- One turn of settling: somebody is accepted, or the open connection of least number is settled.
use Rattle.std.proofs.Common.{◌≡◌, ◌⊎◌, inl, inr, ℕ, zero, suc, ◌+◌, ◌*◌, ◌^◌, ◌≤◌, ◌<◌, true, false, Option, Some, None, [], ◌∷◌, ◌++◌, length, refl, sym, ap, ◌∙◌, subst, arith}
use Rattle.std.specs.Prelude.{slice_get}
use Rattle.std.proofs.lemmas.Bool.{cases_eq}
use Rattle.xp_base.specs.declared.numbers.Conn.{Conn}
use Rattle.link_bay.specs.Provider.{ProviderRecord}
use Rattle.connection_table.specs.Tables.{Slot, Open, Away, Ended, open_at, open_count, ending, IsNextOpen}
use Rattle.connection_ends.specs.declared.end.End.{End}
use Rattle.open_connection.specs.Connection.{ConnectionSeen, fresh}
use Rattle.session_steps.specs.declared.answers.Accepted.{Accepted}
use Rattle.session_steps.specs.declared.answers.Accepted.TheVariants as A
use Rattle.session_steps.specs.Seen.{Known, Seen}
use Rattle.session_steps.specs.Slots.{Slots}
use Rattle.session_steps.specs.Accepting.{Accepts}
use Rattle.session_steps.specs.Settling.{Accepting, SettlingKeeps}
use Rattle.session_settling.specs.Through.{IsSettling, GoesThrough, IsOn, IsAny}
use Rattle.session_settling.specs.Settled.{LeavesNone, NoMoreLost, SettlesAll, MeetsFault, has_lost, EndsNext}
use Rattle.session_settling.proofs.Acts.{one_act, both}
use Rattle.session_settling.proofs.Places.{one_less_open}
use Rattle.session_settling.proofs.Readings.{rose_later}
use Rattle.session_settling.proofs.Staying.{leaves}

-- ---- lists of slots

pub open_push : (slots : Slots) (t : ConnectionSeen) → open_count (slots ++ Open t ∷ []) ≡ open_count slots + 1
open_push [] t = omega arith
open_push (s ∷ slots) t = let later = open_push slots t in omega (arith, later)

push_ended : (slots : Slots) (t : ConnectionSeen) (k : ℕ) (e : End) → slice_get (slots ++ Open t ∷ []) k ≡ Some (Ended e) → slice_get slots k ≡ Some (Ended e)
push_ended [] t zero e is = absurd (cc is)
push_ended [] t (suc k) e is = is
push_ended (s ∷ slots) t zero e is = is
push_ended (s ∷ slots) t (suc k) e is = push_ended slots t k e is

pub none_open : (slots : Slots) → ((k : ℕ) → open_at slots k ≡ None) → open_count slots ≡ 0
none_open [] none = refl
none_open (Open t ∷ slots) none = let bad : Some t ≡ None = none 0 in absurd (cc bad)
none_open (Away ∷ slots) none = let later = none_open slots (λ k. none (suc k)) in omega (arith, later)
none_open (Ended e ∷ slots) none = let later = none_open slots (λ k. none (suc k)) in omega (arith, later)

module _ {B : Type 0} (known : Known B) where
  pub few_slots : (s : Seen B) → IsSettling known s → length s.slots < 2 ^ 32
  few_slots s settling = let same = (settling.2).counted in let few = (settling.2).numbered in omega (arith, same, few)

  -- ---- an accept

  -- what settling leaves of the provider, and of the ends for want of memory
  pub record SoFar (old now : Seen B) : Type 0 where
    pub asked : (known.provider now.bay).asked ≡ (known.provider old.bay).asked
    pub faults : (known.provider now.bay).faults ≡ (known.provider old.bay).faults
    pub lulls : (known.provider old.bay).lulls ≤ (known.provider now.bay).lulls
    pub lost : NoMoreLost old now

  pub nothing_yet : (s : Seen B) → SoFar s s
  nothing_yet s = record { asked = refl; faults = refl; lulls = omega arith; lost = λ k e lost is. is }

  -- the provider as it was, and no end more for want of memory
  pub so_far_on : (old now new : Seen B) → SoFar old now → known.provider new.bay ≡ known.provider now.bay → NoMoreLost now new → SoFar old new
  so_far_on old now new so_far same lost_on = record {
    asked = ap (λ (p : ProviderRecord). p.asked) same ∙ so_far.asked;
    faults = ap (λ (p : ProviderRecord). p.faults) same ∙ so_far.faults;
    lulls = let low = so_far.lulls in let is = ap (λ (p : ProviderRecord). p.lulls) same in omega (arith, low, is);
    lost = λ k e lost is. so_far.lost k e lost (lost_on k e lost is);
  }

  module _ (keeps : SettlingKeeps B) (old now mid : Seen B) (through : GoesThrough known IsAny old now) where
    pub accepts_on : (answer : Accepted) → Accepts known now answer mid → GoesThrough known IsAny old mid
    accepts_on answer accepts = both known keeps IsAny old now mid through (one_act known IsAny (Accepting answer) now mid tt (λ phase. accepts))

    module _ (so_far : SoFar old now) where
      -- one came
      pub one_came : (c : Conn) → Accepts known now (A.Conn c) mid → SoFar old mid × (2 * (known.provider mid.bay).room + open_count mid.slots < 2 * (known.provider now.bay).room + open_count now.slots)
      one_came c accepts =
          let gives = accepts.0.gives in
          let slots = ap (λ (s : Seen B). s.slots) accepts.1 in (
            record {
              asked = ap (λ (p : ProviderRecord). p.asked) gives.2 ∙ so_far.asked;
              faults = ap (λ (p : ProviderRecord). p.faults) gives.2 ∙ so_far.faults;
              lulls = let low = so_far.lulls in let is = ap (λ (p : ProviderRecord). p.lulls) gives.2 in omega (arith, low, is);
              lost = λ k e lost is. so_far.lost k e lost (push_ended now.slots fresh k e (sym (ap (λ ss. slice_get ss k) slots) ∙ is));
            },
            (let fewer = gives.1 in let more = ap (λ ss. open_count ss) slots ∙ open_push now.slots fresh in omega (arith, fewer, more)),
          )

      nobody_lost : Accepts known now A.Nobody mid → NoMoreLost old mid
      nobody_lost accepts k e lost is = so_far.lost k e lost (sym (ap (λ (s : Seen B). slice_get s.slots k) accepts.1) ∙ is)

      -- nobody came
      pub nobody_came : Accepts known now A.Nobody mid → SoFar old mid
      nobody_came accepts =
          let gives = accepts.0.gives in
          record {
            asked = ap (λ (p : ProviderRecord). p.asked) gives.2 ∙ so_far.asked;
            faults = ap (λ (p : ProviderRecord). p.faults) gives.2 ∙ so_far.faults;
            lulls = let low = so_far.lulls in let later = gives.0.later in omega (arith, low, later);
            lost = nobody_lost accepts;
          }

      pub nobody_left : Accepts known now A.Nobody mid → LeavesNone mid → SettlesAll known old mid
      nobody_left accepts none =
          let gives = accepts.0.gives in
          record {
            lulls = rose_later (known.provider old.bay).lulls (known.provider now.bay).lulls (known.provider mid.bay).lulls so_far.lulls gives.0;
            served = λ tells. ap (λ (p : ProviderRecord). p.room) gives.2 ∙ gives.1 tells;
            faults = (nobody_came accepts).faults;
            none = none;
            lost = nobody_lost accepts;
          }

      pub nobody_room : Accepts known now A.Nobody mid → (new : Seen B) → EndsNext known mid new
          → 2 * (known.provider new.bay).room + open_count new.slots < 2 * (known.provider now.bay).room + open_count now.slots
      nobody_room accepts new ends =
          let fewer = ends.fewer in
          let room = ap (λ (p : ProviderRecord). p.room) ends.provider ∙ ap (λ (p : ProviderRecord). p.room) accepts.0.gives.2 in
          let same = ap (λ (s : Seen B). open_count s.slots) accepts.1 in
          omega (arith, fewer, room, same)

      pub full_room : Accepts known now A.Full mid → (new : Seen B) → EndsNext known mid new
          → 2 * (known.provider new.bay).room + open_count new.slots < 2 * (known.provider now.bay).room + open_count now.slots
      full_room accepts new ends =
          let fewer = ends.fewer in
          let room = ap (λ (p : ProviderRecord). p.room) ends.provider ∙ ap (λ (s : Seen B). (known.provider s.bay).room) accepts.1 in
          let same = ap (λ (s : Seen B). open_count s.slots) accepts.1 in
          omega (arith, fewer, room, same)

      pub still_full : Accepts known now A.Full mid → SoFar old mid
      still_full accepts = subst (SoFar old) (sym accepts.1) so_far

      pub not_full : Accepts known now A.Full mid → LeavesNone mid → ⊥
      not_full accepts none = let many = accepts.0 in let all = ap (λ (s : Seen B). open_count s.slots) accepts.1 in let nobody = none_open mid.slots none in omega (arith, many, all, nobody)

      pub failed : Accepts known now A.Failed mid → MeetsFault known old mid
      failed accepts =
          let gives = accepts.0.gives in
          let same = so_far.faults in
          record {
            faults = rose_later (known.provider old.bay).faults (known.provider now.bay).faults (known.provider mid.bay).faults (omega (arith, same)) gives.0;
            lost = λ k e lost is. so_far.lost k e lost (sym (ap (λ (s : Seen B). slice_get s.slots k) accepts.1) ∙ is);
          }

      pub failed_asked : Accepts known now A.Failed mid → (known.provider mid.bay).asked ≡ (known.provider old.bay).asked
      failed_asked accepts = ap (λ (p : ProviderRecord). p.asked) accepts.0.gives.1 ∙ so_far.asked

      pub no_memory : Accepts known now A.NoMemory mid → SoFar old mid
      no_memory accepts = so_far_on old now mid so_far accepts.1.provider (λ k e lost is. sym (ap (λ (s : Seen B). slice_get s.slots k) accepts.2) ∙ is)

  -- ---- the open connection of least number

  module _ (c : Conn) (old new : Seen B) (settling : IsSettling known old) (next : IsNextOpen old.slots 0 c.0) (through : GoesThrough known (IsOn c.0) old new) (ended : open_at new.slots c.0 ≡ None) where
    pub ends_next : EndsNext known old new
    ends_next =
        let left = leaves known c.0 old new settling through in
        record { provider = left.provider; fewer = one_less_open old.slots new.slots c.0 (next.there).0 left.slots.long left.slots.none (next.there).1 ended }

    pub none_lost : has_lost (ending (slice_get new.slots c.0)) ≡ false → NoMoreLost old new
    none_lost well k e lost is = go (cases_eq k c.0)
      where
        go : (k ≡ c.0) ⊎ (k ≡ c.0 → ⊥) → slice_get old.slots k ≡ Some (Ended e)
        go (inl same) = let bad : false ≡ true = sym well ∙ ap (λ j. has_lost (ending (slice_get new.slots j))) (sym same) ∙ ap (λ (o : Option (Slot ConnectionSeen End)). has_lost (ending o)) is ∙ lost in absurd (cc bad)
        go (inr other) = (leaves known c.0 old new settling through).slots.lost k e other lost is
